-- What is left of a CALL: X3.9-1978, 6.6 and 15.9.3.
use Rattle.std.proofs.Common.{◌≡◌, ℕ, false, [], ◌∷◌, List, None, inr, refl, ap, sym, subst, codes, pos}
use Rattle.hep_machine.specs.Words.{Tree, binary, constant, occurrence, Occurrence, Add, Arithmetic, Form, Call, End, Statement, Int, calling, does, evaluated, next_of, plug_work, referred, Work, doing}
use Rattle.hep_accepted_laws.specs.PartlyEvaluated.{AreEach, IsFilledActual}
use Rattle.hep_accepted_laws.specs.WorkOrigins.{ComesFrom}

-- ---- CALL S(I, 2+3) and END

abbrev statement : ℕ → Form → Statement
statement line f = record { line = line; label = None; conditions = []; form = f }

-- S
abbrev subroutine : Occurrence
subroutine = record { name = record { asynchronous = false; letters = codes "S     " }; position = 0 }

-- I
abbrev index : Occurrence
index = record { name = record { asynchronous = false; letters = codes "I     " }; position = 0 }

abbrev call : Tree → Tree → Form
call t u = Call subroutine (t ∷ u ∷ [])

abbrev sum : Tree
sum = binary (Arithmetic Add) (constant (Int (pos 2))) (constant (Int (pos 3)))

abbrev unit : List Statement
unit = statement 1 (call (occurrence index) sum) ∷ statement 2 End ∷ []

-- with 5 in the place of the sum
abbrev after : Work
after = doing [] (call (occurrence index) (constant (Int (pos 5))))

evaluated_once : plug_work unit (doing [] (call (occurrence index) sum)) (Int (pos 5)) ≡ after
evaluated_once = refl

comes : ComesFrom unit 0 after
comes = ((0, tt), (occurrence index ∷ constant (Int (pos 5)) ∷ [], refl, (refl, (inr (Int (pos 5), refl), tt))))

called : next_of unit after ≡ does (calling subroutine.name (referred (index.name, []) ∷ evaluated (Int (pos 5)) ∷ []))
called = refl

-- ---- what doesn't come from it

abbrev actuals_in : Form → List Tree
actuals_in (Call p ts) = ts
actuals_in _ = []

-- its actual arguments are those of the statement
actuals_come : (f : Form) → ComesFrom unit 0 (doing [] f) → AreEach (IsFilledActual unit) (occurrence index ∷ sum ∷ []) (actuals_in f)
actuals_come f (left, (ts, e, h)) = subst (AreEach (IsFilledActual unit) (occurrence index ∷ sum ∷ [])) (sym (ap actuals_in e)) h

-- a value in the place of the variable, which is passed as it is
no_value_of_variable : ComesFrom unit 0 (doing [] (call (constant (Int (pos 7))) (constant (Int (pos 5))))) → ⊥
no_value_of_variable h = refuted (actuals_come (call (constant (Int (pos 7))) (constant (Int (pos 5)))) h).0 where
  refuted : constant (Int (pos 7)) ≡ occurrence index → ⊥
  refuted e = absurd cc

-- one actual argument less
none_less : ComesFrom unit 0 (doing [] (Call subroutine (occurrence index ∷ []))) → ⊥
none_less h = (actuals_come (Call subroutine (occurrence index ∷ [])) h).1

-- what is left past the last statement, and nothing else there
at_end : ComesFrom unit 2 (doing [] End)
at_end = ((0, tt), refl)
