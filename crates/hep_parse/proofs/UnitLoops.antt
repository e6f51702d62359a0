-- One iteration of the loop that reads the statements of a source.
use Rattle.std.proofs.Common.{◌≡◌, ℕ, ◌+◌, ◌<◌, true, false, List, [], ◌∷◌, ◌++◌, length, get_or, drop, Result, Ok, Err, refl, sym, ap, subst, ◌∙◌, append-nil, append_assoc}
use Rattle.std.specs.Result.{IsErr, IsErrAnd}
use Rattle.std.proofs.lemmas.List.{drop_more}
use Rattle.hep_source.specs.declared.statement.Statement.{Statement}
use Rattle.hep_text.specs.declared.statement.Stmt.{Stmt}
use Rattle.hep_parse.specs.declared.program.Stage.{Stage}
use Rattle.hep_parse.specs.declared.program.Stage.TheVariants.{Start, Opening, Specification, Actions}
use Rattle.hep_parse.specs.declared.program.State.{State}
use Rattle.hep_base.specs.declared.refusal.Refusal.{Refusal as ParseFault}
use Rattle.hep_base.specs.declared.refusal.Refusal.TheVariants.{NoMemory, Refused}
use Rattle.hep_parse.specs.ReadingProgram.{Refusal, Misses, Answers, or_refusal, is_start, placed, after_some, after_one, units}
use Rattle.hep_parse.proofs.Programs.{ok}

-- what is left of a list from one of its indexes on
pub left_at : (given : List Stmt) (i : ℕ) (s : Stmt) → i < length given → s ≡ get_or given i s → drop i given ≡ s ∷ drop (i + 1) given
left_at given i s lt e = drop_more given i s lt ∙ ap (λ (x : Stmt). x ∷ drop (i + 1) given) (sym e)

-- a failure that is handed on
pub failed : {X Y : Type 0} (view : X → Y) (fault : ParseFault) (r : Result X ParseFault) (whole : Result Y Refusal) → IsErr r × IsErrAnd r (λ e. e ≡ fault) → Misses fault whole → Answers view r whole
failed view fault (Ok y) whole h m = absurd (let e = h.0 in cc)
failed view fault (Err e) whole h m = subst (λ (z : ParseFault). Misses z whole) (sym h.1) m

-- the units that are done and the statements of the one that was begun, before what is read
abbrev pub with_units : List (List Statement) → List Statement → Result (List (List Statement)) Refusal → Result (List (List Statement)) Refusal
with_units done unit read = or_refusal read (λ rest. ok (done ++ after_some unit rest))

more_of_unit : (unit : List Statement) (t : Statement) (stage : Stage) (rest : List (List Statement)) → is_start stage ≡ false → after_some unit (after_one t stage rest) ≡ after_some (unit ++ t ∷ []) rest
more_of_unit unit t stage rest within = by_stage stage within ∙ by_unit unit rest
  where
    by_stage : (stage : Stage) → is_start stage ≡ false → after_some unit (after_one t stage rest) ≡ after_some unit (after_some (t ∷ []) rest)
    by_stage Start e = absurd cc
    by_stage Opening e = refl
    by_stage Specification e = refl
    by_stage Actions e = refl

    by_unit : (unit : List Statement) (rest : List (List Statement)) → after_some unit (after_some (t ∷ []) rest) ≡ after_some (unit ++ t ∷ []) rest
    by_unit [] rest = refl
    by_unit (s ∷ unit) [] = refl
    by_unit (s ∷ unit) (u ∷ rest) = ap (λ (l : List Statement). l ∷ rest) (sym (append_assoc (s ∷ unit) (t ∷ []) u))

whole_unit : (unit : List Statement) (t : Statement) (stage : Stage) (rest : List (List Statement)) → is_start stage ≡ true → after_some unit (after_one t stage rest) ≡ (unit ++ t ∷ []) ∷ rest
whole_unit unit t Start rest e = by_unit unit
  where
    by_unit : (unit : List Statement) → after_some unit ((t ∷ []) ∷ rest) ≡ (unit ++ t ∷ []) ∷ rest
    by_unit [] = refl
    by_unit (s ∷ unit) = refl
whole_unit unit t Opening rest e = absurd cc
whole_unit unit t Specification rest e = absurd cc
whole_unit unit t Actions rest e = absurd cc

module _ (x : State) (line : ℕ) (done : List (List Statement)) (unit : List Statement) (whole : Result (List (List Statement)) Refusal) where
  pub within : (s : Stmt) (given : List Stmt) (y : Statement × State) → placed x s ≡ Ok y → is_start y.1.stage ≡ false → with_units done unit (units x line (s ∷ given)) ≡ whole → with_units done (unit ++ y.0 ∷ []) (units y.1 s.line given) ≡ whole
  unfolding units
  within s given y e stage so_far = sym (go (units y.1 s.line given)) ∙ turn ∙ so_far
    where
      step : Result (List (List Statement)) Refusal → Result (List (List Statement)) Refusal
      step read = or_refusal read (λ rest. ok (after_one y.0 y.1.stage rest))

      go : (read : Result (List (List Statement)) Refusal) → with_units done unit (step read) ≡ with_units done (unit ++ y.0 ∷ []) read
      go (Ok rest) = ap (λ (l : List (List Statement)). ok (done ++ l)) (more_of_unit unit y.0 y.1.stage rest stage)
      go (Err n) = refl

      turn : with_units done unit (step (units y.1 s.line given)) ≡ with_units done unit (units x line (s ∷ given))
      turn = rw e refl

  pub at_its_end : (s : Stmt) (given : List Stmt) (y : Statement × State) → placed x s ≡ Ok y → is_start y.1.stage ≡ true → with_units done unit (units x line (s ∷ given)) ≡ whole → with_units (done ++ (unit ++ y.0 ∷ []) ∷ []) [] (units y.1 s.line given) ≡ whole
  unfolding units
  at_its_end s given y e stage so_far = sym (go (units y.1 s.line given)) ∙ turn ∙ so_far
    where
      step : Result (List (List Statement)) Refusal → Result (List (List Statement)) Refusal
      step read = or_refusal read (λ rest. ok (after_one y.0 y.1.stage rest))

      go : (read : Result (List (List Statement)) Refusal) → with_units done unit (step read) ≡ with_units (done ++ (unit ++ y.0 ∷ []) ∷ []) [] read
      go (Ok rest) = ap (λ (l : List (List Statement)). ok (done ++ l)) (whole_unit unit y.0 y.1.stage rest stage) ∙ ap (λ (l : List (List Statement)). ok l) (sym (append_assoc done ((unit ++ y.0 ∷ []) ∷ []) rest))
      go (Err n) = refl

      turn : with_units done unit (step (units y.1 s.line given)) ≡ with_units done unit (units x line (s ∷ given))
      turn = rw e refl

  is_refused : (s : Stmt) (given : List Stmt) (e : Refusal) → placed x s ≡ Err e → with_units done unit (units x line (s ∷ given)) ≡ whole → whole ≡ Err e
  unfolding units
  is_refused s given e refused so_far =
      let turn : with_units done unit (units x line (s ∷ given)) ≡ Err e = rw refused refl in
      sym so_far ∙ turn

  pub is_missed : (s : Stmt) (given : List Stmt) (fault : ParseFault) → Misses fault (placed x s) → with_units done unit (units x line (s ∷ given)) ≡ whole → Misses fault whole
  is_missed s given NoMemory missed so_far = tt
  is_missed s given (Refused number l name) missed so_far = is_refused s given (number, l, name) missed so_far

  pub has_no_end : is_start x.stage ≡ false → with_units done unit (units x line []) ≡ whole → whole ≡ Err (205, line, [])
  unfolding units
  has_no_end stage so_far =
      let turn : with_units done unit (units x line []) ≡ Err (205, line, []) = rw stage refl in
      sym so_far ∙ turn

  pub has_no_main : is_start x.stage ≡ true → x.has_main ≡ false → with_units done unit (units x line []) ≡ whole → whole ≡ Err (204, 0, [])
  unfolding units
  has_no_main stage none so_far =
      let turn : with_units done unit (units x line []) ≡ Err (204, 0, []) = rw (stage, none) refl in
      sym so_far ∙ turn

  pub is_over : is_start x.stage ≡ true → x.has_main ≡ true → unit ≡ [] → with_units done unit (units x line []) ≡ whole → whole ≡ Ok done
  unfolding units
  is_over stage there empty so_far =
      let turn : with_units done unit (units x line []) ≡ ok (done ++ []) = rw (stage, there, empty) refl in
      sym so_far ∙ turn ∙ ap (λ (l : List (List Statement)). ok l) (append-nil done)
