-- The reader of programs, as functions on lists (docs/ARCHITECTURE.md, "Forms").
use Rattle.std.specs.Prelude.{◌≡◌, ℕ, zero, suc, Bool, true, false, not, ◌&&◌, ◌||◌, if◌then◌else◌, List, [], ◌∷◌, ◌++◌, length, Option, Some, None, ok_or, Result, Ok, Err}
use Rattle.hep_source.specs.Tree.{Tree}
use Rattle.hep_source.specs.declared.statement.Form.{Form}
use Rattle.hep_source.specs.declared.statement.Statement.{Statement}
use Rattle.hep_text.specs.declared.statement.Stmt.{Stmt}
use Rattle.hep_expression.specs.declared.characters.Sizes.TheVariants.{Fitting, Any}
use Rattle.hep_expression.specs.declared.characters.Context.{Context}
use Rattle.hep_expression.specs.Reading.{◌>>=◌, if_some, after_text}
use Rattle.hep_base.specs.declared.refusal.Refusal.{Refusal as ParseFault}
use Rattle.hep_base.specs.declared.refusal.Refusal.TheVariants.{NoMemory, Refused}
use Rattle.hep_parse.specs.Rules.{rule_of}
use Rattle.hep_parse.specs.declared.rule.Rule.{Rule}
use Rattle.hep_parse.specs.declared.rule.Rule.TheVariants.{LogicalIf, Worded}
use Rattle.hep_parse.specs.declared.program.StatementClass.{StatementClass}
use Rattle.hep_parse.specs.declared.program.StatementClass.TheVariants as part
use Rattle.hep_parse.specs.declared.program.Stage.{Stage}
use Rattle.hep_parse.specs.declared.program.Stage.TheVariants.{Start, Opening, Specification, Actions}
use Rattle.hep_parse.specs.declared.program.State.{State}
use Rattle.hep_parse.specs.Statement.{context}
use Rattle.hep_parse.specs.Program.{class_of, may_precede, begins_main, left_out_words}
use Rattle.hep_parse.specs.ReadingStatement.{form, logical_if}

-- ---- answers

-- the number, line and name of a refusal
abbrev pub Refusal : Type 0
Refusal = ℕ × ℕ × List ℕ

abbrev pub Misses : {Y : Type 0} → ParseFault → Result Y Refusal → Type 0
Misses NoMemory read = Unit {0}
Misses (Refused number line name) read = read ≡ Err (number, line, name)

-- The view of a function's result is what is read, or its error is the refusal, unless memory was refused.
abbrev pub Answers : {X Y : Type 0} → (X → Y) → Result X ParseFault → Result Y Refusal → Type 0
Answers view (Ok x) read = read ≡ Ok (view x)
Answers view (Err e) read = Misses e read

abbrev pub or_refusal : {A B : Type 0} → Result A Refusal → (A → Result B Refusal) → Result B Refusal
or_refusal (Ok x) f = f x
or_refusal (Err e) f = Err e

-- ---- statements that the language leaves out

-- the name of the first of these words with which a text begins
abbrev pub word_at : List (List ℕ × List ℕ) → List ℕ → Option (List ℕ)
word_at [] s = None
word_at (x ∷ more) s = if_some (after_text x.0 s) (λ m. Some x.1) (word_at more s)

-- the first result where the rule is that of a logical IF, and the second where it is the one for words
abbrev pub by_rule : {A : Type 0} → Rule → Option A → Option A → Option A
by_rule LogicalIf held word = held
by_rule Worded held word = word
by_rule _ held word = None

-- the name of the left-out word with which the innermost statement begins; the number bounds the nesting of logical IFs
unfoldable pub left_out : Context → ℕ → List ℕ → Option (List ℕ)
left_out k zero s = None
left_out k (suc n) s = by_rule (rule_of s) (logical_if k s >>= λ x. left_out k n x.1) (word_at left_out_words s)

-- ---- statements

abbrev pub with_line : Stmt → List Tree × Form → Statement
with_line given x = record { line = given.line; label = given.label; conditions = x.0; form = x.1 }

-- the refusal of a statement that has no reading even with constants of any size, by the name of its left-out word
abbrev pub refusal_by : ℕ → Option (List ℕ) → Refusal
refusal_by line None = (201, line, [])
refusal_by line (Some name) = (202, line, name)

unfoldable pub nameless_refusal : Stmt → Refusal
nameless_refusal given = refusal_by given.line (left_out (context Any given.text) (length given.text) given.text)

abbrev pub refusal_unless_found : {A : Type 0} → Refusal → Refusal → Option A → Refusal
refusal_unless_found found other None = other
refusal_unless_found found other (Some x) = found

-- the refusal of a statement that has no reading: 203 where it has one with constants of any size, and else 202 or 201
unfoldable pub refusal_of : Stmt → Refusal
refusal_of given = refusal_unless_found (203, given.line, []) (nameless_refusal given) (form Any given.text)

unfoldable pub statement : Stmt → Result Statement Refusal
statement given = or_refusal (ok_or (form Fitting given.text) (refusal_of given)) (λ x. Ok (with_line given x))

-- ---- the order of statements

abbrev pub is_start : Stage → Bool
is_start Start = true
is_start _ = false

-- whether a statement of this part may follow those of its unit so far
abbrev pub may_follow : Stage → StatementClass → Bool
may_follow Start x = true
may_follow Opening x = may_precede part.Header x
may_follow Specification x = may_precede part.Specification x
may_follow Actions x = may_precede part.Action x

abbrev pub stage_after : Stage → StatementClass → Stage
stage_after stage part.Action = Actions
stage_after stage part.End = Start
stage_after stage part.Specification = Specification
stage_after Specification _ = Specification
stage_after _ _ = Opening

-- the state after a statement; none where the statement is out of order
abbrev pub state_after_statement : State → StatementClass → Bool → Option State
state_after_statement x p begins =
    if may_follow x.stage p && not (is_start x.stage && x.has_main && begins)
    then Some (record { stage = stage_after x.stage p; has_main = x.has_main || (is_start x.stage && begins) })
    else None

unfoldable pub placed : State → Stmt → Result (Statement × State) Refusal
placed x given =
    or_refusal (statement given) (λ read.
    or_refusal (ok_or (state_after_statement x (class_of read.conditions read.form) (begins_main read.form)) (205, given.line, [])) (λ next.
    Ok (read, next)))

-- ---- units

-- statements of a unit before the rest of the unit and the units after it
abbrev pub after_some : List Statement → List (List Statement) → List (List Statement)
after_some [] units = units
after_some (s ∷ unit) [] = (s ∷ unit) ∷ []
after_some (s ∷ unit) (rest ∷ units) = ((s ∷ unit) ++ rest) ∷ units

abbrev pub after_one : Statement → Stage → List (List Statement) → List (List Statement)
after_one s Start units = (s ∷ []) ∷ units
after_one s _ units = after_some (s ∷ []) units

-- the result at the end of the source: whether a unit was ended, whether there was a main program, and the line of the last statement
abbrev pub ended : Bool → Bool → ℕ → Result (List (List Statement)) Refusal
ended true true line = Ok []
ended true false line = Err (204, 0, [])
ended false main_is_there line = Err (205, line, [])

abbrev pub at_end : State → ℕ → Result (List (List Statement)) Refusal
at_end x line = ended (is_start x.stage) x.has_main line

-- the rest of a unit and the units after it, by the state and the line of the last statement read
unfoldable pub units : State → ℕ → List Stmt → Result (List (List Statement)) Refusal
units x line [] = at_end x line
units x line (given ∷ more) =
    or_refusal (placed x given) (λ y. or_refusal (units y.1 given.line more) (λ rest. Ok (after_one y.0 y.1.stage rest)))

abbrev pub nothing_read : State
nothing_read = record { stage = Start; has_main = false }

abbrev pub program : List Stmt → Result (List (List Statement)) Refusal
program given = units nothing_read 0 given
