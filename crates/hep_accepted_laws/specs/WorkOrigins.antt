-- The origin of the rest of a statement: docs/MACHINE.md, "Steps".
use Rattle.std.specs.Prelude.{◌≡◌, ℕ, true, List, [], ◌∷◌, drop, slice_get, Some}
use Rattle.hep_machine.specs.Words.{Tree, statement_at, Name, Statement, loops_ending_at, Actual, actuals_of, external, listed_meaning, whole, is_number_among, Work, doing, ending}
use Rattle.hep_conditions.specs.Words.{Calling, NameWithList, calls_in, list_of, names_with_lists}
use Rattle.hep_accepted_laws.specs.PartlyEvaluated.{AreEach, IsFilled, IsFilledActual, IsFilledForm}

-- the last ones of the conditions of a logical IF: 11.5
abbrev pub AreLeft : List Statement → List Tree → List Tree → Type 0
AreLeft unit conditions ts = (past : ℕ) × AreEach (IsFilled unit) (drop past conditions) ts

-- the rest is one of the statement at index k: the last ones of its conditions and its form, with values in the place
-- of some of their parts, or the end of a DO that ends there
abbrev pub ComesFrom : List Statement → ℕ → Work → Type 0
ComesFrom unit k (doing ts f) = AreLeft unit (statement_at unit k).conditions ts × IsFilledForm unit (statement_at unit k).form f
ComesFrom unit k (ending d) = is_number_among d (loops_ending_at unit k) ≡ true

-- these expressions are the actual arguments, after they are evaluated
pub record IsGivenBy (unit : List Statement) (ts : List Tree) (actuals : List Actual) : Type 0 where
  pub filled : List Tree
  pub is_filled : AreEach (IsFilledActual unit) ts filled
  pub are : actuals_of unit filled ≡ whole actuals

-- the statement at index k calls or creates a subroutine of this name, with these actual arguments
pub record IsCalledBy (unit : List Statement) (k : ℕ) (x : Name) (actuals : List Actual) : Type 0 where
  pub statement : Statement
  pub call : Calling
  pub there : slice_get unit k ≡ Some statement
  pub only : calls_in statement.form ≡ call ∷ []
  pub name : call.occurrence.name ≡ x
  pub given : IsGivenBy unit call.actuals actuals

-- the statement at index k refers to a function of the program of this name, with these actual arguments
pub record IsReferredBy (unit : List Statement) (k : ℕ) (x : Name) (actuals : List Actual) : Type 0 where
  pub statement : Statement
  pub reference : NameWithList
  pub there : slice_get unit k ≡ Some statement
  -- its index among the names with lists of the statement
  pub index : ℕ
  pub among : slice_get (names_with_lists statement) index ≡ Some reference
  pub meaning : listed_meaning unit reference.occurrence.name ≡ external
  pub name : reference.occurrence.name ≡ x
  pub given : IsGivenBy unit (list_of reference.arguments) actuals
