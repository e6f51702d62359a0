-- A step that begins an activation accesses what it reads of bounds alone, and others read none of these.
use Rattle.std.proofs.Common.{◌≡◌, ◌≢◌, ◌∙◌, ℕ, Bool, true, false, List, [], Option, None, refl, sym, ap}
use Rattle.std.proofs.lemmas.Bool.{false≢true, true≢false}
use Rattle.std.proofs.lemmas.Option.{none-some}
use Rattle.hep_accesses.specs.Accesses.{Access}
use Rattle.hep_accesses.specs.Exchanges.{BeginsNoActivation}
use Rattle.hep_code.specs.declared.instruction.Instruction.{Instruction}
use Rattle.hep_code.specs.declared.instruction.Operation.{Operation}
use Rattle.hep_code.specs.Words.{AddressedUnit, IsNext}
use Rattle.hep_machine.specs.Words.{Next, Top, Units, Value, Work, calling, creating, does, referring, wants}
use Rattle.hep_races.specs.BoundReads.{called_by}
use Rattle.hep_races.specs.StepChanges.{accesses_of_fault, accesses_unless_fault}
use Rattle.hep_races.specs.StepEvents.{access_by, bounds_of_next, fault_access}
use Rattle.hep_races.specs.declared.step_access.NamedUnit.{NamedUnit}
use Rattle.hep_races.specs.declared.step_access.SitedAccess.{SitedAccess}

-- it begins an activation
abbrev pub begins : Next → Bool
begins (wants (referring x actuals)) = true
begins (does (calling x actuals)) = true
begins (does (creating x actuals)) = true
begins _ = false

-- a test that fails
pub begins-none : (x : Next) → begins x ≡ false → BeginsNoActivation x
begins-none (wants (referring y ys)) e = absurd (true≢false e)
begins-none (does (calling y ys)) e = absurd (true≢false e)
begins-none (does (creating y ys)) e = absurd (true≢false e)
begins-none _ e = tt

-- then it reads no bound
pub reads-none : (program : Units) (t : Top) (x : Next) → begins x ≡ false → bounds_of_next program t x ≡ []
reads-none program t (wants (referring y ys)) e = absurd (true≢false e)
reads-none program t (does (calling y ys)) e = absurd (true≢false e)
reads-none program t (does (creating y ys)) e = absurd (true≢false e)
reads-none program t _ e = refl

-- where it holds, the accesses of the step are what it reads of bounds
pub reads-all : (program : Units) (t : Top) (x : Next) → begins x ≡ true → accesses_unless_fault program t x ≡ bounds_of_next program t x
reads-all program t (wants (referring y ys)) e = refl
reads-all program t (does (calling y ys)) e = refl
reads-all program t (does (creating y ys)) e = refl
reads-all program t _ e = absurd (false≢true e)

-- also where it is a fault
pub fault-same : (x : Next) (xs : List Access) → begins x ≡ true → accesses_of_fault x xs ≡ xs
fault-same (wants (referring y ys)) xs e = refl
fault-same (does (calling y ys)) xs e = refl
fault-same (does (creating y ys)) xs e = refl
fault-same _ xs e = absurd (false≢true e)

module _ (addressed : AddressedUnit) (statement : ℕ) (work : Work) (operands : List Value) (index : ℕ) (o : Operation)
    (behind : List Instruction) where
  -- its operation accesses nothing that it names
  pub access-begun : (x : Next) → IsNext addressed statement work operands index x o behind → (n : Option NamedUnit) (u line : ℕ)
      → begins x ≡ true → access_by o n u line ≡ None
  access-begun (wants (referring y ys)) is n u line e = ap (λ q. access_by q n u line) is.operation
  access-begun (does (calling y ys)) is n u line e = ap (λ q. access_by q n u line) is.operation
  access-begun (does (creating y ys)) is n u line e = ap (λ q. access_by q n u line) is.operation
  access-begun _ is n u line e = absurd (false≢true e)

  -- it calls, creates or refers to a unit
  pub called-begun : (x : Next) → IsNext addressed statement work operands index x o behind → begins x ≡ true → called_by o ≢ None
  called-begun (wants (referring y ys)) is e none = none-some _ (sym none ∙ ap called_by is.operation)
  called-begun (does (calling y ys)) is e none = none-some _ (sym none ∙ ap called_by is.operation)
  called-begun (does (creating y ys)) is e none = none-some _ (sym none ∙ ap called_by is.operation)
  called-begun _ is e none = false≢true e

  -- and keeps that where it is a fault
  pub fault-begun : (x : Next) → IsNext addressed statement work operands index x o behind → (a : Option SitedAccess)
      → begins x ≡ true → fault_access o a ≡ a
  fault-begun (wants (referring y ys)) is a e = ap (λ q. fault_access q a) is.operation
  fault-begun (does (calling y ys)) is a e = ap (λ q. fault_access q a) is.operation
  fault-begun (does (creating y ys)) is a e = ap (λ q. fault_access q a) is.operation
  fault-begun _ is a e = absurd (false≢true e)

  -- where it does neither, no bound is read
  pub uncalled-reads : (program : Units) (t : Top) (x : Next) → IsNext addressed statement work operands index x o behind
      → called_by o ≡ None
      → bounds_of_next program t x ≡ []
  uncalled-reads program t x is none = by (begins x) refl
    where
      by : (b : Bool) → begins x ≡ b → bounds_of_next program t x ≡ []
      by true e = absurd (called-begun x is e none)
      by false e = reads-none program t x e
