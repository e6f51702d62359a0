-- Runs in which storage units and sites have other names: docs/MACHINE.md, "The order of steps".
use Rattle.std.specs.Prelude.{◌≡◌, Bool, true, Option, Some, None}
use Rattle.std.specs.List.{AllZip}
use Rattle.hep_accesses.specs.Events.{Access, Event}
use Rattle.hep_accesses.specs.Races.{Row, StepAccess}

-- the names of full/empty storage units, of plain ones, and of sites: which name on the right is one for which name on the left
pub record Renaming (L M S T : Type 0) : Type 1 where
  pub needed : L → M → Type 0
  pub unit : L → M → Type 0
  pub site : S → T → Type 0

-- the names that three tests take for one
abbrev pub renaming_by : {L M S T : Type 0} → (L → M → Bool) → (L → M → Bool) → (S → T → Bool) → Renaming L M S T
renaming_by needed unit site =
    record { needed = λ at u. needed at u ≡ true; unit = λ at u. unit at u ≡ true; site = λ a b. site a b ≡ true }

module _ {L M S T : Type 0} (r : Renaming L M S T) where
  -- the same access under the other names
  pub record IsRenamedAccess (a : Access L S) (b : Access M T) : Type 0 where
    pub at : r.unit a.at b.at
    pub stores : b.stores ≡ a.stores
    pub site : r.site a.site b.site

  -- the same need
  abbrev pub IsRenamedNeed : Option L → Option M → Type 0
  IsRenamedNeed None None = Unit {0}
  IsRenamedNeed None (Some u) = ⊥
  IsRenamedNeed (Some at) None = ⊥
  IsRenamedNeed (Some at) (Some u) = r.needed at u

  -- the same event: its changes are compared at the names that events may need
  pub record IsRenamedEvent (d : Event L S) (e : Event M T) : Type 0 where
    pub process : e.process ≡ d.process
    pub makes : e.makes ≡ d.makes
    pub needs : IsRenamedNeed d.needs e.needs
    pub changes : (at : L) (u : M) → r.needed at u → e.changes u ≡ d.changes at
    pub accesses : AllZip IsRenamedAccess d.accesses e.accesses

  -- the same access of a step
  pub record IsRenamedStep (d : StepAccess L S) (e : StepAccess M T) : Type 0 where
    pub step : e.step ≡ d.step
    pub process : e.process ≡ d.process
    pub access : IsRenamedAccess d.access e.access

  -- the same row
  pub record IsRenamedRow (v : Row L S) (w : Row M T) : Type 0 where
    pub first : IsRenamedStep v.first w.first
    pub second : IsRenamedStep v.second w.second
    pub times : w.times ≡ v.times

  -- what the tests take for one is one under both names
  pub record AreTestsKept (same : L → L → Bool) (same_there : M → M → Bool) (alike : S → S → Bool) (alike_there : T → T → Bool)
      : Type 0 where
    pub units : (x y : L) (u v : M) → r.unit x u → r.unit y v → same_there u v ≡ same x y
    pub sites : (a b : S) (c d : T) → r.site a c → r.site b d → alike_there c d ≡ alike a b
