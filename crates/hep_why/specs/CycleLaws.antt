-- Cycles of waiting processes: docs/RUNS.md, "Why processes wait".
use Rattle.std.specs.Prelude.{◌≡◌, ◌<◌, ◌≤◌, ℕ, List, [], ◌∷◌, ◌++◌, Option, Some, slice_get}
use Rattle.hep_why.specs.WaitCycles.{next_at}
use Rattle.hep_why.specs.declared.reason.Change.{Change}
use Rattle.hep_why.specs.declared.reason.Reason.{Reason}

-- an index leads to another one
abbrev pub LeadsTo : List (Option ℕ) → ℕ → ℕ → Type 0
LeadsTo nexts i j = next_at nexts i ≡ Some j

-- the processes of reasons are in order
abbrev pub Rise : List Reason → Type 0
Rise reasons =
    (i j : ℕ) (r s : Reason) → slice_get reasons i ≡ Some r → slice_get reasons j ≡ Some s → i < j → r.listed.process < s.listed.process

-- process p waits for what process q changed last
pub record WaitsFor (reasons : List Reason) (p q : ℕ) : Type 0 where
  pub place : ℕ
  pub reason : Reason
  pub change : Change
  pub there : slice_get reasons place ≡ Some reason
  pub waits : reason.listed.process ≡ p
  pub latest : reason.latest ≡ Some change
  pub changed : change.place.process ≡ q

-- each of these leads to the next one, and the last one back to the first one
abbrev pub LeadBack : (ℕ → ℕ → Type 0) → ℕ → List ℕ → Type 0
LeadBack R first [] = ⊥
LeadBack R first (i ∷ []) = R i first
LeadBack R first (i ∷ j ∷ js) = R i j × LeadBack R first (j ∷ js)

-- each of these is in the list once
abbrev pub AreDistinct : List ℕ → Type 0
AreDistinct xs = (i j x : ℕ) → slice_get xs i ≡ Some x → slice_get xs j ≡ Some x → i ≡ j

-- processes each of which waits for what the next one changed last, and the last one for what the first one changed
-- last
pub record IsCircle (reasons : List Reason) (ps : List ℕ) : Type 0 where
  pub first : ℕ
  pub begins : slice_get ps 0 ≡ Some first
  pub leads : LeadBack (WaitsFor reasons) first ps
  pub distinct : AreDistinct ps

-- the first one is the least
abbrev pub BeginsWithLeast : List ℕ → Type 0
BeginsWithLeast xs = (first i x : ℕ) → slice_get xs 0 ≡ Some first → slice_get xs i ≡ Some x → first ≤ x

-- one of these lists is this one, from some element on and then from its first one, and just one is
pub record IsAmong (lists : List (List ℕ)) (xs : List ℕ) : Type 0 where
  pub before : List ℕ
  pub behind : List ℕ
  pub parts : xs ≡ before ++ behind
  pub place : ℕ
  pub there : slice_get lists place ≡ Some (behind ++ before)
  pub once : (i : ℕ) → slice_get lists i ≡ Some (behind ++ before) → i ≡ place
