-- A search of the states of a program, breadth first: docs/MACHINE.md, "Endings".
use Rattle.std.specs.Prelude.{◌≡◌, ◌≢◌, ◌⊎◌, ◌<◌, ◌≤◌, ◌+◌, ℕ, Bool, true, false, List, [], ◌∷◌, ◌++◌, length, slice_get, Option, Some}
use Rattle.std.specs.Prelude.{None, replicate}
use Rattle.hep_machine.specs.Words.{AreSteps, Units, opening, run, step}
use Rattle.hep_explore.specs.Endings.{IsTerminal}
use Rattle.hep_explore.specs.Independence.{AreIndependentSteps}
use Rattle.hep_explore.specs.Pure.{is_pure}
use Rattle.hep_state.specs.declared.core_state.CoreState.{CoreState}
use Rattle.hep_state.specs.Words.{HasNoGap, IsAfter, IsMachineAfter, Snapshot, snapshot_of}
use Rattle.hep_explore.specs.Keys.{IsKeyOf}
use Rattle.hep_explore.specs.declared.search.Origin.{Origin}
use Rattle.hep_explore.specs.declared.search.Search.{Search}

-- what a search knows: the keys of states by number, how each was found, the machines of those that aren't expanded, how many are, those of
-- them in which no process has a step, the first step that was left out since a frame had no gap, if one was, how many states may be found,
-- and whether a step to one more was left out
pub record Known : Type 0 where
  pub cells : ℕ
  pub states : List (List ℕ)
  pub origins : List Origin
  pub queue : List CoreState
  pub expanded : ℕ
  pub ended : List ℕ
  pub full : Option Origin
  pub most : ℕ
  pub cut : Bool

abbrev pub known_of : Search → Known
known_of s =
    record {
      cells = s.cells;
      states = s.states;
      origins = s.origins.items;
      queue = s.queue.items;
      expanded = s.expanded;
      ended = s.ended.items;
      full = s.full;
      most = s.most;
      cut = s.cut;
    }

-- no step was left out
abbrev pub IsWhole : Known → Type 0
IsWhole s = (s.full ≡ None) × (s.cut ≡ false)

-- ---- states by their keys

-- a machine with this key keeps the state after these choices
pub record IsKept (program : Units) (cells : ℕ) (before key : List ℕ) : Type 0 where
  pub machine : Snapshot
  pub is_key : IsKeyOf program machine key
  pub after : IsAfter program cells before machine

-- the state after these choices is one of those that were found
pub record IsFound (program : Units) (s : Known) (before : List ℕ) : Type 0 where
  pub number : ℕ
  pub key : List ℕ
  pub numbered : slice_get s.states number ≡ Some key
  pub kept : IsKept program s.cells before key

-- a machine keeps the state with a number, and the turns of some choices led to it
pub record IsNumbered (program : Units) (s : Known) (i : ℕ) (m : CoreState) : Type 0 where
  pub key : List ℕ
  pub numbered : slice_get s.states i ≡ Some key
  pub is_key : IsKeyOf program (snapshot_of m) key
  pub choices : List ℕ
  pub after : IsMachineAfter program s.cells choices m

-- pure steps, or none, lead from the state after these choices to one of those that were found
pub record LeadsToFound (program : Units) (s : Known) (before : List ℕ) : Type 0 where
  pub steps : List ℕ
  pub are_pure : AreIndependentSteps program (is_pure program) (run program before) steps
  pub found : IsFound program s (before ++ steps)

-- ---- a step and the pure steps after it

-- the pure steps that its process makes after the step of an origin
abbrev pub pure_turns : Origin → List ℕ
pure_turns o = replicate o.pure o.process

-- the step of an origin, and those
abbrev pub turns_of : Origin → List ℕ
turns_of o = o.process ∷ pure_turns o

-- after these choices the process of an origin has a step, those that it makes after that one are pure, and this is so of all of them
pub record Leads (program : Units) (before : List ℕ) (o : Origin) (IsSo : List ℕ → Type 0) : Type 0 where
  pub stepped : step program o.process (run program before) ≢ None
  pub are_pure : AreIndependentSteps program (is_pure program) (run program (before ++ o.process ∷ [])) (pure_turns o)
  pub holds : IsSo ((before ++ o.process ∷ []) ++ pure_turns o)

-- the state with a number was found by a step from an earlier one, and pure steps after it
pub record IsOrigin (program : Units) (s : Known) (i : ℕ) (o : Origin) : Type 0 where
  pub earlier : o.from < i
  pub from : List ℕ
  pub to : List ℕ
  pub from_is : slice_get s.states o.from ≡ Some from
  pub to_is : slice_get s.states i ≡ Some to
  pub leads : (before : List ℕ) → IsKept program s.cells before from
      → Leads program before o (λ choices. IsKept program s.cells choices to)

-- a step in the state with a number makes an activation for whose frame there is no gap
pub record IsFullStep (program : Units) (s : Known) (o : Origin) : Type 0 where
  pub from : List ℕ
  pub from_is : slice_get s.states o.from ≡ Some from
  pub full : (before : List ℕ) → IsKept program s.cells before from → HasNoGap program s.cells before o.process

-- ---- what is found

-- no two of these keys are the same
abbrev pub AreDifferentKeys : List (List ℕ) → Type 0
AreDifferentKeys keys = (i j : ℕ) (key : List ℕ) → slice_get keys i ≡ Some key → slice_get keys j ≡ Some key → i ≡ j

-- the opening is state 0, each other one has its origin, and the machines of those that aren't expanded are queued in order
pub record IsSearch (program : Units) (s : Known) : Type 0 where
  pub opening : List ℕ
  pub opening_is : slice_get s.states 0 ≡ Some opening
  pub different : AreDifferentKeys s.states
  pub begins : IsKept program s.cells [] opening
  pub origins : length s.origins ≡ length s.states
  pub origin : (i : ℕ) (o : Origin) → 1 ≤ i → slice_get s.origins i ≡ Some o → IsOrigin program s i o
  pub counted : s.expanded + length s.queue ≡ length s.states
  pub full : (o : Origin) → s.full ≡ Some o → IsFullStep program s o
  pub few : length s.states ≤ s.most + 1
  pub cut : s.cut ≡ true → s.most ≤ length s.states
  pub queued : (k : ℕ) (m : CoreState) → slice_get s.queue k ≡ Some m → IsNumbered program s (s.expanded + k) m

-- a state is among those in which no process has a step
abbrev pub IsEnded : Known → ℕ → Type 0
IsEnded s i = (k : ℕ) × (slice_get s.ended k ≡ Some i)

-- each step of the first states leads to one that was found, with pure steps after it, unless one was left out; and in just those of them
-- that are told to have ended no process has a step
pub record AreExpanded (program : Units) (n : ℕ) (s : Known) : Type 0 where
  pub closed : IsWhole s → (i p : ℕ) (key before : List ℕ) → i < n → slice_get s.states i ≡ Some key
      → IsKept program s.cells before key → step program p (run program before) ≢ None → LeadsToFound program s (before ++ p ∷ [])
  pub ended : (i : ℕ) → IsEnded s i → i < n
  pub terminal : (i : ℕ) (key before : List ℕ) → IsEnded s i → slice_get s.states i ≡ Some key
      → IsKept program s.cells before key → IsTerminal program (run program before)
  pub all : (i : ℕ) (key before : List ℕ) → i < n → slice_get s.states i ≡ Some key
      → IsKept program s.cells before key → IsTerminal program (run program before) → IsEnded s i

-- no state is lost, and each has its number
pub record KeepsStates (old new : Known) : Type 0 where
  pub cells : new.cells ≡ old.cells
  pub most : new.most ≡ old.most
  pub states : (i : ℕ) (key : List ℕ) → slice_get old.states i ≡ Some key → slice_get new.states i ≡ Some key

-- nor is what is said of states that are expanded
pub record GoesOn (old new : Known) : Type 0 where
  pub kept : KeepsStates old new
  pub ended : new.ended ≡ old.ended
  pub whole : IsWhole new → IsWhole old

-- ---- one step

-- a step in the state with a number, and the pure steps after it, lead to what a machine keeps
pub record IsVisit (program : Units) (s : Known) (m : CoreState) (o : Origin) : Type 0 where
  pub from : List ℕ
  pub from_is : slice_get s.states o.from ≡ Some from
  pub leads : (before : List ℕ) → IsKept program s.cells before from
      → Leads program before o (λ choices. IsMachineAfter program s.cells choices m)
  pub choices : List ℕ
  pub after : IsMachineAfter program s.cells choices m

-- the state that a machine keeps was found
pub record HasKey (program : Units) (s : Known) (m : CoreState) : Type 0 where
  pub number : ℕ
  pub key : List ℕ
  pub numbered : slice_get s.states number ≡ Some key
  pub is_key : IsKeyOf program (snapshot_of m) key

-- process p has a step after all turns that lead to a machine
abbrev pub HasStep : Units → ℕ → CoreState → ℕ → Type 0
HasStep program cells m p = (before : List ℕ) → IsMachineAfter program cells before m → step program p (run program before) ≢ None

-- the step of process p after all turns that lead to a machine: whether there is one, and if so, where it leads with pure steps after it,
-- unless it was left out
pub record IsTried (program : Units) (m : CoreState) (p : ℕ) (moved : Bool) (s : Known) : Type 0 where
  pub found : IsWhole s → (before : List ℕ) → IsMachineAfter program s.cells before m → step program p (run program before) ≢ None
      → LeadsToFound program s (before ++ p ∷ [])
  pub some : moved ≡ true → HasStep program s.cells m p
  pub none : moved ≡ false → (before : List ℕ) → IsMachineAfter program s.cells before m → step program p (run program before) ≡ None

-- the steps of the first processes: whether there is one, and if so, where each leads, unless one was left out
pub record AreTried (program : Units) (m : CoreState) (n : ℕ) (moved : Bool) (s : Known) : Type 0 where
  pub found : IsWhole s → (p : ℕ) (before : List ℕ) → p ≤ n → IsMachineAfter program s.cells before m
      → step program p (run program before) ≢ None → LeadsToFound program s (before ++ p ∷ [])
  pub some : moved ≡ true → (p : ℕ) × HasStep program s.cells m p
  pub none : moved ≡ false → (p : ℕ) (before : List ℕ) → p ≤ n → IsMachineAfter program s.cells before m
      → step program p (run program before) ≡ None

-- all steps in a machine: whether there is one, and if so, where each leads, unless one was left out
pub record IsWholeTry (program : Units) (m : CoreState) (moved : Bool) (s : Known) : Type 0 where
  pub found : IsWhole s → (p : ℕ) (before : List ℕ) → IsMachineAfter program s.cells before m
      → step program p (run program before) ≢ None → LeadsToFound program s (before ++ p ∷ [])
  pub some : moved ≡ true → (p : ℕ) × HasStep program s.cells m p
  pub none : moved ≡ false → (before : List ℕ) → IsMachineAfter program s.cells before m → IsTerminal program (run program before)

-- ---- paths

-- the steps of these processes lead from the state of one key to that of another one
pub record LeadOn (program : Units) (cells : ℕ) (from to steps : List ℕ) : Type 0 where
  pub made : (before : List ℕ) → IsKept program cells before from → AreSteps program (run program before) steps
  pub kept : (before : List ℕ) → IsKept program cells before from → IsKept program cells (before ++ steps) to

-- the steps of these choices lead from the opening to the state with a number
pub record IsPathTo (program : Units) (s : Known) (i : ℕ) (choices : List ℕ) : Type 0 where
  pub key : List ℕ
  pub numbered : slice_get s.states i ≡ Some key
  pub made : AreSteps program (opening program) choices
  pub kept : IsKept program s.cells choices key

-- choices that all make steps, but that the last one makes an activation for whose frame there is no gap
pub record IsFullPath (program : Units) (cells : ℕ) (choices : List ℕ) : Type 0 where
  pub before : List ℕ
  pub last : ℕ
  pub parts : choices ≡ before ++ last ∷ []
  pub made : AreSteps program (opening program) before
  pub full : HasNoGap program cells before last

-- ---- where a search ends

-- all states are expanded, or a frame had no gap and that ends the search
abbrev pub IsDone : Bool → Known → Type 0
IsDone until_full s = (s.queue ≡ []) ⊎ ((until_full ≡ true) × (s.full ≢ None))

-- a search of at most so many states in an arena of so many cells, or of fewer where each frame has its gap, that has expanded all states
pub record IsSearchWithin (program : Units) (cells most : ℕ) (s : Known) : Type 0 where
  pub search : IsSearch program s
  pub expanded : AreExpanded program s.expanded s
  pub within : s.cells ≤ cells
  pub done : s.queue ≡ []
  pub full : (s.full ≡ None) ⊎ (s.cells ≡ cells)
  pub bounded : s.most ≡ most

-- ---- keys

-- machines of a program with the same key keep the same states
abbrev pub AreAlikeByKeys : Units → Type 0
AreAlikeByKeys program =
    (cells : ℕ) (before turns key : List ℕ) (a b : Snapshot) → IsKeyOf program a key → IsKeyOf program b key
    → IsAfter program cells before a → IsAfter program cells turns b → IsAfter program cells before b
