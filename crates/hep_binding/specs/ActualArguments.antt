-- What the actual arguments give to the dummy arguments of a new activation: X3.9-1978, 15.9.3.
use Rattle.std.specs.Prelude.{◌≡◌, ℕ, ◌≤◌, false, List, [], ◌∷◌, Some}
use Rattle.hep_machine.specs.Words.{Name, Units, Layout, Dummy, local, State, Store, with_value, is_owned}
use Rattle.hep_layout.specs.Words.{RunsFrom}
use Rattle.hep_step.specs.declared.dummy_storage.DummyStorage.{DummyStorage}
use Rattle.hep_step.specs.declared.dummy_storage.DummyStorage.TheVariants as given

-- ---- what they are associated with

-- dummy argument x of activation a is associated with what is given: an expression's value is a variable of its own,
-- and storage units are those of others, in consecutive cells
abbrev pub IsGiven : Units → State → Layout → ℕ → Name → Dummy → DummyStorage → Type 0
IsGiven program s layout a x d (given.Value v) = d.start ≡ local a x 1
IsGiven program s layout a x d (given.Units first count) = (is_owned a d.start ≡ false) × (1 ≤ count) × (d.rest ≡ count) × RunsFrom program s layout d.start count first

-- this holds of each of them, and there are as many as are given
abbrev pub AreGiven : Units → State → Layout → ℕ → List Name → List Dummy → List DummyStorage → Type 0
AreGiven program s layout a [] [] [] = Unit {0}
AreGiven program s layout a (x ∷ xs) (d ∷ ds) (g ∷ gs) = IsGiven program s layout a x d g × AreGiven program s layout a xs ds gs
AreGiven program s layout a _ _ _ = ⊥

-- ---- what is stored

abbrev pub with_one_given : Store → ℕ → Name → DummyStorage → Store
with_one_given store a x (given.Value v) = with_value store (local a x 1) (Some v)
with_one_given store a x (given.Units first count) = store

-- the store with the values of the expressions among them
abbrev pub with_given : Store → ℕ → List Name → List DummyStorage → Store
with_given store a (x ∷ xs) (g ∷ gs) = with_given (with_one_given store a x g) a xs gs
with_given store a _ _ = store

-- ---- names
