-- What is needed is of an activation that is held.
use Rattle.std.proofs.Common.{◌≡◌, ◌⊎◌, inl, ℕ, ◌-◌, Bool, true, false, List, Option, Some, None, Result, Ok, Err, refl, ap, ◌∙◌, ◌↔◌, eqb-true}
use Rattle.std.proofs.lemmas.Option.{none-some, same_Some}
use Rattle.hep_machine.specs.Words.{StateFunction, IsFull, IsEmpty, ValueOf, SetEmpty, WaitFull, Name, Value, index_among, Units, dummies_of, unit_at, BlockName, common_block, assigning, Next, does, wants, evaluating, testing, Reference, next_of, HasHeldChild, IsOnStack, is_held, Scope, dummy_at, element_of, location_in, location_of_name, start_by_block, storage_by_dummy, storage_of, activation_of, living, unit_of, Level, Location, Process, State, common, local, Wanted, scope_of, further, is_owned}
use Rattle.hep_machine.specs.declared.event.Kind.{Kind}
use Rattle.hep_machine.specs.Evaluation.{reading}
use Rattle.hep_layout.proofs.Stacks.{top-numbered}
use Rattle.hep_layout.proofs.FrameTree.{stacked-top}
use Rattle.hep_blocked.specs.Needs.{if_so, named_location, need_of, need_of_next, need_of_test, on_top, wanted_at}

-- ---- what is needed has a name

wanted-named : (asynchronous full : Bool) (at : Result Location Kind) (w : Wanted)
    → if_so asynchronous (wanted_at full (named_location at)) ≡ Some w → at ≡ Ok w.at
wanted-named false full at w e = absurd (none-some w e)
wanted-named true full (Err k) w e = absurd (none-some w e)
wanted-named true full (Ok at) w e = ap (λ (z : Wanted). Ok z.at) (same_Some (record { at = at; full = full }) w e)

test-named : (f : StateFunction) (at : Result Location Kind) (w : Wanted) → need_of_test f (named_location at) ≡ Some w → at ≡ Ok w.at
test-named IsFull at w e = absurd (none-some w e)
test-named IsEmpty at w e = absurd (none-some w e)
test-named ValueOf at w e = absurd (none-some w e)
test-named SetEmpty at w e = absurd (none-some w e)
test-named WaitFull at w e = wanted-named true true at w e

pub need-named : (scope : Scope) (n : Next) (w : Wanted) → need_of_next scope n ≡ Some w
    → (r : Reference) × (location_of_name scope r.0 r.1 ≡ Ok w.at)
need-named scope (wants (evaluating (reading r))) w e = (r, wanted-named r.0.asynchronous true (location_of_name scope r.0 r.1) w e)
need-named scope (wants (evaluating (testing f r))) w e = (r, test-named f (location_of_name scope r.0 r.1) w e)
need-named scope (does (assigning r v)) w e = (r, wanted-named r.0.asynchronous false (location_of_name scope r.0 r.1) w e)
need-named scope n w e = absurd (none-some w e)

-- ---- what a name stands for is of an activation that is held

-- all that the dummy arguments of an activation stand for is held
abbrev pub HoldsReferences : State → ℕ → Type 0
HoldsReferences s a =
    (k above : ℕ) (x : Name) (i : ℕ) → (dummy_at (activation_of s a).dummies k).start ≡ local above x i → is_held s above ≡ true

-- who owns an element owns the first one
owned-first : (b n : ℕ) (start at : Location) → further start n ≡ at → is_owned b at ≡ true → is_owned b start ≡ true
owned-first b n (local a x i) at e owned = ap (is_owned b) e ∙ owned
owned-first b n (common block k) at e owned = ap (is_owned b) e ∙ owned

module _ (program : Units) (s : State) (a b : ℕ) (held : is_held s a ≡ true) (references : HoldsReferences s a) where
  abbrev scope : Scope
  scope = scope_of program s a

  start-held : (k : ℕ) (start : Location) → (dummy_at (activation_of s a).dummies k).start ≡ start → is_owned b start ≡ true
      → is_held s b ≡ true
  start-held k (local above x i) e owned = ap (is_held s) (eqb-true b above owned) ∙ references k above x i e
  start-held k (common block i) e owned = absurd cc

  own-held : (x : Name) (block : Option BlockName) → is_owned b (start_by_block scope x block) ≡ true → is_held s b ≡ true
  own-held x None owned = ap (is_held s) (eqb-true b a owned) ∙ held
  own-held x (Some block) owned = absurd cc

  storage-held : (x : Name) → is_owned b (storage_of scope x).start ≡ true → is_held s b ≡ true
  storage-held x = by_index (index_among x (dummies_of scope.unit)) where
    by_index : (o : Option ℕ) → is_owned b (storage_by_dummy scope x o).start ≡ true → is_held s b ≡ true
    by_index None = own-held x (common_block scope.unit x)
    by_index (Some k) = start-held k (dummy_at scope.dummies k).start refl

  named-held : (x : Name) (vs : List Value) (at : Location) → location_of_name scope x vs ≡ Ok at → is_owned b at ≡ true
      → is_held s b ≡ true
  named-held x vs at e owned = by_number (element_of (storage_of scope x) vs) e where
    by_number : (r : Result ℕ Kind) → location_in (storage_of scope x) r ≡ Ok at → is_held s b ≡ true
    by_number (Err k) e = absurd cc
    by_number (Ok n) e =
        let same : further (storage_of scope x).start (n - 1) ≡ at = cc in
        storage-held x (owned-first b (n - 1) (storage_of scope x).start at same owned)

-- ---- the next step of a process

pub need-held : (program : Units) (s : State) (p b : ℕ) (w : Wanted)
    → ((a : ℕ) → (is_held s a ≡ true) ↔ (IsOnStack s a ⊎ HasHeldChild s a)) → ((a : ℕ) → is_held s a ≡ true → HoldsReferences s a)
    → need_of program p s ≡ Some w → is_owned b w.at ≡ true → is_held s b ≡ true
need-held program s p b w holds references needed owned = by_top (living s p) refl needed where
  by_top : (o : Option (Level × Process)) → living s p ≡ o → on_top need_of_next program s o ≡ Some w → is_held s b ≡ true
  by_top None lives e = absurd (none-some w e)
  by_top (Some top) lives e =
      let a = top.0.activation in
      let held = (holds a).1 (inl (stacked-top s p top (top-numbered s p top lives))) in
      let named = need-named (scope_of program s a) (next_of (unit_at program (unit_of s a)) top.0.work) w e in
      named-held program s a b held (references a held) named.0.0 named.0.1 w.at named.1 owned
