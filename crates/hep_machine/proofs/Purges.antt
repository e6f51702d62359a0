-- A PURGE fills no storage unit.
use Rattle.std.proofs.Common.{◌≡◌, ℕ, zero, suc, Bool, true, false, List, [], ◌∷◌, Some, Result, Ok, Err, sym, ap, ◌∙◌, if◌then◌else◌, not, ◌&&◌}
use Rattle.hep_machine.specs.declared.event.Kind.{Kind}
use Rattle.hep_machine.specs.Words.{is_array, is_nonempty, Reference, Action, purging, Next, wants, does, FillsNone, purges, top_purges, is_purge, Scope, storage_of, location_of_name, State, Location, Store, Top, scope_of, store_after_purge_at, store_after_purge_of, store_after_both, store_after_purge, result_after_purge, result_after_action, result_after_next, step, same_location, further, with_empty, emptied_from, Units}
use Rattle.hep_machine.proofs.Changes.{Makes, by_step, next_on, top_in}

-- ---- stores

fills-with_empty : (old : Store) (at : Location) → FillsNone old (with_empty old at)
fills-with_empty old at location h = by_test (same_location location at) h where
  by_test : (b : Bool) → (if b then record { value = (old at).value; full = false } else old location).full ≡ true → (old location).full ≡ true
  by_test true h = absurd cc
  by_test false h = h

fills-emptied_from : (n : ℕ) (at : Location) (old : Store) → FillsNone old (emptied_from n at old)
fills-emptied_from zero at old location h = h
fills-emptied_from (suc n) at old location h =
    fills-with_empty old at location (fills-emptied_from n (further at 1) (with_empty old at) location h)

-- ---- references

-- a store that was left, if any, where none was filled
abbrev LeavesNoneFilled : Store → Result Store Kind → Type 0
LeavesNoneFilled old (Err k) = Unit {0}
LeavesNoneFilled old (Ok new) = FillsNone old new

fills-store_after_purge_at : (old : Store) (at : Result Location Kind) → LeavesNoneFilled old (store_after_purge_at old at)
fills-store_after_purge_at old (Err k) = tt
fills-store_after_purge_at old (Ok at) = fills-with_empty old at

fills-store_after_purge_of : (scope : Scope) (r : Reference) (old : Store) → LeavesNoneFilled old (store_after_purge_of scope r old)
fills-store_after_purge_of scope r old =
    elim (is_array scope.unit r.0 && not (is_nonempty r.1)) as (λ (b : Bool). LeavesNoneFilled old (if b then Ok (emptied_from (storage_of scope r.0).rest (storage_of scope r.0).start old) else store_after_purge_at old (location_of_name scope r.0 r.1)))
    [ true ↦ fills-emptied_from (storage_of scope r.0).rest (storage_of scope r.0).start old | false ↦ fills-store_after_purge_at old (location_of_name scope r.0 r.1) ]

fills-store_after_both : (old : Store) (first : Result Store Kind) (more : Store → Result Store Kind) → LeavesNoneFilled old first → ((new : Store) → LeavesNoneFilled new (more new)) → LeavesNoneFilled old (store_after_both first more)
fills-store_after_both old (Err k) more h m = tt
fills-store_after_both old (Ok new) more h m = by_last (more new) (m new) where
  by_last : (last : Result Store Kind) → LeavesNoneFilled new last → LeavesNoneFilled old last
  by_last (Err k) g = tt
  by_last (Ok newest) g = λ location full. h location (g location full)

fills-store_after_purge : (scope : Scope) (rs : List Reference) (old : Store) → LeavesNoneFilled old (store_after_purge scope rs old)
fills-store_after_purge scope [] old = λ location full. full
fills-store_after_purge scope (r ∷ rs) old =
    fills-store_after_both old (store_after_purge_of scope r old) (store_after_purge scope rs) (fills-store_after_purge_of scope r old) (fills-store_after_purge scope rs)

-- ---- the step

abbrev pub FillsNothing : Top → State → Type 0
FillsNothing t s = FillsNone t.state.store s.store

fills-result_after_purge : (program : Units) (t : Top) (r : Result Store Kind) → LeavesNoneFilled t.state.store r → Makes (FillsNothing t) (result_after_purge program t r)
fills-result_after_purge program t (Err k) h = λ location full. full
fills-result_after_purge program t (Ok store) h = h

fills-action : (program : Units) (t : Top) (a : Action) → purges (does a) ≡ true → Makes (FillsNothing t) (result_after_action program t a)
fills-action program t (purging targets) h =
    fills-result_after_purge program t (store_after_purge (scope_of program t.state t.level.activation) targets t.state.store) (
    fills-store_after_purge (scope_of program t.state t.level.activation) targets t.state.store)
fills-action program t a h = absurd cc

fills-next : (program : Units) (t : Top) (n : Next) → purges n ≡ true → Makes (FillsNothing t) (result_after_next program t n)
fills-next program t (wants r) h = absurd cc
fills-next program t (does a) h = fills-action program t a h

pub purge_fills : (program : Units) (p : ℕ) (s t : State) → step program p s ≡ Some t → is_purge program s p ≡ true → FillsNone s.store t.store
purge_fills program p s t e h =
    (by_step FillsNothing program p s t (λ top is. fills-next program (top_in s p top) (next_on program s top) (ap (top_purges program s) (sym is) ∙ h)) e).2
