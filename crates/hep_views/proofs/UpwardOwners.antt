-- From an activation upwards: whose parent is above it, and what a name stands for is of it or of one above it.
use Rattle.std.proofs.Common.{◌≡◌, inl, inr, ℕ, ◌-◌, ◌||◌, true, List, Option, Some, None, refl, sym, ap, ◌∙◌, subst, Result, Ok, Err, nat_eq}
use Rattle.std.proofs.lemmas.Bool.{eqb-true, eq-eqb, or_left, or_right, or_cases}
use Rattle.std.proofs.lemmas.Option.{none-some, same_Some}
use Rattle.hep_machine.specs.Words.{Name, Value, index_among, Units, dummies_of, unit_at, BlockName, common_block, next_of, Scope, dummy_at, element_of, location_in, location_of_name, start_by_block, storage_by_dummy, storage_of, activation_of, living, parent_of, unit_of, Level, Location, Process, State, common, local, Wanted, scope_of, further}
use Rattle.hep_machine.specs.declared.event.Kind.{Kind}
use Rattle.hep_layout.specs.Words.{IsAbove, IsOwnedAbove}
use Rattle.hep_blocked.specs.Needs.{need_of, need_of_next, on_top}
use Rattle.hep_blocked.proofs.HeldUnits.{need-named}

-- ---- what is above an activation and isn't it is above its parent

module _ (s : State) (above a : ℕ) (other : a ≡ above → ⊥) (is_above : IsAbove s above a) where
  -- an activation has a parent, where another one is above it
  lone : parent_of s a ≡ None → ⊥
  lone none = other (sym (eqb-true above a (is_above (λ c. nat_eq c a) (eq-eqb a a refl) closed))) where
    closed : (c b : ℕ) → nat_eq c a ≡ true → parent_of s c ≡ Some b → nat_eq b a ≡ true
    closed c b t e = absurd (none-some b (sym none ∙ ap (parent_of s) (sym (eqb-true c a t)) ∙ e))

  above-next : (b : ℕ) → parent_of s a ≡ Some b → IsAbove s above b
  above-next b parent among here closed =
      let with_a = or_left (nat_eq a a) (among a) (eq-eqb a a refl) in
      elim (or_cases (nat_eq above a) (among above) (is_above (λ c. nat_eq c a || among c) with_a more)) [
        | inl t ↦ absurd (other (sym (eqb-true above a t)))
        | inr t ↦ t
      ]
    where
      more : (c d : ℕ) → (nat_eq c a || among c) ≡ true → parent_of s c ≡ Some d → (nat_eq d a || among d) ≡ true
      more c d t e = elim (or_cases (nat_eq c a) (among c) t) [
        | inl same ↦
            let next : b ≡ d = same_Some b d (sym parent ∙ ap (parent_of s) (sym (eqb-true c a same)) ∙ e) in
            or_right (nat_eq d a) (among d) (ap among (sym next) ∙ here)
        | inr inside ↦ or_right (nat_eq d a) (among d) (closed c d inside e)
      ]

  pub above-parent : (b : ℕ) × (parent_of s a ≡ Some b) × IsAbove s above b
  above-parent = by_parent (parent_of s a) refl where
    by_parent : (o : Option ℕ) → parent_of s a ≡ o → (b : ℕ) × (parent_of s a ≡ Some b) × IsAbove s above b
    by_parent None e = absurd (lone e)
    by_parent (Some b) e = (b, e, above-next b e)

-- ---- what a name stands for

owned-further : (s : State) (a n : ℕ) (start at : Location) → further start n ≡ at → IsOwnedAbove s a start → IsOwnedAbove s a at
owned-further s a n (local b x i) at e h = subst (IsOwnedAbove s a) e h
owned-further s a n (common block k) at e h = subst (IsOwnedAbove s a) e tt

module _ (program : Units) (s : State) (a : ℕ)
    (references : (k : ℕ) → IsOwnedAbove s a (dummy_at (activation_of s a).dummies k).start) where
  abbrev scope : Scope
  scope = scope_of program s a

  own-above : (x : Name) (block : Option BlockName) → IsOwnedAbove s a (start_by_block scope x block)
  own-above x None = λ among here closed. here
  own-above x (Some block) = tt

  storage-above : (x : Name) → IsOwnedAbove s a (storage_of scope x).start
  storage-above x = by_index (index_among x (dummies_of scope.unit)) where
    by_index : (o : Option ℕ) → IsOwnedAbove s a (storage_by_dummy scope x o).start
    by_index None = own-above x (common_block scope.unit x)
    by_index (Some k) = references k

  pub named-above : (x : Name) (vs : List Value) (at : Location) → location_of_name scope x vs ≡ Ok at → IsOwnedAbove s a at
  named-above x vs at e = by_number (element_of (storage_of scope x) vs) e where
    by_number : (r : Result ℕ Kind) → location_in (storage_of scope x) r ≡ Ok at → IsOwnedAbove s a at
    by_number (Err k) e = absurd cc
    by_number (Ok n) e =
        let same : further (storage_of scope x).start (n - 1) ≡ at = cc in
        owned-further s a (n - 1) (storage_of scope x).start at same (storage-above x)

-- ---- the next step of a process

-- what it needs is of COMMON, of its top activation or of one above that
pub need-above : (program : Units) (s : State) (p : ℕ) (w : Wanted)
    → ((a k : ℕ) → IsOwnedAbove s a (dummy_at (activation_of s a).dummies k).start)
    → need_of program p s ≡ Some w → (top : Level × Process) × (living s p ≡ Some top) × IsOwnedAbove s top.0.activation w.at
need-above program s p w references needed = by_top (living s p) refl needed where
  by_top : (o : Option (Level × Process)) → living s p ≡ o → on_top need_of_next program s o ≡ Some w
      → (top : Level × Process) × (living s p ≡ Some top) × IsOwnedAbove s top.0.activation w.at
  by_top None lives e = absurd (none-some w e)
  by_top (Some top) lives e =
      let a = top.0.activation in
      let named = need-named (scope_of program s a) (next_of (unit_at program (unit_of s a)) top.0.work) w e in
      (top, lives, named-above program s a (references a) named.0.0 named.0.1 w.at named.1)
