-- Watches that look at their storage units one after the other.
use Rattle.std.proofs.Common.{◌≡◌, inl, inr, ℕ, ◌+◌, ◌<◌, ◌≤◌, Bool, true, false, if◌then◌else◌, List, length, Option, Some, None, refl, sym, ap, ◌∙◌, subst, arith, slice_get, slice_set}
use Rattle.std.specs.Option.{option_map}
use Rattle.std.proofs.lemmas.Bool.{cases_eq}
use Rattle.std.proofs.lemmas.List.{length-set}
use Rattle.std.proofs.lemmas.Option.{none-some, same_Some}
use Rattle.hep_arena.proofs.Lists.{get-set_other, get-set_same}
use Rattle.hep_machine.specs.Words.{Location, State}
use Rattle.hep_why.specs.LatestChanges.{is_there}
use Rattle.hep_why.specs.declared.reason.Change.{Change}
use Rattle.hep_state.specs.declared.core_state.CoreState.{CoreState}
use Rattle.hep_views.specs.declared.listed.Listed.{Listed}
use Rattle.hep_why.specs.declared.watch.Watch.{Watch}
use Rattle.hep_why.specs.Watches.{IsKeptOnceThere, IsMachineOf, TurnsMade, WaitTheSame, looked, noted, state_at}

abbrev listed : Option Watch → Option Listed
listed o = option_map (λ (w : Watch). w.listed) o

-- the first ones have looked
pub record HavePart (m : CoreState) (made : ℕ) (change : Option Change) (old : List Watch) (i : ℕ) (now : List Watch) : Type 0 where
  pub count : length now ≡ length old
  pub each : (t : TurnsMade) (j : ℕ) (w : Watch) (at : Location) → IsMachineOf t m → j < i → slice_get old j ≡ Some w
      → IsKeptOnceThere t w at
      → slice_get now j ≡ Some (looked (state_at t) at made change w)
  pub rest : (j : ℕ) → i ≤ j → slice_get now j ≡ slice_get old j
  pub same : WaitTheSame old now

-- the next one has looked too
pub part-next : (m : CoreState) (made : ℕ) (change : Option Change) (old : List Watch) (i : ℕ) (now : List Watch) (w v : Watch)
    → HavePart m made change old i now → i < length old → slice_get old i ≡ Some w → v.listed ≡ w.listed
    → ((t : TurnsMade) (at : Location) → IsMachineOf t m → IsKeptOnceThere t w at → v ≡ looked (state_at t) at made change w)
    → HavePart m made change old (i + 1) (slice_set now i v)
part-next m made change old i now w v part less here same is =
    record { count = length-set now i v ∙ part.count; each = each; rest = rest; same = all }
  where
    set-here : slice_get (slice_set now i v) i ≡ Some v
    set-here = get-set_same now i v (omega (arith, less, part.count))

    each : (t : TurnsMade) (j : ℕ) (u : Watch) (at : Location) → IsMachineOf t m → j < i + 1 → slice_get old j ≡ Some u
        → IsKeptOnceThere t u at
        → slice_get (slice_set now i v) j ≡ Some (looked (state_at t) at made change u)
    each t j u at of below e kept = elim (cases_eq j i) [
      | inl one ↦
          let one_is : w ≡ u = same_Some w u (sym here ∙ ap (slice_get old) (sym one) ∙ e) in
          subst (λ (x : Watch). slice_get (slice_set now i v) j ≡ Some (looked (state_at t) at made change x)) one_is (
          ap (slice_get (slice_set now i v)) one ∙ set-here
          ∙ ap (λ (x : Watch). Some x) (is t at of (subst (λ (x : Watch). IsKeptOnceThere t x at) (sym one_is) kept)))
      | inr other ↦ get-set_other now i j v other ∙ part.each t j u at of (omega (arith, below, other)) e kept
    ]

    rest : (j : ℕ) → i + 1 ≤ j → slice_get (slice_set now i v) j ≡ slice_get old j
    rest j above = get-set_other now i j v (λ one. omega (arith, above, one)) ∙ part.rest j (omega (arith, above))

    all : WaitTheSame old (slice_set now i v)
    all j = elim (cases_eq j i) [
      | inl one ↦
          ap (λ k. listed (slice_get (slice_set now i v) k)) one ∙ ap listed set-here
          ∙ ap (λ (x : Listed). Some x) same
          ∙ ap listed (sym here) ∙ ap (λ k. listed (slice_get old k)) (sym one)
      | inr other ↦ ap listed (get-set_other now i j v other) ∙ part.same j
    ]

-- one that has looked waits for the same
pub looked-listed : (s : State) (at : Location) (made : ℕ) (change : Option Change) (w : Watch)
    → (looked s at made change w).listed ≡ w.listed
looked-listed s at made change w = by (is_there s at) where
  by : (b : Bool) → (if b then noted (s.store at).full made change w else w).listed ≡ w.listed
  by true = refl
  by false = refl

-- of the same that wait one is there where the other is
pub same-there : (old new : List Watch) (i : ℕ) (w : Watch) → WaitTheSame old new → slice_get new i ≡ Some w
    → (v : Watch) × (slice_get old i ≡ Some v)
same-there old new i w same e = by (slice_get old i) refl (sym (same i) ∙ ap listed e) where
  by : (o : Option Watch) → slice_get old i ≡ o → listed o ≡ Some w.listed → (v : Watch) × (slice_get old i ≡ Some v)
  by None f g = absurd (none-some w.listed g)
  by (Some v) f g = (v, f)

-- what waits for the same as others do
pub same-both : (old mid new : List Watch) → WaitTheSame old mid → WaitTheSame mid new → WaitTheSame old new
same-both old mid new first second i = second i ∙ first i
