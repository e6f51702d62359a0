-- What is waited for is called as what comes next of its process has it, by the code and by the source.
use Rattle.std.proofs.Common.{◌≡◌, ◌<◌, ℕ, List, [], ◌∷◌, length, Option, Some, None, refl, sym, ap, ◌∙◌, subst, IsSome, slice_get, true≢false}
use Rattle.std.proofs.lemmas.Option.{none-some, same_Some}
use Rattle.hep_blocked.specs.Needs.{need_of_next}
use Rattle.hep_code.specs.declared.variable.Variable.{Variable}
use Rattle.hep_event.specs.NextAccesses.{IsAccessed}
use Rattle.hep_replay.proofs.Histories.{state-is}
use Rattle.hep_replay.specs.CoreValues.{CoreValue, state_of}
use Rattle.hep_image.specs.Names.{names_in_order, variable_number}
use Rattle.hep_image.proofs.Numbers.{number-of-variable}
use Rattle.hep_machine.specs.Evaluation.{reading}
use Rattle.hep_machine.specs.Words.{Level, Name, Next, Process, Reference, Scope, State, Top, Units, Wanted, assigning, does, evaluating, living, next_of, run, schedule_of, scope_of, spelling, testing, unit_at, unit_of, wanted_by, wants}
use Rattle.hep_why.specs.WaitNames.{called_by, reference_text, references_of}
use Rattle.hep_why.proofs.WaitNames.{IsAwaited, awaited, top_of_process}
use Rattle.hep_event.specs.Sites.{IsVariableOf}
use Rattle.hep_event.proofs.Declared.{placed-named}
use Rattle.hep_state.specs.declared.core_state.CoreState.{CoreState}
use Rattle.hep_state.specs.Words.{HasLevels, IsMachineAfter, snapshot_of}
use Rattle.hep_views.specs.declared.whereabouts.Whereabouts.{Whereabouts}
use Rattle.hep_views.specs.ProcessPositions.{whereabouts_by, whereabouts_with}
use Rattle.hep_views.proofs.WaitingPlaces.{living-top}

-- a variable of a unit has the name of its number
pub name-there : (program : Units) (u : ℕ) (x : Name) (v : Variable) → u < length program → IsVariableOf program (unit_at program u) x v
    → slice_get (names_in_order program) (variable_number program u x) ≡ Some (spelling x)
name-there program u x v inside is =
    number-of-variable program u x inside (placed-named program (unit_at program u) x (λ absent. is.1 (sym is.0 ∙ absent)))

-- ---- what needs a storage unit accesses it

first-of : (r x : Reference) → ◌≡◌ {A = List Reference} (r ∷ []) (x ∷ []) → x ≡ r
first-of r x e = sym (same_Some r x (ap (λ (rs : List Reference). slice_get rs 0) e))

accessed-next : (program : Units) (t : Top) (scope : Scope) (n : Next) (w : Wanted) (x : Reference) → need_of_next scope n ≡ Some w
    → references_of program t n ≡ x ∷ [] → IsAccessed n x
accessed-next program t scope (wants (evaluating (reading r))) w x needed one = first-of r x one
accessed-next program t scope (wants (evaluating (testing f r))) w x needed one = first-of r x one
accessed-next program t scope (does (assigning r v)) w x needed one = first-of r x one
accessed-next program t scope _ w x needed one = absurd (none-some w needed)

pub accessed : (program : Units) (s : State) (p : ℕ) (w : Wanted) (h : IsAwaited program s p w)
    → IsAccessed (next_of (unit_at program (unit_of s h.top.0.activation)) h.top.0.work) h.reference
accessed program s p w h =
    accessed-next program (top_of_process s p h.top) (scope_of program s h.top.0.activation)
    (next_of (unit_at program (unit_of s h.top.0.activation)) h.top.0.work) w h.reference h.needed h.one

-- ---- where it is, in the machine

pub levels-there : (program : Units) (cells : ℕ) (choices : List ℕ) (m : CoreState) (p : ℕ) (top : Level × Process)
    → IsMachineAfter program cells choices m → living (run program choices) p ≡ Some top → HasLevels (snapshot_of m) p
levels-there program cells choices m p top after lives =
    (living-top program cells choices m after p (subst IsSome (sym lives) refl)).is_top.levels

pub unit-there : (program : Units) (cells : ℕ) (choices : List ℕ) (m : CoreState) (p : ℕ) (top : Level × Process)
    → IsMachineAfter program cells choices m → living (run program choices) p ≡ Some top
    → unit_of (run program choices) top.0.activation < length program
unit-there program cells choices m p top after lives =
    let it = living-top program cells choices m after p (subst IsSome (sym lives) refl) in
    let same : it.top ≡ top = same_Some it.top top (sym it.lives ∙ lives) in
    subst (λ (z : Level × Process). unit_of (run program choices) z.0.activation < length program) same
    (subst (λ u. u < length program) (sym it.is_top.unit) it.is_top.inside)

-- ---- after a core's history

some-is : (o : Option Wanted) → IsSome o → (w : Wanted) × (o ≡ Some w)
some-is None h = absurd (true≢false (sym h))
some-is (Some w) h = (w, refl)

module _ (core : CoreValue) (p : ℕ) where
  abbrev program : Units
  program = core.program

  abbrev s : State
  s = run core.program (schedule_of core.history)

  same-state : state_of core ≡ s
  same-state = state-is core.program core.history

  pub waits-there : IsSome (wanted_by program p (state_of core)) → (w : Wanted) × IsAwaited program s p w
  waits-there waits =
      let w = some-is (wanted_by program p s) (subst (λ (t : State). IsSome (wanted_by program p t)) same-state waits) in
      (w.0, awaited program s p w.0 w.1)

  module _ (w : Wanted) (h : IsAwaited program s p w) where
    pub text-there : called_by program (state_of core) p ≡ reference_text (spelling h.reference.0) h.reference.1
    text-there = ap (λ (t : State). called_by program t p) same-state ∙ h.written

    told : whereabouts_by program p (state_of core) ≡ whereabouts_with program s p (Some h.top)
    told = ap (λ (t : State). whereabouts_by program p t) same-state ∙ ap (whereabouts_with program s p) h.lives

    pub never-none : (o : Option Whereabouts) → o ≡ whereabouts_by program p (state_of core) → o ≡ None → ⊥
    never-none o is none = none-some _ (sym none ∙ is ∙ told)

    pub unit-told : (place : Whereabouts) (o : Option Whereabouts) → o ≡ whereabouts_by program p (state_of core) → o ≡ Some place
        → place.unit ≡ unit_of s h.top.0.activation
    unit-told place o is some = ap (λ (x : Whereabouts). x.unit) (same_Some place _ (sym some ∙ is ∙ told))
