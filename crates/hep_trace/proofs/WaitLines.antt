-- What a process waits for that was found waiting, as it is listed.
use Rattle.std.proofs.Common.{◌≡◌, ℕ, true, List, Some, sym, ap, ◌∙◌, subst, is_some}
use Rattle.std.proofs.lemmas.Option.{same_Some}
use Rattle.hep_cells.specs.declared.want.Want.{Want}
use Rattle.hep_blocked.specs.RosterUpdates.{IsBlocked}
use Rattle.hep_conditions.specs.Words.{IsAccepted}
use Rattle.hep_core.proofs.Histories.{state-is}
use Rattle.hep_image.specs.Names.{names_in_order}
use Rattle.hep_machine.specs.declared.event.Entry.{Entry}
use Rattle.hep_machine.specs.Words.{State, Units, Wanted, main_among, run, schedule_of, state_after, wanted_by}
use Rattle.hep_state.specs.declared.core_state.CoreState.{CoreState}
use Rattle.hep_state.specs.Words.{IsMachineAfter}
use Rattle.hep_state_text.specs.States as states
use Rattle.hep_state_text.specs.WaitTexts.{place_listed, place_seen}
use Rattle.hep_state_text.proofs.WaitTexts.{place-told}
use Rattle.hep_views.specs.declared.listed.Listed.{Listed}
use Rattle.hep_views.specs.CellOwners.{IsListedAs}
use Rattle.hep_views.specs.ListedProcesses.{listed_at, listed_by, listed_with}
use Rattle.hep_views.proofs.WaitingPlaces.{Waits, blocked-waits}

module _ (program : Units) (cells : ℕ) (choices : List ℕ) (m : CoreState) (accepted : IsAccepted program) (main : is_some (main_among program) ≡ true) (after : IsMachineAfter program cells choices m) (p : ℕ) (want : Want) where
  abbrev s : State
  s = run program choices

  pub wait-is : IsBlocked program cells choices p want → (l : Listed) → listed_by program p s ≡ Some l → (w : Wanted) → wanted_by program p s ≡ Some w
      → (l.full ≡ w.full) × (place_seen (names_in_order program) (place_listed l) ≡ states.place_text program s w.at)
  wait-is blocked l told w waits =
      let it : Waits program cells choices m after p want = blocked-waits program cells choices m after p want blocked in
      let same : l ≡ listed_at program s p it.top.0 it.wanted = same_Some l (listed_at program s p it.top.0 it.wanted) (sym told ∙ (λ i. listed_with program s p (it.lives i) (it.waits i))) in
      let wanted : it.wanted ≡ w = same_Some it.wanted w (sym it.waits ∙ waits) in (
        ap (λ (z : Listed). z.full) same ∙ ap (λ (z : Wanted). z.full) wanted,
        ap (λ (z : Listed). place_seen (names_in_order program) (place_listed z)) same
            ∙ place-told program cells choices m accepted main it.is_top.levels.level.key want.cell it.wanted.at it.sought
            ∙ ap (λ (z : Wanted). states.place_text program s z.at) wanted,
      )

-- of a core's history
pub wait-told : (program x : Units) (history : List Entry) (cells p : ℕ) (m : CoreState) (want : Want) → x ≡ program → IsAccepted x → is_some (main_among x) ≡ true → IsMachineAfter program cells (schedule_of history) m
    → IsBlocked program cells (schedule_of history) p want → (l : Listed) → IsListedAs x m p want l → (w : Wanted) → wanted_by program p (state_after program history) ≡ Some w
    → (l.full ≡ w.full) × (place_seen (names_in_order x) (place_listed l) ≡ states.place_text program (state_after program history) w.at)
wait-told program x history cells p m want same =
    subst (λ (y : Units). IsAccepted y → is_some (main_among y) ≡ true → IsMachineAfter program cells (schedule_of history) m → IsBlocked program cells (schedule_of history) p want → (l : Listed) → IsListedAs y m p want l
    → (w : Wanted) → wanted_by program p (state_after program history) ≡ Some w
    → (l.full ≡ w.full) × (place_seen (names_in_order y) (place_listed l) ≡ states.place_text program (state_after program history) w.at)) (sym same) (
    λ accepted main after blocked l told w waits.
    let choices = schedule_of history in
    let at = state-is program history in
    let it = wait-is program cells choices m accepted main after p want blocked l (told cells choices after blocked) w (sym (ap (λ (s : State). wanted_by program p s) at) ∙ waits) in
    (it.0, it.1 ∙ ap (λ (s : State). states.place_text program s w.at) (sym at)))
