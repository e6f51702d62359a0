-- The entries that a core has made can be made again.
use Rattle.std.proofs.Common.{◌≡◌, ℕ, ◌≤◌, List, [], length, IsSome, refl, ap, sym, ◌∙◌, subst, arith}
use Rattle.std.proofs.lemmas.List.{take_all}
use Rattle.hep_replay.proofs.HistoryPrefixes.{front-all, front-short}
use Rattle.hep_replay.proofs.ReplayTurns.{expand_singles}
use Rattle.hep_replay.specs.CoreValues.{CoreValue}
use Rattle.hep_replay.specs.declared.history_prefix.HistoryPrefix.{HistoryPrefix}
use Rattle.hep_replay.specs.HistoryPrefix.{first_of}
use Rattle.hep_fold.specs.DecodedImage.{DecodedImage}
use Rattle.hep_fold.specs.DecodedImages.{AreTables}
use Rattle.hep_fold.specs.declared.history_range.HistoryRange.{HistoryRange}
use Rattle.hep_fold.specs.declared.replay_machine.ReplayMachine.{ReplayMachine}
use Rattle.hep_fold.specs.Folds.{CanBeMade, IsAtStart, entries_until}
use Rattle.hep_fold.proofs.Beginnings.{opened-at-start}
use Rattle.hep_machine.proofs.Replays.{legal_steps}
use Rattle.hep_machine.specs.declared.event.Entry.{Entry}
use Rattle.hep_machine.specs.Words.{AreSteps, IsLegal, is_held, layout_of, opening, schedule_of}
use Rattle.hep_state.proofs.UnchangedStates.{carry}
use Rattle.hep_state.specs.Words.{IsMachineAfter}
use Rattle.hep_why.specs.Watches.{IsReplayed}
use Rattle.hep_why.proofs.FoundReasons.{few-singles, history-is, limit-is}

-- the core has made the same turns
pub same-schedule : (core : CoreValue) (entries : List Entry) → IsReplayed core entries → schedule_of core.history ≡ schedule_of entries
same-schedule core entries r = ap schedule_of (history-is core entries r) ∙ expand_singles entries

-- those of a range that ends with the last one
pub can-be-made-again : (core : CoreValue) (range : HistoryRange) (entries : List Entry) → IsReplayed core entries
    → IsLegal core.program core.cells core.limit core.history → entries_until range ≡ entries
    → range.start ≤ range.end → range.end ≤ length range.history.now.items → CanBeMade core.program core.cells range
can-be-made-again core range entries r legal all order within =
    let same : schedule_of core.history ≡ schedule_of (entries_until range) = same-schedule core entries r ∙ ap schedule_of (sym all) in
    record {
      fits = r.fits;
      order = order;
      within = within;
      steps = subst (AreSteps core.program (opening core.program)) same (legal_steps core.program core.cells core.limit core.history legal);
      laid = subst (λ ps. IsSome (layout_of core.program core.cells is_held ps)) same legal.room;
      few = omega (
        arith,
        few-singles entries,
        ap length (history-is core entries r),
        legal.within,
        limit-is core entries r,
        ap length (ap schedule_of all),
      );
    }

-- all entries of a history
pub all-entries : (range : HistoryRange) → range.end ≡ length range.history.now.items → entries_until range ≡ range.history.now.items
all-entries range last = take_all range.end range.history.now.items (omega (arith, last))

-- those of a range that ends with the history
pub can-be-made : (core : CoreValue) (range : HistoryRange) → IsReplayed core range.history.now.items
    → IsLegal core.program core.cells core.limit core.history
    → range.start ≤ length range.history.now.items → range.end ≡ length range.history.now.items → CanBeMade core.program core.cells range
can-be-made core range r legal few last =
    can-be-made-again core range range.history.now.items r legal (all-entries range last) (omega (arith, few, last)) (omega (arith, last))

-- ---- the first entries of a history

module _ (core : CoreValue) (first : HistoryPrefix) (r : IsReplayed core (first_of first)) (legal : IsLegal core.program core.cells core.limit core.history)
    (tabled : DecodedImage) (cells end : ℕ) (is : tabled.image.now ≡ core.program) (sized : cells ≡ core.cells) (last : end ≡ length (first_of first)) where
  abbrev range : HistoryRange
  range = record { history = first.history; start = 0; end = end }

  pub first-entries : entries_until range ≡ first_of first
  first-entries = front-all end first.count first.history.now.items last

  can : CanBeMade tabled.image.now cells range
  can =
      let within : end ≤ length first.history.now.items = omega (arith, last, front-short first.count first.history.now.items) in
      carry (λ i. CanBeMade (sym is i) (sym sized i) range)
      (can-be-made-again core range (first_of first) r legal first-entries (omega arith) within)

  -- a machine that was just opened can make them
  pub first-start : (again : ReplayMachine) → AreTables tabled.image.now tabled.tables.now
      → IsMachineAfter tabled.image.now cells [] again.machine
      → again.history.items ≡ [] → again.machine.made ≤ again.roster.room → IsAtStart tabled cells range again
  first-start again tables after begun room = opened-at-start tabled cells range again refl can tables after begun room
