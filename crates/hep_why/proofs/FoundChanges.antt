-- From watches, for which nothing is known, to those that have the latest changes.
use Rattle.std.proofs.Common.{◌≡◌, ℕ, ◌&&◌, Bool, true, false, true≢false, List, not, nat_le, Some, None, refl, sym, ap, ◌∙◌, subst, if◌then◌else◌, slice_get}
use Rattle.std.proofs.lemmas.Option.{same_Some}
use Rattle.hep_fold.specs.declared.history_range.HistoryRange.{HistoryRange}
use Rattle.hep_fold.specs.Folds.{entries_before, entries_until, replay_of, seen_within, turns_within}
use Rattle.hep_fold.specs.Observers.{IsUnderWay, Replay}
use Rattle.hep_fold.specs.Turns.{processes}
use Rattle.hep_fold.proofs.Folding.{seen-whole}
use Rattle.hep_fold.proofs.TurnRows.{processes-all}
use Rattle.hep_machine.specs.declared.event.Entry.{Entry}
use Rattle.hep_machine.specs.Words.{Location, Units, run, same_logical, schedule_of}
use Rattle.hep_replay.specs.CoreValues.{CoreValue}
use Rattle.hep_state.proofs.UnchangedStates.{carry}
use Rattle.hep_state.specs.declared.core_state.CoreState.{CoreState}
use Rattle.hep_why.specs.declared.watch.Watch.{Watch}
use Rattle.hep_why.specs.LatestChanges.{is_there, latest_after, latest_changes, no_changes, with_change}
use Rattle.hep_why.specs.Watches.{AreAlongReplay, AreFound, AreKeptOnceThere, AreNewWatches, CanLook, HaveLooked, IsAlong, IsReplayed, IsWatch, KnownChanges, Looks, WaitTheSame, changes_after, location_of, looked, noted}
use Rattle.hep_why.proofs.ReplayedRanges.{same-schedule}
use Rattle.hep_why.proofs.WatchUpdates.{same-there}
use Rattle.hep_why.proofs.WatchedReplays.{after_turns, changes-at, first-kept, kept-there}

-- nothing is known of any storage unit
abbrev pub unknown : List Watch → KnownChanges
unknown old = (old, λ at. no_changes)

module _ (core : CoreValue) (entries : List Entry) (r : IsReplayed core entries) (program : Units) (cells : ℕ) (range : HistoryRange)
    (is : program ≡ core.program) (sized : cells ≡ core.cells) (all : entries_until range ≡ entries) where
  abbrev replay : Replay
  replay = replay_of cells range

  abbrev turns : List ℕ
  turns = processes replay.turns

  abbrev before : List ℕ
  before = schedule_of (entries_before range)

  same-turns : schedule_of core.history ≡ turns
  same-turns = same-schedule core entries r ∙ ap schedule_of (sym all) ∙ sym (processes-all 1 (entries_until range))

  watch-so : (w : Watch) (at : Location) → IsWatch core.program core.cells (schedule_of core.history) w at
      → IsWatch program cells turns w at
  watch-so w at a = carry (λ i. IsWatch (sym is i) (sym sized i) (same-turns i) w at) a

  -- ---- the first look

  module _ (m : CoreState) (h : IsUnderWay program replay before (turns_within range) m) (old : List Watch)
      (new : AreNewWatches core.program core.cells (schedule_of core.history) old) where
    are-kept : AreKeptOnceThere (after_turns program replay before) old
    are-kept i w e =
        let a = new i w e in
        (a.1.0, kept-there program replay before (turns_within range) m h w a.1.0 (watch-so w a.1.0 a.1.1))

    pub can-look-first : CanLook m old
    can-look-first = (after_turns program replay before, h.after, are-kept)

    first-look : (w : Watch) (at : Location) → w.latest ≡ no_changes → IsWatch program cells turns w at
        → IsAlong (after_turns program replay before) turns (unknown old).1 (looked (run program before) at 0 None w) at
    first-look w at none a = by (is_there (run program before) at) refl
      where
        full : Bool
        full = ((run program before).store at).full

        nothing : (b : Bool) → (if b then with_change None w.latest else w.latest) ≡ no_changes
        nothing true = ap (with_change None) none
        nothing false = none

        by : (b : Bool) → is_there (run program before) at ≡ b
            → IsAlong (after_turns program replay before) turns (unknown old).1 (if b then noted full 0 None w else w) at
        by true e = record {
          watch = record { located = a.located; owner = a.owner; kept = a.kept };
          full = λ there. refl;
          latest = nothing (nat_le w.listed.owner 0 && not (same_logical w.full full));
        }
        by false e = record { watch = a; full = λ there. absurd (true≢false (sym there ∙ e)); latest = none }

    -- all of them have looked
    pub along-first : (ws : List Watch) → Looks m 0 None old ws → AreAlongReplay program replay before ws (unknown old)
    along-first ws looks = record { same = all-looked.same; each = each }
      where
        all-looked : HaveLooked (after_turns program replay before) 0 None old ws
        all-looked = looks (after_turns program replay before) h.after are-kept

        each : (i : ℕ) (w : Watch) → slice_get ws i ≡ Some w
            → (at : Location) × IsAlong (after_turns program replay before) turns (unknown old).1 w at
        each i w e =
            let v = same-there old ws i w all-looked.same e in
            let a = new i v.0 v.1 in
            let at = a.1.0 in
            let so = watch-so v.0 at a.1.1 in
            let shown : looked (run program before) at 0 None v.0 ≡ w =
            same_Some _ w (sym (all-looked.each i v.0 at v.1 (kept-there program replay before (turns_within range) m h v.0 at so)) ∙ e) in
            (at, subst (λ (x : Watch). IsAlong (after_turns program replay before) turns (unknown old).1 x at) shown (first-look v.0 at a.0 so))

  -- ---- the end

  module _ (first : range.start ≡ 0) (old ws : List Watch)
      (along : AreAlongReplay program replay (schedule_of (entries_until range)) ws
      (seen_within program (changes_after program) range (unknown old))) where
    pub found : AreFound core entries ws
    found i w e =
        let a = along.each i w e in
        let at = a.0 in (
          at,
          carry (λ i. location_of (is i) (sym same-turns i) w.listed.process ≡ Some at) a.1.watch.located,
          a.1.latest
              ∙ changes-at program at (run program before) (turns_within range) (unknown old)
              ∙ seen-whole program (latest_after program at) range entries no_changes first all
              ∙ ap (λ (us : Units). latest_changes us entries at) is,
        )

    pub found-same : WaitTheSame old ws
    found-same = subst (λ vs. WaitTheSame vs ws) (first-kept program (run program before) (turns_within range) (unknown old)) along.same
