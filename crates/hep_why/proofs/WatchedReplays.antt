-- Watches along a history that is made again.
use Rattle.std.proofs.Common.{◌≡◌, ◌⊎◌, inl, inr, ℕ, ◌&&◌, ◌≤◌, Bool, true, false, true≢false, List, [], ◌∷◌, ◌++◌, length, not, replicate, Option, Some, None, refl, sym, ap, ◌∙◌, subst, arith, append_assoc, IsSome, if◌then◌else◌, nat_le, slice_get}
use Rattle.std.specs.Option.{option_map}
use Rattle.std.proofs.lemmas.Bool.Decides.{nat_tests}
use Rattle.std.proofs.lemmas.Option.{same_Some}
use Rattle.hep_fold.specs.declared.turn_row.TurnRow.{TurnRow}
use Rattle.hep_fold.specs.Observers.{IsUnderWay, Replay, row_turns}
use Rattle.hep_fold.specs.Turns.{number_after, processes, seen_along, turns_in_row}
use Rattle.hep_fold.proofs.Folding.{left_of_row, row-under-way, seen-none, seen-row-next}
use Rattle.hep_fold.proofs.RunsToBreakpoint.{state-on, turns-are}
use Rattle.hep_fold.specs.SilentRuns as gone
use Rattle.hep_fold.specs.SilentRuns.{HasGone, MakesMoves}
use Rattle.hep_layout.proofs.HeldFrames.{run-last}
use Rattle.hep_machine.specs.Words.{Layout, Location, State, Units, is_held, layout_of, run, same_logical, state_after_turn}
use Rattle.hep_source.proofs.NameTests.{same_logical-self}
use Rattle.hep_state.proofs.Runs.{laid-before}
use Rattle.hep_state.specs.declared.core_state.CoreState.{CoreState}
use Rattle.hep_state.specs.Words.{Changes}
use Rattle.hep_why.specs.declared.reason.Change.{Change}
use Rattle.hep_why.specs.declared.reason.LatestChanges.{LatestChanges}
use Rattle.hep_why.specs.declared.watch.ChangeAhead.{ChangeAhead}
use Rattle.hep_why.specs.declared.watch.Watch.{Watch}
use Rattle.hep_why.specs.LatestChanges.{change_by, has_changed, is_there, latest_after, with_change}
use Rattle.hep_why.specs.Watches.{AreAlongReplay, AreKeptOnceThere, CanLook, HaveLooked, IsAlong, IsChangeAhead, IsKeptAfter, IsKeptOnceThere, IsWatch, KnownChanges, Looks, TurnsMade, WaitTheSame, changes_after, looked, noted}
use Rattle.hep_why.proofs.KeptUnits.{kept-then, there-next}
use Rattle.hep_why.proofs.WatchUpdates.{same-both, same-there}

-- ---- what is known of changes

module _ (program : Units) where
  -- the first watches stay
  pub first-kept : (s : State) (ts : List (ℕ × ℕ)) (known : KnownChanges)
      → (seen_along program (changes_after program) s ts known).0 ≡ known.0
  unfolding seen_along
  first-kept s [] known = refl
  first-kept s (t ∷ ts) known = first-kept (state_after_turn program t.1 s) ts (changes_after program t.0 t.1 s known)

  -- that of each storage unit is the latest one of its own
  pub changes-at : (at : Location) (s : State) (ts : List (ℕ × ℕ)) (known : KnownChanges)
      → (seen_along program (changes_after program) s ts known).1 at ≡ seen_along program (latest_after program at) s ts (known.1 at)
  unfolding seen_along
  changes-at at s [] known = refl
  changes-at at s (t ∷ ts) known = changes-at at (state_after_turn program t.1 s) ts (changes_after program t.0 t.1 s known)

-- ---- a storage unit that is kept in a cell

-- what is as full as before, if it was there, hasn't changed
unchanged-so : (at : Location) (s t : State) → (is_there s at ≡ true → (t.store at).full ≡ (s.store at).full) → has_changed at s t ≡ false
unchanged-so at s t same = by (is_there s at) refl
  where
    by : (b : Bool) → is_there s at ≡ b → (b && not (same_logical (s.store at).full (t.store at).full)) ≡ false
    by true e = ap (λ f. not (same_logical (s.store at).full f)) (same e) ∙ ap not (same_logical-self (s.store at).full)
    by false e = refl

-- what is there where no more activations were made was there
there-back : (s t : State) (at : Location) → length t.activations ≤ length s.activations → is_there t at ≡ true → is_there s at ≡ true
there-back s t at few there = grind (arith, nat_tests, few, there)

module _ (program : Units) (cells : ℕ) (turns : List ℕ) (laid : IsSome (layout_of program cells is_held turns)) (at : Location) (cell : ℕ)
    (kept : IsKeptAfter program cells turns at cell) (p : ℕ) where
  -- a turn that fills and empties nothing leaves it as full as it was
  quiet-turn : (before rest : List ℕ) → turns ≡ before ++ rest → Changes program cells before p None
      → is_there (run program before) at ≡ true
      → ((run program (before ++ p ∷ [])).store at).full ≡ ((run program before).store at).full
  quiet-turn before rest split changes there =
      by (layout_of program cells is_held before) refl (
      laid-before program cells before rest (subst (λ ps. IsSome (layout_of program cells is_held ps)) split laid))
    where
      by : (o : Option Layout) → layout_of program cells is_held before ≡ o → IsSome o
          → ((run program (before ++ p ∷ [])).store at).full ≡ ((run program before).store at).full
      by None e some = absurd (true≢false (sym some))
      by (Some layout) e some =
          changes.told layout e at cell (kept-then program cells turns before rest at cell split laid kept there layout e)

  -- and so do turns in a row
  quiet-full : (choices : List ℕ) (n : ℕ) (after rest : List ℕ) → HasGone program cells p choices n after → turns ≡ after ++ rest
      → is_there (run program choices) at ≡ true
      → (is_there (run program after) at ≡ true) × (((run program after).store at).full ≡ ((run program choices).store at).full)
  quiet-full _ _ _ rest (gone.none choices) split there = (there, refl)
  quiet-full _ _ _ rest (gone.more choices n after going plain) split there =
      let same = split ∙ append_assoc after (p ∷ []) rest in
      let before = quiet-full choices n after (p ∷ rest) going same there in
      (there-next program after p at before.0, quiet-turn after (p ∷ rest) same plain.unchanged before.0 ∙ before.1)

  -- its latest change stays
  quiet-latest : (choices : List ℕ) (n : ℕ) (after rest : List ℕ) → HasGone program cells p choices n after → turns ≡ after ++ rest
      → (apart : Bool) (entry : ℕ) (o : LatestChanges)
      → seen_along program (latest_after program at) (run program choices) (turns_in_row apart entry p n) o ≡ o
  quiet-latest _ _ _ rest (gone.none choices) split apart entry o = seen-none program (latest_after program at) (run program choices) o
  quiet-latest _ _ _ rest (gone.more choices n after going plain) split apart entry o =
      let same = split ∙ append_assoc after (p ∷ []) rest in
      let s = run program after in
      let number = number_after apart entry n in
      let change = change_by program number p s in
      let state = state-on program cells p choices n after going in
      seen-row-next program (latest_after program at) (run program choices) apart entry p n o
      ∙ (λ i. latest_after program at number p (sym state i) (quiet-latest choices n after (p ∷ rest) going same apart entry o i))
      ∙ ap (λ (t : State). if has_changed at s t then with_change change o else o) (sym (run-last program after p))
      ∙ ap (λ b. if b then with_change change o else o) (
      unchanged-so at s (run program (after ++ p ∷ [])) (λ there. quiet-turn after (p ∷ rest) same plain.unchanged there))

-- ---- watches

module _ (program : Units) (replay : Replay) where
  abbrev pub after_turns : List ℕ → TurnsMade
  after_turns made = record { program = program; cells = replay.cells; made = made }

  abbrev turns : List ℕ
  turns = processes replay.turns

  module _ (made : List ℕ) (left : List (ℕ × ℕ)) (m : CoreState) (h : IsUnderWay program replay made left m) where
    -- a watch's cell can be looked at
    pub kept-there : (w : Watch) (at : Location) → IsWatch program replay.cells turns w at → IsKeptOnceThere (after_turns made) w at
    kept-there w at a = record {
      owner = a.owner;
      kept = λ there. kept-then program replay.cells turns made (processes left) at w.cell h.turns h.laid a.kept there;
    }

    are-kept : (before : List ℕ) (ws : List Watch) (known : KnownChanges) → AreAlongReplay program replay before ws known
        → AreKeptOnceThere (after_turns made) ws
    are-kept before ws known along i w e = let a = along.each i w e in (a.0, kept-there w a.0 a.1.watch)

    pub can-look : (before : List ℕ) (ws : List Watch) (known : KnownChanges) → AreAlongReplay program replay before ws known → CanLook m ws
    can-look before ws known along = (after_turns made, h.after, are-kept before ws known along)

  -- ---- the next turn

  module _ (made : List ℕ) (entry p : ℕ) where
    abbrev after : List ℕ
    after = made ++ p ∷ []

    abbrev s : State
    s = run program made

    abbrev t : State
    t = run program after

    -- a watch that has looked after it
    looked-along : (known : KnownChanges) (w : Watch) (at : Location) (activations : ℕ) (change : Option Change)
        → activations ≡ length s.activations → change ≡ change_by program entry p s → IsAlong (after_turns made) turns known.1 w at
        → IsAlong (after_turns after) turns (changes_after program entry p s known).1 (looked t at activations change w) at
    looked-along known w at activations change counted change_is a = by (is_there t at) refl
      where
        full : Bool
        full = (t.store at).full

        noted-so : (b : Bool) → is_there s at ≡ b
            → (if b && not (same_logical w.full full) then with_change change w.latest else w.latest)
            ≡ (if b && not (same_logical (s.store at).full full) then with_change (change_by program entry p s) w.latest else w.latest)
        noted-so true e = λ i. if not (same_logical (a.full e i) full) then with_change (change_is i) w.latest else w.latest
        noted-so false e = refl

        seen : (noted full activations change w).latest ≡ latest_after program at entry p s w.latest
        seen =
            (λ i. if nat_le (sym a.watch.owner i) (counted i) && not (same_logical w.full full) then with_change change w.latest else w.latest)
            ∙ noted-so (is_there s at) refl
            ∙ ap (λ (u : State). if has_changed at s u then with_change (change_by program entry p s) w.latest else w.latest) (run-last program made p)

        unmade : (b : Bool) → is_there s at ≡ b → is_there t at ≡ false
            → w.latest
            ≡ (if b && not (same_logical (s.store at).full ((state_after_turn program p s).store at).full) then with_change (change_by program entry p s) w.latest else w.latest)
        unmade true e f = absurd (true≢false (sym (there-next program made p at e) ∙ f))
        unmade false e f = refl

        by : (b : Bool) → is_there t at ≡ b
            → IsAlong (after_turns after) turns (changes_after program entry p s known).1
            (if b then noted full activations change w else w) at
        by true e = record {
          watch = record { located = a.watch.located; owner = a.watch.owner; kept = a.watch.kept };
          full = λ h. refl;
          latest = seen ∙ ap (latest_after program at entry p s) a.latest;
        }
        by false e = record {
          watch = a.watch;
          full = λ h. absurd (true≢false (sym h ∙ e));
          latest = unmade (is_there s at) refl e ∙ ap (latest_after program at entry p s) a.latest;
        }

    -- all of them
    pub along-turn : (left : List (ℕ × ℕ)) (m : CoreState) → IsUnderWay program replay after left m
        → (ws now : List Watch) (known : KnownChanges) (next : ChangeAhead) → AreAlongReplay program replay made ws known
        → IsChangeAhead program made entry p next → Looks m next.activations (Some next.change) ws now
        → AreAlongReplay program replay after now (changes_after program entry p s known)
    along-turn left m h ws now known next along ahead looks =
        record { same = same-both known.0 ws now along.same all.same; each = each }
      where
        all : HaveLooked (after_turns after) next.activations (Some next.change) ws now
        all = looks (after_turns after) h.after (are-kept after left m h made ws known along)

        each : (i : ℕ) (w : Watch) → slice_get now i ≡ Some w
            → (at : Location) × IsAlong (after_turns after) turns (changes_after program entry p s known).1 w at
        each i w e =
            let v = same-there ws now i w all.same e in
            let a = along.each i v.0 v.1 in
            let is : looked t a.0 next.activations (Some next.change) v.0 ≡ w =
            same_Some _ w (sym (all.each i v.0 a.0 v.1 (kept-there after left m h v.0 a.0 a.1.watch)) ∙ e) in (
              a.0,
              subst (λ (x : Watch). IsAlong (after_turns after) turns (changes_after program entry p s known).1 x a.0) is (
                  looked-along known v.0 a.0 next.activations (Some next.change) ahead.activations (sym ahead.change) a.1),
            )

  -- ---- turns in a row that fill and empty nothing

  module _ (made : List ℕ) (row : TurnRow) (left : List (ℕ × ℕ)) (old new : CoreState) (n : ℕ) (few : n ≤ row.count)
      (h : IsUnderWay program replay made (row_turns row ++ left) old) (moves : MakesMoves program row.process old n new) where
    abbrev behind : List ℕ
    behind = made ++ replicate n row.process

    abbrev rest : List (ℕ × ℕ)
    rest = left_of_row row left n

    abbrev first : State
    first = run program made

    abbrev last : State
    last = run program behind

    abbrev known_then : KnownChanges → KnownChanges
    known_then known = seen_along program (changes_after program) first (turns_in_row row.apart row.entry row.process n) known

    under-way : IsUnderWay program replay behind rest new
    under-way = row-under-way row left program replay made old new n few h moves

    going : HasGone program replay.cells row.process made n behind
    going =
        let there = moves replay.cells made h.after in
        subst (HasGone program replay.cells row.process made n) (turns-are program replay.cells row.process made n there.0 there.1) there.1

    pub can-look-then : (ws : List Watch) (known : KnownChanges) → AreAlongReplay program replay made ws known → CanLook new ws
    can-look-then ws known along = can-look behind rest new under-way made ws known along

    module _ (known : KnownChanges) (w : Watch) (at : Location) (a : IsAlong (after_turns made) turns known.1 w at) where
      latest-then : w.latest ≡ (known_then known).1 at
      latest-then =
          a.latest
          ∙ sym (
          changes-at program at first (turns_in_row row.apart row.entry row.process n) known
          ∙ quiet-latest program replay.cells turns h.laid at w.cell a.watch.kept row.process made n behind (processes rest)
          going under-way.turns row.apart row.entry (known.1 at))

      as-full : is_there first at ≡ true → (last.store at).full ≡ (first.store at).full
      as-full there =
          (quiet-full program replay.cells turns h.laid at w.cell a.watch.kept row.process made n behind (processes rest)
          going under-way.turns there).1

      -- a watch that has looked after them
      looked-quiet : (activations : ℕ) → activations ≡ length first.activations
          → IsAlong (after_turns behind) turns (known_then known).1 (looked last at activations None w) at
      looked-quiet activations counted = by (is_there last at) refl
        where
          full : Bool
          full = (last.store at).full

          seen : (b : Bool) → is_there first at ≡ b → (if b && not (same_logical w.full full) then with_change None w.latest else w.latest) ≡ w.latest
          seen true e =
              ap (λ f. if not (same_logical f full) then with_change None w.latest else w.latest) (a.full e ∙ sym (as-full e))
              ∙ ap (λ b. if not b then with_change None w.latest else w.latest) (same_logical-self full)
          seen false e = refl

          same : (noted full activations None w).latest ≡ w.latest
          same =
              (λ i. if nat_le (sym a.watch.owner i) (counted i) && not (same_logical w.full full) then with_change None w.latest else w.latest)
              ∙ seen (is_there first at) refl

          by : (b : Bool) → is_there last at ≡ b
              → IsAlong (after_turns behind) turns (known_then known).1 (if b then noted full activations None w else w) at
          by true e = record {
            watch = record { located = a.watch.located; owner = a.watch.owner; kept = a.watch.kept };
            full = λ k. refl;
            latest = same ∙ latest-then;
          }
          by false e = record { watch = a.watch; full = λ k. absurd (true≢false (sym k ∙ e)); latest = latest-then }

      -- and one that hasn't, where no activation was made
      unlooked-quiet : length last.activations ≤ length first.activations → IsAlong (after_turns behind) turns (known_then known).1 w at
      unlooked-quiet none = record {
        watch = a.watch;
        full = λ there. let before = there-back first last at none there in a.full before ∙ sym (as-full before);
        latest = latest-then;
      }

    -- all of them
    pub along-row : (activations : ℕ) → activations ≡ old.activations → (ws now : List Watch) (known : KnownChanges)
        → AreAlongReplay program replay made ws known
        → Looks new activations None ws now ⊎ ((new.activations ≤ activations) × (now ≡ ws))
        → AreAlongReplay program replay behind now (known_then known)
    along-row activations counted ws now known along (inl looks) =
        record {
          same = subst (λ vs. WaitTheSame vs now) (sym (first-kept program first (turns_in_row row.apart row.entry row.process n) known)) (
              same-both known.0 ws now along.same all.same);
          each = each;
        }
      where
        all : HaveLooked (after_turns behind) activations None ws now
        all = looks (after_turns behind) under-way.after (are-kept behind rest new under-way made ws known along)

        each : (i : ℕ) (w : Watch) → slice_get now i ≡ Some w
            → (at : Location) × IsAlong (after_turns behind) turns (known_then known).1 w at
        each i w e =
            let v = same-there ws now i w all.same e in
            let a = along.each i v.0 v.1 in
            let is : looked last a.0 activations None v.0 ≡ w =
            same_Some _ w (sym (all.each i v.0 a.0 v.1 (kept-there behind rest new under-way v.0 a.0 a.1.watch)) ∙ e) in (
              a.0,
              subst (λ (x : Watch). IsAlong (after_turns behind) turns (known_then known).1 x a.0) is (
                  looked-quiet known v.0 a.0 a.1 activations (counted ∙ h.after.after.shows.activations)),
            )
    along-row activations counted ws now known along (inr (none, same)) =
        record {
          same = subst (λ vs. WaitTheSame vs now) (sym (first-kept program first (turns_in_row row.apart row.entry row.process n) known)) (
              λ i. ap (λ vs. option_map (λ (w : Watch). w.listed) (slice_get vs i)) same ∙ along.same i);
          each = each;
        }
      where
        fewer : length last.activations ≤ length first.activations
        fewer = omega (arith, none, counted, h.after.after.shows.activations, under-way.after.after.shows.activations)

        each : (i : ℕ) (w : Watch) → slice_get now i ≡ Some w
            → (at : Location) × IsAlong (after_turns behind) turns (known_then known).1 w at
        each i w e =
            let a = along.each i w (ap (λ vs. slice_get vs i) (sym same) ∙ e) in
            (a.0, unlooked-quiet known w a.0 a.1 fewer)
