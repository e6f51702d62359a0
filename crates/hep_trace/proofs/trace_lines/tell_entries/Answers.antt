use Rattle.std.proofs.Common.{◌≡◌, ◌∙◌, ◌+◌, ◌-◌, ◌++◌, ◌<◌, ◌≤◌, ◌∷◌, ℕ, List, [], ap, arith, drop, length, max, min, refl, subst, sym, take}
use Rattle.std.proofs.lemmas.List.{length-drop, nil_from_length}
use Rattle.hep_core.specs.CoreValues.{CoreValue}
use Rattle.hep_history.specs.declared.run.Run.{Run}
use Rattle.hep_history.specs.Runs.{entries_of, entry_of}
use Rattle.hep_replay.specs.HistoryPrefix.{first_of}
use Rattle.hep_why.specs.Progress.{AreMade, IsCutShort}
use Rattle.hep_why.specs.Replays.{ArePossible, IsFirstImpossible}
use Rattle.hep_replay.proofs.HistoryPrefixes.{front-short}
use Rattle.hep_replay.proofs.InRuns.{none_past, run_after}
use Rattle.hep_replay.proofs.ReplayTurns.{run_cut, run_whole}
use Rattle.hep_machine.specs.declared.event.Entry.{Entry}
use Rattle.hep_machine.specs.Words.{Units, progress_after}
use Rattle.hep_event.specs.Traces.{trace_from}
use Rattle.hep_trace.specs.TraceProgress.{HasMade}
use Rattle.hep_trace.specs.LineFilters.{shown_on}
use Rattle.hep_trace.proofs.EntriesLeft.{of-same, replaying, trace-end}
use Rattle.hep_trace.proofs.EqualEntries.{AreAlike, alike-of, cells-made, cut-impossible, made-run, program-made, trace-run}
use Rattle.hep_trace.proofs.trace_lines.tell_entries.Goals.{In-Some}
use Rattle.hep_trace.specs.LineMakers.{CanTell}
use Rattle.hep_trace.proofs.trace_lines.tell_entries.Goals as goal

pub loop-at-init : goal.loop-at-init
loop-at-init c =
    let made = c.args.made in
    let first : made ≡ max 0 made = omega arith in
    let entries = first_of c.args.entries.now in
    let program = c.args.core.now.core.program in
    record {
      same = refl;
      arena = refl;
      made = subst (HasMade c.args.core.now.core entries) first c.requires.made;
      place = λ less. sym c.runs-runs.ensures.entries;
      within = omega arith;
      told = ap (λ m. c.args.text.now.items ++ trace_from program (shown_on c.args.teller.now.page.now) (m + 1) (progress_after program (take m entries)) (drop m entries)) (sym first);
    }

pub unreachable-requires : goal.unreachable-requires
unreachable-requires c =
    let all = c.args.entries.now.history.now.items in
    none_past all c.loop-at.at c.loop-at.runs (c.loop-at.invariant.place c.loop-at-test.true) c.in_default.ensures.steps.0
    (omega (arith, c.loop-at-test.true, c.len-count.ensures.count, front-short c.args.entries.now.count all))

-- the runs that are left
next-place : (c : In-Some) → drop c.loop-at.at c.args.entries.now.history.now.items ≡ entries_of (c.in-Some.run' ∷ c.next.new.self)
next-place c = c.loop-at.invariant.place c.loop-at-test.true ∙ ap (λ (rs : List Run). entries_of rs) c.in-Some.ensures.steps

-- where the next entries stand
next-alike : (c : In-Some) (from end : ℕ) → from ≡ max c.args.made c.loop-at.at → end ≡ min c.len-count.result (c.loop-at.at + c.in-Some.run'.count)
    → AreAlike (first_of c.args.entries.now) (entry_of c.in-Some.run') from (end - from)
next-alike c from end first last =
    let entries = c.args.entries.now in
    alike-of entries.history.now.items entries.count c.loop-at.at from end c.in-Some.run' c.next.new.self (next-place c) (omega (arith, first)) (omega (arith, last)) (
    omega (arith, last, c.len-count.ensures.count))

-- those before them were made
next-made : (c : In-Some) (from : ℕ) → from ≡ max c.args.made c.loop-at.at → HasMade c.loop-at.core.core (first_of c.args.entries.now) from
next-made c from first =
    let at : max c.loop-at.at c.args.made ≡ from = omega (arith, first) in
    subst (HasMade c.loop-at.core.core (first_of c.args.entries.now)) at c.loop-at.invariant.made

pub tell_run-requires-clause-teller : goal.tell_run-requires-clause-teller
tell_run-requires-clause-teller c = subst (λ (u : Units). CanTell u c.args.teller.now) (sym c.loop-at.invariant.same) c.requires.teller

pub tell_run-requires-clause-replaying : goal.tell_run-requires-clause-replaying
tell_run-requires-clause-replaying c =
    replaying c.loop-at.core.core (first_of c.args.entries.now) (max c.loop-at.at c.args.made) c.loop-at.invariant.made

pub tell_run-requires-clause-few : goal.tell_run-requires-clause-few
tell_run-requires-clause-few c = omega (arith, c.min-end.ensures, c.max-from.ensures, c.if-from-end.true, c.len-count.ensures.few)

pub returns-then-more-left-clause-few : goal.returns-then-more-left-clause-few
returns-then-more-left-clause-few c = omega (arith, c.if-more-left.true, c.min-end.ensures, c.if-from-end.true, c.len-count.ensures.count)

-- where they were cut short
next-cut : (c : In-Some) (from end more : ℕ) (new : CoreValue) → from ≡ max c.args.made c.loop-at.at → end ≡ min c.len-count.result (c.loop-at.at + c.in-Some.run'.count)
    → IsCutShort c.loop-at.core.core (entry_of c.in-Some.run') (end - from) more new
    → ArePossible c.args.core.now.core.program c.args.core.now.core.cells (first_of c.args.entries.now) (from + more)
    × IsFirstImpossible c.args.core.now.core.program c.args.core.now.core.cells (first_of c.args.entries.now) (from + more + 1)
next-cut c from end more new first last cut =
    let entries = first_of c.args.entries.now in
    let core = c.loop-at.core.core in
    of-same (λ program cells. ArePossible program cells entries (from + more) × IsFirstImpossible program cells entries (from + more + 1)) core.program c.args.core.now.core.program
    core.cells c.args.core.now.core.cells c.loop-at.invariant.same c.loop-at.invariant.arena (
    cut-impossible entries (entry_of c.in-Some.run') from (end - from) more core new (next-alike c from end first last) (next-made c from first) cut)

pub returns-then-more-left-clause-possible : goal.returns-then-more-left-clause-possible
returns-then-more-left-clause-possible c =
    let here = (goal.at.returns-then-more-left-clause-possible c).In-Some in
    let from = c.max-from.result in
    let end = c.min-end.result in
    let more = c.in_ok-more.more in
    let new = c.tell_run.new.core.core in
    (next-cut here from end more new (omega (arith, c.max-from.ensures)) (omega (arith, c.min-end.ensures)) (
    run_cut c.loop-at.core.core (entry_of c.in-Some.run') (end - from) more new c.in_ok-more.ensures.made c.if-more-left.true)).0

pub returns-then-more-left-clause-refused : goal.returns-then-more-left-clause-refused
returns-then-more-left-clause-refused c less =
    let here = (goal.at.returns-then-more-left-clause-refused c).In-Some in
    let from = c.max-from.result in
    let end = c.min-end.result in
    let more = c.in_ok-more.more in
    let new = c.tell_run.new.core.core in
    (next-cut here from end more new (omega (arith, c.max-from.ensures)) (omega (arith, c.min-end.ensures)) (
    run_cut c.loop-at.core.core (entry_of c.in-Some.run') (end - from) more new c.in_ok-more.ensures.made c.if-more-left.true)).1

pub returns-then-more-left-clause-told : goal.returns-then-more-left-clause-told
returns-then-more-left-clause-told c all = absurd (omega (arith, all, c.if-more-left.true, c.min-end.ensures, c.if-from-end.true, c.len-count.ensures.count))

-- what is left behind the run, where some are
next-behind : (c : In-Some) (end : ℕ) → end ≡ min c.len-count.result (c.loop-at.at + c.in-Some.run'.count) → end < c.len-count.result
    → drop end c.args.entries.now.history.now.items ≡ entries_of c.next.new.self
next-behind c end last less =
    let all = c.args.entries.now.history.now.items in
    let at : c.loop-at.at + c.in-Some.run'.count ≡ end = omega (arith, last, less) in
    subst (λ k. drop k all ≡ entries_of c.next.new.self) at (run_after all c.loop-at.at c.in-Some.run' c.next.new.self (next-place c))

pub loop-at-preserved-else-more-left : goal.loop-at-preserved-else-more-left
loop-at-preserved-else-more-left c =
    let here = (goal.at.loop-at-preserved-else-more-left c).In-Some in
    let program = c.args.core.now.core.program in
    let shown = shown_on c.args.teller.now.page.now in
    let entries = first_of c.args.entries.now in
    let e = entry_of c.in-Some.run' in
    let from = c.max-from.result in
    let end = c.min-end.result in
    let k : ℕ = end - from in
    let core = c.loop-at.core.core in
    let new = c.tell_run.new.core.core in
    let more = c.in_ok-more.more in
    let first : from ≡ max c.args.made c.loop-at.at = omega (arith, c.max-from.ensures) in
    let last : end ≡ min c.len-count.result (c.loop-at.at + c.in-Some.run'.count) = omega (arith, c.min-end.ensures) in
    let alike = next-alike here from end first last in
    let has = next-made here from first in
    let whole = run_whole core e k more new c.in_ok-more.ensures.made c.if-more-left.false in
    let made : AreMade e core k new = subst (λ n. AreMade e core n new) whole.0 whole.1 in
    let there : from + k ≡ max end c.args.made = omega (arith, first, c.if-from-end.true) in
    let at : max c.loop-at.at c.args.made ≡ from = omega (arith, first) in
    let text : ℕ → List ℕ → List ℕ = λ n xs. xs ++ trace_from program shown (n + 1) (progress_after program (take n entries)) (drop n entries) in
    let all : List ℕ = text c.args.made c.args.text.now.items in
    record {
      same = program-made e core k new made ∙ c.loop-at.invariant.same;
      arena = cells-made e core k new made ∙ c.loop-at.invariant.arena;
      made = subst (HasMade new entries) there (
          made-run entries e from k core new alike has made c.headline.ensures.legal.room (omega (arith, last, c.if-from-end.true, c.len-count.ensures.count)));
      place = next-behind here end last;
      within = omega (arith, last);
      told = subst (λ n. text n c.tell_run.new.text.items ≡ all) there (
          trace-run entries e program shown core from k alike c.loop-at.text.items c.tell_run.new.text.items all c.loop-at.invariant.same has (c.in_ok-more.ensures.told whole.0) (
          subst (λ n. text n c.loop-at.text.items ≡ all) at c.loop-at.invariant.told));
    }

-- those of a run that were made already are made no more
pub loop-at-preserved : goal.loop-at-preserved
loop-at-preserved c =
    let here = (goal.at.loop-at-preserved c).In-Some in
    let program = c.args.core.now.core.program in
    let entries = first_of c.args.entries.now in
    let end = c.min-end.result in
    let last : end ≡ min c.len-count.result (c.loop-at.at + c.in-Some.run'.count) = omega (arith, c.min-end.ensures) in
    let same : max c.loop-at.at c.args.made ≡ max end c.args.made = omega (arith, last, c.max-from.ensures, c.if-from-end.false, c.loop-at-test.true) in
    record {
      same = c.loop-at.invariant.same;
      arena = c.loop-at.invariant.arena;
      made = subst (HasMade c.loop-at.core.core entries) same c.loop-at.invariant.made;
      place = next-behind here end last;
      within = omega (arith, last);
      told = ap (λ n. c.loop-at.text.items ++ trace_from program (shown_on c.args.teller.now.page.now) (n + 1) (progress_after program (take n entries)) (drop n entries)) (sym same)
          ∙ c.loop-at.invariant.told;
    }

-- at the end all were made
all-made : (entries : List Entry) (core : CoreValue) (at made count : ℕ) → count ≡ length entries → at ≤ count → count ≤ at → HasMade core entries (max at made) → max at made ≡ count
all-made entries core at made count all within past has = omega (arith, all, within, past, has.few)

none-left : (k : ℕ) (entries : List Entry) → length entries ≤ k → drop k entries ≡ []
none-left k entries all = nil_from_length (drop k entries) (omega (arith, length-drop k entries, all))

pub returns-clause-possible : goal.returns-clause-possible
returns-clause-possible c =
    let entries = first_of c.args.entries.now in
    let core = c.loop-at.core.core in
    let inv = c.loop-at.invariant in
    let all = all-made entries core c.loop-at.at c.args.made c.len-count.result c.len-count.ensures.count inv.within c.loop-at-test.false inv.made in
    subst (λ n. ArePossible c.args.core.now.core.program c.args.core.now.core.cells entries n) all (
    of-same (λ program cells. ArePossible program cells entries (max c.loop-at.at c.args.made)) core.program c.args.core.now.core.program core.cells c.args.core.now.core.cells
    inv.same inv.arena inv.made.possible)

pub returns-clause-told : goal.returns-clause-told
returns-clause-told c all =
    let program = c.args.core.now.core.program in
    let entries = first_of c.args.entries.now in
    let k : ℕ = max c.loop-at.at c.args.made in
    trace-end program (shown_on c.args.teller.now.page.now) (k + 1) (progress_after program (take k entries)) (drop k entries) c.loop-at.text.items _
    (none-left k entries (omega (arith, c.loop-at-test.false, c.len-count.ensures.count))) c.loop-at.invariant.told
