use Rattle.std.proofs.Common.{rules, ◌≡◌, ◌+◌, ◌-◌, ◌<◌, ◌≤◌, ◌∙◌, ◌∷◌, [], ℕ, List, Ok, Some, length, min, drop, take, sym, subst, arith, ap, refl, slice_get}
use Rattle.hep_machine.specs.declared.event.Entry.{Entry}
use Rattle.hep_machine.specs.Words.{schedule_of}
use Rattle.hep_core.specs.CoreValues.{CoreValue}
use Rattle.hep_history.specs.declared.run.Run.{Run}
use Rattle.hep_history.specs.Runs.{entries_of, entry_of}
use Rattle.hep_replay.specs.Progress.{IsStanding, RunMade}
use Rattle.hep_replay.specs.Replays.{ArePossible, replayed}
use Rattle.hep_replay.proofs.HistoryPrefixes.{front-all, front-impossible, front-possible, front-short}
use Rattle.hep_replay.proofs.InRuns.{none_past, run_after, run_here}
use Rattle.hep_replay.proofs.ReplayTurns.{expand_singles, replayed_few, run_cut, run_refused, run_replayed, run_whole}
use Rattle.hep_replay.proofs.history_replay.replay_first.Goals as goal

pub loop-at-init : goal.loop-at-init
loop-at-init c =
    record {
      so_far = record { made = search rules; within = omega arith; possible = λ j e lt at. absurd (omega (arith, lt)) };
      place = λ less. sym c.runs-runs.ensures.entries;
      within = omega arith;
      few = omega arith;
    }

pub unreachable-requires : goal.unreachable-requires
unreachable-requires c =
    let entries = c.args.entries.now.history.now.items in
    none_past entries c.loop-at.at c.loop-at.runs (c.loop-at.invariant.place c.loop-at-test.true) c.in_default.ensures.steps.0
    (omega (arith, c.loop-at-test.true, c.len-count.ensures.count, front-short c.args.entries.now.count entries))

pub make_run-requires-clause-standing : goal.make_run-requires-clause-standing
make_run-requires-clause-standing c = subst IsStanding (sym c.loop-at.invariant.so_far.made) refl

pub make_run-requires-clause-within : goal.make_run-requires-clause-within
make_run-requires-clause-within c = omega (arith, c.loop-at.invariant.so_far.within, ap (λ (x : CoreValue). length x.history) c.loop-at.invariant.so_far.made)

pub returns-then-made-some-clause-unmade : goal.returns-then-made-some-clause-unmade
returns-then-made-some-clause-unmade c =
    let entries = c.args.entries.now.history.now.items in
    let run : Run = c.in-Some.run' in
    let rest : List Run = c.next.new.self in
    let e : Entry = entry_of run in
    let at = c.loop-at.at in
    let made = c.in_ok-made.made in
    let some = c.min-some.result in
    let least : some ≡ min run.count (c.len-count.result - at) = search rules in
    let place : drop at entries ≡ entries_of (run ∷ rest) = c.loop-at.invariant.place c.loop-at-test.true ∙ ap (λ rs. entries_of rs) c.in-Some.ensures.steps in
    let came = subst (λ (x : Entry). RunMade c.loop-at.core.core x some (Ok made) c.make_run.new.core.core) c.entry.ensures c.in_ok-made.ensures.made in
    let cut = run_cut c.loop-at.core.core e some made c.make_run.new.core.core came c.if-made-some.true in
    let here : (k : ℕ) → k < some → slice_get entries (at + k) ≡ Some e = λ k lt. run_here entries at run rest place k (omega (arith, lt, least)) in
    let so_far = run_replayed c.args.image c.args.cells entries at e c.loop-at.core.core made cut.core (λ k lt. here k (omega (arith, lt, c.if-made-some.true))) c.loop-at.invariant.so_far cut.before cut.gaps in (
      c.in_ok-core.ensures.fits,
      refl,
      front-impossible c.args.image c.args.cells c.args.entries.now.count entries (at + c.from-then-made-some.result + 1) (at + made) e (omega (arith, c.from-then-made-some.ensures))
          (omega (arith, c.if-made-some.true, least, c.loop-at-test.true, c.len-count.ensures.count))
          (here made c.if-made-some.true) so_far.possible
          (run_refused c.args.image c.args.cells entries (at + made) e cut.core c.make_run.new.core.core so_far cut.refused),
    )

pub loop-at-preserved : goal.loop-at-preserved
loop-at-preserved c =
    let entries = c.args.entries.now.history.now.items in
    let run : Run = c.in-Some.run' in
    let rest : List Run = c.next.new.self in
    let e : Entry = entry_of run in
    let at = c.loop-at.at in
    let count = c.len-count.result in
    let made = c.in_ok-made.made in
    let some = c.min-some.result in
    let least : some ≡ min run.count (count - at) = search rules in
    let place : drop at entries ≡ entries_of (run ∷ rest) = c.loop-at.invariant.place c.loop-at-test.true ∙ ap (λ rs. entries_of rs) c.in-Some.ensures.steps in
    let came = subst (λ (x : Entry). RunMade c.loop-at.core.core x some (Ok made) c.make_run.new.core.core) c.entry.ensures c.in_ok-made.ensures.made in
    let all = run_whole c.loop-at.core.core e some made c.make_run.new.core.core came c.if-made-some.false in
    let here : (k : ℕ) → k < some → slice_get entries (at + k) ≡ Some e = λ k lt. run_here entries at run rest place k (omega (arith, lt, least)) in
    let within : at + made ≤ count = omega (arith, all.0, least, c.loop-at-test.true) in
    let short : count ≤ length entries = omega (arith, c.len-count.ensures.count, front-short c.args.entries.now.count entries) in
    let so_far = run_replayed c.args.image c.args.cells entries at e c.loop-at.core.core made c.make_run.new.core.core (λ k lt. here k (omega (arith, lt, all.0))) c.loop-at.invariant.so_far all.1 c.headline.ensures.legal.room in
    let few = replayed_few c.args.image c.args.cells entries (at + made) c.make_run.new.core.core so_far (omega (arith, within, short)) in
    rw c.from-at.ensures (record {
      so_far = so_far;
      place = λ less.
          let whole : run.count ≡ made = omega (arith, all.0, least, less) in
          subst (λ n. drop (at + n) entries ≡ entries_of rest) whole (run_after entries at run rest place);
      within = within;
      few = few;
    })

pub returns-clause-made : goal.returns-clause-made
returns-clause-made c =
    c.loop-at.invariant.so_far.made
    ∙ ap (replayed c.args.image c.args.cells) (front-all c.loop-at.at c.args.entries.now.count c.args.entries.now.history.now.items (omega (arith, c.loop-at.invariant.within, c.loop-at-test.false, c.len-count.ensures.count)))

pub returns-clause-expanded : goal.returns-clause-expanded
returns-clause-expanded c =
    let entries = c.args.entries.now.history.now.items in
    ap (λ (x : CoreValue). schedule_of x.history) c.loop-at.invariant.so_far.made
    ∙ expand_singles (take c.loop-at.at entries)
    ∙ ap schedule_of (front-all c.loop-at.at c.args.entries.now.count entries (omega (arith, c.loop-at.invariant.within, c.loop-at-test.false, c.len-count.ensures.count)))

pub returns-clause-possible : goal.returns-clause-possible
returns-clause-possible c =
    let entries = c.args.entries.now.history.now.items in
    let n = c.args.entries.now.count in
    let all : c.loop-at.at ≡ length (take n entries) = omega (arith, c.loop-at.invariant.within, c.loop-at-test.false, c.len-count.ensures.count) in
    front-possible c.args.image c.args.cells n entries (length (take n entries)) (omega arith)
    (subst (λ m. ArePossible c.args.image c.args.cells entries m) all c.loop-at.invariant.so_far.possible)
