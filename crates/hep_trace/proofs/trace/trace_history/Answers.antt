use Rattle.std.proofs.Common.{◌≡◌, ◌∙◌, ◌+◌, ◌++◌, arith, drop, length, refl, subst, sym, take}
use Rattle.hep_replay.specs.HistoryPrefix.{first_of}
use Rattle.hep_why.specs.Replays.{ArePossible, IsFirstImpossible}
use Rattle.hep_machine.specs.Words.{Units, progress_after}
use Rattle.hep_event.specs.Variables.{AreVariablesOf}
use Rattle.hep_event.specs.Traces.{trace_from}
use Rattle.hep_trace.specs.LineFilters.{shown_on}
use Rattle.hep_trace.specs.LineMakers.{AreWatchesFor}
use Rattle.hep_trace.proofs.EntriesLeft.{of-same, trace-skipped}
use Rattle.hep_trace.proofs.trace.trace_history.Goals as goal

pub begin_after-requires-clause-within : goal.begin_after-requires-clause-within
begin_after-requires-clause-within c = omega (arith, c.min-made.ensures, c.len.ensures.count)

pub watches_for-requires : goal.watches_for-requires
watches_for-requires c = subst (λ (u : Units). AreVariablesOf u c.in-Ok.variables) (c.image.ensures ∙ sym c.image-2.ensures) c.in-Ok.ensures

pub tell_entries-requires-clause-teller : goal.tell_entries-requires-clause-teller
tell_entries-requires-clause-teller c =
    let watches = c.in-Ok-watches_for.watches.items in
    let cell = (shown_on c.args.page.now).cell in
    record {
      variables = subst (λ (u : Units). AreVariablesOf u c.in-Ok.variables) c.image.ensures c.in-Ok.ensures;
      watches = subst (AreWatchesFor c.in_ok-core.core.core.program cell) (sym c.deref.ensures.value) (subst (λ (u : Units). AreWatchesFor u cell watches) c.image-2.ensures c.in-Ok-watches_for.ensures);
    }

pub returns-then-all-len-clause-unmade : goal.returns-then-all-len-clause-unmade
returns-then-all-len-clause-unmade c =
    let core = c.in_ok-core.core.core in
    let entries = first_of c.args.entries.now in
    let all = c.in-Ok-tell_entries.all in
    let same = c.in_ok-core.ensures.same in (
      c.in_ok-core.ensures.fits,
      refl,
      of-same (λ program cells. IsFirstImpossible program cells entries (all + 1)) core.program c.args.image core.cells c.args.cells same.0 same.1 (
          c.in-Ok-tell_entries.ensures.refused (omega (arith, c.if-all-len.true, c.len-2.ensures.count))),
    )

pub returns-clause-possible : goal.returns-clause-possible
returns-clause-possible c =
    let core = c.in_ok-core.core.core in
    let entries = first_of c.args.entries.now in
    let same = c.in_ok-core.ensures.same in
    let all : c.in-Ok-tell_entries.all ≡ length entries = omega (arith, c.if-all-len.false, c.len-2.ensures.count, c.in-Ok-tell_entries.ensures.few) in
    of-same (λ program cells. ArePossible program cells entries (length entries)) core.program c.args.image core.cells c.args.cells same.0 same.1 (
    subst (λ n. ArePossible core.program core.cells entries n) all c.in-Ok-tell_entries.ensures.possible)

pub returns-clause-told : goal.returns-clause-told
returns-clause-told c =
    let program = c.args.image in
    let entries = first_of c.args.entries.now in
    let shown = shown_on c.args.page.now in
    let k = c.min-made.result in
    let same = c.in_ok-core.ensures.same.0 in
    let all : c.in-Ok-tell_entries.all ≡ length entries = omega (arith, c.if-all-len.false, c.len-2.ensures.count, c.in-Ok-tell_entries.ensures.few) in
    c.in-Ok-tell_entries.ensures.told all
    ∙ (λ i. c.new-text.ensures.items i ++ trace_from (same i) shown (k + 1) (progress_after (same i) (take k entries)) (drop k entries))
    ∙ trace-skipped program shown k entries (omega (arith, c.min-made.ensures, c.saturating_sub.ensures)) (omega (arith, c.min-made.ensures, c.len.ensures.count))
