use Rattle.std.proofs.Common.{◌≡◌, ◌≤◌, ◌-◌, ◌+◌, ◌++◌, ◌∙◌, ℕ, Bool, false, Ok, List, ap, append-nil, arith, length, replicate, subst, sym}
use Rattle.hep_core.specs.CoreValues.{CoreValue, state_of}
use Rattle.hep_why.specs.Progress.{TurnMade, longer}
use Rattle.hep_why.specs.Replays.{most_entries, standing}
use Rattle.hep_replay.proofs.ReplayTurns.{one, steps_end, steps_more}
use Rattle.hep_machine.specs.declared.event.Entry.{Entry}
use Rattle.hep_machine.specs.Words.{AreSteps, Units}
use Rattle.hep_event.specs.Traces.{steps_text}
use Rattle.hep_trace.specs.TraceProgress.{progress_of, shown_lines}
use Rattle.hep_trace.specs.LineFilters.{shown_on}
use Rattle.hep_trace.proofs.TracedTurns.{all-left, count-left, shown-end, shown-on, still-replaying}
use Rattle.hep_trace.specs.LineMakers.{CanTell}
use Rattle.hep_trace.proofs.trace_lines.tell_steps.Goals as goal

pub loop-init : goal.loop-init
loop-init c =
    let core = c.args.core.now.core in
    let line = c.args.line in
    record {
      within = omega (arith, c.requires.replaying.within);
      there = tt;
      made = c.requires.replaying.standing ∙ ap (λ (es : List Entry). standing core.program core.cells es) (sym (append-nil core.history));
      told = ap (λ (n : ℕ). c.args.text.now.items ++ shown_lines line.shown (steps_text core.program (shown_on c.args.teller.now.page.now).cell line.number line.process (progress_of core) n)) (sym (all-left c.args.steps));
    }

pub tell_shown-requires-clause-teller : goal.tell_shown-requires-clause-teller
tell_shown-requires-clause-teller c =
    subst (λ (u : Units). CanTell u c.args.teller.now) (sym (ap (λ (x : CoreValue). x.program) c.loop.invariant.made)) c.requires.teller

pub tell_shown-requires-clause-replaying : goal.tell_shown-requires-clause-replaying
tell_shown-requires-clause-replaying c =
    still-replaying c.args.core.now.core c.loop.core.core c.args.line.process c.loop.counter c.requires.replaying c.loop.invariant.within c.loop.invariant.made

pub returns-then-not-branch-clause-made : goal.returns-then-not-branch-clause-made
returns-then-not-branch-clause-made c =
    steps_end c.args.core.now.core c.loop.core.core c.tell_shown.new.core.core c.args.line.process c.loop.counter c.args.steps c.loop-test.true c.loop.invariant.made (
    subst (λ (b : Bool). TurnMade c.loop.core.core c.args.line.process false (Ok b) c.tell_shown.new.core.core) c.if-not-branch.true c.in_ok-tell_shown.ensures.made)

pub loop-preserved : goal.loop-preserved
loop-preserved c =
    let i = c.loop.counter in
    let n = c.args.steps in
    let line = c.args.line in
    let core = c.loop.core.core in
    let new = c.tell_shown.new.core.core in
    let cell = (shown_on c.args.teller.now.page.now).cell in
    let turn = subst (λ (b : Bool). TurnMade core line.process false (Ok b) new) c.if-not-branch.false c.in_ok-tell_shown.ensures.made in
    let more = steps_more c.args.core.now.core core new line.process i c.loop.invariant.there c.loop.invariant.made turn in
    record {
      within = more.0;
      there = more.1;
      made = more.2;
      told = shown-on line.shown cell line.number line.process (n - (i + 1)) core new c.loop.text.items c.tell_shown.new.text.items _ turn.2 (c.in_ok-tell_shown.ensures.told c.if-not-branch.false) (
          ap (λ (k : ℕ). c.loop.text.items ++ shown_lines line.shown (steps_text core.program cell line.number line.process (progress_of core) k)) (sym (count-left n i c.loop-test.true))
          ∙ c.loop.invariant.told);
    }

pub returns-clause-made : goal.returns-clause-made
returns-clause-made c =
    let all : c.loop.counter ≡ c.args.steps = omega arith in
    let P : ℕ → Type 0 = λ n. (length c.args.core.now.core.history + n ≤ most_entries) × AreSteps c.args.core.now.core.program (state_of c.args.core.now.core) (replicate n c.args.line.process) × (c.loop.core.core ≡ longer c.args.core.now.core (replicate n (one c.args.line.process))) in
    subst P all (c.loop.invariant.within, c.loop.invariant.there, c.loop.invariant.made)

pub returns-clause-told : goal.returns-clause-told
returns-clause-told c is =
    shown-end c.args.line.shown (shown_on c.args.teller.now.page.now).cell c.args.line.number c.args.line.process (c.args.steps - c.loop.counter) c.loop.core.core c.loop.text.items _
    (omega (arith, c.loop-test.false)) c.loop.invariant.told
