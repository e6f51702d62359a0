use Rattle.std.proofs.Common.{◌∙◌, None, Some, refl, subst, sym}
use Rattle.hep_machine.specs.Words.{Top, schedule_of}
use Rattle.hep_trace.specs.FreedFrames.{top_in}
use Rattle.hep_event.specs.Traces.{is_accessed}
use Rattle.hep_trace.specs.Observations.{IsShownBy, name_sought}
use Rattle.hep_trace.proofs.ObservedProcesses.{top-same}
use Rattle.hep_trace.proofs.observing.look_ahead.Goals as goal

pub is_shown-requires : goal.is_shown-requires
is_shown-requires c =
    let core = c.args.core.now.core in
    (core.cells, schedule_of core.history, c.requires.ahead.0, c.requires.ahead.1.ahead_is)

pub returns-then-not-is_shown : goal.returns-then-not-is_shown
returns-then-not-is_shown c top h =
    let core = c.args.core.now.core in
    let ahead = c.args.ahead.now in
    let same = top-same core ahead top h in
    let shown = c.is_shown.ensures core.cells (schedule_of core.history) top h.ahead_is in
    let is = sym (λ i. is_accessed (h.program i) (name_sought c.args.cell) (same i)) ∙ sym shown ∙ c.if-not-is_shown.true in
    subst (IsShownBy core (top_in core ahead.process top) None) (sym is) refl

pub returns : goal.returns
returns c top h =
    let core = c.args.core.now.core in
    let ahead = c.args.ahead.now in
    let same = top-same core ahead top h in
    let t : Top = top_in core ahead.process top in
    let shown = c.is_shown.ensures core.cells (schedule_of core.history) top h.ahead_is in
    let is = sym (λ i. is_accessed (h.program i) (name_sought c.args.cell) (same i)) ∙ sym shown ∙ c.if-not-is_shown.false in
    let b = c.in_ok-before.before in
    subst (IsShownBy core t (Some b)) (sym is) (b, refl, c.in_ok-before.ensures top h)
