use Rattle.std.proofs.Common.{◌∙◌, nat_le, sym, ap}
use Rattle.std.proofs.lemmas.Option.{none-some, same_Some}
use Rattle.hep_core.proofs.Histories.{state-is}
use Rattle.hep_machine.specs.Words.{State, living, schedule_of}
use Rattle.hep_trace.specs.Ancestry.{activation_on}
use Rattle.hep_trace.proofs.freed_frames.goes_on.Goals as goal

pub top_activation-requires : goal.top_activation-requires
top_activation-requires c = let core = c.args.core.now.core in (core.program, core.cells, schedule_of core.history, c.machine.ensures.after)

pub returns-in-Some : goal.returns-in-Some
returns-in-Some c a e =
    let core = c.args.core.now.core in
    let first = same_Some c.in-Some.first.now a (c.in-Some.ensures.value ∙ e) in
    let top = c.top_activation.ensures core.program core.cells (schedule_of core.history) c.machine.ensures.after
    ∙ ap (λ (s : State). activation_on (living s c.args.p)) (sym (state-is core.program core.history)) in
    λ i. nat_le (first i) (top i)

pub returns-in-None : goal.returns-in-None
returns-in-None c a e = absurd (none-some a (c.in-None.ensures.value ∙ e))
