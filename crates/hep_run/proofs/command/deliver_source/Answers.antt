use Rattle.std.proofs.Common.{inl}
use Rattle.std.proofs.KnownBytes.{Keeps-refl}
use Rattle.hep_run.specs.Outcome.{IsCommandOutcome}
use Rattle.hep_run.proofs.Fronts.{read_left, same_outcome}
use Rattle.hep_run.proofs.LargeSources.{large-source}
use Rattle.hep_run.proofs.command.deliver_source.Goals as goal

pub returns-in-Ok-clause-left : goal.returns-in-Ok-clause-left
returns-in-Ok-clause-left g c =
    let front = g.C.Front.Front in
    let gives = g.C.Command.gives c.args.asked.now.options.now in
    let long = c.args.asked.now.long in
    read_left (IsCommandOutcome front.is_refused front.holds gives long) (same_outcome long front.is_refused front.holds (gives long)) _ _
    c.in-Ok.bytes.items _ c.deliver_bytes.result _ _ _ _
    c.deref.ensures.value c.in-Ok.ensures.first c.in-Ok.ensures.all c.deliver_bytes.ensures.left

pub returns-in-Err-clause-left : goal.returns-in-Err-clause-left
returns-in-Err-clause-left g c = inl (Keeps-refl _, c.new.ensures.items, (c.in-Err.ensures.lost, _, c.say_unread.ensures))

pub returns-in-Ok-clause-large : goal.returns-in-Ok-clause-large
returns-in-Ok-clause-large g c =
    large-source c.args.asked.now.long _ _ c.in-Ok.bytes.items _ c.deliver_bytes.result _ _ _ _
    c.deref.ensures.value c.in-Ok.ensures.first c.in-Ok.ensures.all c.deliver_bytes.ensures.large

pub returns-in-Err-clause-large : goal.returns-in-Err-clause-large
returns-in-Err-clause-large g c = λ short large. inl (Keeps-refl _, (c.in-Err.ensures.lost, _, c.say_unread.ensures))
