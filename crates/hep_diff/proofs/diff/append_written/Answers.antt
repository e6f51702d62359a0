use Rattle.std.proofs.Common.{◌∙◌, ap, false}
use Rattle.hep_outcome.specs.Outcome.{Outcome}
use Rattle.hep_outcome.specs.Replay.{outcome_of_core}
use Rattle.hep_diff.proofs.Sides.{written-is}
use Rattle.hep_diff.proofs.diff.append_written.Goals as goal

pub returns : goal.returns
returns c =
    let output = λ (o : Outcome). o.output in
    let messages = λ (o : Outcome). o.messages in
    written-is c.args.text.now.items c.append_records.new.text.items c.append_ends.new.text.items c.deref.result.now c.deref-2.result.now c.as_slice.result.now c.as_slice-2.result.now
    (outcome_of_core false c.args.first.core) (outcome_of_core false c.args.second.core)
    (c.deref.ensures.value ∙ ap output c.in_ok-left.ensures) (c.deref-2.ensures.value ∙ ap output c.in_ok-right.ensures)
    (c.as_slice.ensures ∙ ap messages c.in_ok-left.ensures) (c.as_slice-2.ensures ∙ ap messages c.in_ok-right.ensures)
    c.in_ok-append_records.ensures c.in_ok-append_ends.ensures
