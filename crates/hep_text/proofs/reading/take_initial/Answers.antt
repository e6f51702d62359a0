use Rattle.hep_text.specs.declared.constant.Scanner.TheVariants.{Outside}
use Rattle.hep_text.specs.Progress.{started, done_of, pending_of}
use Rattle.hep_text.proofs.Joining.{on_initial}
use Rattle.hep_text.proofs.reading.take_initial.Goals as goal

pub returns-clause-ok : goal.returns-clause-ok
returns-clause-ok c = λ ls.
    let reading = c.args.reading.now in
    on_initial (done_of reading) (done_of c.end_pending.new.reading) (pending_of reading.pending) (started c.take_text.new.pending) _ c.args.number ls c.args.label c.args.body.now
    c.in_ok-end_pending.ensures.done
    c.in_ok-take_text.ensures.ok
    (λ i. record { line = c.args.number; label = c.args.label; continued = 0; text = c.new.ensures.items i; spans = c.new-2.ensures.items i; scanner = Outside })
