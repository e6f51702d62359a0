use Rattle.std.proofs.Common.{◌≡◌, Some, refl, ap, sym, arith}
use Rattle.std.proofs.lemmas.Bool.Decides.{nat_tests}
use Rattle.hep_text.specs.Progress.{started, done_of, pending_of}
use Rattle.hep_text.proofs.Joining.{on_continuation}
use Rattle.hep_text.proofs.reading.take_continuation.Goals as goal

pub returns-clause-ok : goal.returns-clause-ok
returns-clause-ok c = λ ls.
    let reading = c.args.reading.now in
    let was : reading.pending ≡ Some c.in-Some.pending = sym c.in-Some.ensures.value in
    on_continuation (done_of reading) (pending_of reading.pending) (started c.in-Some.pending) _ (started c.take_text.new.pending) c.args.number ls c.args.body.now
    (ap pending_of was)
    (grind (arith, nat_tests, c.if-pending-ge-MOST_CONTINUATION_LINES.false))
    refl
    c.in_ok-take_text.ensures.ok
