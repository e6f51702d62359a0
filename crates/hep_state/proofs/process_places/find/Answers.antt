use Rattle.std.proofs.Common.{◌-◌, ◌<◌, ◌∙◌, ap, arith, length}
use Rattle.hep_proc.specs.declared.process.Process.{Process}
use Rattle.hep_state.proofs.Searching.{place-read}
use Rattle.hep_state.proofs.process_places.find.Goals as goal

pub returns-then-processes-p-clause-found : goal.returns-then-processes-p-clause-found
returns-then-processes-p-clause-found c =
    let is = c.index-processes-p.is in
    let inside : c.args.p - 1 < length c.args.processes.now = omega (arith, c.if-p-gt0.true, c.if-p-processes.true) in
    place-read c.args.processes.now c.args.p (c.args.p - 1) c.index-processes-p.result inside is (ap (λ (q : Process). q.number) is ∙ c.if-processes-p.true)
