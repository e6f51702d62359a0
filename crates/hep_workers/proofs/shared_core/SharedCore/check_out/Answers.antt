use Rattle.std.proofs.Common.{◌∙◌}
use Rattle.std.proofs.Math.Logic.{∥∥₁_map}
use Rattle.hep_workers.specs.SharedCores.{checked_out}
use Rattle.hep_workers.proofs.SharedCores.{by-check-out}
use Rattle.hep_workers.specs.EntrySpans.{lists_of}
use Rattle.hep_workers.proofs.EntrySpans.{same-inside, same-logged}
use Rattle.hep_workers.proofs.SharedCalls.{checked-out-same}
use Rattle.hep_workers.proofs.shared_core.SharedCore.check_out.Goals as goal

pub invariant_of-self : goal.invariant_of-self
invariant_of-self g c =
    let was = c.args.self.now in
    let p = c.args.process in
    let new = c.check_out_again.new.self in
    let call = c.check_out_again.ensures.given in
    let same = checked-out-same was.core new p c.check_out_again.result call in
    let one = by-check-out was.core new p c.check_out_again.result call in
    record {
      program = one.program ∙ was.program;
      cells = one.cells ∙ was.cells;
      limit = one.limit ∙ was.limit;
      shared = ∥∥₁_map was.shared (λ before. checked_out was.core new p c.check_out_again.result before c.requires call);
      many = was.many;
      logged = same-logged g.K.RunBrand.workers was.core.core.history new.core.history (lists_of was.lists.items) same was.logged;
      inside = same-inside was.core.core.history new.core.history (lists_of was.lists.items) same was.inside;
    }
