use Rattle.std.proofs.Common.{◌∙◌}
use Rattle.std.proofs.Math.Logic.{∥∥₁_map}
use Rattle.hep_workers.specs.SharedCores.{cancelled}
use Rattle.hep_workers.proofs.SharedCores.{by-cancellation}
use Rattle.hep_workers.specs.EntrySpans.{lists_of}
use Rattle.hep_workers.proofs.EntrySpans.{same-inside, same-logged}
use Rattle.hep_workers.proofs.SharedCalls.{cancelled-same}
use Rattle.hep_workers.proofs.shared_core.SharedCore.cancel.Goals as goal

pub invariant_of-self : goal.invariant_of-self
invariant_of-self g c =
    let was = c.args.self.now in
    let id = c.args.ticket.now.id in
    let new = c.cancel.new.self in
    let call = c.cancel.ensures.cancelled in
    let same = cancelled-same was.core new id c.cancel.result call in
    let one = by-cancellation was.core new id c.cancel.result call in
    record {
      program = one.program ∙ was.program;
      cells = one.cells ∙ was.cells;
      limit = one.limit ∙ was.limit;
      shared = ∥∥₁_map was.shared (λ before. cancelled was.core new id c.cancel.result before call);
      many = was.many;
      logged = same-logged g.K.RunBrand.workers was.core.core.history new.core.history (lists_of was.lists.items) same was.logged;
      inside = same-inside was.core.core.history new.core.history (lists_of was.lists.items) same was.inside;
    }

pub returns : goal.returns
returns g c = (c.cancel.result, c.cancel.ensures.cancelled)
