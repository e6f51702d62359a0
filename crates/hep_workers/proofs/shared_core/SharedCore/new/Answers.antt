use Rattle.std.proofs.Common.{length, ap}
use Rattle.hep_core.specs.CoreValues.{CoreValue}
use Rattle.hep_workers.specs.SharedCores.{opened}
use Rattle.hep_workers.proofs.EntrySpans.{begun, begun-inside}
use Rattle.hep_workers.proofs.shared_core.SharedCore.new.Goals as goal

pub invariant_of-result : goal.invariant_of-result
invariant_of-result g c =
    let workers = g.K.RunBrand.workers in
    let h = c.args.core.core.history in
    record {
      program = ap (λ (v : CoreValue). v.program) c.requires.begun.0;
      cells = ap (λ (v : CoreValue). v.cells) c.requires.begun.0;
      limit = ap (λ (v : CoreValue). v.limit) c.requires.begun.0;
      shared = ∣ opened c.args.core c.requires.begun.0 c.headline.ensures.placed ∣₁;
      many = c.requires.many;
      logged = ∣ begun workers h c.args.lists.items c.requires.begun.1 c.requires.blank ∣₁;
      inside = begun-inside workers (length h) c.args.lists.items c.requires.blank;
    }
