use Rattle.hep_storage.specs.Starts.{narrowed}
use Rattle.hep_storage.proofs.Beginnings.{start-added}
use Rattle.hep_storage.proofs.starts.CommonStarts.add.Goals as goal

pub returns-clause-starts : goal.returns-clause-starts
returns-clause-starts c = λ b. start-added c.args.block b (narrowed c.args.self.now.cells) c.in_32_bits.result _ _ (c.in_ok-insert.ensures.updates.0 b) c.in_32_bits.ensures
