use Rattle.hep_storage.proofs.Listings.{pushed}
use Rattle.hep_storage.proofs.block_contents.push.Goals as goal

pub returns : goal.returns
returns c = pushed c.args.runs.now.items c.push.new.self.items c.args.run c.in_ok-push.ensures.items
