use Rattle.hep_storage.proofs.Listings.{last-put}
use Rattle.hep_storage.proofs.block_contents.push_run.Goals as goal

pub returns-in_ok-push_both-in-Some : goal.returns-in_ok-push_both-in-Some
returns-in_ok-push_both-in-Some c =
    last-put c.args.runs.now.items c.pop.new.self.items c.in-Some.last c.args.run c.push_both.new.runs.items c.in-Some.ensures.items c.in_ok-push_both-in-Some.ensures
