use Rattle.hep_blocked.proofs.KeptNeeds.{entry-kept}
use Rattle.hep_blocked.proofs.laws.waiting_processes_are_listed.Goals as goal

pub returns : goal.returns
returns c program cells choices x waiting after ready left p w are blocked now no_more =
    entry-kept program cells choices x waiting ready are p w after left blocked now no_more
