use Rattle.hep_layout.proofs.Stacks.{level-found, levels-stay, once}
use Rattle.hep_layout.proofs.laws.stacks_share_nothing.Goals as goal

pub returns : goal.returns
returns c = record {
  once = λ program processes a. (once program processes a).0;
  found = level-found;
  others = levels-stay;
}
