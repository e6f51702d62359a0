use Rattle.std.proofs.Common.{sym, ap, arith}
use Rattle.std.specs.Option.{option_map}
use Rattle.hep_proc.specs.Nodes.{shown}
use Rattle.hep_proc.proofs.nodes.lose_child.Goals as goal

pub overflow_sub-node : goal.overflow_sub-node
overflow_sub-node c = let some = c.requires (shown c.in-Some.node.now) (ap (λ o. option_map shown o) (sym c.in-Some.ensures.value)) in omega (arith, some)
