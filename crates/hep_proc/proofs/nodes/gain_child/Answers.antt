use Rattle.std.proofs.Common.{sym, ap, arith}
use Rattle.std.specs.Option.{option_map}
use Rattle.hep_proc.specs.Nodes.{shown}
use Rattle.hep_proc.proofs.nodes.gain_child.Goals as goal

pub overflow_add-node : goal.overflow_add-node
overflow_add-node c = let fits = c.requires (shown c.in-Some.node.now) (ap (λ o. option_map shown o) (sym c.in-Some.ensures.value)) in omega (arith, fits)
