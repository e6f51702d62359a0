use Rattle.std.proofs.Common.{◌≡◌, ◌-◌}
use Rattle.hep_proc.specs.Nodes.{nodes_of}
use Rattle.hep_views.specs.CellOwners.{holder_above}
use Rattle.hep_views.proofs.lookup.holder.Given as goal

abbrev pub invariant-loop : goal.invariant-loop
invariant-loop l =
    holder_above (nodes_of l.frames.nodes) l.cell (l.most - l.counter) l.at ≡ holder_above (nodes_of l.fn.frames.nodes) l.fn.cell l.fn.most l.fn.key
