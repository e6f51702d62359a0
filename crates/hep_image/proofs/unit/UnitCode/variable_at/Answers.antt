use Rattle.std.proofs.Common.{leb, rules, subst, sym, arith}
use Rattle.std.proofs.lemmas.List.Sorted.{IsPartitionPoint-from_clause, IsPartitionedBy-leb}
use Rattle.hep_image.specs.declared.owners.FrameVariable.{FrameVariable}
use Rattle.hep_image.specs.Owners.{AreInOrder}
use Rattle.hep_image.proofs.Lookups.{IsSearched, searched-none, searched-some}
use Rattle.hep_image.proofs.unit.UnitCode.variable_at.Goals as goal
use Rattle.hep_image.proofs.unit.UnitCode.variable_at.Goals.{After-partition_point-begun}

searched : (c : After-partition_point-begun) → IsSearched (λ (v : FrameVariable). v.first) c.args.cell c.as_slice-variables.result.now c.partition_point-begun.result
searched c =
    let parted = IsPartitionedBy-leb (λ (v : FrameVariable). v.first) c.as_slice-variables.result.now c.args.cell (subst AreInOrder (sym c.as_slice-variables.ensures) c.requires) in
    IsPartitionPoint-from_clause (λ (v : FrameVariable). leb v.first c.args.cell) _ _ c.partition_point-begun.ensures.partitioned parted (λ a r q k. search rules)

pub returns-then-begun-eq0 : goal.returns-then-begun-eq0
returns-then-begun-eq0 c =
    searched-none (λ (v : FrameVariable). v.first) c.args.cell c.as_slice-variables.result.now c.args.self.now.variables c.partition_point-begun.result
    (searched (goal.at.returns-then-begun-eq0 c).After-partition_point-begun) c.as_slice-variables.ensures c.if-begun-eq0.true

pub returns-else-begun-eq0 : goal.returns-else-begun-eq0
returns-else-begun-eq0 c =
    searched-some (λ (v : FrameVariable). v.first) c.args.cell c.as_slice-variables.result.now c.args.self.now.variables c.partition_point-begun.result _
    (searched (goal.at.returns-else-begun-eq0 c).After-partition_point-begun) c.partition_point-begun.ensures.bound c.as_slice-variables.ensures (omega (arith, c.if-begun-eq0.false))
