use Rattle.std.proofs.Common.{◌≡◌, leb, rules, subst, sym, ap, ◌∙◌, arith}
use Rattle.std.specs.List.Sorted.{IsNonDecreasingBy}
use Rattle.std.proofs.lemmas.List.Sorted.{IsPartitionPoint-from_clause, IsPartitionedBy-leb}
use Rattle.hep_image.specs.declared.owners.BlockStart.{BlockStart}
use Rattle.hep_image.specs.Owners.{block_starts}
use Rattle.hep_image.proofs.BlockOwners.{blocks_rise}
use Rattle.hep_image.proofs.Lookups.{IsSearched, searched-none, searched-some}
use Rattle.hep_image.proofs.image.Image.block_at.Goals as goal
use Rattle.hep_image.proofs.image.Image.block_at.Goals.{After-partition_point-begun}

kept : (c : After-partition_point-begun) → c.as_slice-blocks.result.now ≡ block_starts c.args.self.now
kept c = c.as_slice-blocks.ensures ∙ (c.self.invariant.blocks_are ∙ ap block_starts c.self.view_is)

searched : (c : After-partition_point-begun) → IsSearched (λ (s : BlockStart). s.first) c.args.cell c.as_slice-blocks.result.now c.partition_point-begun.result
searched c =
    let rising = subst (IsNonDecreasingBy (λ (s : BlockStart). s.first)) (sym (kept c)) (blocks_rise c.args.self.now) in
    let parted = IsPartitionedBy-leb (λ (s : BlockStart). s.first) c.as_slice-blocks.result.now c.args.cell rising in
    IsPartitionPoint-from_clause (λ (s : BlockStart). leb s.first c.args.cell) _ _ c.partition_point-begun.ensures.partitioned parted (λ a r q k. search rules)

pub returns-then-begun-eq0 : goal.returns-then-begun-eq0
returns-then-begun-eq0 c =
    let before = (goal.at.returns-then-begun-eq0 c).After-partition_point-begun in
    searched-none (λ (s : BlockStart). s.first) c.args.cell c.as_slice-blocks.result.now (block_starts c.args.self.now) c.partition_point-begun.result (searched before) (kept before) c.if-begun-eq0.true

pub returns-else-begun-eq0 : goal.returns-else-begun-eq0
returns-else-begun-eq0 c =
    let before = (goal.at.returns-else-begun-eq0 c).After-partition_point-begun in
    searched-some (λ (s : BlockStart). s.first) c.args.cell c.as_slice-blocks.result.now (block_starts c.args.self.now) c.partition_point-begun.result _
    (searched before) c.partition_point-begun.ensures.bound (kept before) (omega (arith, c.if-begun-eq0.false))
