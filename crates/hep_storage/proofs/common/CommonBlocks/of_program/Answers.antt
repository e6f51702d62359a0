use Rattle.std.proofs.Common.{◌≡◌, ◌<◌, ◌≤◌, ◌+◌, ◌++◌, ◌∙◌, ap, drop, get_or, length, arith}
use Rattle.std.specs.List.{flat_map}
use Rattle.std.specs.Option.{option_eq}
use Rattle.indexmap.specs.IndexMap.{get}
use Rattle.hep_machine.specs.Words.{name_eq, blocks_of_unit, with_blocks}
use Rattle.hep_storage.specs.Lengths.{entries_of, entries_of_program}
use Rattle.hep_storage.proofs.LengthTables.{row-next, row-end, blocks-next, lengths-next, start-length, start-unread, end-length}
use Rattle.hep_storage.proofs.Totals.{common-few}
use Rattle.hep_storage.proofs.common.CommonBlocks.of_program.Goals as goal
use Rattle.hep_source.proofs.Tests.{drop_at}

pub loop-number-init : goal.loop-number-init
loop-number-init c =
    record {
      blocks = ap (λ bs. with_blocks bs (flat_map blocks_of_unit c.args.program.now)) c.new-common.ensures.blocks;
      lengths = λ b. start-length _ _ (c.new-common.ensures.lengths b);
      entries = ap (λ es. es ++ entries_of_program c.args.program.now) c.new-entries.ensures.items;
      kept = c.new-common.ensures.kept;
      unread = λ b v lt. start-unread _ v (c.new-common.ensures.lengths b);
    }

pub loop-number-preserved : goal.loop-number-preserved
loop-number-preserved c =
    let us = c.args.program.now in
    let i = c.loop-number.number in
    let unit = c.symbols-item.result in
    let items = c.units-symbols-items.ensures in
    let within : i < length us = omega (arith, c.loop-number-test.true, ap length items) in
    let is : unit ≡ get_or us i unit = c.symbols-item.is ∙ ap (λ vs. get_or vs i unit) items in
    let keys = c.loop-number.common.blocks.keys in
    let old = get (option_eq name_eq) c.loop-number.common.lengths in
    let new = get (option_eq name_eq) c.read_unit.new.self.lengths in
    let next = drop_at us i unit within is in
    record {
      blocks = blocks-next keys c.read_unit.new.self.blocks.keys _ unit (drop i us) (drop (i + 1) us) c.loop-number.invariant.blocks next c.in_ok-read_unit.ensures.blocks;
      lengths = λ b. lengths-next b unit (drop i us) (drop (i + 1) us) (old b) (new b) _ (c.loop-number.invariant.lengths b) next (c.in_ok-read_unit.ensures.lengths b);
      entries = row-next c.loop-number.entries.items _ _ unit (drop i us) (drop (i + 1) us) c.loop-number.invariant.entries next
          (c.in_ok-add_entries.ensures ∙ ap (λ ss. c.loop-number.entries.items ++ entries_of ss) c.statements.ensures);
      kept = c.in_ok-read_unit.ensures.kept;
      unread = c.in_ok-read_unit.ensures.unread;
    }

pub returns-clause-lengths : goal.returns-clause-lengths
returns-clause-lengths c = λ b.
    let k : length c.args.program.now ≤ c.loop-number.number = omega (arith, ap length c.units-symbols-items.ensures) in
    end-length b _ c.loop-number.number c.args.program.now k (c.loop-number.invariant.lengths b)

pub returns-clause-bounded : goal.returns-clause-bounded
returns-clause-bounded c =
    let k : length c.args.program.now ≤ c.loop-number.number = omega (arith, ap length c.units-symbols-items.ensures) in
    common-few c.args.program.now (length c.loop-number.entries.items) (row-end c.loop-number.entries.items c.loop-number.number c.args.program.now k c.loop-number.invariant.entries) (omega arith)
