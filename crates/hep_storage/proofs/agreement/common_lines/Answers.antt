use Rattle.std.proofs.Common.{◌≤◌, ◌||◌, ◌∙◌, ap, length, arith}
use Rattle.std.specs.List.{list_any}
use Rattle.hep_machine.specs.Words.{name_eq, blocks_of}
use Rattle.hep_storage.specs.Agreement.{with_block}
use Rattle.hep_storage.specs.BlockTable.{block_at, summed_in, entry_at}
use Rattle.hep_storage.proofs.WrongGroups.{blocks-more, passes-same, told-common, units-done}
use Rattle.hep_storage.proofs.agreement.common_lines.Goals as goal

pub loop-symbols-preserved : goal.loop-symbols-preserved
loop-symbols-preserved c =
    let before = entry_at c.loop-symbols.met.table in
    let read = entry_at c.read_blocks.new.table in
    let after = entry_at c.add_in_unit.new.table in
    record {
      lines = λ test.
          blocks-more test (λ b. summed_in (before b)) (λ b. summed_in (after b)) c.units-symbols-items.result.now c.args.program.now c.loop-symbols.symbols-index _ c.symbols-item.result
          (λ b. block_at (read b)) (list_any test c.loop-symbols.lines.items) (list_any test c.add_in_unit.new.lines.items)
          c.units-symbols-items.ensures c.loop-symbols-test.true c.symbols-item.is c.in_ok-read_blocks.ensures.blocks
          (λ b. c.in_ok-add_in_unit.ensures.added b ∙ ap (with_block (block_at (read b))) (c.in_ok-read_blocks.ensures.summaries b))
          (λ bs m. c.in_ok-add_in_unit.ensures.lines bs m test
          ∙ ap (λ t. list_any test c.loop-symbols.lines.items || t) (passes-same test bs (λ b. summed_in (read b)) (λ b. summed_in (before b)) (λ b. block_at (read b)) c.in_ok-read_blocks.ensures.summaries))
          ∙ c.loop-symbols.invariant.lines test;
      none = c.in_ok-add_in_unit.ensures.none;
      unread = λ x. ap (list_any (name_eq x)) c.clear-in-loop-symbols.ensures.empty;
    }

pub returns : goal.returns
returns c = λ test.
    let e = c.loop-symbols-test.false in
    let n = ap length c.units-symbols-items.ensures in
    let k : length c.args.program.now ≤ c.loop-symbols.symbols-index = omega (arith, e, n) in
    units-done test (blocks_of c.args.program.now) (λ b. summed_in (entry_at c.loop-symbols.met.table b)) c.args.program.now c.loop-symbols.symbols-index (list_any test c.loop-symbols.lines.items) _ k (c.loop-symbols.invariant.lines test)
    ∙ told-common test c.args.program.now
