use Rattle.std.proofs.Common.{◌≤◌, ap, length, take, arith}
use Rattle.indexmap.specs.IndexSet.{contains}
use Rattle.hep_machine.specs.Words.{name_eq, names_in_block}
use Rattle.hep_conditions.specs.Words.{last_line}
use Rattle.hep_storage.proofs.BlockTables.{statement-turn, unit-whole}
use Rattle.hep_storage.proofs.Tables.{none-has, none-named, read-start, read-next}
use Rattle.hep_storage.specs.BlockTable.{entry_at}
use Rattle.hep_storage.proofs.blocks.read_blocks.Goals as goal

pub loop-statement-init : goal.loop-statement-init
loop-statement-init c =
    record {
      has = λ b. none-has c.args.symbols.now (contains name_eq c.args.noted.now) b (entry_at c.args.table.now b) (c.requires.none b) c.requires.unread;
      read = read-start;
    }

pub loop-statement-preserved : goal.loop-statement-preserved
loop-statement-preserved c =
    let i = c.loop-statement.statement-index in
    let unit = c.args.symbols.now in
    record {
      has = λ b.
          statement-turn unit (contains name_eq c.note_blocks.new.noted) b c.statements-statement-items.result.now unit i _ c.statement-item.result c.blocks_in-lists.result.now _ c.statements-statement-items.ensures c.loop-statement-test.true c.statement-item.is c.blocks_in-lists.ensures
          (c.in_ok-note_blocks.ensures.has b (names_in_block (take i unit) b) (last_line b (take i unit)) (c.loop-statement.invariant.has b));
      read = read-next c.loop-statement.invariant.read c.in_ok-note_blocks.ensures.read;
    }

pub returns-clause-blocks : goal.returns-clause-blocks
returns-clause-blocks c = λ b.
    let e = c.loop-statement-test.false in
    let n = ap length c.statements-statement-items.ensures in
    let k : length c.args.symbols.now ≤ c.loop-statement.statement-index = omega (arith, e, n) in
    unit-whole c.args.symbols.now (contains name_eq c.loop-statement.noted) b c.loop-statement.statement-index _ k (c.loop-statement.invariant.has b)

pub returns-clause-named : goal.returns-clause-named
returns-clause-named c = c.loop-statement.invariant.read.named (none-named (entry_at c.args.table.now) c.args.named.now.items c.requires.none)
