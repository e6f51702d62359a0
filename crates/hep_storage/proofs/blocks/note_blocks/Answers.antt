use Rattle.std.proofs.Common.{◌++◌, take, append-nil, arith, take_all}
use Rattle.indexmap.specs.IndexSet.{contains}
use Rattle.hep_machine.specs.Words.{name_eq}
use Rattle.hep_storage.specs.BlockContents.{names_under, later_line}
use Rattle.hep_storage.proofs.BlockTables.{list-turn}
use Rattle.hep_storage.proofs.Tables.{read-start, read-next}
use Rattle.hep_storage.proofs.blocks.note_blocks.Goals as goal

pub loop-list-init : goal.loop-list-init
loop-list-init c =
    record {
      has = λ b xs before h. rw append-nil h;
      read = read-start;
    }

pub loop-list-preserved : goal.loop-list-preserved
loop-list-preserved c =
    let i = c.loop-list.list-index in
    let ds = c.args.lists.now in
    record {
      has = λ b xs before h.
          list-turn c.args.symbols.now (contains name_eq c.note_block.new.noted) b ds i _ c.list-item.result xs before c.args.line _ c.loop-list-test.true c.list-item.is
          (c.in_ok-note_block.ensures.has b (xs ++ names_under b (take i ds)) (later_line b before c.args.line (take i ds)) (c.loop-list.invariant.has b xs before h));
      read = read-next c.loop-list.invariant.read c.in_ok-note_block.ensures.read;
    }

pub returns-clause-has : goal.returns-clause-has
returns-clause-has c = λ b xs before h.
    rw (take_all c.loop-list.list-index c.args.lists.now (omega (arith, c.loop-list-test.false))) at (c.loop-list.invariant.has b xs before h)
