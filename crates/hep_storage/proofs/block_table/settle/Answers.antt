use Rattle.std.proofs.Common.{ap, sym, rules}
use Rattle.hep_machine.specs.Words.{BlockName}
use Rattle.hep_storage.proofs.Tables.{settled-added, settled-left, missing-added, missing-left}
use Rattle.hep_storage.specs.BlockTable.{entry_at}
use Rattle.hep_storage.proofs.block_table.settle.Goals as goal
use Rattle.hep_source.proofs.Tests.{some-there}

pub returns-in-Some : goal.returns-in-Some
returns-in-Some c =
    let old = entry_at c.args.table.now in
    let new = entry_at (c.get_mut.follows.lender c.settle.new.self) in
    let is = sym c.in-Some.ensures.value in
    let put = ((c.get_mut.follows.holds c.settle.new.self).3 (some-there (old c.args.block) c.in-Some.entry.now is)).0 in
    record {
      line = search rules;
      added = settled-added c.args.block old new c.in-Some.entry.now c.settle.new.self is put c.settle.ensures.added;
      left = settled-left c.args.block old new c.in-Some.entry.now c.settle.new.self is put c.settle.ensures.left;
    }

pub returns-in-None : goal.returns-in-None
returns-in-None c =
    let old = entry_at c.args.table.now in
    let new = entry_at c.get_mut.follows.lender-at-none in
    let none = sym c.in-None.ensures.value in
    let same = λ (b : BlockName). ap (λ t. entry_at t b) c.get_mut.follows.holds-at-none in
    record { line = search rules; added = missing-added c.args.block old new none same; left = missing-left c.args.block old new none same }
