use Rattle.std.proofs.Common.{refl}
use Rattle.indexmap.specs.IndexSet.{contains}
use Rattle.hep_machine.specs.Words.{name_eq}
use Rattle.hep_storage.specs.BlockContents.{known}
use Rattle.hep_storage.proofs.Listings.{holds-first, holds-other}
use Rattle.hep_storage.proofs.block_contents.BlockContents.add_name.Goals as goal

pub returns-in_ok-add_run-clause-known : goal.returns-in_ok-add_run-clause-known
returns-in_ok-add_run-clause-known c = λ xs n h.
    let is = c.in_ok-note_name in
    holds-first c.args.symbols.now c.args.block xs c.args.name.now (known c.args.self.now.known) (contains name_eq c.args.noted.now) n h is.field-0 is.ensures.first
    (known c.add_run.new.known) c.run_of_name.result c.if-branch.true c.run_of_name.ensures c.in_ok-add_run.ensures

pub returns-else-branch-clause-known : goal.returns-else-branch-clause-known
returns-else-branch-clause-known c = λ xs n h.
    let is = c.in_ok-note_name in
    holds-other c.args.symbols.now c.args.block xs c.args.name.now (known c.args.self.now.known) (contains name_eq c.args.noted.now) n h is.field-0 is.ensures.first
    (known c.args.self.now.known) c.if-branch.false refl
