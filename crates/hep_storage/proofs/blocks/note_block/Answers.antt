use Rattle.std.proofs.Common.{ap, sym, subst, ◌∙◌, cond, Some}
use Rattle.std.specs.Option.{option_eq}
use Rattle.indexmap.specs.IndexSet.{contains}
use Rattle.hep_machine.specs.Words.{name_eq, BlockName}
use Rattle.hep_storage.specs.Agreement.{summed}
use Rattle.hep_storage.specs.BlockContents.{HasContents, Holds}
use Rattle.hep_storage.specs.BlockTable.{contents_in, summed_in, AreRead, entry_at}
use Rattle.hep_storage.specs.declared.block_table.BlockEntry.{BlockEntry}
use Rattle.hep_storage.proofs.BlockTables.{list-noted}
use Rattle.hep_storage.proofs.Tables.{put-contents, put-read}
use Rattle.hep_storage.proofs.blocks.note_block.Goals as goal
use Rattle.hep_source.proofs.Tests.{some-there}

pub returns-in_ok-add_names-in-Some : goal.returns-in_ok-add_names-in-Some
returns-in_ok-add_names-in-Some c =
    let k = c.block_of-block.result in
    let unit = c.args.symbols.now in
    let old = entry_at c.args.table.now in
    let written : BlockEntry = record { summary = c.name.new.self.summary; contents = c.add_names.new.self; is_named = c.name.new.self.is_named } in
    let new = entry_at (c.get_mut.follows.lender written) in
    let is = sym c.in-Some.ensures.value in
    let put = ((c.get_mut.follows.holds written).3 (some-there (old k) c.in-Some.entry.now is)).0 in
    record {
      has =
          list-noted unit c.args.list.now k c.as_slice-entries.result.now c.args.line (λ b. contents_in (old b)) (λ b. contents_in (new b)) c.name.new.self.contents c.add_names.new.self
          (contains name_eq c.args.noted.now) (contains name_eq c.add_names.new.noted) c.block_of-block.ensures c.as_slice-entries.ensures
          (λ xs before h. c.name.ensures.held unit k xs before (subst (HasContents unit k xs before) (ap contents_in is) h))
          c.in_ok-add_names-in-Some.ensures.known c.in_ok-add_names-in-Some.ensures.noted (c.in_ok-add_names-in-Some.ensures.line ∙ c.name.ensures.line)
          (put-contents k old new written put c.name.ensures.named);
      read = subst (AreRead old new c.args.named.now.items) (sym c.in_ok-push.ensures.items) (put-read k old new written put c.args.named.now.items (ap summed c.name.ensures.summary ∙ sym (ap summed_in is)));
    }

pub returns-in_ok-insert-in-None : goal.returns-in_ok-insert-in-None
returns-in_ok-insert-in-None c =
    let k = c.block_of-block.result in
    let unit = c.args.symbols.now in
    let old = entry_at c.args.table.now in
    let made : BlockEntry = record { summary = c.new-entry.result.summary; contents = c.add_names-in-None.new.self; is_named = c.new-entry.result.is_named } in
    let new = entry_at c.insert.new.self in
    let none = sym c.in-None.ensures.value in
    let put = λ (b : BlockName). c.in_ok-insert-in-None.ensures.updates.0 b ∙ ap (λ t. cond (option_eq name_eq k b) (Some made) (entry_at t b)) c.get_mut.follows.holds-at-none in
    record {
      has =
          list-noted unit c.args.list.now k c.as_slice-entries.result.now c.args.line (λ b. contents_in (old b)) (λ b. contents_in (new b)) c.new-entry.result.contents c.add_names-in-None.new.self
          (contains name_eq c.args.noted.now) (contains name_eq c.add_names-in-None.new.noted) c.block_of-block.ensures c.as_slice-entries.ensures
          (λ xs before h. subst (λ ys. Holds unit k ys c.new-entry.result.contents) (sym (subst (HasContents unit k xs before) (ap contents_in none) h).0) (c.new-entry.ensures.held unit k))
          c.in_ok-add_names-in-None.ensures.known c.in_ok-add_names-in-None.ensures.noted (c.in_ok-add_names-in-None.ensures.line ∙ c.new-entry.ensures.line)
          (put-contents k old new made put c.new-entry.ensures.named);
      read =
          subst (AreRead old new c.args.named.now.items) (sym c.in_ok-push.ensures.items) (put-read k old new made put c.args.named.now.items (c.new-entry.ensures.summary ∙ sym (ap summed_in none)));
    }
