use Rattle.std.proofs.Common.{◌+◌, ◌≤◌, ap, get_or, length, sym, ◌∙◌, drop, arith}
use Rattle.std.proofs.lemmas.List.{drop_more, drop_all}
use Rattle.std.specs.Option.{option_or}
use Rattle.indexmap.specs.IndexMap.{get}
use Rattle.hep_machine.specs.Words.{name_eq}
use Rattle.hep_names.proofs.Notes.{or-none}
use Rattle.hep_places.specs.StorageStarts.{length_in, lengthened, no_length, offset_among, entries_of}
use Rattle.hep_places.proofs.TakenValues.{offset-first, offset-next, no_entry}
use Rattle.hep_places.proofs.block_offsets.offset_table.Goals as goal

pub loop-entry-init : goal.loop-entry-init
loop-entry-init c = λ x.
    offset-first c.args.symbols.now x (length_in c.in_ok-offsets.offsets.lengths) c.deref-entry-items.result.now _ (c.in_ok-offsets.ensures.table x) c.in_ok-offsets.ensures.lengths

pub loop-entry-preserved : goal.loop-entry-preserved
loop-entry-preserved c = λ x.
    let es = c.deref-entry-items.result.now in
    let i = c.loop-entry.entry-index in
    offset-next c.args.symbols.now x (get_or es i no_entry) (length_in c.loop-entry.offsets.lengths) (length_in c.add.new.self.lengths) (drop i es) (drop (i + 1) es) _ _ _
    (c.loop-entry.invariant x) (drop_more es i no_entry c.loop-entry-test.true) (c.in_ok-add.ensures.table x)
    (λ b. c.in_ok-add.ensures.lengths b ∙ ap (λ n. lengthened (length_in c.loop-entry.offsets.lengths) (get_or es i no_entry).block n b) c.in_ok-cells.ensures)

pub returns : goal.returns
returns c = λ x.
    let es = c.deref-entry-items.result.now in
    let i = c.loop-entry.entry-index in
    let k : length es ≤ i = omega arith in
    let unit = c.args.symbols.now in
    ap (λ t. get name_eq t x) c.replace.ensures.value
    ∙ (sym (or-none (get name_eq c.loop-entry.offsets.table x))
    ∙ (ap (λ fs. option_or (get name_eq c.loop-entry.offsets.table x) (offset_among unit (length_in c.loop-entry.offsets.lengths) fs x)) (sym (drop_all i es k))
    ∙ (c.loop-entry.invariant x
    ∙ ap (λ fs. offset_among unit no_length fs x) (c.deref-entry-items.ensures.value ∙ (c.in_ok-entries.ensures ∙ ap entries_of c.statements.ensures)))))
