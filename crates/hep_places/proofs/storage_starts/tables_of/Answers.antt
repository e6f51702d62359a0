use Rattle.std.proofs.Common.{◌≡◌, ◌+◌, ◌*◌, ◌++◌, List, [], ◌∷◌, map, length, refl, ap, sym, ◌∙◌}
use Rattle.std.specs.Option.{option_or}
use Rattle.indexmap.specs.IndexMap.{get}
use Rattle.hep_machine.specs.Words.{name_eq, Occurrence, Statement, dummies_of, names_of_occurrences, adjustable_dimensions}
use Rattle.hep_storage.specs.Starts.{narrowed}
use Rattle.hep_places.specs.StorageStarts.{adjustable_row, behind, behind_loops, first_bound, first_local, first_loop, loops_from, name_row, start_among}
use Rattle.hep_places.proofs.storage_starts.tables_of.Goals as goal
use Rattle.hep_source.proofs.Statements.{names-length}

rows-of : (unit : List Statement) (os : List Occurrence) → map (λ (o : Occurrence). (o.name, 2 * adjustable_dimensions unit o.name)) os ≡ adjustable_row unit (names_of_occurrences os)
rows-of unit [] = refl
rows-of unit (o ∷ os) = ap (λ row. (o.name, 2 * adjustable_dimensions unit o.name) ∷ row) (rows-of unit os)

pub returns : goal.returns
returns c =
    let unit = c.args.symbols.now in
    let count = sym (names-length c.dummies.result.now) ∙ ap length c.dummies.ensures in
    let first : c.in_ok-locals.locals.next ≡ first_local unit = c.in_ok-locals.ensures.next ∙ (c.behind_pairs-first.ensures ∙ ap (λ n. narrowed (1 + 2 * n)) count) in
    let second : c.new-loops.result.next ≡ first_loop unit = c.new-loops.ensures.next ∙ (c.in_ok-add_all.ensures.next ∙ (λ i. behind (first i) (name_row unit (c.locals-2.ensures i)))) in
    let third : c.in_ok-bounds.bounds.next ≡ first_bound unit = c.in_ok-bounds.ensures.next ∙ (c.in_ok-add_statements.ensures.next ∙ (λ i. behind_loops (second i) (c.statements.ensures i))) in
    let row_of = λ (os : List Occurrence). map (λ (o : Occurrence). (o.name, 2 * adjustable_dimensions unit o.name)) os in
    let bounds : row_of c.dummies-3.result.now ≡ adjustable_row unit (dummies_of unit) = rows-of unit c.dummies-3.result.now ∙ ap (adjustable_row unit) c.dummies-3.ensures in
    record {
      offsets = c.in_ok-offsets.ensures;
      locals = λ x.
          ap (λ t. get name_eq t x) c.replace.ensures.value
          ∙ (c.in_ok-add_all.ensures.table x
          ∙ (ap (λ o. option_or o (start_among c.in_ok-locals.locals.next (name_row unit c.locals-2.result.now) x)) (c.in_ok-locals.ensures.table x)
          ∙ (λ i. start_among (first i) (name_row unit (c.locals-2.ensures i)) x)));
      bounds = λ x.
          ap (λ t. get name_eq t x) c.replace-2.ensures.value
          ∙ (c.in_ok-add_all-2.ensures.table x
          ∙ (ap (λ o. option_or o (start_among c.in_ok-bounds.bounds.next (row_of c.dummies-3.result.now) x)) (c.in_ok-bounds.ensures.table x)
          ∙ (λ i. start_among (third i) (bounds i) x)));
      loops =
          c.in_ok-add_statements.ensures.cells
          ∙ (ap (λ cells. cells ++ loops_from c.new-loops.result.next c.statements.result.now) c.new-loops.ensures.cells
          ∙ (λ i. loops_from (second i) (c.statements.ensures i)));
      cells = c.in_ok-add_all-2.ensures.next ∙ (λ i. behind (third i) (bounds i));
    }
