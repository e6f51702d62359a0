use Rattle.std.proofs.Common.{◌≤◌, ◌∙◌, length, ap, sym, arith}
use Rattle.std.proofs.lemmas.List.{drop_all}
use Rattle.std.specs.Option.{option_or}
use Rattle.indexmap.specs.IndexMap.{get}
use Rattle.hep_machine.specs.Words.{name_eq}
use Rattle.hep_names.proofs.Notes.{or-none}
use Rattle.hep_places.specs.StorageStarts.{start_found, variable_among}
use Rattle.hep_places.proofs.variables.variables_among.Goals as goal

pub returns : goal.returns
returns c = λ x.
    let names = c.args.names.now in
    let i = c.loop-name.name-index in
    let table = get name_eq c.loop-name.table x in
    let start = start_found c.args.symbols.now c.args.common.now (get name_eq c.args.tables.now.offsets) (get name_eq c.args.tables.now.locals) in
    let k : length names ≤ i = omega arith in
    sym (or-none table) ∙ (ap (λ ys. option_or table (variable_among c.args.symbols.now start c.loop-name.arrays ys x)) (sym (drop_all i names k)) ∙ c.loop-name.invariant x)
