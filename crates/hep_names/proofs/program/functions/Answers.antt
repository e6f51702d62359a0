use Rattle.std.proofs.Common.{◌≤◌, ◌∙◌, length, ap, sym, arith}
use Rattle.std.proofs.lemmas.List.{drop_all}
use Rattle.std.specs.Option.{option_or}
use Rattle.indexmap.specs.IndexMap.{get}
use Rattle.hep_machine.specs.Words.{function_name, name_eq}
use Rattle.hep_names.specs.Tables.{called_from}
use Rattle.hep_names.proofs.Notes.{or-none}
use Rattle.hep_names.proofs.program.functions.Goals as goal

pub returns : goal.returns
returns c = λ x.
    let program = c.args.program.now in
    let i = c.loop-number.number in
    let table = get name_eq c.loop-number.numbers.map x in
    let k : length program ≤ i = omega arith in
    sym (or-none table) ∙ (ap (λ us. option_or table (called_from function_name i x us)) (sym (drop_all i program k)) ∙ c.loop-number.invariant x)
