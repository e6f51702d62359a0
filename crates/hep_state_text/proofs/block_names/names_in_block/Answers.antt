use Rattle.std.proofs.Common.{◌++◌, ◌∙◌, List, ap, sym, append-nil, arith}
use Rattle.std.specs.List.{flat_map}
use Rattle.std.proofs.lemmas.List.{drop_all}
use Rattle.hep_machine.specs.Words.{Statement}
use Rattle.hep_state_text.specs.BlockNames.{names_in_statement}
use Rattle.hep_state_text.proofs.BlockNames.{in-unit}
use Rattle.hep_state_text.proofs.block_names.names_in_block.Goals as goal

pub returns : goal.returns
returns c =
    let unit = c.args.unit.now in
    sym (append-nil c.loop-statement.names.items)
    ∙ ap (λ (ss : List Statement). c.loop-statement.names.items ++ flat_map (names_in_statement c.args.block) ss) (sym (drop_all c.loop-statement.statement-index unit (omega (arith, c.loop-statement-test.false))))
    ∙ c.loop-statement.invariant
    ∙ in-unit c.args.block unit
