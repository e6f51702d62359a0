use Rattle.std.proofs.Common.{◌+◌, ◌∙◌, ap, sym, drop}
use Rattle.std.specs.List.{list_all}
use Rattle.hep_conditions.specs.Words.{function_types, untyped_in, first_of}
use Rattle.hep_names.specs.Parts.{is_typed}
use Rattle.hep_names.proofs.Typed.{typed-unit}
use Rattle.hep_names.proofs.Firsts.{turn}
use Rattle.hep_names.proofs.untyped_names.type_missing_violation.Goals as goal
use Rattle.hep_source.proofs.Tests.{drop_at}

pub loop-statement-preserved : goal.loop-statement-preserved
loop-statement-preserved c =
    let xs = c.statements-statement-items.result.now in
    let i = c.loop-statement.statement-index in
    turn (untyped_in (function_types c.args.program.now) c.args.symbols.now) c.loop-statement.first c.in_ok-untyped_in.field-0 c.first_of_two-first.result _ c.statement-item.result (drop i xs) (drop (i + 1) xs)
    c.loop-statement.invariant c.first_of_two-first.ensures c.in_ok-untyped_in.ensures (drop_at xs i c.statement-item.result c.loop-statement-test.true c.statement-item.is)

pub returns-then-are_typed : goal.returns-then-are_typed
returns-then-are_typed c =
    let unit = c.args.symbols.now in
    let names = c.as_slice.ensures.keys ∙ c.names.ensures in
    ap first_of (sym (typed-unit (function_types c.args.program.now) unit (ap (list_all (is_typed unit)) (sym names) ∙ (sym c.are_typed.ensures ∙ c.if-are_typed.true))))
