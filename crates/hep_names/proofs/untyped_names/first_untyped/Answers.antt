use Rattle.std.proofs.Common.{◌+◌, drop}
use Rattle.std.proofs.lemmas.List.{drop_more}
use Rattle.hep_conditions.specs.Words.{function_types}
use Rattle.hep_names.specs.Parts.{untyped}
use Rattle.hep_names.proofs.Firsts.{turn}
use Rattle.hep_names.proofs.untyped_names.first_untyped.Goals as goal

pub loop-occurrence-preserved : goal.loop-occurrence-preserved
loop-occurrence-preserved c =
    let xs = c.args.occurrences.now in
    let i = c.loop-occurrence.occurrence-index in
    turn (untyped (function_types c.args.program.now) c.args.symbols.now c.args.line) c.loop-occurrence.first c.untyped.result c.first_of_two-first.result _ _ (drop i xs) (drop (i + 1) xs)
    c.loop-occurrence.invariant c.first_of_two-first.ensures c.untyped.ensures (drop_more xs i _ c.loop-occurrence-test.true)
