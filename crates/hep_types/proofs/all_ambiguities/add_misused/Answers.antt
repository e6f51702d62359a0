use Rattle.std.proofs.Common.{◌∙◌}
use Rattle.hep_conditions.specs.Words.{function_types}
use Rattle.hep_types.specs.Ambiguities.{two_ways_in}
use Rattle.hep_types.proofs.Reported.{flat-more}
use Rattle.hep_types.proofs.Ways.{both-ways}
use Rattle.hep_types.proofs.all_ambiguities.add_misused.Goals as goal

pub loop-way-preserved : goal.loop-way-preserved
loop-way-preserved c =
    let functions = function_types c.args.program.now in
    let unit = c.args.symbols.now in
    flat-more (two_ways_in functions unit c.args.one) c.args.ways.now c.loop-way.way-index _ c.loop-way.found.items c.add_other_way.new.found.items _
    c.loop-way-test.true c.loop-way.invariant
    (both-ways functions unit c.args.one _ _ c.loop-way.found.items c.add_other_way.new.found.items c.in_ok-add_other_way.ensures (c.deref.ensures.value ∙ c.in_ok-uses.ensures))
