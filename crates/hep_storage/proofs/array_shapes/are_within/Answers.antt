use mir.Val.{SFits}
use mir.Syntax.{w64}
use Rattle.std.proofs.Common.{◌<◌, length, get_or, pos, arith, rules, sym, ◌∙◌}
use Rattle.std.proofs.lemmas.Int.{to_z-of_z}
use Rattle.hep_storage.proofs.ShapeBounds.{within-turn}
use Rattle.hep_storage.proofs.array_shapes.are_within.Goals as goal

pub loop-index-preserved : goal.loop-index-preserved
loop-index-preserved c =
    let bs = c.args.bounds.now in
    let ss = c.args.subscripts.now in
    let mt : c.loop-index.index < length ss = omega (arith, c.requires) in
    let fits : SFits w64 (get_or ss c.loop-index.index (pos 0)) = search rules in
    within-turn bs ss c.loop-index.index _ (pos 0) _ c.loop-index-test.true mt c.loop-index.invariant (sym (simp to_z-of_z at c.is_within.ensures) ∙ c.if-not-is_within.false)
