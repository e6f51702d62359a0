use Rattle.std.proofs.Common.{◌<◌, ◌∙◌, Some, ap, arith, length, sym}
use Rattle.std.proofs.lemmas.List.{length-map}
use Rattle.std.proofs.lemmas.Option.{slice_get-get_or}
use Rattle.hep_why.specs.Lines.{makers_wait}
use Rattle.hep_why.specs.declared.reason.Reason.{Reason}
use Rattle.hep_why.proofs.ReasonLines.{turn}
use Rattle.hep_why.proofs.reason_text.append_each.Goals as goal

pub loop-index-preserved : goal.loop-index-preserved
loop-index-preserved c =
    let r = c.index-reasons-index.result in
    let less : c.loop-index.index < length c.args.makers.now =
    omega (arith, c.loop-index-test.true, ap length c.requires, length-map c.args.reasons.now (makers_wait c.args.reasons.now)) in
    turn c.args.image.now c.args.reasons.now c.args.makers.now c.loop-index.index r _ _ _ _ c.loop-index-test.true
    (slice_get-get_or c.args.reasons.now c.loop-index.index r c.loop-index-test.true ∙ ap (λ (x : Reason). Some x) (sym c.index-reasons-index.is))
    c.requires
    (slice_get-get_or c.args.makers.now c.loop-index.index _ less)
    c.loop-index.invariant c.in_ok-append_reason.ensures
