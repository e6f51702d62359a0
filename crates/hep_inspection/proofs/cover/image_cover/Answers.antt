use Rattle.std.proofs.Common.{rules, subst, sym, ap, ◌∙◌, get_or, Some, None}
use Rattle.hep_cover.specs.StatementStarts.{operations_by_line}
use Rattle.hep_cover.specs.Coverage.{unbegun}
use Rattle.hep_inspection.specs.CountedHistories.{IsCountedOrRefused}
use Rattle.hep_inspection.specs.declared.origin.Origin.{Origin}
use Rattle.hep_outcome.specs.Transcripts.{outcome_of}
use Rattle.hep_inspection.proofs.CountedHistories.{all-counted, along-begins, along-ends, step-counted, step-refused}
use Rattle.hep_inspection.proofs.cover.image_cover.Goals as goal

pub loop-index-init : goal.loop-index-init
loop-index-init c =
    let program = c.args.image.now in
    let options = c.args.asked.now.options.now in
    along-begins c.args.asked.now.long options c.args.source.now program options.origins.now c.in_ok-counting.counting
    (c.in_ok-counting.ensures.operations ∙ ap (operations_by_line program) c.line_count.ensures)
    (c.in_ok-counting.ensures.counts ∙ ap (unbegun program) c.line_count.ensures)

pub returns-in-Some : goal.returns-in-Some
returns-in-Some c =
    let long = c.args.asked.now.long in
    let options = c.args.asked.now.options.now in
    let program = c.args.image.now in
    let old = c.loop-index.counting in
    let new = c.count_one.new.counting in
    let origin = c.index-asked-index.result in
    let here = get_or options.origins.now c.loop-index.index origin in
    step-refused long options c.args.source.now program options.origins.now c.loop-index.index origin old new
    c.loop-index-test.true c.index-asked-index.is c.loop-index.invariant c.in-Some.refused
    (subst (λ (o : Origin). IsCountedOrRefused long options.arena program o old new (Some c.in-Some.refused)) (sym c.index-asked-index.is)
    (subst (IsCountedOrRefused long options.arena program here old new) c.in-Some.is c.in_ok-refused.ensures))

pub loop-index-preserved : goal.loop-index-preserved
loop-index-preserved c =
    let long = c.args.asked.now.long in
    let options = c.args.asked.now.options.now in
    let program = c.args.image.now in
    let old = c.loop-index.counting in
    let new = c.count_one.new.counting in
    let origin = c.index-asked-index.result in
    let here = get_or options.origins.now c.loop-index.index origin in
    step-counted long options c.args.source.now program options.origins.now c.loop-index.index origin old new
    c.loop-index-test.true c.index-asked-index.is c.loop-index.invariant
    (subst (λ (o : Origin). IsCountedOrRefused long options.arena program o old new None) (sym c.index-asked-index.is)
    (subst (IsCountedOrRefused long options.arena program here old new) c.in-None.is c.in_ok-refused.ensures))

pub returns : goal.returns
returns c =
    let long = c.args.asked.now.long in
    let options = c.args.asked.now.options.now in
    let program = c.args.image.now in
    let counted = c.loop-index.counting in
    along-ends long options c.args.source.now program options.origins.now counted (outcome_of c.text_transcript.result)
    (all-counted long options c.args.source.now program options.origins.now c.loop-index.index counted c.loop-index-test.false
    c.loop-index.invariant) (search rules)
