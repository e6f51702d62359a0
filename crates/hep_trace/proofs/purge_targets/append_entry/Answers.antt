use Rattle.std.proofs.Common.{◌++◌, ◌∙◌, ap, codes, length, subst, take}
use Rattle.hep_machine.specs.Words.{unit_on_top}
use Rattle.hep_event.specs.Sites.{IsVariableOf}
use Rattle.hep_trace.specs.References.{top_after}
use Rattle.hep_event.specs.LineTexts as lines
use Rattle.hep_trace.proofs.purge_targets.append_entry.Goals as goal
use Rattle.hep_trace.proofs.PurgedAhead.{passed}

pub returns-clause-text : goal.returns-clause-text
returns-clause-text c cells choices top x ahead entry =
    let program = c.args.ahead.now.image.now in
    let t = top_after program choices c.args.ahead.now.process top in
    let same = passed c.args.entry.now c.in-Pass.argument c.in-Referred.variable entry.0 c.in-Referred.subscripts (length x.1) c.in-Pass.is c.in-Referred.is entry.1 in
    let name = c.name_of.ensures cells choices top x.0 ahead (subst (IsVariableOf program (unit_on_top program t) x.0) same.0 entry.2) in
    let subscripts = c.first.ensures ∙ ap (λ n. take n c.args.rest.now) same.1 in
    c.in_ok-append_target.ensures
    ∙ (λ i. c.args.text.now.items ++ (codes " " ++ lines.reference_text (name i) (subscripts i)))
