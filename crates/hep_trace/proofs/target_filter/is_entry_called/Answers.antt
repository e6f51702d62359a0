use Rattle.std.proofs.Common.{◌∙◌, ap, length, subst, take}
use Rattle.hep_machine.specs.Words.{unit_on_top}
use Rattle.hep_event.specs.Sites.{IsVariableOf}
use Rattle.hep_trace.specs.References.{top_after}
use Rattle.hep_event.specs.AccessedNames.{has_name}
use Rattle.hep_trace.proofs.target_filter.is_entry_called.Goals as goal
use Rattle.hep_trace.proofs.PurgedAhead.{passed}

pub is_called-requires : goal.is_called-requires
is_called-requires c =
    let program = c.args.ahead.now.image.now in
    let choices = c.requires.1 in
    let top = c.requires.2 in
    let x = c.requires.3 in
    let entry = c.requires.5 in
    let t = top_after program choices c.args.ahead.now.process top in
    let same = passed c.args.entry.now c.in-Pass.argument c.in-Referred.variable entry.0 c.in-Referred.subscripts (length x.1) c.in-Pass.is c.in-Referred.is entry.1 in
    (c.requires.0, choices, top, x.0, c.requires.4, subst (IsVariableOf program (unit_on_top program t) x.0) same.0 entry.2)

pub returns : goal.returns
returns c cells choices top x ahead entry =
    let program = c.args.ahead.now.image.now in
    let t = top_after program choices c.args.ahead.now.process top in
    let same = passed c.args.entry.now c.in-Pass.argument c.in-Referred.variable entry.0 c.in-Referred.subscripts (length x.1) c.in-Pass.is c.in-Referred.is entry.1 in
    let own = c.first.ensures ∙ ap (λ n. take n c.args.rest.now) same.1 in
    c.is_called.ensures cells choices top x.0 ahead (subst (IsVariableOf program (unit_on_top program t) x.0) same.0 entry.2)
    ∙ ap (λ vs. has_name program t c.args.name.now (x.0, vs)) own
