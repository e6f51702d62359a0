use Rattle.std.proofs.Common.{◌∙◌, ap, length, subst, sym, take}
use Rattle.hep_event.specs.Sites.{IsVariableOf}
use Rattle.hep_machine.specs.Words.{unit_on_top}
use Rattle.hep_races.proofs.purged_places.append_entry.Goals as goal
use Rattle.hep_trace.proofs.PurgedAhead.{passed}
use Rattle.hep_trace.specs.References.{top_after}

pub append_target-requires : goal.append_target-requires
append_target-requires c =
    let a = c.args.ahead.now in
    let program = a.image.now in
    let choices = c.requires.1 in
    let top = c.requires.2 in
    let x = c.requires.3 in
    let entry = c.requires.5 in
    let t = top_after program choices a.process top in
    let same = passed c.args.entry.now c.in-Pass.argument c.in-Referred.variable entry.0 c.in-Referred.subscripts (length x.1)
    c.in-Pass.is c.in-Referred.is entry.1 in
    let own = c.parted.ensures.own ∙ ap (λ n. take n c.args.rest.now) same.1 ∙ c.requires.6 in
    (c.requires.0, choices, top, x, c.requires.4, subst (IsVariableOf program (unit_on_top program t) x.0) same.0 entry.2, sym own)

pub returns-clause-places : goal.returns-clause-places
returns-clause-places c cells choices top x ahead entry own =
    let a = c.args.ahead.now in
    let program = a.image.now in
    let t = top_after program choices a.process top in
    let same = passed c.args.entry.now c.in-Pass.argument c.in-Referred.variable entry.0 c.in-Referred.subscripts (length x.1)
    c.in-Pass.is c.in-Referred.is entry.1 in
    let subscripts = c.parted.ensures.own ∙ ap (λ n. take n c.args.rest.now) same.1 ∙ own in
    c.in_ok-append_target.ensures cells choices top x ahead (subst (IsVariableOf program (unit_on_top program t) x.0) same.0 entry.2)
    (sym subscripts)
