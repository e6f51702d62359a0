use Rattle.std.proofs.Common.{◌∙◌, List, refl, sym, ap, subst}
use Rattle.std.proofs.lemmas.Option.{none-some, same_Some}
use Rattle.hep_image.specs.Names.{variable_number}
use Rattle.hep_layout.specs.Words.{address}
use Rattle.hep_machine.specs.Words.{Value, location_of_name, run, scope_of, unit_at, unit_of}
use Rattle.hep_event.specs.NamedVariables.{named_by}
use Rattle.hep_event.proofs.AccessedAhead.{is-named}
use Rattle.hep_event.specs.Sites.{IsSite}
use Rattle.hep_trace.proofs.PlaceWords.{name-so, place-so}
use Rattle.hep_trace.proofs.reference.reference_ahead.Goals as goal

pub returns-in_default : goal.returns-in_default
returns-in_default c cells choices top ahead x named =
    let a = c.args.ahead.now in
    let law = c.operations_name_variables.ensures.variables a.image.now cells choices a.machine.now a.process top a.coming.now x c.is_runnable.ensures.accepted c.is_runnable.ensures.main ahead.lives ahead.coming named in
    absurd (none-some _ (c.in_default.ensures ∙ ap (named_by a.coming.now.operation) c.deref.ensures.value ∙ law.0))

pub returns-in_default-number_of : goal.returns-in_default-number_of
returns-in_default-number_of c cells choices top ahead x named =
    let a = c.args.ahead.now in
    let law = c.operations_name_variables.ensures.variables a.image.now cells choices a.machine.now a.process top a.coming.now x c.is_runnable.ensures.accepted c.is_runnable.ensures.main ahead.lives ahead.coming named in
    let own = is-named a.image.now (unit_at a.image.now (unit_of (run a.image.now choices) top.0.activation)) x c.in-Some.variable c.in-Some.subscripts.now (c.in-Some.ensures ∙ ap (named_by a.coming.now.operation) c.deref.ensures.value ∙ law.0) law.1 in
    absurd (none-some _ (sym c.in_default-number_of.is ∙ c.number_of.ensures cells choices top x.0 ahead own.variable))

pub site_of-site-requires : goal.site_of-site-requires
site_of-site-requires c =
    let a = c.args.ahead.now in
    let cells = c.requires.0 in
    let choices = c.requires.1 in
    let top = c.requires.2 in
    let ahead = c.requires.3 in
    let seen = c.in-Some.ensures ∙ ap (named_by a.coming.now.operation) c.deref.ensures.value in
    let naming = c.operations_name_variables.ensures.names a.image.now cells choices a.machine.now a.process top a.coming.now c.is_runnable.ensures.accepted c.is_runnable.ensures.main ahead.lives ahead.coming (λ none. none-some _ (sym none ∙ sym seen)) in
    let x = naming.0 in
    let law = c.operations_name_variables.ensures.variables a.image.now cells choices a.machine.now a.process top a.coming.now x c.is_runnable.ensures.accepted c.is_runnable.ensures.main ahead.lives ahead.coming naming.1 in
    let own = is-named a.image.now (unit_at a.image.now (unit_of (run a.image.now choices) top.0.activation)) x c.in-Some.variable c.in-Some.subscripts.now (seen ∙ law.0) law.1 in
    (cells, choices, top, ahead.lives, x.0, own.variable)

pub returns : goal.returns
returns c cells choices top ahead x named =
    let a = c.args.ahead.now in
    let program = a.image.now in
    let s = run program choices in
    let law = c.operations_name_variables.ensures.variables program cells choices a.machine.now a.process top a.coming.now x c.is_runnable.ensures.accepted c.is_runnable.ensures.main ahead.lives ahead.coming named in
    let own = is-named program (unit_at program (unit_of s top.0.activation)) x c.in-Some.variable c.in-Some.subscripts.now (c.in-Some.ensures ∙ ap (named_by a.coming.now.operation) c.deref.ensures.value ∙ law.0) law.1 in
    let number = c.in-Some-number_of.name in
    let site = c.site_of-site.result in
    let number_is = same_Some number (variable_number program (unit_of s top.0.activation) x.0) (sym c.in-Some-number_of.is ∙ c.number_of.ensures cells choices top x.0 ahead own.variable) in
    let site_is = subst (λ (vs : List Value). IsSite program s (address program s ahead.lives.after.after.layout) site (location_of_name (scope_of program s top.0.activation) x.0 vs)) own.subscripts (
    c.site_of-site.ensures cells choices top ahead.lives x.0 own.variable) in (
      record { name = number; site = site; place = c.in_ok-place.place },
      refl,
      record {
        name = name-so program cells choices a.machine.now a.process top c.is_runnable.ensures.accepted c.is_runnable.ensures.main ahead.lives x c.in-Some.variable own.variable number number_is;
        site = record { after = ahead.lives.after; site_is = site_is };
        place = c.in_ok-place.ensures cells choices top ahead
            ∙ place-so program cells choices a.machine.now a.process top c.is_runnable.ensures.accepted c.is_runnable.ensures.main ahead.lives x c.in-Some.variable own.variable number top.0.activation site number_is refl site_is;
      },
    )
