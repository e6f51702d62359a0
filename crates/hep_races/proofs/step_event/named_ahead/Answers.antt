use Rattle.std.proofs.Common.{◌≡◌, ◌∙◌, List, refl, true, sym, ap, subst}
use Rattle.std.proofs.lemmas.Option.{none-some, same_Some}
use Rattle.hep_image.specs.Names.{variable_number}
use Rattle.hep_layout.specs.Words.{address}
use Rattle.hep_machine.specs.Words.{Value, is_among, location_of_name, names_of, run, scope_of, unit_at, unit_of}
use Rattle.hep_event.specs.NamedVariables.{named_by}
use Rattle.hep_event.proofs.AccessedAhead.{is-named}
use Rattle.hep_event.proofs.Declared.{placed-named}
use Rattle.hep_event.proofs.FoundVariables.{levels-of}
use Rattle.hep_event.specs.Sites.{IsSite}
use Rattle.hep_trace.proofs.TopLevels.{inside, unit}
use Rattle.hep_races.proofs.step_event.named_ahead.Goals as goal

pub returns-in_default-clause-named : goal.returns-in_default-clause-named
returns-in_default-clause-named c cells choices top ahead x named =
    let a = c.args.ahead.now in
    let law = c.operations_name_variables.ensures.variables a.image.now cells choices a.machine.now a.process top a.coming.now x
    c.is_runnable.ensures.accepted c.is_runnable.ensures.main ahead.lives ahead.coming named in
    absurd (none-some _ (c.in_default.ensures ∙ ap (named_by a.coming.now.operation) c.deref.ensures.value ∙ law.0))

pub returns-in_default-number_of-clause-named : goal.returns-in_default-number_of-clause-named
returns-in_default-number_of-clause-named c cells choices top ahead x named =
    let a = c.args.ahead.now in
    let law = c.operations_name_variables.ensures.variables a.image.now cells choices a.machine.now a.process top a.coming.now x
    c.is_runnable.ensures.accepted c.is_runnable.ensures.main ahead.lives ahead.coming named in
    let own = is-named a.image.now (unit_at a.image.now (unit_of (run a.image.now choices) top.0.activation)) x c.in-Some.variable
    c.in-Some.subscripts.now (c.in-Some.ensures ∙ ap (named_by a.coming.now.operation) c.deref.ensures.value ∙ law.0) law.1 in
    absurd (none-some _ (sym c.in_default-number_of.is ∙ c.number_of.ensures cells choices top x.0 ahead own.variable))

pub top_level-unit-requires-clause-living : goal.top_level-unit-requires-clause-living
top_level-unit-requires-clause-living c = levels-of c.requires.ahead.3.lives

pub name_with-requires-clause-unit : goal.name_with-requires-clause-unit
name_with-requires-clause-unit c = inside c.requires.ahead.3.lives.after c.requires.ahead.3.lives.lives c.top_level-unit.result
    c.top_level-unit.ensures

pub returns-in_default-name_with-clause-named : goal.returns-in_default-name_with-clause-named
returns-in_default-name_with-clause-named c cells choices top ahead x named =
    let a = c.args.ahead.now in
    let program = a.image.now in
    let s = run program choices in
    let law = c.operations_name_variables.ensures.variables program cells choices a.machine.now a.process top a.coming.now x
    c.is_runnable.ensures.accepted c.is_runnable.ensures.main ahead.lives ahead.coming named in
    let own = is-named program (unit_at program (unit_of s top.0.activation)) x c.in-Some.variable c.in-Some.subscripts.now
    (c.in-Some.ensures ∙ ap (named_by a.coming.now.operation) c.deref.ensures.value ∙ law.0) law.1 in
    let number = same_Some c.in-Some-number_of.number (variable_number program (unit_of s top.0.activation) x.0)
    (sym c.in-Some-number_of.is ∙ c.number_of.ensures cells choices top x.0 ahead own.variable) in
    let same = unit ahead.lives.after ahead.lives.lives c.top_level-unit.result c.top_level-unit.ensures in
    let among = subst (λ u. is_among x.0 (names_of (unit_at program u)) ≡ true) same
    (placed-named program (unit_at program (unit_of s top.0.activation)) x.0 law.1) in
    absurd (none-some _ (sym c.in_default-name_with.is
    ∙ c.name_with.ensures x.0 among (number ∙ ap (λ u. variable_number program u x.0) same)))

pub site_of-site-requires : goal.site_of-site-requires
site_of-site-requires c =
    let a = c.args.ahead.now in
    let cells = c.requires.ahead.0 in
    let choices = c.requires.ahead.1 in
    let top = c.requires.ahead.2 in
    let ahead = c.requires.ahead.3 in
    let seen = c.in-Some.ensures ∙ ap (named_by a.coming.now.operation) c.deref.ensures.value in
    let naming = c.operations_name_variables.ensures.names a.image.now cells choices a.machine.now a.process top a.coming.now
    c.is_runnable.ensures.accepted c.is_runnable.ensures.main ahead.lives ahead.coming (λ none. none-some _ (sym none ∙ sym seen)) in
    let x = naming.0 in
    let law = c.operations_name_variables.ensures.variables a.image.now cells choices a.machine.now a.process top a.coming.now x
    c.is_runnable.ensures.accepted c.is_runnable.ensures.main ahead.lives ahead.coming naming.1 in
    let own = is-named a.image.now (unit_at a.image.now (unit_of (run a.image.now choices) top.0.activation)) x c.in-Some.variable
    c.in-Some.subscripts.now (seen ∙ law.0) law.1 in
    (cells, choices, top, ahead.lives, x.0, own.variable)

pub returns-clause-named : goal.returns-clause-named
returns-clause-named c cells choices top ahead x named =
    let a = c.args.ahead.now in
    let program = a.image.now in
    let s = run program choices in
    let law = c.operations_name_variables.ensures.variables program cells choices a.machine.now a.process top a.coming.now x
    c.is_runnable.ensures.accepted c.is_runnable.ensures.main ahead.lives ahead.coming named in
    let own = is-named program (unit_at program (unit_of s top.0.activation)) x c.in-Some.variable c.in-Some.subscripts.now
    (c.in-Some.ensures ∙ ap (named_by a.coming.now.operation) c.deref.ensures.value ∙ law.0) law.1 in
    let number = same_Some c.in-Some-number_of.number (variable_number program (unit_of s top.0.activation) x.0)
    (sym c.in-Some-number_of.is ∙ c.number_of.ensures cells choices top x.0 ahead own.variable) in
    let same = unit ahead.lives.after ahead.lives.lives c.top_level-unit.result c.top_level-unit.ensures in
    let among = subst (λ u. is_among x.0 (names_of (unit_at program u)) ≡ true) same
    (placed-named program (unit_at program (unit_of s top.0.activation)) x.0 law.1) in
    let name = same_Some c.in-Some-name_with.name x.0 (sym c.in-Some-name_with.is
    ∙ c.name_with.ensures x.0 among (number ∙ ap (λ u. variable_number program u x.0) same)) in
    let site_is = subst (λ (vs : List Value). IsSite program s (address program s ahead.lives.after.after.layout) c.site_of-site.result
    (location_of_name (scope_of program s top.0.activation) x.0 vs)) own.subscripts (
    c.site_of-site.ensures cells choices top ahead.lives x.0 own.variable) in (
      record { name = c.in-Some-name_with.name; unit = c.site_of-site.result },
      refl,
      record { name = name; site = record { after = ahead.lives.after; site_is = site_is }; asynchronous = law.2 },
    )

pub returns-clause-some : goal.returns-clause-some
returns-clause-some c =
    let a = c.args.ahead.now in
    let program = a.image.now in
    let cells = c.requires.ahead.0 in
    let choices = c.requires.ahead.1 in
    let top = c.requires.ahead.2 in
    let ahead = c.requires.ahead.3 in
    let seen = c.in-Some.ensures ∙ ap (named_by a.coming.now.operation) c.deref.ensures.value in
    let naming = c.operations_name_variables.ensures.names program cells choices a.machine.now a.process top a.coming.now
    c.is_runnable.ensures.accepted c.is_runnable.ensures.main ahead.lives ahead.coming (λ none. none-some _ (sym none ∙ sym seen)) in
    let x = naming.0 in
    let law = c.operations_name_variables.ensures.variables program cells choices a.machine.now a.process top a.coming.now x
    c.is_runnable.ensures.accepted c.is_runnable.ensures.main ahead.lives ahead.coming naming.1 in
    let own = is-named program (unit_at program (unit_of (run program choices) top.0.activation)) x c.in-Some.variable
    c.in-Some.subscripts.now (seen ∙ law.0) law.1 in (
      program,
      cells,
      choices,
      location_of_name (scope_of program (run program choices) top.0.activation) x.0 c.in-Some.subscripts.now,
      record { after = ahead.lives.after; site_is = c.site_of-site.ensures cells choices top ahead.lives x.0 own.variable },
    )
