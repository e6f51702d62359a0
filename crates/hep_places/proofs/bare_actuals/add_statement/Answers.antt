use Rattle.std.proofs.Common.{◌∙◌, ap, OnOk, Result, Ok, Err, List, map}
use Rattle.std.specs.List.{flat_map}
use Rattle.indexmap.specs.IndexSet.{contains}
use Rattle.hep_machine.specs.Words.{is_among, name_eq}
use Rattle.hep_conditions.specs.Words.{NameWithList, names_with_lists}
use Rattle.hep_names.specs.Lists.{listed}
use Rattle.hep_names.specs.declared.lists.NameWithList.{NameWithList as Reference}
use Rattle.hep_names.specs.Tables.{either}
use Rattle.hep_image.specs.Private.{bare_in_list}
use Rattle.hep_conditions.specs.Statements.{bare_actuals_in}
use Rattle.hep_places.proofs.GatheredStarts.{among-both}
use Rattle.hep_places.proofs.bare_actuals.add_statement.Goals as goal

on-ok : {A E : Type 0} (r : Result A E) {P Q : Type 0} → (P → Q) → OnOk r P → OnOk r Q
on-ok (Ok x) f h = f h
on-ok (Err e) f h = tt

pub returns : goal.returns
returns c =
    let unit = c.args.symbols.now in
    let s = c.args.statement.now in
    on-ok c.add_references.result (λ h x. among-both x (contains name_eq c.args.names.now x) _ _ (bare_actuals_in s.form) (flat_map (bare_in_list unit) (names_with_lists s))
    (c.in_ok-add_names.ensures x ∙ ap (λ ys. either (contains name_eq c.args.names.now x) (is_among x ys)) c.actuals_in.ensures)
    (h x ∙ ap (λ (rs : List Reference). either (contains name_eq c.add_names.new.names x) (is_among x (flat_map (bare_in_list unit) (map listed rs)))) c.deref.ensures.value ∙ ap (λ (rs : List NameWithList). either (contains name_eq c.add_names.new.names x) (is_among x (flat_map (bare_in_list unit) rs))) c.in_ok-references.ensures)) c.add_references.ensures
