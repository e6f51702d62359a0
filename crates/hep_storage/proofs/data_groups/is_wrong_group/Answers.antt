use Rattle.std.proofs.Common.{◌∙◌, ◌||◌, ap, map}
use Rattle.std.specs.List.{list_any}
use Rattle.hep_machine.specs.Words.{Target}
use Rattle.hep_conditions.specs.Words.{is_forbidden}
use Rattle.hep_storage.specs.DataNames.{places_of, are_known, run_named, is_outside_named}
use Rattle.hep_storage.proofs.Groups.{wrong-group}
use Rattle.hep_storage.proofs.data_groups.is_wrong_group.Goals as goal

pub returns-clause-wrong : goal.returns-clause-wrong
returns-clause-wrong c =
    let unit = c.args.symbols.now in
    let ts = c.as_slice-targets.result.now in
    let named = c.deref-2.ensures.value ∙ (c.in_ok-named_runs.ensures ∙ ap (map (run_named unit)) c.deref.ensures.value) in
    let given = c.deref-3.ensures.value ∙ c.in_ok-given_runs.ensures in
    wrong-group unit c.args.constants.now c.args.group.now ts c.as_slice-values.result.now c.in_ok-named.named.items _ _ _ _ c.is_any_refused-is_refused.result c.is_any_no_value-has_none.result c.fit-is_misfit.result c.is_any.result
    c.as_slice-targets.ensures c.as_slice-values.ensures c.in_ok-named.ensures.named
    (c.in_ok-elements.ensures.places ∙ ap places_of named) (c.in_ok-elements.ensures.whole ∙ ap are_known named)
    (c.in_ok-given.ensures.places ∙ ap places_of given) (c.in_ok-given.ensures.whole ∙ ap are_known given)
    (c.is_any_refused-is_refused.ensures ∙ ap (λ ns. list_any (λ (t : Target). is_forbidden unit t.occurrence.name) ts || list_any is_outside_named ns) c.deref-4.ensures.value)
    c.is_any_no_value-has_none.ensures c.fit-is_misfit.ensures c.is_any.ensures
