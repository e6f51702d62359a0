use Rattle.std.proofs.Common.{◌≡◌, ◌++◌, ◌∙◌, ap}
use Rattle.std.specs.List.{flat_map, list_any}
use Rattle.hep_conditions.specs.Words.{function_types}
use Rattle.hep_types.specs.declared.all_ambiguities.Ambiguity.{Ambiguity}
use Rattle.hep_types.specs.Ambiguities as spec
use Rattle.hep_types.proofs.Reported.{told-names}
use Rattle.hep_types.proofs.all_ambiguities.ambiguities.Goals as goal

pub returns : goal.returns
returns c =
    let program = c.args.program.now in
    let whole : c.add_in_units.new.found.items ≡ spec.ambiguities program =
    c.in_ok-add_in_units.ensures
    ∙ ap (λ fs. fs ++ flat_map (spec.ambiguous_in (function_types program)) program) (c.in_ok-add_units.ensures ∙ ap (λ fs. fs ++ spec.ambiguous_units program) c.new-found.ensures.items) in
    record { listed = whole; lines = λ test. ap (list_any (λ (a : Ambiguity). test a.line)) whole ∙ told-names test program }
