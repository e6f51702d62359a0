use Rattle.std.proofs.Common.{◌+◌, ◌∙◌, ap, drop}
use Rattle.std.specs.List.{flat_map}
use Rattle.hep_conditions.specs.Words.{first_of}
use Rattle.hep_names.specs.Parts.{unknown_target, unknown_in_group}
use Rattle.hep_names.proofs.Firsts.{turn}
use Rattle.hep_names.proofs.unknown_names.unknown_in_groups.Goals as goal
use Rattle.hep_source.proofs.Tests.{drop_at}

pub loop-group-preserved : goal.loop-group-preserved
loop-group-preserved c =
    let xs = c.args.groups.now in
    let i = c.loop-group.group-index in
    turn (unknown_in_group c.args.symbols.now c.args.line) c.loop-group.first c.first_unknown_target.result c.first_of_two-first.result _ c.group-item.result (drop i xs) (drop (i + 1) xs)
    c.loop-group.invariant c.first_of_two-first.ensures
    (c.first_unknown_target.ensures ∙ ap (λ ts. first_of (flat_map (unknown_target c.args.symbols.now c.args.line) ts)) c.as_slice.ensures)
    (drop_at xs i c.group-item.result c.loop-group-test.true c.group-item.is)
