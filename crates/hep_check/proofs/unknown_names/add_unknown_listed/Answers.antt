use Rattle.std.proofs.Common.{◌+◌, ◌++◌, ◌∙◌, ap, drop, map}
use Rattle.hep_names.specs.Lists.{listed}
use Rattle.hep_names.specs.Parts.{unknown_by, unknown_listed}
use Rattle.hep_names.proofs.Firsts.{grow}
use Rattle.hep_source.proofs.Tests.{drop_at}
use Rattle.hep_check.proofs.unknown_names.add_unknown_listed.Goals as goal

pub loop-name-preserved : goal.loop-name-preserved
loop-name-preserved c =
    let xs = c.args.names.now in
    let i = c.loop-name.name-index in
    let found = c.loop-name.found.items in
    grow (unknown_listed c.args.program.now c.args.symbols.now c.args.line) found c.add_by.new.found.items _ (listed c.name-item.result) (map listed (drop i xs)) (map listed (drop (i + 1) xs))
    c.loop-name.invariant
    (c.in_ok-add_by.ensures ∙ ap (λ b. found ++ unknown_by b c.args.line c.name-item.result.occurrence) c.is_unknown.ensures)
    (ap (map listed) (drop_at xs i c.name-item.result c.loop-name-test.true c.name-item.is))
