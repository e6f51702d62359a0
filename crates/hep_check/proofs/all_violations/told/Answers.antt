use Rattle.std.proofs.Common.{◌+◌, ◌++◌, ◌∙◌, ap, drop}
use Rattle.hep_names.proofs.Firsts.{grow}
use Rattle.hep_source.proofs.Tests.{drop_at}
use Rattle.hep_check.specs.AllViolations.{told_in}
use Rattle.hep_check.proofs.all_violations.told.Goals as goal

pub loop-symbols-preserved : goal.loop-symbols-preserved
loop-symbols-preserved c =
    let xs = c.units-symbols-items.result.now in
    let i = c.loop-symbols.symbols-index in
    let found = c.loop-symbols.found.items in
    grow (told_in c.args.program.now) found c.extend_from_slice.new.self.items _ c.symbols-item.result (drop i xs) (drop (i + 1) xs) c.loop-symbols.invariant
    (c.in_ok-extend_from_slice.ensures.items ∙ ap (λ vs. found ++ vs) (c.deref.ensures.value ∙ c.in_ok-told.ensures))
    (drop_at xs i c.symbols-item.result c.loop-symbols-test.true c.symbols-item.is)
