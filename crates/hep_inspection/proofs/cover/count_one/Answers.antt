use Rattle.std.proofs.Common.{List, ℕ, refl, subst, ◌∙◌}
use Rattle.hep_cover.specs.Coverage.{counted_in}
use Rattle.hep_inspection.specs.ReplayResults.{IsMadeOrRefused}
use Rattle.hep_inspection.proofs.cover.count_one.Goals as goal

pub count_history-requires : goal.count_history-requires
count_history-requires c =
    let asked = c.args.asked.now in
    (subst (IsMadeOrRefused asked.long asked.options.now.arena c.args.image.now c.args.origin.now) c.in-Made.is c.in_ok-core.ensures).1

pub returns-in_ok-count_history-in-Made : goal.returns-in_ok-count_history-in-Made
returns-in_ok-count_history-in-Made c =
    let asked = c.args.asked.now in
    let entries = c.in-Made.entries.items in
    let is = IsMadeOrRefused asked.long asked.options.now.arena c.args.image.now c.args.origin.now in
    let made = subst is c.in-Made.is c.in_ok-core.ensures in (
      entries,
      made.0,
      refl {A = List ℕ},
      c.in_ok-count_history-in-Made.ensures ∙ (λ i. counted_in (made.2 i) (c.deref.ensures.value i) entries c.args.counting.now.counts.items),
    )
