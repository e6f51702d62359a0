use Rattle.std.proofs.Common.{◌≤◌, ◌+◌, ◌∙◌, sym, ap, length, drop, arith}
use Rattle.std.proofs.lemmas.List.{at_drop_all, at_drop_more}
use Rattle.indexmap.specs.IndexMap.{get}
use Rattle.hep_machine.specs.Words.{name_eq, names_of_occurrences}
use Rattle.hep_warnings.specs.SingleOccurrences.{after_names}
use Rattle.hep_warnings.proofs.occurrences.add_all.Goals as goal

pub loop-occurrence-preserved : goal.loop-occurrence-preserved
loop-occurrence-preserved c = λ x.
    let ps = c.args.occurrences.now in
    let i = c.loop-occurrence.occurrence-index in
    let line = c.args.line in
    let old = get name_eq c.loop-occurrence.map x in
    ap (λ s. after_names x line s (names_of_occurrences (drop (i + 1) ps))) (c.in_ok-add.ensures x)
    ∙ (sym (at_drop_more (λ qs. after_names x line old (names_of_occurrences qs)) ps i _ c.loop-occurrence-test.true) ∙ c.loop-occurrence.invariant x)

pub returns : goal.returns
returns c = λ x.
    let ps = c.args.occurrences.now in
    let i = c.loop-occurrence.occurrence-index in
    let e = c.loop-occurrence-test.false in
    let h : length ps ≤ i = omega arith in
    sym (at_drop_all (λ qs. after_names x c.args.line (get name_eq c.loop-occurrence.map x) (names_of_occurrences qs)) ps i h) ∙ c.loop-occurrence.invariant x
