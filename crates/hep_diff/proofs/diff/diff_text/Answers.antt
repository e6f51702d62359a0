use Rattle.std.proofs.Common.{◌≤◌, ◌++◌, ◌∙◌, length, subst, sym, ap}
use Rattle.hep_core.specs.ProcessPlaces.{PlacedCore}
use Rattle.hep_diff.specs.Differences as words
use Rattle.hep_diff.specs.DifferenceLines.{front_text, or_nothing}
use Rattle.hep_diff.specs.Sides.{IsSide}
use Rattle.hep_diff.proofs.Sides.{front-within}
use Rattle.hep_diff.proofs.diff.diff_text.Goals as goal

pub side_of-requires-clause-few : goal.side_of-requires-clause-few
side_of-requires-clause-few c =
    subst (λ n. n ≤ length c.args.entries.now.items) (sym c.same_front-front.ensures) (front-within c.args.entries.now.items c.args.others.now.items).0

pub side_of-requires-2-clause-few : goal.side_of-requires-2-clause-few
side_of-requires-2-clause-few c =
    subst (λ n. n ≤ length c.args.others.now.items) (sym c.same_front-front.ensures) (front-within c.args.entries.now.items c.args.others.now.items).1

pub returns : goal.returns
returns c =
    let entries = c.args.entries.now.items in
    let others = c.args.others.now.items in
    let front = c.same_front-front.ensures in
    let left = subst (λ n. IsSide n entries c.in_ok-left.left) front c.in_ok-left.ensures.steps in
    let right = subst (λ n. IsSide n others c.in_ok-right.right) front c.in_ok-right.ensures.steps in
    let told =
    c.in_ok-differences.ensures entries others left right
    ∙ ap (λ (x : PlacedCore). words.differences x.core.program entries others x.core.cells) c.in_ok-left.ensures.core in
    let head = c.in_ok-append_front.ensures ∙ ap (λ t. t ++ front_text c.same_front-front.result c.len.result c.len-2.result) c.new-text.ensures.items
    ∙ (λ i. front_text (front i) (c.len.ensures.count i) (c.len-2.ensures.count i)) in
    c.in_ok-append_or_nothing.ensures ∙ (λ i. head i ++ or_nothing ((c.deref.ensures.value ∙ told) i))
