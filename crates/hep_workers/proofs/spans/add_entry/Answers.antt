use Rattle.std.proofs.Common.{◌≡◌, ◌+◌, ◌-◌, ◌++◌, [], ◌∷◌, length, ap, ◌∙◌, arith, slice_set}
use Rattle.std.proofs.lemmas.List.{set-get_or}
use Rattle.hep_workers.specs.declared.spans.EntrySpan.{EntrySpan}
use Rattle.hep_workers.proofs.GrowingHistories.{apart, first-one, joined, last-at, last-inside}
use Rattle.hep_workers.proofs.spans.add_entry.Goals.{then-count-gt0+else-last-index, else-count-gt0}
use Rattle.hep_workers.proofs.spans.add_entry.Goals as goal

pub overflow_add-last : goal.overflow_add-last
overflow_add-last c =
    let spans = c.args.spans.now.items in
    let last : EntrySpan = c.index_mut-last.result.now in
    let k = c.len-count.result - 1 in
    let at = last-at spans k last (omega (arith, c.len-count.ensures, c.if-count-gt0.true, c.args.spans.now.ok.0)) c.index_mut-last.ensures.value in
    let le = last-inside c.args.index spans k last at c.requires.inside in
    omega (arith, le, c.ranges.index)

pub returns-then-last-index : goal.returns-then-last-index
returns-then-last-index c =
    let spans = c.args.spans.now.items in
    let last : EntrySpan = c.index_mut-last.result.now in
    let k = c.len-count.result - 1 in
    let len : k + 1 ≡ length spans = omega (arith, c.len-count.ensures, c.if-count-gt0.true, c.args.spans.now.ok.0) in
    joined spans k last c.args.index (last-at spans k last (omega (arith, len)) c.index_mut-last.ensures.value) len c.if-last-index.true

pub returns : goal.returns
returns c =
    let spans = c.args.spans.now.items in
    let index = c.args.index in
    c.push_reserved.ensures.items ∙ (elim c.if-count-gt0.branch [
      | then-count-gt0+else-last-index w ↦ (
          let last : EntrySpan = w.index_mut-last.result.now in
          let k = c.len-count.result - 1 in
          let len : k + 1 ≡ length spans = omega (arith, c.len-count.ensures, w.if-count-gt0, c.args.spans.now.ok.0) in
          let at = last-at spans k last (omega (arith, len)) w.index_mut-last.ensures.value in
          ap (λ v. v.items ++ record { first = index; count = 1 } ∷ []) w.spans-is
          ∙ ap (λ ss. ss ++ record { first = index; count = 1 } ∷ []) (ap (slice_set spans k) w.index_mut-last.ensures.value ∙ set-get_or spans k last)
          ∙ apart spans k last index at len w.if-last-index.false
          )
      | else-count-gt0 w ↦ (
          let none : length spans ≡ 0 = omega (arith, c.len-count.ensures, w.if-count-gt0, c.args.spans.now.ok.0) in
          ap (λ v. v.items ++ record { first = index; count = 1 } ∷ []) w.spans-is ∙ first-one spans index none
          )
    ])
