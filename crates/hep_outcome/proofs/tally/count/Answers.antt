use Rattle.std.proofs.Common.{◌≡◌, ◌<◌, ◌∙◌, List, Some, ap, arith, length, slice_get, slice_set, sym, true}
use Rattle.std.proofs.lemmas.Option.{same_Some, slice_get-get_or}
use Rattle.std.proofs.lemmas.Result.{on_ok_weaker}
use Rattle.hep_outcome.specs.Tallies.{Tally, counted, is_like}
use Rattle.hep_outcome.proofs.Counts.{counted-here}
use Rattle.hep_outcome.proofs.tally.count.Goals as goal

pub returns-then-is_like : goal.returns-then-is_like
returns-then-is_like c =
    let ts : List Tally = c.loop-place.tallies.items in
    let k = c.loop-place.place in
    let one : Tally = c.args.one in
    let t : Tally = c.index_mut.result.now in
    let x : Tally = c.index.result.now in
    let within : k < length ts = omega (arith, c.loop-place-test.true, c.len-place-end.ensures, ap length c.loop-place.invariant.0) in
    let at : slice_get ts k ≡ Some t = slice_get-get_or ts k t within ∙ ap (λ y. Some y) (sym c.index_mut.ensures.value) in
    let seen : slice_get ts k ≡ Some x = slice_get-get_or ts k x within ∙ ap (λ y. Some y) (sym c.index.ensures) in
    let like : is_like one t ≡ true = ap (is_like one) (sym (same_Some x t (sym seen ∙ at))) ∙ (sym c.is_like.ensures ∙ c.if-is_like.true) in
    on_ok_weaker c.raise.result (λ raised.
    ap (slice_set ts k) raised ∙ (sym (counted-here one ts k t at like) ∙ (c.loop-place.invariant.1 ∙ ap (counted one) c.loop-place.invariant.0))) c.raise.ensures
