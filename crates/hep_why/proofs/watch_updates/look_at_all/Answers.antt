use Rattle.std.proofs.Common.{◌≡◌, ◌<◌, ℕ, Some, List, refl, sym, ◌∙◌, arith, slice_get, ap, length, get_or}
use Rattle.std.proofs.lemmas.Option.{slice_get-get_or, slice_get_within}
use Rattle.hep_why.specs.declared.watch.Watch.{Watch}
use Rattle.hep_why.specs.Watches.{state_at}
use Rattle.hep_why.proofs.WatchUpdates.{looked-listed, part-next}
use Rattle.hep_why.proofs.watch_updates.look_at_all.Goals as goal

here : (old now : List Watch) (i : ℕ) (w : Watch) → i < length now → slice_get now i ≡ slice_get old i → w ≡ get_or now i w
    → slice_get old i ≡ Some w
here old now i w inside same read = sym same ∙ slice_get-get_or now i w inside ∙ ap (λ (x : Watch). Some x) (sym read)

pub loop-index-init : goal.loop-index-init
loop-index-init c = record { count = refl; each = λ t j w at of less. absurd (omega (arith, less)); rest = λ j le. refl; same = λ j. refl }

pub look_once-requires : goal.look_once-requires
look_once-requires c =
    let i = c.loop-index.index in
    let w = c.index.result.now in
    let kept =
    c.requires.2 i w (here c.args.watches.now.items c.loop-index.watches.items i w (omega (arith, c.loop-index-test.true, c.len-index-end.ensures, c.loop-index.invariant.count)) (c.loop-index.invariant.rest i (omega arith)) c.index.ensures) in
    (c.requires.0, kept.0, c.requires.1, kept.1)

pub loop-index-preserved : goal.loop-index-preserved
loop-index-preserved c =
    let i = c.loop-index.index in
    let w = c.index.result.now in
    let t = c.requires.0 in
    let old = c.args.watches.now.items in
    let less : i < length old = omega (arith, c.loop-index-test.true, c.len-index-end.ensures) in
    let is =
    here old c.loop-index.watches.items i w (omega (arith, less, c.loop-index.invariant.count))
    (c.loop-index.invariant.rest i (omega arith)) c.index.ensures in
    let kept = c.requires.2 i w is in
    part-next c.args.machine.now c.args.made c.args.change old i c.loop-index.watches.items w
    c.look_once.result c.loop-index.invariant less is
    (ap (λ (x : Watch). x.listed) (c.look_once.ensures t kept.0 c.requires.1 kept.1) ∙ looked-listed (state_at t) kept.0 c.args.made c.args.change w)
    c.look_once.ensures

pub returns : goal.returns
returns c t of all = record {
  each = λ i w at e kept. c.loop-index.invariant.each t i w at of (omega (arith, slice_get_within c.args.watches.now.items i w e, c.len-index-end.ensures, c.loop-index-test.false)) e kept;
  same = c.loop-index.invariant.same;
}
