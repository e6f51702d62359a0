use Rattle.std.proofs.Common.{◌≡◌, ◌*◌, [], ◌∷◌, ◌++◌, ◌∙◌, ap, append_assoc, arith, replicate, sym}
use Rattle.std.proofs.lemmas.List.{replicate-append-replicate}
use Rattle.hep_replay.proofs.ChoiceRows.{choices-run}
use Rattle.hep_replay.proofs.history_choices.append_alike.Goals as goal

pub loop-preserved : goal.loop-preserved
loop-preserved c =
    let items = c.args.choices.now.items in
    let p = c.args.run.process in
    c.in_ok-push.ensures.items
    ∙ ap (λ l. l ++ p ∷ []) c.loop.invariant
    ∙ append_assoc items (replicate c.loop.counter p) (p ∷ [])
    ∙ ap (λ l. items ++ l) (replicate-append-replicate c.loop.counter 1 p)

pub returns : goal.returns
returns c =
    let items = c.args.choices.now.items in
    let run = c.args.run in
    let all : c.loop.counter ≡ c.from.result * c.from-2.result = omega (arith, c.loop-test.false, c.loop.auto.counter-end) in
    let times = ap (λ k. k * c.from-2.result) c.from.ensures ∙ ap (λ k. run.count * k) (c.from-2.ensures ∙ c.times_for.ensures) in
    c.loop.invariant ∙ ap (λ l. items ++ l) (ap (λ k. replicate k run.process) (all ∙ times) ∙ sym (choices-run run))
