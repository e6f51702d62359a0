use Rattle.std.proofs.Common.{[], ◌∷◌, ◌++◌, ◌∙◌, ap, append_assoc, replicate}
use Rattle.std.proofs.lemmas.List.{replicate-append-replicate}
use Rattle.hep_replay.proofs.choices.VecU64RowU64.append.Goals as goal

pub loop-preserved : goal.loop-preserved
loop-preserved c =
    let items = c.args.self.now.items in
    c.in_ok-push.ensures.items
    ∙ ap (λ l. l ++ c.args.item ∷ []) c.loop.invariant
    ∙ append_assoc items (replicate c.loop.counter c.args.item) (c.args.item ∷ [])
    ∙ ap (λ l. items ++ l) (replicate-append-replicate c.loop.counter 1 c.args.item)
