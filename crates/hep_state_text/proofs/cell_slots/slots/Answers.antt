use Rattle.std.proofs.Common.{◌≡◌, ◌+◌, ◌∙◌, suc, [], ◌∷◌, ◌++◌, ap, sym, arith}
use Rattle.hep_machine.specs.Words.{further}
use Rattle.hep_state_text.specs.States.{slots_at}
use Rattle.hep_state_text.proofs.Slots.{reached, read-is, slots-more}
use Rattle.hep_state_text.proofs.cell_slots.slots.Goals as goal

pub overflow_add-first : goal.overflow_add-first
overflow_add-first c =
    let r = reached c.requires.0 c.requires.1 c.requires.2 c.requires.3 c.args.count c.args.first c.args.frames.now.arena c.requires.4 c.loop-index.index c.loop-index-test.true in
    omega (arith, r.0, c.requires.4.is_of.few)

pub get-requires-clause-inside : goal.get-requires-clause-inside
get-requires-clause-inside c =
    (reached c.requires.0 c.requires.1 c.requires.2 c.requires.3 c.args.count c.args.first c.args.frames.now.arena c.requires.4 c.loop-index.index c.loop-index-test.true).0

pub get-requires-clause-out : goal.get-requires-clause-out
get-requires-clause-out c =
    (reached c.requires.0 c.requires.1 c.requires.2 c.requires.3 c.args.count c.args.first c.args.frames.now.arena c.requires.4 c.loop-index.index c.loop-index-test.true).1

pub loop-index-preserved : goal.loop-index-preserved
loop-index-preserved c program s layout start kept =
    let i = c.loop-index.index in
    let next : suc i ≡ i + 1 = omega arith in
    c.in_ok-push.ensures.items
    ∙ ap (λ v. c.loop-index.slots.items ++ v ∷ []) (read-is program s layout start c.args.count c.args.first c.args.frames.now.arena kept i c.loop-index-test.true c.get.result c.get.ensures.slot)
    ∙ ap (λ xs. xs ++ s.store (further start i) ∷ []) (c.loop-index.invariant program s layout start kept)
    ∙ sym (slots-more s.store start i)
    ∙ ap (slots_at s.store start) next
