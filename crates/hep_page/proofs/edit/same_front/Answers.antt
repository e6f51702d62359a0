use Rattle.std.proofs.Common.{[], List, map, ℕ, Bor, sym, ◌∙◌, arith}
use Rattle.std.proofs.lemmas.List.{get_or-map, length-map}
use Rattle.hep_page.proofs.Same as same
use Rattle.hep_page.proofs.edit.same_front.Goals as goal

pub loop-same-preserved : goal.loop-same-preserved
loop-same-preserved c =
    let now : Bor (List ℕ) → List ℕ = λ line. line.now in let i = c.loop-same.same in (
      same.counts-on (map now c.args.old.now) (map now c.args.new.now) i _ _ _ (rw (length-map c.args.old.now now) c.loop-same-test.true)
          (rw (length-map c.args.new.now now) c.if-same-new.true) (get_or-map now c.args.old.now i _ [] c.loop-same-test.true)
          (get_or-map now c.args.new.now i _ [] c.if-same-new.true) (sym c.eq.ensures ∙ c.if-eq.true) c.loop-same.invariant.0,
      omega arith,
      omega arith,
    )

pub returns-else-eq-clause-same : goal.returns-else-eq-clause-same
returns-else-eq-clause-same c =
    let now : Bor (List ℕ) → List ℕ = λ line. line.now in let i = c.loop-same.same in
    same.counts-all (map now c.args.old.now) (map now c.args.new.now) i _ _ _ (rw (length-map c.args.old.now now) c.loop-same-test.true)
    (rw (length-map c.args.new.now now) c.if-same-new.true) (get_or-map now c.args.old.now i _ [] c.loop-same-test.true)
    (get_or-map now c.args.new.now i _ [] c.if-same-new.true) (sym c.eq.ensures ∙ c.if-eq.false) c.loop-same.invariant.0

pub returns-else-same-new-clause-same : goal.returns-else-same-new-clause-same
returns-else-same-new-clause-same c =
    same.new-end _ _ _ _ (rw (length-map c.args.new.now (λ line. line.now)) c.if-same-new.false) c.loop-same.invariant.0
