use Rattle.std.proofs.Common.{List, map, ℕ, Bor, reverse, sym, ◌∙◌, arith}
use Rattle.std.proofs.lemmas.List.{length-map, length-reverse}
use Rattle.hep_page.proofs.Same as same
use Rattle.hep_page.proofs.edit.same_end.Goals as goal

pub loop-same-preserved : goal.loop-same-preserved
loop-same-preserved c =
    let now : Bor (List ℕ) → List ℕ = λ line. line.now in
    let i = c.loop-same.same in
    let old = c.args.old.now in
    let new = c.args.new.now in (
      same.counts-on (reverse (map now old)) (reverse (map now new)) i _ _ _ (same.within-end now old i c.loop-same-test.true)
          (same.within-end now new i c.if-same-new.true) (same.at-end now old i _ c.loop-same-test.true) (same.at-end now new i _ c.if-same-new.true)
          (sym c.eq.ensures ∙ c.if-eq.true) c.loop-same.invariant.0,
      omega arith,
      omega arith,
    )

pub returns-else-eq-clause-same : goal.returns-else-eq-clause-same
returns-else-eq-clause-same c =
    let now : Bor (List ℕ) → List ℕ = λ line. line.now in
    let i = c.loop-same.same in
    let old = c.args.old.now in
    let new = c.args.new.now in
    same.counts-all (reverse (map now old)) (reverse (map now new)) i _ _ _ (same.within-end now old i c.loop-same-test.true)
    (same.within-end now new i c.if-same-new.true) (same.at-end now old i _ c.loop-same-test.true) (same.at-end now new i _ c.if-same-new.true)
    (sym c.eq.ensures ∙ c.if-eq.false) c.loop-same.invariant.0

pub returns-else-same-new-clause-same : goal.returns-else-same-new-clause-same
returns-else-same-new-clause-same c =
    let new = c.args.new.now in
    same.new-end _ _ _ _ (rw (length-reverse (map (λ line. line.now) new), length-map new (λ line. line.now)) c.if-same-new.false)
    c.loop-same.invariant.0
