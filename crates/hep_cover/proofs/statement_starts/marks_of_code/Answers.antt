use Rattle.std.proofs.Common.{◌≡◌, ◌+◌, suc, [], ◌∷◌, ◌++◌, drop, append-nil, append_assoc, sym, ap, ◌∙◌, arith}
use Rattle.std.proofs.lemmas.List.{drop_all}
use Rattle.hep_cover.specs.StartMarks.{marks}
use Rattle.hep_cover.proofs.StartMarks.{marks-next}
use Rattle.hep_cover.proofs.statement_starts.marks_of_code.Goals as goal

pub loop-index-preserved : goal.loop-index-preserved
loop-index-preserved c =
    let operations = c.args.operations.now in
    let code = c.args.code.now in
    let i = c.loop-index.index in
    let before = c.loop-index.lines.items in
    let next : suc i ≡ i + 1 = omega arith in
    ap (λ xs. xs ++ marks operations (drop (i + 1) code)) c.in_ok-push.ensures.items
    ∙ append_assoc before (c.mark_of.result ∷ []) (marks operations (drop (i + 1) code))
    ∙ (λ j. before ++ c.mark_of.ensures j ∷ marks operations (drop (sym next j) code))
    ∙ ap (λ xs. before ++ xs) (sym (marks-next operations code i (omega (arith, c.loop-index-test.true))))
    ∙ c.loop-index.invariant

pub returns : goal.returns
returns c =
    let operations = c.args.operations.now in
    let code = c.args.code.now in
    let i = c.loop-index.index in
    let before = c.loop-index.lines.items in
    sym (append-nil before) ∙ ap (λ is. before ++ marks operations is) (sym (drop_all i code (omega (arith, c.loop-index-test.false))))
    ∙ c.loop-index.invariant
