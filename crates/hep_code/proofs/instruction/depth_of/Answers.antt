use Rattle.std.proofs.Common.{◌≡◌, ◌-◌, ◌+◌, ◌∷◌, ◌∙◌, suc, drop, length, ap, sym, arith}
use Rattle.std.proofs.lemmas.List.{drop_all}
use Rattle.hep_code.specs.Words.{deepest, line_too_deep}
use Rattle.hep_code.proofs.OperandCounts.{known_past, known_more, stands_within, few_when_none, whole}
use Rattle.hep_code.proofs.instruction.depth_of.Goals as goal

pub loop-passed-init : goal.loop-passed-init
loop-passed-init c =
    let code = c.args.code.now in
    record { known = known_past code (length code - 0) (drop_all (length code - 0) code (omega arith)); few = omega arith }

pub loop-passed-preserved : goal.loop-passed-preserved
loop-passed-preserved c =
    let code = c.args.code.now in
    let p = c.loop-passed.passed in
    let index = length code - (p + 1) in
    let at : length code - 1 - p ≡ index = omega arith in
    let after : length code - p ≡ suc index = omega (arith, c.loop-passed-test.true) in
    let here : drop index code ≡ c.from_index.result.0.now ∷ c.from_index.result.1.now = ap (λ i. drop i code) (sym at) ∙ c.from_index.ensures.from in
    record {
      known = known_more code (length code - p) index c.from_index.result.0.now c.from_index.result.1.now c.loop-passed.operands c.loop-passed.line c.loop-passed.depth.operands c.operands_before-operands.result c.line_before-line.result c.with-depth.result.operands c.loop-passed.depth.too_deep c.with-depth.result.too_deep
          after here c.loop-passed.invariant.known c.operands_before-operands.ensures.number c.line_before-line.ensures c.with-depth.ensures.operands c.with-depth.ensures.too_deep;
      few = omega (arith, c.operands_before-operands.ensures.bound, c.from_index.ensures.length, c.loop-passed-test.true);
    }

pub returns : goal.returns
returns c =
    let code = c.args.code.now in
    let all = whole code c.loop-passed.passed c.loop-passed-test.false in
    let operands : c.loop-passed.depth.operands ≡ deepest code = c.loop-passed.invariant.known.most_is ∙ ap deepest all in
    let line : c.loop-passed.depth.too_deep ≡ line_too_deep code = c.loop-passed.invariant.known.too_deep_is ∙ ap line_too_deep all in
    record {
      operands = operands;
      line = line;
      stands = λ addressed k work operands index is s. omega (arith, c.loop-passed.invariant.known.most_is ∙ ap deepest all, stands_within code addressed k work operands index is s);
      few = λ none. let f = sym line ∙ none in omega (arith, operands, few_when_none code f);
    }
