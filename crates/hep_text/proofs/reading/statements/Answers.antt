use Rattle.std.proofs.Common.{◌≡◌, ℕ, ◌∙◌, sym, refl, false, List, [], length, arith, Result, Ok, Err, IfErr}
use Rattle.hep_base.specs.declared.refusal.Refusal.{Refusal as TextFault}
use Rattle.hep_base.specs.declared.refusal.Refusal.TheVariants.{NoMemory, Refused}
use Rattle.std.proofs.lemmas.Result.{err_from_is_err_and}
use Rattle.std.proofs.lemmas.Bool.{eqb-true}
use Rattle.hep_text.specs.Line.{lines}
use Rattle.hep_text.specs.Reading.{is_too_large}
use Rattle.hep_text.specs.Progress.{done_of, pending_of}
use Rattle.hep_text.proofs.Grammar.{agrees}
use Rattle.hep_text.proofs.WellFormed.{shape_of}
use Rattle.hep_text.proofs.Joining.{too_large, not_too_large, all_lines, next_of}
use Rattle.hep_text.proofs.reading.statements.Goals as goal

pub returns-then-is_too_large-clause-refused : goal.returns-then-is_too_large-clause-refused
returns-then-is_too_large-clause-refused c =
    rw c.refused.ensures (too_large c.args.source.now (sym c.is_too_large.ensures.value ∙ c.if-is_too_large.true), refl)

refused-memory : (number line : ℕ) (name : List ℕ) → Refused number line name ≡ NoMemory → ⊥
refused-memory number line name e = absurd cc

-- what holds anyway holds where memory was refused
anyway : {A P : Type 0} (r : Result A TextFault) → P → IfErr r (λ e. e ≡ NoMemory → P)
anyway (Ok x) p = tt
anyway (Err e) p = λ none. p

pub returns-then-is_too_large-clause-small : goal.returns-then-is_too_large-clause-small
returns-then-is_too_large-clause-small c none = absurd (refused-memory 107 0 [] (sym c.refused.ensures ∙ none))

pub loop-rest-preserved : goal.loop-rest-preserved
loop-rest-preserved c =
    let reading = c.loop-rest.reading in
    let next = next_of (done_of reading) (pending_of reading.pending) c.loop-rest.number c.loop-rest.rest.now c.args.source.now c.next_line.result.0.now c.next_line.result.1.now c.next_line.ensures.cut c.loop-rest.invariant.joined in
    record {
      joined = sym (c.in_ok-take_line.ensures.ok (lines c.next_line.result.1.now)) ∙ next;
      small = omega (arith, c.loop-rest.invariant.small, c.next_line.ensures.less);
    }

pub returns-in_err-take_line-clause-refused : goal.returns-in_err-take_line-clause-refused
returns-in_err-take_line-clause-refused c =
    let reading = c.loop-rest.reading in
    let small : is_too_large c.args.source.now ≡ false = sym c.is_too_large.ensures.value ∙ c.if-is_too_large.false in
    let next = next_of (done_of reading) (pending_of reading.pending) c.loop-rest.number c.loop-rest.rest.now c.args.source.now c.next_line.result.0.now c.next_line.result.1.now c.next_line.ensures.cut c.loop-rest.invariant.joined in
    let all = not_too_large c.args.source.now small ∙ sym next in
    let p = err_from_is_err_and c.from_residual.result c.from_residual.ensures.1 in
    rw (p.1, p.2, all) (c.in_err-take_line.ensures.err (lines c.next_line.result.1.now))

pub returns-in_err-take_line-clause-small : goal.returns-in_err-take_line-clause-small
returns-in_err-take_line-clause-small c = anyway c.from_residual.result (sym c.is_too_large.ensures.value ∙ c.if-is_too_large.false)

pub returns : goal.returns
returns c =
    let reading = c.loop-rest.reading in
    let small : is_too_large c.args.source.now ≡ false = sym c.is_too_large.ensures.value ∙ c.if-is_too_large.false in
    let none : length c.loop-rest.rest.now ≡ 0 = eqb-true _ 0 (sym c.loop-rest-test.ensures) in
    let all = all_lines (done_of reading) (pending_of reading.pending) c.loop-rest.number c.loop-rest.rest.now c.args.source.now small none c.loop-rest.invariant.joined in
    record {
      ok = rw all c.all_read.ensures.ok;
      shape = shape_of c.all_read.result c.args.source.now _ all c.all_read.ensures.ok;
      refused = rw all c.all_read.ensures.refused;
      small = anyway c.all_read.result small;
      constants = agrees;
    }
