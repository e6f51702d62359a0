use Rattle.std.proofs.Common.{◌&&◌, length, suc, add-one, ap, sym, ◌∙◌}
use Rattle.std.proofs.lemmas.List.{length_push}
use Rattle.std.proofs.lemmas.Slice.Zip.{zip_turn, zip_end}
use Rattle.hep_conditions.specs.Words.{function_types}
use Rattle.hep_types.proofs.CallPasses.{fit_from, fit-turn, fit-end}
use Rattle.hep_types.proofs.argument_association.fit_dummies.Goals as goal

pub returns : goal.returns
returns c =
    let n = zip_end c.args.dummies.now c.args.actuals.now c.loop-dummy.yielded c.into_iter-dummy-iterator.result c.loop-dummy.dummy-iterator c.next.new.self _ (cc) (cc) c.loop-dummy.yielded_by c.in-None.is c.next.ensures.steps in
    sym (sym c.loop-dummy.invariant ∙ fit-end (function_types c.args.program.now) c.args.called.now c.args.symbols.now c.args.dummies.now c.args.actuals.now (length c.loop-dummy.yielded) n)

pub loop-dummy-preserved : goal.loop-dummy-preserved
loop-dummy-preserved c =
    let turn = zip_turn c.args.dummies.now c.args.actuals.now c.loop-dummy.yielded c.into_iter-dummy-iterator.result c.loop-dummy.dummy-iterator c.next.new.self _ (cc) (cc) c.loop-dummy.yielded_by (c.in-Some.dummy, c.in-Some.actual) c.in-Some.is c.next.ensures.steps in
    let here = fit-turn (function_types c.args.program.now) c.args.called.now c.args.symbols.now c.args.dummies.now c.args.actuals.now (length c.loop-dummy.yielded) c.in-Some.dummy.now c.in-Some.actual.now _ c.fits_dummy.result turn.0 turn.1 (turn.2 c.in-Some.dummy.now) (turn.3 c.in-Some.actual.now) c.actual_class.ensures c.fits_dummy.ensures in
    let rest = fit_from (function_types c.args.program.now) c.args.called.now c.args.symbols.now c.args.dummies.now c.args.actuals.now (suc (length c.loop-dummy.yielded)) in
    rw (length_push c.loop-dummy.yielded (c.in-Some.dummy, c.in-Some.actual), add-one) (ap (λ b. b && rest) (sym c.if-not-fits_dummy.false) ∙ (sym here ∙ c.loop-dummy.invariant))
