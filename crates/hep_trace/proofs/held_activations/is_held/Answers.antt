use Rattle.std.proofs.Common.{◌≡◌, ◌≤◌, ◌∙◌, List, Some, ap, arith, false, length, slice_get, sym, true}
use Rattle.std.proofs.lemmas.Option.{slice_get-get_or}
use Rattle.hep_proc.specs.declared.process.Process.{Process}
use Rattle.hep_trace.proofs.KeptUnits.{held-nowhere, held-there, next-off}
use Rattle.hep_trace.proofs.held_activations.is_held.Goals as goal

pub returns-then-is_kept_by : goal.returns-then-is_kept_by
returns-then-is_kept_by c program cells choices after =
    sym (held-there program choices c.args.a c.process-item.result.number (sym (c.is_kept_by.ensures program cells choices after) ∙ c.if-is_kept_by.true))

pub loop-process-preserved : goal.loop-process-preserved
loop-process-preserved c program cells choices after i q less there =
    let list = c.deref-process-items.result.now in
    let items = c.args.machine.now.processes.items in
    let j = c.loop-process.process-index in
    let r = c.process-item.result in
    let here : slice_get items j ≡ Some r = ap (λ (xs : List Process). slice_get xs j) (sym c.deref-process-items.ensures.value) ∙ slice_get-get_or list j r c.loop-process-test.true ∙ ap (λ (z : Process). Some z) (sym c.process-item.is) in
    next-off program choices c.args.a items j r here (sym (c.is_kept_by.ensures program cells choices after) ∙ c.if-is_kept_by.false) (c.loop-process.invariant program cells choices after) i q less there

pub returns : goal.returns
returns c program cells choices after =
    let m = c.args.machine.now in
    let few : length m.processes.items ≤ c.loop-process.process-index = omega (arith, c.loop-process-test.false, ap length c.deref-process-items.ensures.value) in
    sym (held-nowhere program cells choices m after c.args.a c.loop-process.process-index few (c.loop-process.invariant program cells choices after))
