use Rattle.std.proofs.Common.{◌≡◌, ◌≤◌, ◌∙◌, List, Some, ap, arith, length, slice_get, sym}
use Rattle.std.proofs.lemmas.Bool.Decides.{nat_tests}
use Rattle.std.specs.Option.{option_map}
use Rattle.std.proofs.lemmas.Option.{slice_get-get_or, slice_get_past}
use Rattle.hep_core.specs.CoreValues.{state_of}
use Rattle.hep_machine.specs.declared.event.Fault.{Fault}
use Rattle.hep_trace.proofs.Faults.{added-is}
use Rattle.hep_trace.proofs.after_turn.fault_since.Goals as goal

pub returns-in-Some : goal.returns-in-Some
returns-in-Some c before is =
    let list = c.faults.result.now in
    let fault = c.in-Some.fault.now in
    let there : slice_get list c.args.count ≡ Some fault = slice_get-get_or list c.args.count fault c.in-Some.ensures.lookup.3.0
    ∙ ap (λ (x : Fault). Some x) (sym (c.in-Some.ensures.lookup.3.1 fault)) in
    sym (added-is before (state_of c.args.core.now.core).faults c.args.count is
    ∙ ap (λ (fs : List Fault). option_map (λ (f : Fault). f.kind) (slice_get fs c.args.count)) (sym c.faults.ensures)
    ∙ ap (option_map (λ (f : Fault). f.kind)) there)

pub returns-in-None : goal.returns-in-None
returns-in-None c before is =
    let list = c.faults.result.now in
    let test = sym c.in-None.ensures.lookup.0 in
    let over : length list ≤ c.args.count = grind (arith, nat_tests, test) in
    sym (added-is before (state_of c.args.core.now.core).faults c.args.count is
    ∙ ap (λ (fs : List Fault). option_map (λ (f : Fault). f.kind) (slice_get fs c.args.count)) (sym c.faults.ensures)
    ∙ ap (option_map (λ (f : Fault). f.kind)) (slice_get_past list c.args.count over))
