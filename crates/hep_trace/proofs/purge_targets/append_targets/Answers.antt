use Rattle.std.proofs.Common.{◌≡◌, ◌≤◌, ◌∙◌, Some, ap, arith, length, min, sym, take}
use Rattle.std.proofs.lemmas.Option.{slice_get-get_or}
use Rattle.hep_code.specs.declared.instruction.Instruction.{Instruction}
use Rattle.hep_trace.proofs.TargetTexts.{AreLawful, written-first, written-last, written-next}
use Rattle.hep_trace.proofs.purge_targets.append_targets.Goals as goal

pub loop-entry-init : goal.loop-entry-init
loop-entry-init c cells choices top targets h =
    let laws : AreLawful c.args.ahead.now.image.now = record {
      accepted = c.is_runnable.ensures.accepted;
      main = c.is_runnable.ensures.main;
      running = c.tops_are_running.ensures.running;
      placed = c.variables_of_the_code_are_placed.ensures.all;
    } in
    let first = written-first c.args.ahead.now c.args.count laws c.args.text.now.items cells choices top targets h in
    (c.deref-rest.ensures.value ∙ first.0, first.1)

pub loop-entry-preserved : goal.loop-entry-preserved
loop-entry-preserved c =
    let laws : AreLawful c.args.ahead.now.image.now = record {
      accepted = c.is_runnable.ensures.accepted;
      main = c.is_runnable.ensures.main;
      running = c.tops_are_running.ensures.running;
      placed = c.variables_of_the_code_are_placed.ensures.all;
    } in
    let entries = c.args.ahead.now.coming.now.behind.now in
    let n = c.min.result in
    let i = c.loop-entry.entry-index in
    let entry = c.entry-item.result in
    let at = slice_get-get_or (take n entries) i entry c.loop-entry-test.true ∙ ap (λ (x : Instruction). Some x) (sym c.entry-item.is) in
    let few : n ≤ c.args.count = omega (arith, c.min.ensures) in
    written-next c.args.ahead.now c.args.count laws i n entry c.loop-entry.rest.now c.in_ok-rest.rest.now c.loop-entry.text.items c.append_entry.new.text.items c.args.text.now.items at few c.loop-entry.invariant
    c.in_ok-rest.ensures.text c.in_ok-rest.ensures.rest

pub returns : goal.returns
returns c cells choices top targets ahead next counted =
    let laws : AreLawful c.args.ahead.now.image.now = record {
      accepted = c.is_runnable.ensures.accepted;
      main = c.is_runnable.ensures.main;
      running = c.tops_are_running.ensures.running;
      placed = c.variables_of_the_code_are_placed.ensures.all;
    } in
    let n = c.min.result in
    let is : n ≡ min (length c.args.ahead.now.coming.now.behind.now) c.args.count = omega (arith, c.min.ensures) in
    written-last c.args.ahead.now c.args.count laws c.loop-entry.entry-index n c.loop-entry.rest.now c.loop-entry.text.items c.args.text.now.items c.loop-entry-test.false is c.loop-entry.invariant
    cells choices top targets (record { is_ahead = ahead; next = next; counted = counted })
