use Rattle.std.proofs.Common.{◌≡◌, ◌≤◌, ◌∙◌, Some, ap, arith, length, min, sym, take}
use Rattle.std.proofs.lemmas.Option.{slice_get-get_or}
use Rattle.hep_code.specs.declared.instruction.Instruction.{Instruction}
use Rattle.hep_trace.proofs.TargetTexts.{AreLawful, IsPurging}
use Rattle.hep_trace.proofs.TargetNames.{entry-at, found-here, sought-first, sought-last, sought-next}
use Rattle.hep_trace.proofs.target_filter.is_target.Goals as goal

pub loop-entry-init : goal.loop-entry-init
loop-entry-init c cells choices top targets h =
    let laws : AreLawful c.args.ahead.now.image.now = record {
      accepted = c.is_runnable.ensures.accepted;
      main = c.is_runnable.ensures.main;
      running = c.tops_are_running.ensures.running;
      placed = c.variables_of_the_code_are_placed.ensures.all;
    } in
    let first = sought-first c.args.ahead.now c.args.count laws c.args.name.now cells choices top targets h in
    (c.deref-rest.ensures.value ∙ first.0, first.1)

pub is_entry_called-requires : goal.is_entry_called-requires
is_entry_called-requires c =
    let laws : AreLawful c.args.ahead.now.image.now = record {
      accepted = c.is_runnable.ensures.accepted;
      main = c.is_runnable.ensures.main;
      running = c.tops_are_running.ensures.running;
      placed = c.variables_of_the_code_are_placed.ensures.all;
    } in
    let n = c.min.result in
    let i = c.loop-entry.entry-index in
    let entry = c.entry-item.result in
    let at = slice_get-get_or (take n c.args.ahead.now.coming.now.behind.now) i entry c.loop-entry-test.true ∙ ap (λ (x : Instruction). Some x) (sym c.entry-item.is) in
    let few : n ≤ c.args.count = omega (arith, c.min.ensures) in
    let purging : IsPurging c.args.ahead.now c.args.count c.requires.0 c.requires.1 c.requires.2 c.requires.3
    = record { is_ahead = c.requires.4; next = c.requires.5; counted = c.requires.6 } in
    let it = entry-at c.args.ahead.now c.args.count laws c.args.name.now i n entry at few c.requires.0 c.requires.1 c.requires.2 c.requires.3 purging in
    (c.requires.0, c.requires.1, c.requires.2, it.target, c.requires.4, it.entry_is)

pub returns-then-is_entry_called : goal.returns-then-is_entry_called
returns-then-is_entry_called c cells choices top targets ahead next counted =
    let laws : AreLawful c.args.ahead.now.image.now = record {
      accepted = c.is_runnable.ensures.accepted;
      main = c.is_runnable.ensures.main;
      running = c.tops_are_running.ensures.running;
      placed = c.variables_of_the_code_are_placed.ensures.all;
    } in
    let n = c.min.result in
    let i = c.loop-entry.entry-index in
    let entry = c.entry-item.result in
    let at = slice_get-get_or (take n c.args.ahead.now.coming.now.behind.now) i entry c.loop-entry-test.true ∙ ap (λ (x : Instruction). Some x) (sym c.entry-item.is) in
    let few : n ≤ c.args.count = omega (arith, c.min.ensures) in
    found-here c.args.ahead.now c.args.count laws c.args.name.now i n entry at few c.loop-entry.rest.now c.loop-entry.invariant c.is_entry_called.result c.is_entry_called.ensures cells choices top targets
    (record { is_ahead = ahead; next = next; counted = counted }) c.if-is_entry_called.true

pub loop-entry-preserved : goal.loop-entry-preserved
loop-entry-preserved c =
    let laws : AreLawful c.args.ahead.now.image.now = record {
      accepted = c.is_runnable.ensures.accepted;
      main = c.is_runnable.ensures.main;
      running = c.tops_are_running.ensures.running;
      placed = c.variables_of_the_code_are_placed.ensures.all;
    } in
    let n = c.min.result in
    let i = c.loop-entry.entry-index in
    let entry = c.entry-item.result in
    let at = slice_get-get_or (take n c.args.ahead.now.coming.now.behind.now) i entry c.loop-entry-test.true ∙ ap (λ (x : Instruction). Some x) (sym c.entry-item.is) in
    let few : n ≤ c.args.count = omega (arith, c.min.ensures) in
    sought-next c.args.ahead.now c.args.count laws c.args.name.now i n entry at few c.loop-entry.rest.now c.behind-rest.result.now c.loop-entry.invariant c.is_entry_called.result c.is_entry_called.ensures c.if-is_entry_called.false (
    λ choices top x e. c.behind-rest.ensures c.args.ahead.now choices top x e)

pub returns : goal.returns
returns c cells choices top targets ahead next counted =
    let laws : AreLawful c.args.ahead.now.image.now = record {
      accepted = c.is_runnable.ensures.accepted;
      main = c.is_runnable.ensures.main;
      running = c.tops_are_running.ensures.running;
      placed = c.variables_of_the_code_are_placed.ensures.all;
    } in
    let n = c.min.result in
    let is : n ≡ min (length c.args.ahead.now.coming.now.behind.now) c.args.count = omega (arith, c.min.ensures) in
    sought-last c.args.ahead.now c.args.count laws c.args.name.now c.loop-entry.entry-index n c.loop-entry.rest.now c.loop-entry-test.false is c.loop-entry.invariant
    cells choices top targets (record { is_ahead = ahead; next = next; counted = counted })
