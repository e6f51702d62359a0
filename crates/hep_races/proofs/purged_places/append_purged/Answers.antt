use Rattle.std.proofs.Common.{◌≡◌, ◌≤◌, ◌∙◌, Some, ap, arith, length, min, sym, take}
use Rattle.std.proofs.lemmas.Option.{slice_get-get_or}
use Rattle.hep_code.specs.declared.instruction.Instruction.{Instruction}
use Rattle.hep_races.proofs.PurgedPlaces.{all-first, all-last, all-next, it, own-subscripts}
use Rattle.hep_races.proofs.purged_places.append_purged.Goals as goal
use Rattle.hep_trace.proofs.TargetTexts.{AreLawful, IsPurging}

pub loop-entry-init : goal.loop-entry-init
loop-entry-init c cells choices top targets h =
    let laws : AreLawful c.args.ahead.now.image.now = record {
      accepted = c.is_runnable.ensures.accepted;
      main = c.is_runnable.ensures.main;
      running = c.tops_are_running.ensures.running;
      placed = c.variables_of_the_code_are_placed.ensures.all;
    } in
    let first = all-first c.args.ahead.now c.args.count laws c.args.places.now.items cells choices top targets h in
    (c.deref-rest.ensures.value ∙ first.0, first.1)

pub append_entry-requires : goal.append_entry-requires
append_entry-requires c =
    let a = c.args.ahead.now in
    let laws : AreLawful a.image.now = record {
      accepted = c.is_runnable.ensures.accepted;
      main = c.is_runnable.ensures.main;
      running = c.tops_are_running.ensures.running;
      placed = c.variables_of_the_code_are_placed.ensures.all;
    } in
    let entries = a.coming.now.behind.now in
    let n = c.min.result in
    let i = c.loop-entry.entry-index in
    let entry = c.entry-item.result in
    let at = slice_get-get_or (take n entries) i entry c.loop-entry-test.true ∙ ap (λ (x : Instruction). Some x) (sym c.entry-item.is) in
    let few : n ≤ c.args.count = omega (arith, c.min.ensures) in
    let cells = c.requires.0 in
    let choices = c.requires.1 in
    let top = c.requires.2 in
    let targets = c.requires.3 in
    let h : IsPurging a c.args.count cells choices top targets = record
    { is_ahead = c.requires.4; next = c.requires.5; counted = c.requires.6 } in
    let r = it a c.args.count laws i n entry at few c.loop-entry.rest.now c.loop-entry.places.items c.args.places.now.items
    c.loop-entry.invariant cells choices top targets h in
    let own = own-subscripts a c.args.count laws i n entry at few c.loop-entry.rest.now c.loop-entry.places.items c.args.places.now.items
    c.loop-entry.invariant cells choices top targets h in
    (cells, choices, top, r.target, c.requires.4, r.entry_is, own)

pub loop-entry-preserved : goal.loop-entry-preserved
loop-entry-preserved c =
    let laws : AreLawful c.args.ahead.now.image.now = record {
      accepted = c.is_runnable.ensures.accepted;
      main = c.is_runnable.ensures.main;
      running = c.tops_are_running.ensures.running;
      placed = c.variables_of_the_code_are_placed.ensures.all;
    } in
    let entries = c.args.ahead.now.coming.now.behind.now in
    let n = c.min.result in
    let i = c.loop-entry.entry-index in
    let entry = c.entry-item.result in
    let at = slice_get-get_or (take n entries) i entry c.loop-entry-test.true ∙ ap (λ (x : Instruction). Some x) (sym c.entry-item.is) in
    let few : n ≤ c.args.count = omega (arith, c.min.ensures) in
    all-next c.args.ahead.now c.args.count laws i n entry at few c.loop-entry.rest.now c.loop-entry.places.items c.args.places.now.items
    c.loop-entry.invariant
    c.in_ok-rest.rest.now c.append_entry.new.places.items c.in_ok-rest.ensures.places c.in_ok-rest.ensures.rest

pub returns : goal.returns
returns c cells choices top targets ahead next counted =
    let laws : AreLawful c.args.ahead.now.image.now = record {
      accepted = c.is_runnable.ensures.accepted;
      main = c.is_runnable.ensures.main;
      running = c.tops_are_running.ensures.running;
      placed = c.variables_of_the_code_are_placed.ensures.all;
    } in
    let n = c.min.result in
    let is : n ≡ min (length c.args.ahead.now.coming.now.behind.now) c.args.count = omega (arith, c.min.ensures) in
    all-last c.args.ahead.now c.args.count laws c.loop-entry.entry-index n c.loop-entry.rest.now c.loop-entry.places.items
    c.args.places.now.items c.loop-entry-test.false is c.loop-entry.invariant
    cells choices top targets (record { is_ahead = ahead; next = next; counted = counted })
