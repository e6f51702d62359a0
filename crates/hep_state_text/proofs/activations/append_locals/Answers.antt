use Rattle.std.proofs.Common.{◌+◌, ◌++◌, ◌∙◌, List, [], ℕ, false, ap, sym, drop, length, append-nil, arith}
use Rattle.std.specs.List.{flat_map}
use Rattle.std.proofs.lemmas.List.{drop_all}
use Rattle.hep_machine.specs.Words.{Name, local, locals_of, scope_of}
use Rattle.hep_names.proofs.Firsts.{grow}
use Rattle.hep_state_text.specs.States as words
use Rattle.hep_state_text.proofs.Locals.{fits, kept, line-is, next-is}
use Rattle.hep_state_text.proofs.activations.append_locals.Goals as goal

pub overflow_add-at-in-loop-index : goal.overflow_add-at-in-loop-index
overflow_add-at-in-loop-index c =
    let few = fits c.requires.0 c.requires.1 c.requires.2 c.requires.3 c.args.unit.now c.args.first c.args.frames.now.arena c.requires.4 c.locals-name-items.result.now c.locals-name-items.ensures c.loop-index.index
    (record { asynchronous = false; letters = [] }) c.loop-index-test.true c.as_slice.result.now c.as_slice.ensures c.dummies-dummies.result.now c.dummies-dummies.ensures (record { index = 0; first = 0; is_array = false }) in
    omega (arith, few)

pub slots-requires : goal.slots-requires
slots-requires c = (
  c.requires.0,
  c.requires.1,
  c.requires.2,
  local c.requires.3 _ 1,
  kept c.requires.0 c.requires.1 c.requires.2 c.requires.3 c.args.unit.now c.args.first c.args.frames.now.arena c.requires.4 c.locals-name-items.result.now c.locals-name-items.ensures c.loop-index.index
      _ c.loop-index-test.true c.as_slice.result.now c.as_slice.ensures c.dummies-dummies.result.now c.dummies-dummies.ensures _ c.in_ok-cells.cells c.in_ok-cells.ensures,
)

pub loop-index-preserved : goal.loop-index-preserved
loop-index-preserved c program s layout a h =
    let xs = c.locals-name-items.result.now in
    let i = c.loop-index.index in
    let symbols = c.args.unit.now.symbols.now in
    let same = c.locals-name-items.ensures in
    let at = kept program s layout a c.args.unit.now c.args.first c.args.frames.now.arena h xs same i _ c.loop-index-test.true c.as_slice.result.now c.as_slice.ensures c.dummies-dummies.result.now c.dummies-dummies.ensures _ c.in_ok-cells.cells c.in_ok-cells.ensures in
    let line = line-is program s layout a c.args.unit.now c.args.first c.args.frames.now.arena h xs same i _ c.loop-index-test.true c.in_ok-variable.variable c.deref.result.now c.in_ok-cells.cells c.in_ok-variable.ensures c.in_ok-cells.ensures
    (c.deref.ensures.value ∙ c.in_ok-slots.ensures program s layout _ at) in
    grow (words.own_text program s (scope_of program s a)) c.loop-index.text.items c.append_variable.new.text.items _ _ (drop i (locals_of symbols)) (drop (i + 1) (locals_of symbols)) (c.loop-index.invariant program s layout a h)
    (c.in_ok-append_variable.ensures ∙ ap (λ (l : List ℕ). c.loop-index.text.items ++ l) line)
    (next-is program s layout a c.args.unit.now c.args.first c.args.frames.now.arena h xs same i _ c.loop-index-test.true)

pub returns : goal.returns
returns c program s layout a h =
    let xs = locals_of c.args.unit.now.symbols.now in
    sym (append-nil c.loop-index.text.items)
    ∙ ap (λ (zs : List Name). c.loop-index.text.items ++ flat_map (words.own_text program s (scope_of program s a)) zs) (sym (drop_all c.loop-index.index xs (omega (arith, c.loop-index-test.false, ap length c.locals-name-items.ensures))))
    ∙ c.loop-index.invariant program s layout a h
