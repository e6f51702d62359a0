use Rattle.std.proofs.Common.{◌+◌, ◌++◌, ◌∙◌, List, [], ℕ, false, ap, sym, drop, append-nil, arith}
use Rattle.std.specs.List.{flat_map}
use Rattle.std.proofs.lemmas.List.{drop_all}
use Rattle.hep_machine.specs.Words.{Name}
use Rattle.hep_names.proofs.Firsts.{grow}
use Rattle.hep_state_text.specs.States as words
use Rattle.hep_state_text.proofs.Commons.{kept, line-is, next-fits, next-is, taken-next}
use Rattle.hep_state_text.proofs.common_variables.append_variables.Goals as goal

abbrev none : Name
none = record { asynchronous = false; letters = [] }

pub slots-requires : goal.slots-requires
slots-requires c = (
  c.requires.0,
  c.requires.1,
  c.requires.2,
  _,
  kept c.requires.0 c.requires.1 c.requires.2 c.args.block.now c.args.frames.now.arena c.requires.3 c.loop-name.name-index none c.loop-name-test.true c.in_ok-cells.cells c.loop-name.at c.in_ok-cells.ensures c.loop-name.invariant.at,
)

pub overflow_add-at : goal.overflow_add-at
overflow_add-at c =
    let few = next-fits c.requires.0 c.requires.1 c.requires.2 c.args.block.now c.args.frames.now.arena c.requires.3 c.loop-name.name-index none c.loop-name-test.true c.loop-name.at c.in_ok-cells.cells c.loop-name.invariant.at c.in_ok-cells.ensures in
    omega (arith, few)

pub loop-name-preserved : goal.loop-name-preserved
loop-name-preserved c =
    let i = c.loop-name.name-index in
    let list = c.args.block.now.list.now in
    let unit = c.args.block.now.symbols.now in
    record {
      at = taken-next unit c.args.block.now.first list i none c.loop-name-test.true c.loop-name.at c.in_ok-cells.cells c.loop-name.invariant.at c.in_ok-cells.ensures;
      so_far = λ program s layout h.
          let at = kept program s layout c.args.block.now c.args.frames.now.arena h i none c.loop-name-test.true c.in_ok-cells.cells c.loop-name.at c.in_ok-cells.ensures c.loop-name.invariant.at in
          let line = line-is program s layout c.args.block.now c.args.frames.now.arena h i none c.loop-name-test.true c.in_ok-variable.variable c.deref.result.now c.in_ok-cells.cells c.in_ok-variable.ensures c.in_ok-cells.ensures
          (c.deref.ensures.value ∙ c.in_ok-slots.ensures program s layout _ at) in
          grow (words.own_text program s (words.common_scope program s unit)) c.loop-name.text.items c.append_variable.new.text.items _ _ (drop i list) (drop (i + 1) list) (c.loop-name.invariant.so_far program s layout h)
          (c.in_ok-append_variable.ensures ∙ ap (λ (l : List ℕ). c.loop-name.text.items ++ l) line)
          (next-is program s layout c.args.block.now c.args.frames.now.arena h i none c.loop-name-test.true);
    }

pub returns : goal.returns
returns c program s layout h =
    let xs = c.args.block.now.list.now in
    sym (append-nil c.loop-name.text.items)
    ∙ ap (λ (zs : List Name). c.loop-name.text.items ++ flat_map (words.own_text program s (words.common_scope program s c.args.block.now.symbols.now)) zs) (sym (drop_all c.loop-name.name-index xs (omega (arith, c.loop-name-test.false))))
    ∙ c.loop-name.invariant.so_far program s layout h
