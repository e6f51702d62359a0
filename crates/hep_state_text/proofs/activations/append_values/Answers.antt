use Rattle.std.proofs.Common.{◌+◌, ◌++◌, ◌∙◌, List, [], ℕ, false, ap, sym, drop, length, append-nil, arith}
use Rattle.std.specs.List.{flat_map}
use Rattle.std.proofs.lemmas.List.{drop_all, length-map}
use Rattle.hep_machine.specs.Words.{Name, Occurrence, dummies_of, scope_of}
use Rattle.hep_names.proofs.Firsts.{grow}
use Rattle.hep_image.specs.declared.owners.FrameVariable.{FrameVariable}
use Rattle.hep_state_text.specs.States as words
use Rattle.hep_state_text.specs.Variables.{value_line}
use Rattle.hep_state_text.proofs.Valued.{fits, lines-are, next-is, out}
use Rattle.hep_state_text.proofs.activations.append_values.Goals as goal

abbrev none : Occurrence
none = record { name = record { asynchronous = false; letters = [] }; position = 0 }

abbrev no_variable : FrameVariable
no_variable = record { index = 0; first = 0; is_array = false }

pub overflow_add-at : goal.overflow_add-at
overflow_add-at c =
    let few = fits c.requires.0 c.requires.1 c.requires.2 c.requires.3 c.args.unit.now c.args.first c.args.frames.now.arena c.requires.4 c.dummies-dummy-items.result.now c.dummies-dummy-items.ensures c.loop-index.index none c.loop-index-test.true c.as_slice.result.now c.as_slice.ensures no_variable in
    omega (arith, few)

pub value_at-requires : goal.value_at-requires
value_at-requires c = out c.requires.0 c.requires.1 c.requires.2 c.requires.3 c.args.unit.now c.args.first c.args.frames.now.arena c.requires.4 c.dummies-dummy-items.result.now c.dummies-dummy-items.ensures c.loop-index.index none c.loop-index-test.true c.as_slice.result.now c.as_slice.ensures no_variable

pub loop-index-preserved : goal.loop-index-preserved
loop-index-preserved c program s layout a h =
    let ds = c.dummies-dummy-items.result.now in
    let same = c.dummies-dummy-items.ensures in
    let i = c.loop-index.index in
    let symbols = c.args.unit.now.symbols.now in
    let line = lines-are program s layout a c.args.unit.now c.args.first c.args.frames.now.arena h ds same i none c.loop-index-test.true c.as_slice.result.now c.as_slice.ensures no_variable in
    grow (words.value_text program s (scope_of program s a)) c.loop-index.text.items c.append_value.new.text.items _ _ (drop i (dummies_of symbols)) (drop (i + 1) (dummies_of symbols)) (c.loop-index.invariant program s layout a h)
    (c.in_ok-append_value.ensures ∙ ap (λ (l : List ℕ). c.loop-index.text.items ++ l) (ap (value_line _ _) c.value_at.ensures ∙ line))
    (next-is program s layout a c.args.unit.now c.args.first c.args.frames.now.arena h ds same i none c.loop-index-test.true)

pub returns : goal.returns
returns c program s layout a h =
    let xs = dummies_of c.args.unit.now.symbols.now in
    let long = length-map c.dummies-dummy-items.result.now (λ (p : Occurrence). p.name) in
    sym (append-nil c.loop-index.text.items)
    ∙ ap (λ (zs : List Name). c.loop-index.text.items ++ flat_map (words.value_text program s (scope_of program s a)) zs) (sym (drop_all c.loop-index.index xs (omega (arith, c.loop-index-test.false, long, ap length c.dummies-dummy-items.ensures))))
    ∙ c.loop-index.invariant program s layout a h
