use Rattle.std.proofs.Common.{◌+◌, ◌++◌, ◌∙◌, List, [], ℕ, false, ap, sym, drop, length, append-nil, arith}
use Rattle.std.specs.List.{flat_map}
use Rattle.std.proofs.lemmas.List.{drop_all, length-map}
use Rattle.hep_machine.specs.Words.{Name, Occurrence, dummies_of, run, scope_of}
use Rattle.hep_names.proofs.Firsts.{grow}
use Rattle.hep_proc.proofs.Slabs.{some-value}
use Rattle.hep_image.specs.declared.owners.FrameVariable.{FrameVariable}
use Rattle.hep_state_text.specs.States as words
use Rattle.hep_state_text.proofs.Associated.{dummy-at}
use Rattle.hep_state_text.proofs.Valued.{fits, next-is}
use Rattle.hep_state_text.proofs.associations.append_associations.Goals as goal

abbrev none : Occurrence
none = record { name = record { asynchronous = false; letters = [] }; position = 0 }

abbrev no_variable : FrameVariable
no_variable = record { index = 0; first = 0; is_array = false }

pub first-first-requires : goal.first-first-requires
first-first-requires c = some-value c.args.frame.now.machine.now.frames.nodes c.args.frame.now.key c.requires.3.under.node c.requires.3.under.there

pub overflow_add-cell : goal.overflow_add-cell
overflow_add-cell c =
    let h = c.requires.3 in
    let few = fits c.args.frame.now.image.now (run c.args.frame.now.image.now c.requires.1) h.under.after.after.layout c.requires.2 c.args.unit.now h.under.node.first c.args.frame.now.machine.now.frames.arena h.at
    c.dummies-dummy-items.result.now c.dummies-dummy-items.ensures c.loop-index.index none c.loop-index-test.true c.as_slice.result.now c.as_slice.ensures no_variable in
    let first = c.first-first.ensures h.under.node h.under.there in
    omega (arith, few, first)

pub place_associated-place-requires : goal.place_associated-place-requires
place_associated-place-requires c =
    let h = c.requires.3 in (
      c.requires.0,
      c.requires.1,
      c.requires.2,
      _,
      dummy-at c.args.frame.now c.args.unit.now c.requires.0 c.requires.1 c.requires.2 h c.dummies-dummy-items.result.now c.dummies-dummy-items.ensures c.loop-index.index none c.loop-index-test.true
          c.as_slice.result.now c.as_slice.ensures no_variable c.first-first.result (c.first-first.ensures h.under.node h.under.there),
    )

pub loop-index-preserved : goal.loop-index-preserved
loop-index-preserved c cells choices a h =
    let program = c.args.frame.now.image.now in
    let s = run program choices in
    let ds = c.dummies-dummy-items.result.now in
    let same = c.dummies-dummy-items.ensures in
    let i = c.loop-index.index in
    let symbols = c.args.unit.now.symbols.now in
    let dummy = dummy-at c.args.frame.now c.args.unit.now cells choices a h ds same i none c.loop-index-test.true c.as_slice.result.now c.as_slice.ensures no_variable c.first-first.result
    (c.first-first.ensures h.under.node h.under.there) in
    grow (words.association_text program s (scope_of program s a)) c.loop-index.text.items c.append_line.new.text.items _ _ (drop i (dummies_of symbols)) (drop (i + 1) (dummies_of symbols)) (c.loop-index.invariant cells choices a h)
    (c.in_ok-append_line.ensures ∙ ap (λ (l : List ℕ). c.loop-index.text.items ++ l) (c.place_associated-place.ensures cells choices a _ dummy))
    (next-is program s h.under.after.after.layout a c.args.unit.now h.under.node.first c.args.frame.now.machine.now.frames.arena h.at ds same i none c.loop-index-test.true)

pub returns : goal.returns
returns c cells choices a h =
    let program = c.args.frame.now.image.now in
    let s = run program choices in
    let xs = dummies_of c.args.unit.now.symbols.now in
    let long = length-map c.dummies-dummy-items.result.now (λ (p : Occurrence). p.name) in
    sym (append-nil c.loop-index.text.items)
    ∙ ap (λ (zs : List Name). c.loop-index.text.items ++ flat_map (words.association_text program s (scope_of program s a)) zs) (sym (drop_all c.loop-index.index xs (omega (arith, c.loop-index-test.false, long, ap length c.dummies-dummy-items.ensures))))
    ∙ c.loop-index.invariant cells choices a h
