use Rattle.std.proofs.Common.{◌-◌, ◌<◌, ◌++◌, ◌∷◌, ◌∙◌, List, ℕ, ap, sym, subst, codes, length, reverse, take, get_or, arith}
use Rattle.hep_machine.specs.Words.{run}
use Rattle.hep_proc.specs.Nodes.{nodes_of}
use Rattle.hep_proc.specs.Stacks.{stack_with}
use Rattle.hep_state.specs.Words.{AreThere, IsThere}
use Rattle.hep_state.proofs.Processes.{process-at}
use Rattle.hep_state.proofs.SettledPositions.{stack-standing}
use Rattle.hep_proc.specs.declared.process.Local.{Local}
use Rattle.hep_text.specs.LineDisplay.{line_shown}
use Rattle.hep_state_text.specs.ProcessLines.{backs_seen, level_seen, line_seen, top_seen}
use Rattle.hep_state_text.proofs.Running.{are-there, below-are, joined, some, top-is}
use Rattle.hep_state_text.proofs.Stacks.{stack-seen}
use Rattle.hep_state_text.proofs.process_lines.append_process.Goals as goal

pub place-at-requires : goal.place-at-requires
place-at-requires c = record { numbers = c.requires.after.2.numbers; living = c.requires.levels }

pub overflow_sub-below : goal.overflow_sub-below
overflow_sub-below c =
    let w = c.requires.levels in
    let it = process-at c.args.machine.now c.args.p c.requires.after.2.numbers c.place-at.ensures w.kept c.index.ensures in
    some c.index.result.now w.level w.below w.operands w.pending it.stack c.as_slice-levels.result.now c.as_slice-levels.ensures.value

pub bounds-levels-below : goal.bounds-levels-below
bounds-levels-below c =
    let w = c.requires.levels in
    let it = process-at c.args.machine.now c.args.p c.requires.after.2.numbers c.place-at.ensures w.kept c.index.ensures in
    omega (arith, some c.index.result.now w.level w.below w.operands w.pending it.stack c.as_slice-levels.result.now c.as_slice-levels.ensures.value)

pub append_top-requires : goal.append_top-requires
append_top-requires c =
    let w = c.requires.levels in
    let it = process-at c.args.machine.now c.args.p c.requires.after.2.numbers c.place-at.ensures w.kept c.index.ensures in
    let all = are-there c.args.source.now.image.now c.requires.after.0 c.requires.after.1 c.args.machine.now c.args.p w c.requires.after.2 in
    subst (IsThere c.args.source.now.image.now (nodes_of c.args.machine.now.frames.nodes)) (
    sym (top-is c.index.result.now w.level w.below w.operands w.pending it.stack c.as_slice-levels.result.now c.as_slice-levels.ensures.value (record { key = 0; unit = 0; kept = 0; index = 0 }))) all.0

pub append_backs-requires : goal.append_backs-requires
append_backs-requires c =
    let w = c.requires.levels in
    let it = process-at c.args.machine.now c.args.p c.requires.after.2.numbers c.place-at.ensures w.kept c.index.ensures in
    let all = are-there c.args.source.now.image.now c.requires.after.0 c.requires.after.1 c.args.machine.now c.args.p w c.requires.after.2 in
    subst (AreThere c.args.source.now.image.now (nodes_of c.args.machine.now.frames.nodes)) (
    sym (below-are c.index.result.now w.level w.below w.operands w.pending it.stack c.as_slice-levels.result.now c.as_slice-levels.ensures.value)) all.1

pub line_of-requires : goal.line_of-requires
line_of-requires c =
    let w = c.requires.levels in
    let it = process-at c.args.machine.now c.args.p c.requires.after.2.numbers c.place-at.ensures w.kept c.index.ensures in
    let all = are-there c.args.source.now.image.now c.requires.after.0 c.requires.after.1 c.args.machine.now c.args.p w c.requires.after.2 in
    subst (λ (l : Local). l.unit < length c.args.source.now.image.now) (
    sym (top-is c.index.result.now w.level w.below w.operands w.pending it.stack c.as_slice-levels.result.now c.as_slice-levels.ensures.value (record { key = 0; unit = 0; kept = 0; index = 0 }))) all.0.0

pub returns : goal.returns
returns c cells choices q after there =
    let program = c.args.source.now.image.now in
    let shown = line_shown c.args.source.now.lines.now in
    let m = c.args.machine.now in
    let nodes = nodes_of m.frames.nodes in
    let w = c.requires.levels in
    let levels = c.as_slice-levels.result.now in
    let it = process-at m c.args.p c.requires.after.2.numbers c.place-at.ensures w.kept c.index.ensures in
    let same = c.as_slice-levels.ensures.value in
    let top = top-is c.index.result.now w.level w.below w.operands w.pending it.stack levels same (record { key = 0; unit = 0; kept = 0; index = 0 }) in
    let below = below-are c.index.result.now w.level w.below w.operands w.pending it.stack levels same in
    let old : List ℕ = c.args.text.now.items in
    let waiting : List ℕ = c.args.waiting.now in
    let backs : List ℕ = backs_seen program nodes shown (reverse (take (length levels - 1) levels)) in
    let k = stack_with w.level w.below w.operands w.pending in
    let standing = stack-standing program (run program choices) nodes m.frames.arena.contents k q (after.after.shows.stacks c.args.p k q w.kept there) in
    c.in_ok-append_backs.ensures
    ∙ ap (λ (xs : List ℕ). xs ++ backs) (
    c.in_ok-append.ensures
    ∙ ap (λ n. c.append_waiting.new.text.items ++ shown n) c.line_of.ensures
    ∙ ap (λ (xs : List ℕ). xs ++ shown (line_seen program (get_or levels (length levels - 1) (record { key = 0; unit = 0; kept = 0; index = 0 })))) (
    c.in_ok-append_waiting.ensures ∙ ap (λ (xs : List ℕ). xs ++ (waiting ++ codes "\n")) c.in_ok-append_top.ensures))
    ∙ (λ j. (((old ++ top_seen program nodes c.args.p (top j)) ++ (waiting ++ codes "\n")) ++ shown (line_seen program (top j))) ++ backs_seen program nodes shown (below j))
    ∙ joined old (level_seen program nodes shown w.level) waiting (backs_seen program nodes shown w.below) c.args.p
    ∙ ap (λ (xs : List ℕ). old ++ xs) (stack-seen program (run program choices) nodes shown c.args.p waiting w.operands w.pending (w.level ∷ w.below) q standing)
