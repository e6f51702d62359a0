use Rattle.std.proofs.Common.{◌+◌, ◌++◌, ◌∙◌, List, ℕ, ap, sym, subst, append_assoc, drop, reverse}
use Rattle.hep_proc.specs.Nodes.{nodes_of}
use Rattle.hep_proc.specs.declared.process.Local.{Local}
use Rattle.hep_state.specs.Words.{AreThere}
use Rattle.hep_text.specs.LineDisplay.{line_shown}
use Rattle.hep_state_text.specs.ProcessLines.{backs_seen}
use Rattle.hep_state_text.proofs.Stacks.{backs-turn}
use Rattle.hep_state_text.proofs.process_lines.append_backs.Goals as goal

pub append_back-requires : goal.append_back-requires
append_back-requires c =
    let l = c.loop-index in
    (subst (AreThere c.args.source.now.image.now (nodes_of c.args.frames.now.nodes)) (backs-turn c.args.levels.now l.index (record { key = 0; unit = 0; kept = 0; index = 0 }) c.loop-index-test.true) l.invariant.there).0

pub loop-index-preserved : goal.loop-index-preserved
loop-index-preserved c =
    let l = c.loop-index in
    let levels = c.args.levels.now in
    let program = c.args.source.now.image.now in
    let nodes = nodes_of c.args.frames.now.nodes in
    let shown = line_shown c.args.source.now.lines.now in
    let rest : List ℕ = backs_seen program nodes shown (drop (l.index + 1) (reverse levels)) in
    record {
      there = (subst (AreThere program nodes) (backs-turn levels l.index (record { key = 0; unit = 0; kept = 0; index = 0 }) c.loop-index-test.true) l.invariant.there).1;
      so_far =
          ap (λ xs. xs ++ rest) c.in_ok-append_back.ensures
          ∙ append_assoc l.text.items _ rest
          ∙ ap (λ (ls : List Local). l.text.items ++ backs_seen program nodes shown ls) (sym (backs-turn levels l.index _ c.loop-index-test.true))
          ∙ l.invariant.so_far;
    }
