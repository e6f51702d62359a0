use Rattle.std.proofs.Common.{◌<◌, ◌+◌, ◌++◌, ◌∙◌, ℕ, suc, List, ap, sym, drop, length, append_assoc, arith}
use Rattle.hep_core.specs.CoreValues.{state_of}
use Rattle.hep_machine.specs.Words.{progress_after}
use Rattle.hep_state_text.specs.LineDisplay.{line_shown}
use Rattle.hep_state_text.specs.States as words
use Rattle.hep_page.proofs.StateViews.{next-process, process-there}
use Rattle.hep_page.proofs.state_view.append_processes.Goals as goal

pub loop-index-preserved : goal.loop-index-preserved
loop-index-preserved c =
    let core = c.args.core.now.core in
    let s = state_of core in
    let shown = line_shown c.args.lines.now in
    let listed = (progress_after core.program core.history).listed in
    let i = c.loop-index.index in
    let less : i < length s.processes = omega (arith, c.loop-index-test.true, c.made-index-end.ensures) in
    let old : List ℕ = c.loop-index.text.items in
    let rest : List ℕ = words.processes_text core.program s shown listed (suc (i + 1)) (drop (i + 1) s.processes) in
    ap (λ (xs : List ℕ). xs ++ rest) (c.in_ok-append_one.ensures _ (process-there core.program s shown listed i less))
    ∙ append_assoc old _ rest
    ∙ ap (λ (xs : List ℕ). old ++ xs) (sym (next-process core.program s shown listed i less))
    ∙ c.loop-index.invariant
