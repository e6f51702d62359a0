use Rattle.std.proofs.Common.{rules, ◌≡◌, ◌++◌, ◌∙◌, List, ℕ, ap, append_assoc, replicate, sym}
use Rattle.hep_history.specs.Runs.{entry_of}
use Rattle.hep_machine.specs.declared.event.Entry.{Entry}
use Rattle.hep_replay.specs.Histories.{entry_text, history_text}
use Rattle.hep_replay.proofs.InRuns.{line_more}
use Rattle.hep_replay.proofs.history_text.append_run.Goals as goal

pub loop-preserved : goal.loop-preserved
loop-preserved c =
    let before = c.args.text.now.items in
    let e : Entry = entry_of c.args.run in
    let lines = history_text (replicate c.loop.counter e) in
    let bytes = c.as_slice-bytes.result.now in
    let line : bytes ≡ entry_text e = search rules in
    c.in_ok-extend_from_slice.ensures.items
    ∙ ap (λ (l : List ℕ). l ++ bytes) c.loop.invariant
    ∙ append_assoc before lines bytes
    ∙ ap (λ (l : List ℕ). before ++ (lines ++ l)) line
    ∙ ap (λ (l : List ℕ). before ++ l) (line_more c.loop.counter e)
