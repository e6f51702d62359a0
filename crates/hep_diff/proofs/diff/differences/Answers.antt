use Rattle.std.proofs.Common.{◌≡◌, ◌++◌, ◌∙◌, ap}
use Rattle.hep_diff.specs.Differences.{processes_text, written_text}
use Rattle.hep_diff.specs.FirstDifferences.{same_front}
use Rattle.hep_diff.proofs.Sides.{end-same, other-end}
use Rattle.hep_diff.proofs.diff.differences.Goals as goal

pub returns : goal.returns
returns c entries others h k =
    let processes = processes_text c.args.first.core.core.program entries others (same_front entries others) in
    let all : c.append_all.new.text.items ≡ processes =
    c.in_ok-append_all.ensures (same_front entries others) entries others h k ∙ ap (λ t. t ++ processes) c.new-text.ensures.items in
    c.in_ok-append_written.ensures
    ∙ (λ i. all i ++ written_text (end-same c.args.first.core.core entries h.replayed i) (other-end c.args.first.core.core c.args.second.core.core others k.replayed c.requires.program c.requires.cells i))
