use Rattle.std.proofs.Common.{sym, ◌∙◌, not}
use Rattle.std.proofs.lemmas.Option.{same_Some}
use mathlib.Core.Bool.{beq}
use Rattle.hep_machine.specs.Words.{run}
use Rattle.hep_blocked.proofs.NeededCells.{waits-by-state}
use Rattle.hep_blocked.proofs.need_laws.waiting_is_read_from_cells.Goals as goal

pub returns : goal.returns
returns c program cells choices p cell full layout contents slot needs placed holds there =
    let s = run program choices in
    let w = needs.wanted in
    let stored = same_Some (s.store w.at) slot (sym (holds w.at cell (needs.kept layout placed)) ∙ there) in
    waits-by-state program p s w needs.needed
    ∙ (λ i. not (beq (stored i).full (needs.state i)))
