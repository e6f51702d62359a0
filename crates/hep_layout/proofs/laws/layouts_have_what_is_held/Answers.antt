use Rattle.std.proofs.Common.{◌+◌, ap, ◌∙◌, length}
use Rattle.hep_machine.specs.Words.{run}
use Rattle.hep_arena.specs.Holes.{free_cells}
use Rattle.hep_layout.proofs.HeldFrames.{placed-run, used-cells}
use Rattle.hep_layout.proofs.Memory.{memory-cells}
use Rattle.hep_layout.proofs.laws.layouts_have_what_is_held.Goals as goal

pub returns : goal.returns
returns c = record {
  laid = λ program cells processes layout e. (placed-run program cells processes layout e).laid;
  held = λ program cells processes layout a e. (placed-run program cells processes layout e).held a;
  used = λ program cells processes layout e. used-cells program (run program processes) layout cells (placed-run program cells processes layout e);
  free = λ program processes layout contents holes e h. ap (λ n. free_cells holes + n) (used-cells program (run program processes) layout (length contents) (placed-run program (length contents) processes layout e)) ∙ memory-cells program (run program processes) layout contents holes h;
}
