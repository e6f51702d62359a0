-- How many levels a process has that a machine keeps.
use Rattle.std.proofs.Common.{◌≡◌, ℕ, zero, suc, ◌+◌, ◌-◌, List, [], ◌∷◌, length, take, refl, sym, ap, ◌∙◌, arith, nat_eq, vec_len}
use Rattle.std.proofs.lemmas.Bool.{ne_eqb}
use Rattle.std.proofs.lemmas.List.{length-reverse}
use Rattle.hep_machine.specs.Words.{Level, Process, State, Units, Value, run}
use Rattle.hep_layout.specs.Words.{Nodes}
use Rattle.hep_proc.specs.declared.process.Local.{Local}
use Rattle.hep_proc.specs.declared.process.Process.{Process as Kept}
use Rattle.hep_proc.specs.Stacks.{stack_of, stack_with}
use Rattle.hep_proc.proofs.Levels.{last-index, some-levels}
use Rattle.hep_state.specs.declared.core_state.CoreState.{CoreState}
use Rattle.hep_state.specs.Words.{HasLevels, snapshot_of}
use Rattle.hep_state.proofs.SilentTurns.{standing-before}
use Rattle.hep_state.proofs.SettledPositions.{AreStandingBelow}
use Rattle.hep_event.proofs.TopPositions.{turn}
use Rattle.hep_event.specs.Sites.{LivesAfter}
use Rattle.hep_event.proofs.FoundVariables.{same-top, turns}

as-many : (program : Units) (s : State) (nodes : Nodes) (above : ℕ) (pending : List Value) (ls : List Local) (levels : Process) → AreStandingBelow program s nodes above pending ls levels → length ls ≡ length levels
as-many program s nodes above pending [] [] h = refl
as-many program s nodes above pending (l ∷ ls) (level ∷ levels) h = ap suc (as-many program s nodes l.unit (take (length pending - l.kept) pending) ls levels h.1)
as-many program s nodes above pending _ _ h = absurd h

one-more : (n k : ℕ) → n ≡ k + 1 → nat_eq n 1 ≡ nat_eq k 0
one-more n zero e = ap (λ m. nat_eq m 1) e
one-more n (suc k) e = ne_eqb n 1 (λ one. omega (arith, e, one)) ∙ sym (ne_eqb (suc k) 0 (λ none. omega (arith, none)))

pub alone-is : {program : Units} {cells : ℕ} {choices : List ℕ} {m : CoreState} {p : ℕ} {top : Level × Process} (lives : LivesAfter program cells choices m p top) (levels : HasLevels (snapshot_of m) p) (q : Kept) (n : ℕ)
    → stack_of q ≡ stack_with levels.level levels.below levels.operands levels.pending → n ≡ vec_len q.levels → nat_eq n 1 ≡ nat_eq (length top.1) 0
alone-is {program} {cells} {choices} {m} {p} {top} lives levels q n stack is =
    let stands = standing-before (turns m lives.after lives.running levels) in
    let below = as-many program (run program choices) (snapshot_of m).nodes levels.level.unit levels.pending levels.below (turn m lives.after lives.running levels).0.1 stands.1 in
    let same : length levels.below ≡ length top.1 = below ∙ ap (λ (z : Level × Process). length z.1) (same-top lives levels) in
    one-more n (length top.1) (
    omega (
      arith,
      is,
      same,
      length-reverse levels.below,
      last-index q levels.level levels.below levels.operands levels.pending stack,
      some-levels q levels.level levels.below levels.operands levels.pending stack,
    ))
