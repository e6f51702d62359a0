use Rattle.std.proofs.Common.{◌≡◌, [], ◌∷◌, true, ap, ◌∙◌, arith, nat_lt}
use Rattle.std.proofs.lemmas.Bool.Decides.{nat_tests}
use Rattle.hep_machine.specs.Words.{Frame}
use Rattle.hep_arena.specs.Gaps.{gap_before}
use Rattle.hep_arena.specs.Holes.{taken}
use Rattle.hep_arena.proofs.Gaps.{fit-gaps, given-gaps, given-remaining_layout, given-without, taken-gap_before, taken-gaps}
use Rattle.hep_arena.proofs.laws.holes_are_gaps.Goals as goal

pub returns-clause-common : goal.returns-clause-common
returns-clause-common c cells n one le =
    let some : nat_lt 0 cells ≡ true = grind (arith, nat_tests) in
    let whole : (0, cells) ∷ [] ≡ gap_before 0 cells [] = rw some (ap (λ m. (0, m) ∷ []) (omega arith)) in
    ap (taken n) whole ∙ taken-gap_before n 0 cells [] one (omega arith) ∙ ap (λ k. gap_before k cells []) (omega arith)

pub returns-clause-fit : goal.returns-clause-fit
returns-clause-fit c = fit-gaps

pub returns-clause-enters : goal.returns-clause-enters
returns-clause-enters c = taken-gaps

pub returns-clause-leaves : goal.returns-clause-leaves
returns-clause-leaves c = given-gaps

pub returns-clause-activation_leaves : goal.returns-clause-activation_leaves
returns-clause-activation_leaves c = given-without

pub returns-clause-several_leave : goal.returns-clause-several_leave
returns-clause-several_leave c cells from has s layout h = given-remaining_layout cells from (λ (f : Frame). has s f.activation) layout h
