-- Turns of a process one after the other: plain ones, however they were made.
use Rattle.std.proofs.Common.{◌≡◌, ℕ, suc, ◌+◌, false, List, [], ◌∷◌, ◌++◌, None, sym, ◌∙◌, subst, arith}
use Rattle.std.proofs.lemmas.Option.{none-some}
use Rattle.hep_machine.specs.Words.{Units}
use Rattle.hep_state.specs.declared.core_state.CoreState.{CoreState}
use Rattle.hep_state.specs.declared.turn.TurnOutcome.TheVariants.{Stepped}
use Rattle.hep_state.specs.Words.{HasTurned, IsMachineAfter, LivesOn, StepsOn}
use Rattle.hep_state.proofs.ProcessNumbers.{length-stacks}
use Rattle.hep_state.proofs.TopActivations.{turning}
use Rattle.hep_advance.specs.SilentRuns.{HasGone, IsPlainTurn, MakesMoves, none, more}

module _ (program : Units) (cells p : ℕ) where
  -- of one that began or ended an activation
  pub plain-turn : (choices : List ℕ) (old new : CoreState) → IsMachineAfter program cells choices old → old.halted ≡ false → HasTurned program cells choices p (Stepped None) new → LivesOn p 1 old new → IsPlainTurn program cells choices p
  plain-turn choices old new before running turned lives =
      let after = turned.1.after in
      let next = turning p after lives.living (lives.running ∙ running) in
      record {
        stepped = turned.0;
        unchanged = turned.2;
        going = next.1.running;
        lives = λ none. none-some next.0 (sym none ∙ next.1.lives);
        made = sym after.shows.processes ∙ (length-stacks new.processes.items 1 new.made ∙ (lives.made ∙ (sym (length-stacks old.processes.items 1 old.made) ∙ before.after.shows.processes)));
        layout = after.layout;
        laid = after.laid;
      }

  -- so many and then so many more
  pub gone-on : (choices : List ℕ) (n : ℕ) (mid : List ℕ) → HasGone program cells p choices n mid → (m : ℕ) (after : List ℕ) → HasGone program cells p mid m after → HasGone program cells p choices (n + m) after
  gone-on choices n mid before _ _ (none _) = let e : n ≡ n + 0 = omega arith in subst (λ k. HasGone program cells p choices k mid) e before
  gone-on choices n mid before _ _ (more _ m after gone is) =
      let e : suc (n + m) ≡ n + suc m = omega arith in
      subst (λ k. HasGone program cells p choices k (after ++ p ∷ [])) e (more choices (n + m) after (gone-on choices n mid before m after gone) is)

module _ (program : Units) (p : ℕ) where
  -- a machine that makes none
  pub none-made : (m : CoreState) → MakesMoves program p m 0 m
  none-made m cells choices h = (choices, none choices, h)

  pub more-made : (old mid new : CoreState) (n m : ℕ) → MakesMoves program p old n mid → MakesMoves program p mid m new → MakesMoves program p old (n + m) new
  more-made old mid new n m first then cells choices h =
      let a = first cells choices h in
      let b = then cells a.0 a.2 in
      (b.0, gone-on program cells p choices n a.0 a.1 m b.0 b.1, b.2)

  -- one that began or ended an activation
  pub one-made : (old new : CoreState) → old.halted ≡ false → StepsOn program p old new → MakesMoves program p old 1 new
  one-made old new running steps cells choices h =
      let turned = steps.turned cells choices h in
      (choices ++ p ∷ [], more choices 0 choices (none choices) (plain-turn program cells p choices old new h running turned steps.lives), turned.1)
