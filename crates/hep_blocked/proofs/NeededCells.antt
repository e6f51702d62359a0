-- Who needs what is kept in a cell, and when it waits.
use Rattle.std.proofs.Common.{◌≡◌, ◌≢◌, ℕ, Bool, true, false, List, [], ◌∷◌, ◌++◌, Option, Some, None, refl, sym, ap, ◌∙◌, if◌then◌else◌, is_some, not}
use Rattle.std.specs.Option.{unwrap_or}
use Rattle.std.proofs.lemmas.Option.{none-some}
use mathlib.Core.Bool.{beq}
use Rattle.hep_machine.specs.Words.{Units, living, run, Level, Process, State, Store, Wanted, is_waiting, step}
use Rattle.hep_machine.proofs.Ages.{aged, on_stack_made}
use Rattle.hep_machine.proofs.Others.{activations_after, others_stay}
use Rattle.hep_layout.proofs.HeldFrames.{run-last}
use Rattle.hep_layout.proofs.Stacks.{top-numbered}
use Rattle.hep_layout.proofs.FrameTree.{stacked-top}
use Rattle.hep_blocked.specs.Needs.{need_of, need_of_next, on_top, unmet}
use Rattle.hep_blocked.proofs.UnchangedNeeds.{need-stays}
use Rattle.hep_blocked.proofs.Waiting.{waits-unmet}

-- ---- waiting for a state

unmet-state : (w : Wanted) (store : Store) → is_some (unmet (Some w) store) ≡ not (beq (store w.at).full w.full)
unmet-state w store = by_states w.full (store w.at).full where
  by_states : (full so : Bool) → is_some (if (if full then so else not so) then None else Some w) ≡ not (beq so full)
  by_states true true = refl
  by_states true false = refl
  by_states false true = refl
  by_states false false = refl

pub waits-by-state : (program : Units) (p : ℕ) (s : State) (w : Wanted) → need_of program p s ≡ Some w → is_waiting program s p ≡ not (beq (s.store w.at).full w.full)
waits-by-state program p s w needed = ap is_some (waits-unmet program p s ∙ ap (λ o. unmet o s.store) needed) ∙ unmet-state w s.store

-- what is waited for is what is needed
pub unmet-needed : (o : Option Wanted) (store : Store) (w : Wanted) → unmet o store ≡ Some w → o ≡ Some w
unmet-needed None store w e = absurd (none-some w e)
unmet-needed (Some v) store w e = by_state (if v.full then (store v.at).full else not (store v.at).full) e where
  by_state : (b : Bool) → (if b then None else Some v) ≡ Some w → Some v ≡ Some w
  by_state true e = absurd (none-some w e)
  by_state false e = e

-- ---- after a step of another one

module _ (program : Units) (ps : List ℕ) (p q : ℕ) where
  -- where there is a step, the next state is the one that it leads to
  pub stepped : step program p (run program ps) ≢ None → step program p (run program ps) ≡ Some (run program (ps ++ p ∷ []))
  stepped there = by_step (step program p (run program ps)) refl where
    by_step : (o : Option State) → step program p (run program ps) ≡ o → o ≡ Some (run program (ps ++ p ∷ []))
    by_step None e = absurd (there e)
    by_step (Some t) e = ap (λ t. Some t) (sym (run-last program ps p ∙ ap (λ o. unwrap_or o (run program ps)) e))

  pub need-after : (w : Wanted) → step program p (run program ps) ≢ None → p ≢ q → need_of program q (run program ps) ≡ Some w → need_of program q (run program (ps ++ p ∷ [])) ≡ Some w
  need-after w there other needed = by_top (living s q) refl needed where
    s : State
    s = run program ps

    by_top : (o : Option (Level × Process)) → living s q ≡ o → on_top need_of_next program s o ≡ Some w → need_of program q (run program (ps ++ p ∷ [])) ≡ Some w
    by_top None lives e = absurd (none-some w e)
    by_top (Some top) lives e =
        let made = on_stack_made s top.0.activation (aged program ps) (stacked-top s q top (top-numbered s q top lives)) in
        need-stays program p q s _ top (λ r e d one h. others_stay program p r s _ e d h) (activations_after program p s) (stepped there) other lives made.1 ∙ needed
