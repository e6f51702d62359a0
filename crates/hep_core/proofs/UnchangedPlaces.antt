-- A process that isn't chosen lives on, and so those that are out do.
use Rattle.std.proofs.Common.{◌≡◌, ◌≢◌, ℕ, zero, suc, ◌++◌, ◌∷◌, [], Bool, true, false, true≢false, List, None, Some, sym, ap, ◌∙◌, subst}
use Rattle.hep_blocked.proofs.LivingProcesses.{living-within}
use Rattle.hep_machine.proofs.Others.{others_stay}
use Rattle.hep_machine.specs.declared.event.Entry.{Entry}
use Rattle.hep_machine.specs.Words.{State, Units, living, run, state_after, step, top_of}
use Rattle.hep_core.proofs.Histories.{schedule-waited, state-is, state-stepped}
use Rattle.hep_commit.specs.TicketId.{TicketId}
use Rattle.hep_core.specs.Invariant.{AreLiving}
use Rattle.hep_core.specs.Tickets.{is_out}
use Rattle.hep_core.specs.CoreValues.{CoreValue, IsTurn}
use Rattle.hep_source.proofs.Tests.{some-if_not}

-- after a step of another process
lives-on : (program : Units) (p q : ℕ) (s t : State) → step program p s ≡ Some t → p ≢ q → living s q ≢ None → living t q ≢ None
lives-on program p q s t made other lives = λ none.
    let same = others_stay program p q s t made other (living-within s q (some-if_not (living s q) lives)) in
    lives (sym (ap top_of same) ∙ none)

-- one that is out is another than one that isn't
apart : (p q : ℕ) (out : List TicketId) → is_out p out ≡ false → is_out q out ≡ true → p ≢ q
apart p q out home away same = true≢false (sym away ∙ (ap (λ n. is_out n out) (sym same) ∙ home))

-- those that are out live after a step of one that isn't
pub living-stepped : (program : Units) (h : List Entry) (p : ℕ) (s : State) (out : List TicketId) → step program p (state_after program h) ≡ Some s → is_out p out ≡ false → AreLiving program h out
    → AreLiving program (h ++ record { process = p; steps = 1 } ∷ []) out
living-stepped program h p s out made home lives q away =
    subst (λ (t : State). living t q ≢ None) (sym (state-stepped program h p s made)) (lives-on program p q (state_after program h) s made (apart p q out home away) (lives q away))

-- and after an entry without a step
pub living-waited : (program : Units) (h : List Entry) (p : ℕ) (out : List TicketId) → AreLiving program h out → AreLiving program (h ++ record { process = p; steps = 0 } ∷ []) out
living-waited program h p out lives q away =
    let same : state_after program (h ++ record { process = p; steps = 0 } ∷ []) ≡ state_after program h =
    state-is program (h ++ record { process = p; steps = 0 } ∷ []) ∙ ap (run program) (schedule-waited h p) ∙ sym (state-is program h) in
    subst (λ (t : State). living t q ≢ None) (sym same) (lives q away)

-- and so after a choice
pub living-chosen : (old new : CoreValue) (p n : ℕ) (blocked : Bool) (out : List TicketId) → IsTurn old p n blocked new → is_out p out ≡ false → AreLiving old.program old.history out → AreLiving new.program new.history out
living-chosen old new p (suc zero) false out (s, made, is) home lives =
    subst (λ (c : CoreValue). AreLiving c.program c.history out) (sym is) (living-stepped old.program old.history p s out made home lives)
living-chosen old new p zero true out (waits, is) home lives =
    subst (λ (c : CoreValue). AreLiving c.program c.history out) (sym is) (living-waited old.program old.history p out lives)
living-chosen old new p zero false out turn home lives = absurd turn
living-chosen old new p (suc zero) true out turn home lives = absurd turn
living-chosen old new p (suc (suc n)) blocked out turn home lives = absurd turn
