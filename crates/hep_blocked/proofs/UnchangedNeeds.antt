-- A step of one process leaves what another one needs.
use Rattle.std.proofs.Common.{◌≡◌, inl, inr, ℕ, zero, suc, ◌≤◌, ◌∷◌, length, Option, Some, sym, ap, ◌∙◌, subst, arith, ◌≢◌}
use Rattle.std.specs.Option.{unwrap_or}
use Rattle.std.proofs.lemmas.Option.{none-some, slice_get_within}
use Rattle.hep_machine.specs.Words.{Units, unit_at, next_of, IsSameOrOneMore, activation_of, living, numbered, top_of, state_after_turn, Activation, Level, Process, State, Wanted, step}
use Rattle.hep_layout.proofs.Memory.{activation-kept, same-activation}
use Rattle.hep_layout.proofs.Stacks.{top-numbered}
use Rattle.hep_blocked.specs.Needs.{need_of, need_of_next, on_top}

-- the other processes are as they were
abbrev pub LeavesOthers : Units → ℕ → State → State → Type 0
LeavesOthers program p s t =
    (q : ℕ) → step program p s ≡ Some t → p ≢ q → 1 ≤ q → q ≤ length s.processes → numbered t.processes q ≡ numbered s.processes q

living-numbered : (s : State) (q : ℕ) (top : Level × Process) → living s q ≡ Some top → (1 ≤ q) × (q ≤ length s.processes)
living-numbered s zero top lives = absurd (none-some top lives)
living-numbered s (suc i) top lives = (omega arith, slice_get_within s.processes i (top.0 ∷ top.1) (top-numbered s (suc i) top lives))

living-stays : (program : Units) (p q : ℕ) (s t : State) (top : Level × Process) → LeavesOthers program p s t → step program p s ≡ Some t
    → p ≢ q → living s q ≡ Some top → living t q ≡ Some top
living-stays program p q s t top others made other lives =
    let there = living-numbered s q top lives in ap top_of (others q made other there.0 there.1) ∙ lives

-- an activation that was made is as it was
activation-stays : (program : Units) (p : ℕ) (s t : State) (a : ℕ)
    → IsSameOrOneMore s.activations (state_after_turn program p s).activations → step program p s ≡ Some t → a ≤ length s.activations
    → activation_of t a ≡ activation_of s a
activation-stays program p s t a risen made le =
    by_more (subst (λ (z : State). IsSameOrOneMore s.activations z.activations) (ap (λ o. unwrap_or o s) made) risen) where
      by_more : IsSameOrOneMore s.activations t.activations → activation_of t a ≡ activation_of s a
      by_more (inl same) = same-activation s t a same
      by_more (inr more) = activation-kept s t more.0 a more.1 le

-- what is needed on a level, by its activation
abbrev needed_in : Units → Level → Activation → Option Wanted
needed_in program level z =
    let unit = unit_at program z.unit in
    need_of_next (record { unit = unit; number = level.activation; dummies = z.dummies }) (next_of unit level.work)

pub need-stays : (program : Units) (p q : ℕ) (s t : State) (top : Level × Process)
    → LeavesOthers program p s t → IsSameOrOneMore s.activations (state_after_turn program p s).activations
    → step program p s ≡ Some t → p ≢ q → living s q ≡ Some top → top.0.activation ≤ length s.activations
    → need_of program q t ≡ need_of program q s
need-stays program p q s t top others risen made other lives le =
    ap (on_top need_of_next program t) (living-stays program p q s t top others made other lives)
    ∙ (ap (needed_in program top.0) (activation-stays program p s t top.0.activation risen made le)
    ∙ sym (ap (on_top need_of_next program s) lives))
