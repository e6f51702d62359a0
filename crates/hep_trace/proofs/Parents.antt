-- On the stack of a process the parent of each activation is the one below it.
use Rattle.std.proofs.Common.{◌≡◌, ℕ, zero, suc, ◌+◌, ◌-◌, List, [], ◌∷◌, ◌++◌, length, Option, Some, None, refl, sym, ap, ◌∙◌, subst, arith, slice_get, slice_set}
use Rattle.std.specs.Option.{unwrap_or}
use Rattle.std.proofs.lemmas.Option.{none-some, same_Some}
use Rattle.hep_layout.proofs.HeldFrames.{each-run, run-last}
use Rattle.hep_layout.proofs.Stacks.{top-numbered}
use Rattle.hep_machine.specs.Words.{Activation, Process, State, Top, Units, activations_on, next_activation, no_activation, numbered, opening, run, run_from, state_after_turn, with_numbered}
use Rattle.hep_machine.proofs.Changes.{Change, calls, creates, faults, leaves, moves, resumes, stack, step_changes, stops, top_in}
use Rattle.hep_machine.proofs.Others.{each_turn}
use Rattle.hep_source.proofs.Tests.{at-front, at-last}

abbrev pub parent_in : List Activation → ℕ → Option ℕ
parent_in xs a = (unwrap_or (numbered xs a) no_activation).parent

-- of some activations each is the parent of the one in front of it, the first one that of a
abbrev pub AreAbove : List Activation → ℕ → List ℕ → Type 0
AreAbove xs a [] = Unit {0}
AreAbove xs a (b ∷ ns) = (parent_in xs a ≡ Some b) × AreAbove xs b ns

abbrev pub IsLine : List Activation → List ℕ → Type 0
IsLine xs [] = Unit {0}
IsLine xs (a ∷ ns) = AreAbove xs a ns

abbrev pub AreLines : List Activation → List Process → Type 0
AreLines xs [] = Unit {0}
AreLines xs (q ∷ qs) = IsLine xs (activations_on q) × AreLines xs qs

-- ---- with more activations

pub parent-more : (xs ys : List Activation) (a b : ℕ) → parent_in xs a ≡ Some b → parent_in (xs ++ ys) a ≡ Some b
parent-more xs ys zero b e = absurd (none-some b e)
parent-more xs ys (suc i) b e = by (slice_get xs i) refl e where
  by : (o : Option Activation) → slice_get xs i ≡ o → (unwrap_or o no_activation).parent ≡ Some b → parent_in (xs ++ ys) (suc i) ≡ Some b
  by None is f = absurd (none-some b f)
  by (Some x) is f = ap (λ (o : Option Activation). (unwrap_or o no_activation).parent) (at-front xs ys i x is) ∙ f

above-more : (xs ys : List Activation) (a : ℕ) (ns : List ℕ) → AreAbove xs a ns → AreAbove (xs ++ ys) a ns
above-more xs ys a [] h = tt
above-more xs ys a (b ∷ ns) h = (parent-more xs ys a b h.0, above-more xs ys b ns h.1)

line-more : (xs ys : List Activation) (ns : List ℕ) → IsLine xs ns → IsLine (xs ++ ys) ns
line-more xs ys [] h = tt
line-more xs ys (a ∷ ns) h = above-more xs ys a ns h

lines-more : (xs ys : List Activation) (qs : List Process) → AreLines xs qs → AreLines (xs ++ ys) qs
lines-more xs ys [] h = tt
lines-more xs ys (q ∷ qs) h = (line-more xs ys (activations_on q) h.0, lines-more xs ys qs h.1)

-- those below the first one
line-behind : (xs : List Activation) (a : ℕ) (ns : List ℕ) → AreAbove xs a ns → IsLine xs ns
line-behind xs a [] h = tt
line-behind xs a (b ∷ ns) h = h.1

-- ---- processes

lines-set : (xs : List Activation) (qs : List Process) (i : ℕ) (q : Process) → AreLines xs qs → IsLine xs (activations_on q) → AreLines xs (slice_set qs i q)
lines-set xs [] i q h k = tt
lines-set xs (r ∷ rs) zero q h k = (k, h.1)
lines-set xs (r ∷ rs) (suc i) q h k = (h.0, lines-set xs rs i q h.1 k)

lines-last : (xs : List Activation) (qs : List Process) (q : Process) → AreLines xs qs → IsLine xs (activations_on q) → AreLines xs (qs ++ q ∷ [])
lines-last xs [] q h k = (k, tt)
lines-last xs (r ∷ rs) q h k = (h.0, lines-last xs rs q h.1 k)

lines-at : (xs : List Activation) (qs : List Process) (i : ℕ) (q : Process) → AreLines xs qs → slice_get qs i ≡ Some q → IsLine xs (activations_on q)
lines-at xs [] i q h e = absurd (none-some q e)
lines-at xs (r ∷ rs) zero q h e = subst (λ (z : Process). IsLine xs (activations_on z)) (same_Some r q e) h.0
lines-at xs (r ∷ rs) (suc i) q h e = lines-at xs rs i q h.1 e

pub lines-numbered : (xs : List Activation) (qs : List Process) (p : ℕ) (q : Process) → AreLines xs qs → numbered qs p ≡ Some q → IsLine xs (activations_on q)
lines-numbered xs qs zero q h e = absurd (none-some q e)
lines-numbered xs qs (suc i) q h e = lines-at xs qs i q h e

-- ---- a step

abbrev pub HasLines : State → Type 0
HasLines s = AreLines s.activations s.processes

module _ (t : Top) (s : State) (all : HasLines t.state) (own : AreAbove t.state.activations t.level.activation (activations_on t.below)) where
  abbrev xs : List Activation
  xs = t.state.activations

  below : IsLine xs (activations_on t.below)
  below = line-behind xs t.level.activation (activations_on t.below) own

  -- with other processes
  same : s.activations ≡ xs → AreLines xs s.processes → HasLines s
  same a h = subst (λ (ys : List Activation). AreLines ys s.processes) (sym a) h

  set : (q : Process) (ns : List ℕ) → activations_on q ≡ ns → IsLine xs ns → AreLines xs (with_numbered t.state.processes t.process q)
  set q ns e h = lines-set xs t.state.processes (t.process - 1) q all (subst (IsLine xs) (sym e) h)

  -- and with one activation more
  more : (x : Activation) → s.activations ≡ xs ++ x ∷ [] → AreLines (xs ++ x ∷ []) s.processes → HasLines s
  more x a h = subst (λ (ys : List Activation). AreLines ys s.processes) (sym a) h

  set-more : (x : Activation) (q : Process) (ns : List ℕ) → activations_on q ≡ ns → IsLine (xs ++ x ∷ []) ns → AreLines (xs ++ x ∷ []) (with_numbered t.state.processes t.process q)
  set-more x q ns e h =
      lines-set (xs ++ x ∷ []) t.state.processes (t.process - 1) q (lines-more xs (x ∷ []) t.state.processes all) (subst (IsLine (xs ++ x ∷ [])) (sym e) h)

  own-more : (x : Activation) → AreAbove (xs ++ x ∷ []) t.level.activation (activations_on t.below)
  own-more x = above-more xs (x ∷ []) t.level.activation (activations_on t.below) own

  newest : (x : Activation) → x.parent ≡ Some t.level.activation → parent_in (xs ++ x ∷ []) (next_activation t.state) ≡ Some t.level.activation
  newest x e =
      let next : length xs + 1 ≡ suc (length xs) = omega arith in
      ap (parent_in (xs ++ x ∷ [])) next ∙ ap (λ (o : Option Activation). (unwrap_or o no_activation).parent) (at-last xs x) ∙ e

  lines-step : Change t s → HasLines s
  lines-step (moves q e k a) = same a (subst (AreLines xs) (sym k) (set q (activations_on (stack t)) e own))
  lines-step (leaves q e k a) = same a (subst (AreLines xs) (sym k) (set q (activations_on t.below) e below))
  lines-step (faults k a) = same a (subst (AreLines xs) (sym k) (set [] [] refl tt))
  lines-step (calls q x e k a) =
      more x a.0 (subst (AreLines (xs ++ x ∷ [])) (sym k) (set-more x q (next_activation t.state ∷ activations_on (stack t)) e (newest x a.1, own-more x)))
  lines-step (creates q r x e f k a) =
      more x a.0 (subst (AreLines (xs ++ x ∷ [])) (sym k) (
      lines-last (xs ++ x ∷ []) (with_numbered t.state.processes t.process q) r (set-more x q (activations_on (stack t)) e (own-more x)) (
      subst (IsLine (xs ++ x ∷ [])) (sym f) tt)))
  lines-step (resumes q r e f k a) =
      same a (subst (AreLines xs) (sym k) (
      lines-last xs (with_numbered t.state.processes t.process q) r (set q (activations_on t.below) e below) (subst (IsLine xs) (sym f) tt)))
  lines-step (stops k a) = same a (subst (AreLines xs) (sym k) all)

-- ---- a run

lines-turn : (program : Units) (p : ℕ) (s : State) → HasLines s → HasLines (state_after_turn program p s)
lines-turn program p s h = each_turn HasLines program p s h (λ t e.
    let stepped = step_changes program p s t e in
    let there = top-numbered s p stepped.top stepped.lives in
    lines-step (top_in s p stepped.top) t h (lines-numbered s.activations s.processes p (stepped.top.0 ∷ stepped.top.1) h there) stepped.change)

lines-first : (program : Units) → HasLines (run program [])
unfolding run run_from opening
lines-first program = (tt, tt)

pub lines : (program : Units) (ps : List ℕ) → HasLines (run program ps)
lines program = each-run (λ ps. HasLines (run program ps)) (lines-first program) (λ ps p h. subst HasLines (sym (run-last program ps p)) (lines-turn program p (run program ps) h))
