-- What is wanted: what is still waited for once it is there, and the numbers of those that wait for it.
use Rattle.std.proofs.Common.{◌≡◌, ℕ, zero, suc, ◌+◌, ◌<◌, true, false, List, [], ◌∷◌, ◌++◌, get_or, replicate, map, Option, Some, None, refl, sym, ap, ◌∙◌, inl, inr, arith}
use Rattle.std.proofs.lemmas.Bool.{cases_Bool, ne_eqb, eq-eqb}
use Rattle.hep_machine.specs.Words.{is_number_among}
use Rattle.hep_cells.specs.declared.want.Want.{Want}
use Rattle.hep_blocked.specs.WaitQueues.{want_eq}
use Rattle.hep_blocked.proofs.Wants.{want-apart, want-is}
use Rattle.hep_blocked.specs.Waiting.{awake, waiting_from, numbers_waiting, waiting_at, wants}

-- ---- what one process waits for

pub awake-wants : (v w : Want) (o : Option Want) → want_eq w v ≡ true → wants v (awake w o) ≡ false
awake-wants v w None e = refl
awake-wants v w (Some x) e = elim (cases_Bool (want_eq w x)) [
  | inl h ↦ rw h refl
  | inr h ↦ rw h (ap (λ (u : Want). want_eq u x) (sym (want-is w v e)) ∙ h)
]

pub awake-keeps : (v w : Want) (o : Option Want) → want_eq w v ≡ false → wants v (awake w o) ≡ wants v o
awake-keeps v w None e = refl
awake-keeps v w (Some x) e = elim (cases_Bool (want_eq w x)) [
  | inl h ↦ rw h (sym (ap (want_eq v) (sym (want-is w x h)) ∙ want-apart w v e))
  | inr h ↦ rw h refl
]

-- ---- what all wait for

pub at-awake : (want : Want) (ws : List (Option Want)) (k : ℕ) → get_or (map (awake want) ws) k None ≡ awake want (get_or ws k None)
at-awake want [] k = refl
at-awake want (w ∷ ws) zero = refl
at-awake want (w ∷ ws) (suc k) = at-awake want ws k

pub waiting-awake : (want : Want) (ws : List (Option Want)) (p : ℕ) → waiting_at (map (awake want) ws) p ≡ awake want (waiting_at ws p)
waiting-awake want ws zero = refl
waiting-awake want ws (suc k) = at-awake want ws k

pub at-grown : (ws : List (Option Want)) (n k : ℕ) → get_or (ws ++ replicate n None) k None ≡ get_or ws k None
at-grown [] zero k = refl
at-grown [] (suc n) zero = refl
at-grown [] (suc n) (suc k) = at-grown [] n k
at-grown (w ∷ ws) n zero = refl
at-grown (w ∷ ws) n (suc k) = at-grown ws n k

-- ---- the numbers of those that wait

numbers-before : (n q : ℕ) (want : Want) (ws : List (Option Want)) → q < n → is_number_among q (waiting_from n want ws) ≡ false
numbers-before n q want [] h = refl
numbers-before n q want (w ∷ ws) h = elim (cases_Bool (wants want w)) [
  | inl e ↦ rw (e, ne_eqb q n (λ same. omega arith)) (numbers-before (suc n) q want ws (omega arith))
  | inr e ↦ rw e (numbers-before (suc n) q want ws (omega arith))
]

numbers-at : (n k q : ℕ) (want : Want) (ws : List (Option Want)) → q ≡ n + k → is_number_among q (waiting_from n want ws) ≡ wants want (get_or ws k None)
numbers-at n k q want [] h = refl
numbers-at n zero q want (w ∷ ws) h = elim (cases_Bool (wants want w)) [
  | inl e ↦ rw (e, eq-eqb q n (omega arith)) refl
  | inr e ↦ rw e (numbers-before (suc n) q want ws (omega arith))
]
numbers-at n (suc k) q want (w ∷ ws) h = elim (cases_Bool (wants want w)) [
  | inl e ↦ rw (e, ne_eqb q n (λ same. omega arith)) (numbers-at (suc n) k q want ws (omega arith))
  | inr e ↦ rw e (numbers-at (suc n) k q want ws (omega arith))
]

pub among-waiting : (want : Want) (ws : List (Option Want)) (p : ℕ) → is_number_among p (numbers_waiting want ws) ≡ wants want (waiting_at ws p)
among-waiting want ws zero = numbers-before 1 0 want ws (omega arith)
among-waiting want ws (suc k) = numbers-at 1 k (suc k) want ws (omega arith)
