-- How many processes can go on, counted by their numbers.
use Rattle.std.proofs.Common.{◌≡◌, ℕ, zero, suc, ◌+◌, ◌<◌, ◌≤◌, ◌&&◌, Bool, true, false, List, [], ◌∷◌, drop, length, not, refl, sym, ap, ◌∙◌, add-one, arith, if◌then◌else◌, is_some, slice_get}
use Rattle.std.specs.List.{filter}
use Rattle.hep_machine.specs.Words.{Process, State, is_number_among, living, living_from, top_of}

module _ (listed : List ℕ) where
  abbrev pub is_unlisted : ℕ → Bool
  is_unlisted p = not (is_number_among p listed)

  -- how many of these processes, the first of which has this number, live and aren't listed
  abbrev pub ready_from : ℕ → List Process → ℕ
  ready_from k qs = length (filter is_unlisted (living_from k qs))

  none : (b : Bool) (n : ℕ) → n ≡ (if b && false then 1 else 0) + n
  none true n = omega arith
  none false n = omega arith

  one : (k : ℕ) (ps : List ℕ) (b : Bool) → is_unlisted k ≡ b
      → length (filter is_unlisted (k ∷ ps)) ≡ (if b && true then 1 else 0) + length (filter is_unlisted ps)
  one k ps true e = rw e (omega arith)
  one k ps false e = rw e (omega arith)

  -- the first one of them, and the others
  pub ready-next : (k i : ℕ) (qs : List Process) → i < length qs
      → ready_from (k + i) (drop i qs)
      ≡ (if is_unlisted (k + i) && is_some (top_of (slice_get qs i)) then 1 else 0) + ready_from (suc (k + i)) (drop (suc i) qs)
  ready-next k i [] less = absurd (omega (arith, less))
  ready-next k zero ([] ∷ qs) less = none (is_unlisted (k + zero)) (ready_from (suc (k + zero)) qs)
  ready-next k zero ((l ∷ ls) ∷ qs) less = one (k + zero) (living_from (suc (k + zero)) qs) (is_unlisted (k + zero)) refl
  ready-next k (suc i) (q ∷ qs) less =
      (λ j. ready_from (moved j) (drop i qs))
      ∙ ready-next (suc k) i qs (omega (arith, less))
      ∙ (λ j. (if is_unlisted (sym moved j) && is_some (top_of (slice_get qs i)) then 1 else 0) + ready_from (suc (sym moved j)) (drop (suc i) qs))
    where
      moved : k + suc i ≡ suc k + i
      moved = omega arith

  -- with the next one, by its number
  pub counted-next : (s : State) (i able next whole : ℕ) (b : Bool) → i < length s.processes
      → b ≡ (is_unlisted (i + 1) && is_some (living s (i + 1))) → next ≡ able + (if b then 1 else 0)
      → able + ready_from (suc i) (drop i s.processes) ≡ whole
      → next + ready_from (suc (i + 1)) (drop (i + 1) s.processes) ≡ whole
  counted-next s i able next whole b less is more all =
      let one = add-one i in
      let tested : b ≡ (is_unlisted (suc i) && is_some (top_of (slice_get s.processes i))) =
      is ∙ (λ j. is_unlisted (one j) && is_some (living s (one j))) in
      let step : ready_from (suc i) (drop i s.processes) ≡ (if b then 1 else 0) + ready_from (suc (suc i)) (drop (suc i) s.processes) =
      (λ j. ready_from (sym shift j) (drop i s.processes)) ∙ ready-next 1 i s.processes less
      ∙ (λ j. (if is_unlisted (shift j) && is_some (top_of (slice_get s.processes i)) then 1 else 0) + ready_from (suc (shift j)) (drop (suc i) s.processes))
      ∙ ap (λ c. (if c then 1 else 0) + ready_from (suc (suc i)) (drop (suc i) s.processes)) (sym tested) in
      (λ j. next + ready_from (suc (one j)) (drop (one j) s.processes)) ∙ omega (arith, step, more, all)
    where
      shift : 1 + i ≡ suc i
      shift = omega arith

  -- where no more are left
  pub none-left : (k i : ℕ) (qs : List Process) → length qs ≤ i → ready_from k (drop i qs) ≡ 0
  none-left k i [] le = gone k i
    where
      gone : (k i : ℕ) → ready_from k (drop i []) ≡ 0
      gone k zero = refl
      gone k (suc i) = refl
  none-left k zero (q ∷ qs) le = absurd (omega (arith, le))
  none-left k (suc i) (q ∷ qs) le = none-left k i qs (omega (arith, le))
