-- The loop that reads the digits of an integer constant.
use Rattle.std.proofs.Common.{◌≡◌, ℕ, suc, ◌+◌, ◌-◌, ◌*◌, ◌<◌, ◌≤◌, List, [], ◌∷◌, length, drop, get_or, refl, sym, ap, ◌∙◌, arith, drop-cons}
use Rattle.hep_expression.specs.Characters.{number_after}

pub decimal_after_ge : (n : ℕ) (s : List ℕ) → n ≤ number_after n s
decimal_after_ge n [] = omega arith
decimal_after_ge n (c ∷ s) = omega (arith, decimal_after_ge (n * 10 + (c - 48)) s)

turn : (n i : ℕ) (s : List ℕ) → i < length s → number_after n (drop i s) ≡ number_after (n * 10 + (get_or s i 0 - 48)) (drop (i + 1) s)
turn n i s lt =
    let next : suc i ≡ i + 1 = omega arith in
    let split : drop i s ≡ get_or s i 0 ∷ drop (i + 1) s = drop-cons s i 0 lt ∙ ap (λ (k : ℕ). get_or s i 0 ∷ drop k s) next in
    rw split refl

pub goes_on : (n i whole : ℕ) (s : List ℕ) → i < length s → number_after n (drop i s) ≡ whole → number_after (n * 10 + (get_or s i 0 - 48)) (drop (i + 1) s) ≡ whole
goes_on n i whole s lt so_far = sym (turn n i s lt) ∙ so_far

pub is_large : (n i whole : ℕ) (s : List ℕ) → i < length s → number_after n (drop i s) ≡ whole → n * 10 + (get_or s i 0 - 48) ≤ whole
is_large n i whole s lt so_far = omega (arith, goes_on n i whole s lt so_far, decimal_after_ge (n * 10 + (get_or s i 0 - 48)) (drop (i + 1) s))
