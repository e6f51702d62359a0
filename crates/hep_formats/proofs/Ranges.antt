-- Numbers in a row.
use Rattle.std.proofs.Common.{◌≡◌, ◌∙◌, ℕ, suc, ◌+◌, ◌-◌, ◌<◌, List, [], ◌∷◌, ◌++◌, ap, append_assoc, sym, arith}
use Rattle.std.specs.List.{range_with_len}

-- of n numbers the one with index b is the next, where b of them are there
pub range_cut : (a b n j : ℕ) → b < n → j ≡ a + 1 → (xs : List ℕ)
    → xs ++ range_with_len a (n - b) ≡ (xs ++ a ∷ []) ++ range_with_len j (n - (b + 1))
range_cut a b n j less next xs =
    let count : n - b ≡ suc (n - (b + 1)) = omega arith in
    ap (λ (m : ℕ). xs ++ range_with_len a m) count
    ∙ ap (λ (k : ℕ). xs ++ a ∷ range_with_len k (n - (b + 1))) (sym next)
    ∙ sym (append_assoc xs (a ∷ []) (range_with_len j (n - (b + 1))))
