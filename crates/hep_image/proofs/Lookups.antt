-- The last thing that begins at a cell or before it, as a binary search finds it.
use Rattle.std.proofs.Common.{◌≡◌, ℕ, zero, suc, ◌-◌, ◌<◌, ◌≤◌, true, false, leb, leb-true, List, [], ◌∷◌, length, get_or, Some, None, refl, ap, sym, ◌∙◌, arith, if◌then◌else◌, nat_le}
use Rattle.std.specs.List.Sorted.{IsPartitionPoint}
use Rattle.std.specs.Option.{option_or}
use Rattle.std.proofs.lemmas.Bool.Decides.{nat_tests}
use Rattle.hep_image.specs.Owners.{last_before}

module _ {A : Type 0} (first : A → ℕ) (n : ℕ) where
  -- all begin behind the cell
  pub none-begun : (xs : List A) → ((k : ℕ) (d : A) → k < length xs → n < first (get_or xs k d)) → last_before first xs n ≡ None
  none-begun [] h = refl
  none-begun (x ∷ xs) h =
      let front : n < first x = h zero x (omega arith) in
      let above : nat_le (first x) n ≡ false = grind (arith, nat_tests) in
      ap (λ o. option_or o (if nat_le (first x) n then Some x else None)) (none-begun xs (λ k d less. h (suc k) d (omega (arith, less))))
      ∙ ap (λ b. if b then Some x else None) above

  -- one begins there or before, and those after it behind the cell
  pub last-begun : (xs : List A) (k : ℕ) (d : A) → k < length xs → first (get_or xs k d) ≤ n
      → ((j : ℕ) (e : A) → k < j → j < length xs → n < first (get_or xs j e)) → last_before first xs n ≡ Some (get_or xs k d)
  last-begun [] k d inside here behind = absurd (omega (arith, inside))
  last-begun (x ∷ xs) zero d inside here behind =
      let below : nat_le (first x) n ≡ true = grind (arith, nat_tests) in
      ap (λ o. option_or o (if nat_le (first x) n then Some x else None)) (none-begun xs (λ j e less. behind (suc j) e (omega arith) (omega (arith, less))))
      ∙ ap (λ b. if b then Some x else None) below
  last-begun (x ∷ xs) (suc k) d inside here behind =
      ap (λ o. option_or o (if nat_le (first x) n then Some x else None))
      (last-begun xs k d (omega (arith, inside)) here (λ j e more less. behind (suc j) e (omega (arith, more)) (omega (arith, less))))

  -- what a search for the first one behind the cell says
  abbrev pub IsSearched : List A → ℕ → Type 0
  IsSearched xs i = IsPartitionPoint (λ y. leb (first y) n ≡ true) (λ y. leb (first y) n ≡ false) xs i

  behind-point : (xs : List A) (i : ℕ) → IsSearched xs i → (j : ℕ) (e : A) → i ≤ j → j < length xs → n < first (get_or xs j e)
  behind-point xs i h j e from inside = let above : leb (first (get_or xs j e)) n ≡ false = h.1 j e from inside in grind (arith, nat_tests)

  pub searched-none : (xs ys : List A) (i : ℕ) → IsSearched xs i → xs ≡ ys → i ≡ 0 → None ≡ last_before first ys n
  searched-none xs ys i h same front =
      sym (ap (λ zs. last_before first zs n) (sym same) ∙ none-begun xs (λ k d less. behind-point xs i h k d (omega (arith, front)) less))

  pub searched-some : (xs ys : List A) (i : ℕ) (d : A) → IsSearched xs i → i ≤ length xs → xs ≡ ys → 1 ≤ i → Some (get_or xs (i - 1) d) ≡ last_before first ys n
  searched-some xs ys i d h inside same some =
      let here : first (get_or xs (i - 1) d) ≤ n = leb-true (first (get_or xs (i - 1) d)) n (h.0 (i - 1) d (omega arith) (omega (arith, some))) in
      sym (ap (λ zs. last_before first zs n) (sym same)
      ∙ last-begun xs (i - 1) d (omega (arith, some, inside)) here (λ j e more less. behind-point xs i h j e (omega (arith, more, some)) less))
