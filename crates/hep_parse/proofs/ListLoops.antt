-- One iteration of the loop that reads parts in a row.
use Rattle.std.proofs.Common.{◌≡◌, ℕ, suc, ◌+◌, ◌-◌, ◌<◌, ◌≤◌, List, [], ◌∷◌, ◌++◌, length, Option, Some, None, refl, sym, ap, ◌∙◌, arith, append-nil, append_assoc}
use Rattle.hep_expression.specs.declared.read_failure.ReadFailure.{ReadFailure}
use Rattle.hep_expression.specs.declared.read_failure.ReadFailure.TheVariants as unread
use Rattle.hep_expression.specs.Reading.{Reader, Fails}
use Rattle.hep_parse.specs.ReadingLists.{part_after_comma, with_part, parts_after, listed}

-- no reading, and memory wasn't refused
pub nothing_read : {Y : Type 0} (why : ReadFailure) (read : Option Y) → why ≡ unread.NoReading → Fails why read → read ≡ None
nothing_read unread.NoReading read is e = e
nothing_read unread.NoMemory read is e = absurd cc

-- the parts that were read before the others
abbrev pub with_parts : {A : Type 0} → List A → Option (List A × List ℕ) → Option (List A × List ℕ)
with_parts xs None = None
with_parts xs (Some y) = Some (xs ++ y.0, y.1)

module _ {A : Type 0} where
  one_part : (x : A) (o : Option (List A × List ℕ)) → with_parts (x ∷ []) o ≡ with_part x o
  one_part x None = refl
  one_part x (Some y) = refl

  more_parts : (xs : List A) (x : A) (o : Option (List A × List ℕ)) → with_parts xs (with_part x o) ≡ with_parts (xs ++ x ∷ []) o
  more_parts xs x None = refl
  more_parts xs x (Some y) = ap (λ (l : List A). Some (l, y.1)) (sym (append_assoc xs (x ∷ []) y.0))

  pub begins : (next : Reader A) (x : A) (s r : List ℕ) → next s ≡ Some (x, r) → with_parts (x ∷ []) (parts_after next (length s) r) ≡ listed next s
  unfolding listed
  begins next x s r e = one_part x (parts_after next (length s) r) ∙ sym (rw e refl)

  -- n iterations are allowed, i of them are done, and what is read after the parts so far gives the whole
  module _ (next : Reader A) (n i : ℕ) (xs : List A) (s : List ℕ) (whole : Option (List A × List ℕ)) where
    pub goes_on : (x : A) (r : List ℕ) → i < n → part_after_comma next s ≡ Some (x, r) → with_parts xs (parts_after next (n - i) s) ≡ whole → with_parts (xs ++ x ∷ []) (parts_after next (n - (i + 1)) r) ≡ whole
    unfolding parts_after
    goes_on x r lt e so_far =
        let left : n - i ≡ suc (n - (i + 1)) = omega arith in
        let turn : parts_after next (n - i) s ≡ with_part x (parts_after next (n - (i + 1)) r) = rw (left, e) refl in
        sym (more_parts xs x (parts_after next (n - (i + 1)) r)) ∙ sym (ap (with_parts xs) turn) ∙ so_far

    pub ends : i < n → part_after_comma next s ≡ None → with_parts xs (parts_after next (n - i) s) ≡ whole → whole ≡ Some (xs, s)
    unfolding parts_after
    ends lt e so_far =
        let left : n - i ≡ suc (n - (i + 1)) = omega arith in
        let turn : parts_after next (n - i) s ≡ Some ([], s) = rw (left, e) refl in
        sym so_far ∙ ap (with_parts xs) turn ∙ ap (λ (l : List A). Some (l, s)) (append-nil xs)

    pub is_over : n ≤ i → with_parts xs (parts_after next (n - i) s) ≡ whole → whole ≡ Some (xs, s)
    unfolding parts_after
    is_over le so_far =
        let left : n - i ≡ 0 = omega arith in
        let turn : parts_after next (n - i) s ≡ Some ([], s) = rw left refl in
        sym so_far ∙ ap (with_parts xs) turn ∙ ap (λ (l : List A). Some (l, s)) (append-nil xs)
