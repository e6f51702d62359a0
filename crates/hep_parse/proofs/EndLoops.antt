-- One iteration of the loop that reads parts up to the end of a text.
use Rattle.std.proofs.Common.{◌≡◌, ℕ, suc, ◌+◌, ◌-◌, ◌<◌, ◌≤◌, List, [], ◌∷◌, ◌++◌, Option, Some, None, Result, Ok, Err, refl, sym, ap, ◌∙◌, arith, append-nil, append_assoc}
use Rattle.hep_expression.specs.declared.read_failure.ReadFailure.{ReadFailure}
use Rattle.hep_expression.specs.declared.read_failure.ReadFailure.TheVariants as unread
use Rattle.hep_expression.specs.Reading.{Reader, ◌>>=◌, Gives, all_read}
use Rattle.hep_parse.specs.ReadingLists.{after_optional_comma}
use Rattle.hep_parse.specs.Declaration.{parts_to_end}
use Rattle.std.proofs.lemmas.Option.{same_Some, none-some}

-- parts that were read before the others
abbrev pub with_before : {A : Type 0} → List A → Option (List A) → Option (List A)
with_before done read = read >>= λ more. Some (done ++ more)

module _ {A : Type 0} where
  one_more : (done : List A) (x : A) (read : Option (List A)) → with_before done (read >>= λ more. Some (x ∷ more)) ≡ with_before (done ++ x ∷ []) read
  one_more done x None = refl
  one_more done x (Some more) = ap (λ (l : List A). Some l) (sym (append_assoc done (x ∷ []) more))

  at_end : (done : List A) (s : List ℕ) → with_before done (all_read [] s) ≡ all_read done s
  at_end done [] = ap (λ (l : List A). Some l) (append-nil done)
  at_end done (c ∷ s) = refl

  -- n iterations are allowed, i of them are done, and what is read after the parts so far gives the whole
  module _ (next : Reader A) (n i : ℕ) (done : List A) (s : List ℕ) (whole : Option (List A)) where
    pub end_goes_on : (x : A) (r : List ℕ) → i < n → next (after_optional_comma s) ≡ Some (x, r) → with_before done (parts_to_end next (n - i) s) ≡ whole → with_before (done ++ x ∷ []) (parts_to_end next (n - (i + 1)) r) ≡ whole
    unfolding parts_to_end
    end_goes_on x r lt e so_far =
        let left : n - i ≡ suc (n - (i + 1)) = omega arith in
        let turn : with_before done (parts_to_end next (n - i) s) ≡ with_before (done ++ x ∷ []) (parts_to_end next (n - (i + 1)) r) = rw (left, e) (one_more done x (parts_to_end next (n - (i + 1)) r)) in
        sym turn ∙ so_far

    pub end_comes : i < n → next (after_optional_comma s) ≡ None → with_before done (parts_to_end next (n - i) s) ≡ whole → whole ≡ all_read done s
    unfolding parts_to_end
    end_comes lt e so_far =
        let left : n - i ≡ suc (n - (i + 1)) = omega arith in
        let turn : with_before done (parts_to_end next (n - i) s) ≡ all_read done s = rw (left, e) (at_end done s) in
        sym so_far ∙ turn

    pub end_is_over : n ≤ i → with_before done (parts_to_end next (n - i) s) ≡ whole → whole ≡ all_read done s
    unfolding parts_to_end
    end_is_over le so_far =
        let left : n - i ≡ 0 = omega arith in
        let turn : with_before done (parts_to_end next (n - i) s) ≡ all_read done s = rw left (at_end done s) in
        sym so_far ∙ turn

-- what all_read gives, seen by a view
pub read_as : {X Y : Type 0} (view : X → Y) (r : Result X ReadFailure) (x : X) (s : List ℕ) → Gives (λ y. y) r (all_read x s) → Gives view r (all_read (view x) s)
read_as view (Ok y) x [] h = ap (λ z. Some (view z)) (same_Some x y h)
read_as view (Ok y) x (c ∷ s) h = absurd (none-some y h)
read_as view (Err unread.NoMemory) x s h = tt
read_as view (Err unread.NoReading) x [] h = absurd (none-some x (sym h))
read_as view (Err unread.NoReading) x (c ∷ s) h = refl
