-- The loop that reads the characters of a constant.
use Rattle.std.proofs.Common.{◌≡◌, ℕ, suc, ◌+◌, ◌-◌, ◌<◌, ◌≤◌, List, [], ◌∷◌, ◌++◌, Option, Some, None, refl, sym, ap, ◌∙◌, arith, append_assoc, append-nil}
use Rattle.hep_expression.specs.Reading.{◌>>=◌, after}
use Rattle.hep_parse.specs.ReadingLists.{with_part}
use Rattle.hep_parse.specs.ReadingConstant.{character_at, characters}

-- In all of these n iterations are allowed, i of them are done, and what is left gives the whole with what
-- was read before.

left_over : (n i : ℕ) → i < n → n - i ≡ suc (n - (i + 1))
left_over n i lt = omega arith

-- characters that were read before
abbrev pub with_characters : List ℕ → Option (List ℕ × List ℕ) → Option (List ℕ × List ℕ)
with_characters done read = read >>= λ x. Some (done ++ x.0, x.1)

one_character_more : (done : List ℕ) (c : ℕ) (read : Option (List ℕ × List ℕ)) → with_characters done (with_part c read) ≡ with_characters (done ++ c ∷ []) read
one_character_more done c None = refl
one_character_more done c (Some x) = ap (λ (l : List ℕ). Some (l, x.1)) (sym (append_assoc done (c ∷ []) x.0))

module _ (n i : ℕ) (done s : List ℕ) (whole : Option (List ℕ × List ℕ)) where
  pub characters_go_on : (c : ℕ) (r : List ℕ) → i < n → character_at s ≡ Some (c, r) → with_characters done (characters (n - i) s) ≡ whole → with_characters (done ++ c ∷ []) (characters (n - (i + 1)) r) ≡ whole
  unfolding characters
  characters_go_on c r lt found so_far =
      let turn : with_characters done (characters (n - i) s) ≡ with_characters (done ++ c ∷ []) (characters (n - (i + 1)) r) = rw (left_over n i lt, found) (one_character_more done c (characters (n - (i + 1)) r)) in
      sym turn ∙ so_far

  pub characters_end : (r : List ℕ) → i < n → character_at s ≡ None → after 39 s ≡ Some r → with_characters done (characters (n - i) s) ≡ whole → whole ≡ Some (done, r)
  unfolding characters
  characters_end r lt none closed so_far =
      let turn : with_characters done (characters (n - i) s) ≡ Some (done, r) = rw (left_over n i lt, none, closed) (ap (λ (l : List ℕ). Some (l, r)) (append-nil done)) in
      sym so_far ∙ turn

  pub characters_stop : i < n → character_at s ≡ None → after 39 s ≡ None → with_characters done (characters (n - i) s) ≡ whole → whole ≡ None
  unfolding characters
  characters_stop lt none unclosed so_far =
      let turn : with_characters done (characters (n - i) s) ≡ None = rw (left_over n i lt, none, unclosed) refl in
      sym so_far ∙ turn

  pub characters_are_over : n ≤ i → with_characters done (characters (n - i) s) ≡ whole → whole ≡ None
  unfolding characters
  characters_are_over le so_far =
      let zero_left : n - i ≡ 0 = omega arith in
      let turn : with_characters done (characters (n - i) s) ≡ None = rw zero_left refl in
      sym so_far ∙ turn
