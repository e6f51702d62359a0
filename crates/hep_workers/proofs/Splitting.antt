-- A list of which an element is replaced, where its slice was split before that element.
use Rattle.std.proofs.Common.{◌≡◌, ℕ, ◌-◌, ◌+◌, ◌<◌, List, ◌++◌, length, take, drop, set, sym, ap, ◌∙◌, subst, arith, get_or, length-append, length-set, append-nil, take_all, drop_of_length-le}
use Rattle.std.specs.List.{AllWithin}
use Rattle.std.proofs.lemmas.List.{get_or-take, set-append_right}
use Rattle.std.proofs.lemmas.List.Elements.{AllWithin-kept, AllWithin-more_set}

module _ {X : Type 0} (all front back : List X) (v : X) (count k : ℕ) (len : count ≡ length all) (at : length front ≡ k) (is : all ≡ front ++ back) where
  -- the two parts joined, and what is beyond them, up to the length
  abbrev joined : List X
  joined = front ++ set back 0 v

  abbrev pub replaced : List X
  replaced = take count (joined ++ drop (length joined) all)

  replaced-is : replaced ≡ set all k v
  replaced-is =
      let same : length joined ≡ length all = omega (arith, length-append front (set back 0 v), length-set back 0 v, length-append front back, ap length is) in
      let first : 0 ≡ k - k = omega arith in
      ap (λ more. take count (joined ++ more)) (drop_of_length-le all (omega (arith, same)))
      ∙ ap (take count) (append-nil joined)
      ∙ take_all count joined (omega (arith, same, len))
      ∙ ap (λ i. front ++ set back i v) first
      ∙ sym (set-append_right front back k k v at (omega arith))
      ∙ ap (λ items. set items k v) (sym is)

  -- it is as long
  pub replaced-long : length replaced ≡ length all
  replaced-long = ap length replaced-is ∙ length-set all k v

  module _ (P : X → Type 0) (within : k < length all) (before : AllWithin P all 0 k) where
    -- what holds of each element before it holds still
    pub replaced-kept : AllWithin P replaced 0 k
    replaced-kept = subst (λ items. AllWithin P items 0 k) (sym replaced-is) (AllWithin-kept all k v within P before)

    -- and of it too, where it holds of what replaces it
    pub replaced-more : P v → AllWithin P replaced 0 (k + 1)
    replaced-more here = subst (λ items. AllWithin P items 0 (k + 1)) (sym replaced-is) (AllWithin-more_set all k v within P before here)

-- what holds of each of the first k elements of a list holds of each of those of another list, where they are the same
pub taken-kept : {X : Type 0} (P : X → Type 0) (xs ys : List X) (k : ℕ) → take k ys ≡ take k xs → AllWithin P xs 0 k → AllWithin P ys 0 k
taken-kept P xs ys k is all i d low high =
    subst P (sym (get_or-take k xs i d high) ∙ ap (λ first. get_or first i d) (sym is) ∙ get_or-take k ys i d high) (all i d low high)
