-- The states that a search has found: what the index of a key says.
use Rattle.std.proofs.Common.{◌≡◌, ◌≢◌, ℕ, zero, suc, Bool, true, false, true≢false, ◌||◌, not, List, [], ◌∷◌, ◌++◌, length}
use Rattle.std.proofs.Common.{slice_get, Some, arith, refl, sym, ap, ◌∙◌, if◌then◌else◌, nat_eq}
use Rattle.std.specs.Option.{option_map}
use Rattle.std.specs.List.{list_any, position_or_len}
use Rattle.std.specs.Cmp.Lexicographic.{other_text, pointwise, same_text}
use Rattle.std.proofs.lemmas.List.{map-append, length-map}
use Rattle.std.proofs.lemmas.Option.{none-some, same_Some, slice_get-map}
use Rattle.hep_explore.specs.declared.key.Key.{Key}
use Rattle.hep_explore.specs.FoundStates.{words_in}

-- where no element passes, the first place that passes is behind all
place-of-none : {A : Type 0} (test : A → Bool) (xs : List A) → list_any test xs ≡ false → position_or_len test xs ≡ length xs
place-of-none test [] none = refl
place-of-none test (x ∷ xs) none = by_test (place-of-none test xs) (test x) refl none where
  by_test : (list_any test xs ≡ false → position_or_len test xs ≡ length xs) → (b : Bool) → test x ≡ b
      → (b || list_any test xs) ≡ false → position_or_len test (x ∷ xs) ≡ length (x ∷ xs)
  by_test rest true is none = absurd (true≢false none)
  by_test rest false is none = rw is (let e = rest none in omega arith)

abbrev same_key : Key → Key → Bool
same_key k l = pointwise nat_eq k.words.items l.words.items

abbrev with_key : List Key → Key → List Key
with_key keys key = if list_any (same_key key) keys then keys else keys ++ key ∷ []

-- the key at the index of an equal one has its words
pub words-there : (keys : List Key) (i : ℕ) (key there : Key) → slice_get keys i ≡ Some there → same_key key there ≡ true
    → slice_get (words_in keys) i ≡ Some key.words.items
words-there keys i key there is same =
    slice_get-map (λ (k : Key). k.words.items) keys i
    ∙ ap (option_map (λ (k : Key). k.words.items)) is
    ∙ ap (λ ws. Some ws) (sym (same_text key.words.items there.words.items (sym same)))

-- where no key is the same, none has its words
pub unseen-words : (keys : List Key) (key : Key) → list_any (same_key key) keys ≡ false → (i : ℕ)
    → slice_get (words_in keys) i ≢ Some key.words.items
unseen-words [] key none i here = none-some key.words.items here
unseen-words (k ∷ ks) key none zero here = by_first (same_key key k) refl none where
  by_first : (b : Bool) → same_key key k ≡ b → (b || list_any (same_key key) ks) ≡ false → ⊥
  by_first true is e = true≢false e
  by_first false is e =
      other_text key.words.items k.words.items (sym is) (sym (same_Some k.words.items key.words.items here))
unseen-words (k ∷ ks) key none (suc i) here = unseen-words ks key (behind (same_key key k) (list_any (same_key key) ks) none) i here where
  behind : (b c : Bool) → (b || c) ≡ false → c ≡ false
  behind true c e = absurd (true≢false e)
  behind false c e = e

-- where one is the same, one has its words
pub seen-words : (keys : List Key) (key : Key) → list_any (same_key key) keys ≡ true → (i : ℕ)
    × (slice_get (words_in keys) i ≡ Some key.words.items)
seen-words [] key some = absurd (true≢false (sym some))
seen-words (k ∷ ks) key some = by_first (seen-words ks key) (same_key key k) refl some where
  by_first : (list_any (same_key key) ks ≡ true → (i : ℕ) × (slice_get (words_in ks) i ≡ Some key.words.items)) → (b : Bool)
      → same_key key k ≡ b → (b || list_any (same_key key) ks) ≡ true → (i : ℕ)
      × (slice_get (words_in (k ∷ ks)) i ≡ Some key.words.items)
  by_first behind true is e = (0, ap (λ ws. Some ws) (sym (same_text key.words.items k.words.items (sym is))))
  by_first behind false is e = let rest = behind e in (suc rest.0, rest.1)

-- a key that isn't there is the last one
module _ (old new : List Key) (key : Key) (added : true ≡ not (list_any (same_key key) old)) (are : new ≡ with_key old key) where
  none : list_any (same_key key) old ≡ false
  none = by_test (list_any (same_key key) old) refl added where
    by_test : (b : Bool) → list_any (same_key key) old ≡ b → true ≡ not b → list_any (same_key key) old ≡ false
    by_test true is e = absurd (true≢false e)
    by_test false is e = is

  pub index-added : position_or_len (same_key key) old ≡ length (words_in old)
  index-added = place-of-none (same_key key) old none ∙ sym (length-map old (λ (k : Key). k.words.items))

  pub words-added : words_in new ≡ words_in old ++ key.words.items ∷ []
  words-added =
      ap words_in (are ∙ ap (λ b. if b then old else old ++ key ∷ []) none)
      ∙ map-append (λ (k : Key). k.words.items) old (key ∷ [])

  pub words-unseen : (i : ℕ) → slice_get (words_in old) i ≢ Some key.words.items
  words-unseen = unseen-words old key none
