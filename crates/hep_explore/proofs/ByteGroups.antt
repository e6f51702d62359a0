-- Words as bytes: where the bytes are the same, the words are.
use Rattle.std.proofs.Common.{◌≡◌, ℕ, zero, suc, ◌+◌, ◌<◌, ◌≤◌, ◌/◌, ◌%◌, Bool, true, false, nat_lt, if◌then◌else◌, List, [], ◌∷◌, ◌++◌}
use Rattle.std.proofs.Common.{refl, sym, ap, ◌∙◌, append_assoc, arith}
use Rattle.std.specs.List.{flat_map}
use borrow.Author.Tests.{le-ltb, lt-ltb, ltb-false, ltb-true}
use Rattle.hep_explore.specs.Keys.{bytes_of, groups_of, word_bytes}

-- one group or several, by whether the number is small
abbrev chosen : Bool → ℕ → ℕ → List ℕ
chosen small more n = if small then n ∷ [] else (n % 128 + 128) ∷ groups_of more (n / 128)

-- numbers whose groups begin in the same way are the same, where there may be as many groups as each needs
groups-code : (f g x y : ℕ) (r s : List ℕ) → x ≤ f → y ≤ g → groups_of f x ++ r ≡ groups_of g y ++ s → (x ≡ y) × (r ≡ s)
groups-code zero zero x y r s few less same = (cc, cc)
groups-code zero (suc g) x y r s few less same = by (nat_lt y 128) refl same where
  by : (b : Bool) → nat_lt y 128 ≡ b → x ∷ r ≡ chosen b g y ++ s → (x ≡ y) × (r ≡ s)
  by true small e = (cc, cc)
  by false large e = let head : x ≡ y % 128 + 128 = cc in absurd (omega arith)
groups-code (suc f) zero x y r s few less same = by (nat_lt x 128) refl same where
  by : (b : Bool) → nat_lt x 128 ≡ b → chosen b f x ++ r ≡ y ∷ s → (x ≡ y) × (r ≡ s)
  by true small e = (cc, cc)
  by false large e = let head : x % 128 + 128 ≡ y = cc in absurd (omega arith)
groups-code (suc f) (suc g) x y r s few less same =
    by (nat_lt x 128) (nat_lt y 128) refl refl same (groups-code f g (x / 128) (y / 128) r s)
  where
    by : (b c : Bool) → nat_lt x 128 ≡ b → nat_lt y 128 ≡ c → chosen b f x ++ r ≡ chosen c g y ++ s
        → (x / 128 ≤ f → y / 128 ≤ g → groups_of f (x / 128) ++ r ≡ groups_of g (y / 128) ++ s → (x / 128 ≡ y / 128) × (r ≡ s))
        → (x ≡ y) × (r ≡ s)
    by true true small tiny e rest = (cc, cc)
    by true false small large e rest =
        let head : x ≡ y % 128 + 128 = cc in
        let less : x < 128 = ltb-true x 128 small in
        absurd (omega arith)
    by false true large small e rest =
        let head : x % 128 + 128 ≡ y = cc in
        let less : y < 128 = ltb-true y 128 small in
        absurd (omega arith)
    by false false large huge e rest =
        let head : x % 128 ≡ y % 128 = (let e : x % 128 + 128 ≡ y % 128 + 128 = cc in omega arith) in
        let tail : groups_of f (x / 128) ++ r ≡ groups_of g (y / 128) ++ s = cc in
        let more : 128 ≤ x = ltb-false x 128 large in
        let many : 128 ≤ y = ltb-false y 128 huge in
        let both = rest (omega arith) (omega arith) tail in
        (omega (arith, both.0), both.1)

-- no word is without bytes
some-bytes : (n : ℕ) (r : List ℕ) → word_bytes n ++ r ≡ [] → ⊥
some-bytes zero r none = absurd cc
some-bytes (suc n) r none = by (nat_lt (suc n) 128) none where
  by : (b : Bool) → chosen b n (suc n) ++ r ≡ [] → ⊥
  by true e = absurd cc
  by false e = absurd cc

-- words with the same bytes are the same
pub bytes-same : (xs ys : List ℕ) → bytes_of xs ≡ bytes_of ys → xs ≡ ys
bytes-same [] [] same = refl
bytes-same [] (y ∷ ys) same = absurd (some-bytes y (flat_map word_bytes ys) (sym same))
bytes-same (x ∷ xs) [] same = absurd (some-bytes x (flat_map word_bytes xs) same)
bytes-same (x ∷ xs) (y ∷ ys) same =
    let first = groups-code x y x y (flat_map word_bytes xs) (flat_map word_bytes ys) (omega arith) (omega arith) same in
    let rest = bytes-same xs ys first.1 in
    λ i. first.0 i ∷ rest i

-- ---- a loop that appends them

-- a small number has one group
pub one-group : (more n : ℕ) → n < 128 → groups_of more n ≡ n ∷ []
one-group zero n small = refl
one-group (suc more) n small = ap (λ b. chosen b more n) (lt-ltb n 128 small)

-- a large one has its lowest group and those of the rest
pub lowest-group : (more n : ℕ) → 128 ≤ n → n ≤ more
    → (k : ℕ) × (n / 128 ≤ k) × (groups_of more n ≡ (n % 128 + 128) ∷ groups_of k (n / 128))
lowest-group zero n large few = absurd (omega arith)
lowest-group (suc more) n large few = (more, omega arith, ap (λ b. chosen b more n) (le-ltb n 128 large))
