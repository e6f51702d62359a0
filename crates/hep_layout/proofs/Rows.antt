-- Rows: their cells, and whose each of them is.
use Rattle.std.proofs.Common.{◌≡◌, ℕ, ◌+◌, ◌<◌, Bool, true, false, [], ◌∷◌, ◌++◌, Some, None, refl, ap, ◌∙◌, arith, if◌then◌else◌, nat_lt}
use Rattle.std.proofs.lemmas.Bool.Decides.{nat_tests}
use Rattle.hep_layout.specs.Words.{Row, cells_in, first_in, size_in, place_in, owner_in}

pub cells_in-append : {K : Type 0} (es fs : Row K) → cells_in (es ++ fs) ≡ cells_in es + cells_in fs
cells_in-append [] fs = omega arith
cells_in-append (e ∷ es) fs = omega (arith, cells_in-append es fs)

-- ---- where a key's cells are

pub place-is : {K : Type 0} (test : K → Bool) (i : ℕ) (es : Row K) → place_in test i es ≡ (if nat_lt i (size_in test es) then Some (first_in test es + i) else None)
place-is test i [] = grind (arith, nat_tests)
place-is test i (e ∷ es) = grind (arith, nat_tests, place-is test i es)

-- what a place says of the index
pub record IsPlaced {K : Type 0} (test : K → Bool) (i : ℕ) (es : Row K) (n : ℕ) : Type 0 where
  pub below : i < size_in test es
  pub at : n ≡ first_in test es + i

pub placed : {K : Type 0} (test : K → Bool) (i : ℕ) (es : Row K) (n : ℕ) → place_in test i es ≡ Some n → IsPlaced test i es n
placed test i es n e = record { below = grind (arith, nat_tests, place-is test i es); at = grind (arith, nat_tests, place-is test i es) }

pub place-at : {K : Type 0} (test : K → Bool) (i : ℕ) (es : Row K) → i < size_in test es → place_in test i es ≡ Some (first_in test es + i)
place-at test i es h = grind (arith, nat_tests, place-is test i es)

-- ---- whose a cell is

-- the first key that passes owns its cells
owned-first : {K : Type 0} (test : K → Bool) (key : K) (i : ℕ) (es : Row K) → ((k : K) → test k ≡ true → key ≡ k) → i < size_in test es → owner_in es (first_in test es + i) ≡ Some (key, i)
owned-first test key i [] equal h = absurd (omega arith)
owned-first test key i (e ∷ es) equal h = grind (arith, nat_tests, owned-first test key i es equal, equal e.0)

within-cells : {K : Type 0} (test : K → Bool) (i : ℕ) (es : Row K) → i < size_in test es → first_in test es + i < cells_in es
within-cells test i [] h = absurd (omega arith)
within-cells test i (e ∷ es) h = grind (arith, within-cells test i es)

-- where only equal keys pass, the owner is the key itself
pub owned-by : {K : Type 0} (test : K → Bool) (key : K) (i : ℕ) (es : Row K) (n : ℕ) → ((k : K) → test k ≡ true → key ≡ k) → place_in test i es ≡ Some n → (owner_in es n ≡ Some (key, i)) × (n < cells_in es)
owned-by test key i es n equal e =
    let p = placed test i es n e in
    rw p.at (owned-first test key i es equal p.below, within-cells test i es p.below)

-- ---- rows one after the other

abbrev pub has_key : {K : Type 0} → (K → Bool) → Row K → Bool
has_key test [] = false
has_key test (e ∷ es) = if test e.0 then true else has_key test es

-- where the first row has no such key, it is in the second one
pub first-behind : {K : Type 0} (test : K → Bool) (es fs : Row K) → has_key test es ≡ false → first_in test (es ++ fs) ≡ cells_in es + first_in test fs
first-behind test [] fs h = omega arith
first-behind test (e ∷ es) fs h = grind (arith, first-behind test es fs)

pub size-behind : {K : Type 0} (test : K → Bool) (es fs : Row K) → has_key test es ≡ false → size_in test (es ++ fs) ≡ size_in test fs
size-behind test [] fs h = refl
size-behind test (e ∷ es) fs h = grind (arith, size-behind test es fs)

-- and else in the first
pub first-within : {K : Type 0} (test : K → Bool) (es fs : Row K) → has_key test es ≡ true → first_in test (es ++ fs) ≡ first_in test es
first-within test [] fs h = absurd cc
first-within test (e ∷ es) fs h = grind (arith, first-within test es fs)

pub size-within : {K : Type 0} (test : K → Bool) (es fs : Row K) → has_key test es ≡ true → size_in test (es ++ fs) ≡ size_in test es
size-within test [] fs h = absurd cc
size-within test (e ∷ es) fs h = grind (arith, size-within test es fs)

-- ---- where a key's cells begin in a row

pub record IsEntry {K : Type 0} (test : K → Bool) (es : Row K) (first cells : ℕ) : Type 0 where
  pub has : has_key test es ≡ true
  pub begins : first_in test es ≡ first
  pub sized : size_in test es ≡ cells

pub entry-here : {K : Type 0} {test : K → Bool} {es : Row K} (key : K) (n : ℕ) → test key ≡ true → IsEntry test ((key, n) ∷ es) 0 n
entry-here key n t = record { has = rw t refl; begins = rw t refl; sized = rw t refl }

pub entry-next : {K : Type 0} {test : K → Bool} {es : Row K} {first cells : ℕ} (key : K) (n : ℕ) → test key ≡ false → IsEntry test es first cells → IsEntry test ((key, n) ∷ es) (n + first) cells
entry-next key n t h = record { has = rw t h.has; begins = rw t (ap (λ m. n + m) h.begins); sized = rw t h.sized }

has-within : {K : Type 0} (test : K → Bool) (es fs : Row K) → has_key test es ≡ true → has_key test (es ++ fs) ≡ true
has-within test [] fs h = absurd cc
has-within test (e ∷ es) fs h = grind (arith, has-within test es fs)

has-behind : {K : Type 0} (test : K → Bool) (es fs : Row K) → has_key test es ≡ false → has_key test (es ++ fs) ≡ has_key test fs
has-behind test [] fs h = refl
has-behind test (e ∷ es) fs h = grind (arith, has-behind test es fs)

pub entry-within : {K : Type 0} {test : K → Bool} {es : Row K} {first cells : ℕ} (fs : Row K) → IsEntry test es first cells → IsEntry test (es ++ fs) first cells
entry-within {test = test} {es = es} fs h =
    record { has = has-within test es fs h.has; begins = first-within test es fs h.has ∙ h.begins; sized = size-within test es fs h.has ∙ h.sized }

pub entry-behind : {K : Type 0} {test : K → Bool} {fs : Row K} {first cells : ℕ} (es : Row K) → has_key test es ≡ false → IsEntry test fs first cells → IsEntry test (es ++ fs) (cells_in es + first) cells
entry-behind {test = test} {fs = fs} es t h =
    record {
      has = has-behind test es fs t ∙ h.has;
      begins = first-behind test es fs t ∙ ap (λ m. cells_in es + m) h.begins;
      sized = size-behind test es fs t ∙ h.sized;
    }

pub entry-at : {K : Type 0} {test : K → Bool} {es : Row K} {first second cells : ℕ} → first ≡ second → IsEntry test es first cells → IsEntry test es second cells
entry-at e h = record { has = h.has; begins = h.begins ∙ e; sized = h.sized }
