-- Lists that lead back to their first one, and turned so that the least one is in front.
use Rattle.std.proofs.Common.{◌≡◌, inl, inr, ◌⊎◌, ℕ, zero, suc, ◌+◌, ◌-◌, ◌<◌, ◌≤◌, Bool, true, false, List, [], ◌∷◌, ◌++◌, length, get_or, Some, refl, sym, ap, ◌∙◌, subst, arith, append-nil, nat_le, nat_lt, eqb, slice_get}
use Rattle.std.specs.List.{list_any}
use Rattle.std.proofs.lemmas.Bool.{eqb-true}
use Rattle.std.proofs.lemmas.Bool.Decides.{nat_tests}
use Rattle.std.proofs.lemmas.List.Folds.{Any-from_list_any}
use Rattle.std.proofs.lemmas.Map.Keys.{IsDistinct-from_apart}
use Rattle.std.proofs.lemmas.Map.Steps.{length-le_from_distinct_below}
use Rattle.std.proofs.lemmas.Option.{none-some, same_Some, slice_get-get_or, slice_get_within}
use Rattle.hep_why.specs.CycleLaws.{AreDistinct, LeadBack}
use Rattle.hep_machine.proofs.Others.{front_kept}
use Rattle.hep_source.proofs.Tests.{get-second}

-- ---- leading back

module _ (R : ℕ → ℕ → Type 0) where
  pub cut : (z y x : ℕ) (xs ys : List ℕ) → LeadBack R z (x ∷ xs ++ y ∷ ys) → LeadBack R y (x ∷ xs) × LeadBack R z (y ∷ ys)
  cut z y x [] ys h = (h.0, h.1)
  cut z y x (w ∷ xs) ys h = let r = cut z y w xs ys h.1 in ((h.0, r.0), r.1)

  pub joined : (z x y : ℕ) (xs ys : List ℕ) → LeadBack R x (y ∷ ys) → LeadBack R z (x ∷ xs) → LeadBack R z (y ∷ ys ++ x ∷ xs)
  joined z x y xs [] a b = (a, b)
  joined z x y xs (w ∷ ys) a b = (a.0, joined z x w xs ys a.1 b)

  pub turned-back : (x first : ℕ) (xs before behind : List ℕ) → x ∷ xs ≡ before ++ first ∷ behind → LeadBack R x (x ∷ xs)
      → LeadBack R first (first ∷ behind ++ before)
  turned-back x first xs [] behind parts h =
      let same : x ≡ first = same_Some x first (ap (λ (ys : List ℕ). slice_get ys 0) parts) in
      subst (LeadBack R first) (ap (λ (ys : List ℕ). first ∷ ys) (sym (append-nil behind)))
      (subst (λ z. LeadBack R z (first ∷ behind)) same (subst (LeadBack R x) parts h))
  turned-back x first xs (b ∷ bs) behind parts h =
      let same : x ≡ b = same_Some x b (ap (λ (ys : List ℕ). slice_get ys 0) parts) in
      let both = cut x first b bs behind (subst (LeadBack R x) parts h) in
      joined first b first bs behind (subst (λ z. LeadBack R z (first ∷ behind)) same both.1) both.0

-- ---- the least one

pub record HasLeast (xs : List ℕ) : Type 0 where
  pub before : List ℕ
  pub first : ℕ
  pub behind : List ℕ
  pub parts : xs ≡ before ++ first ∷ behind
  pub least : (i x : ℕ) → slice_get xs i ≡ Some x → first ≤ x

pub least-of : (x : ℕ) (xs : List ℕ) → HasLeast (x ∷ xs)
least-of x [] = record { before = []; first = x; behind = []; parts = refl; least = least }
  where
    least : (i y : ℕ) → slice_get (x ∷ []) i ≡ Some y → x ≤ y
    least zero y there = omega (arith, same_Some x y there)
    least (suc i) y there = absurd (none-some y there)
least-of x (y ∷ ys) = by (least-of y ys) (nat_le x (least-of y ys).first) refl
  where
    by : (h : HasLeast (y ∷ ys)) (b : Bool) → nat_le x h.first ≡ b → HasLeast (x ∷ y ∷ ys)
    by h true t = record { before = []; first = x; behind = y ∷ ys; parts = refl; least = least }
      where
        no_more : x ≤ h.first
        no_more = grind (arith, nat_tests, t)

        least : (i z : ℕ) → slice_get (x ∷ y ∷ ys) i ≡ Some z → x ≤ z
        least zero z there = omega (arith, same_Some x z there)
        least (suc i) z there = omega (arith, no_more, h.least i z there)
    by h false t =
        record { before = x ∷ h.before; first = h.first; behind = h.behind; parts = ap (λ (zs : List ℕ). x ∷ zs) h.parts; least = least }
      where
        less : h.first < x
        less = grind (arith, nat_tests, t)

        least : (i z : ℕ) → slice_get (x ∷ y ∷ ys) i ≡ Some z → h.first ≤ z
        least zero z there = omega (arith, same_Some x z there, less)
        least (suc i) z there = h.least i z there

-- ---- places after a turn

-- what stands at a place of one list behind another stands at a place of them the other way round
pub record HasTurned (xs ys : List ℕ) (i x : ℕ) : Type 0 where
  pub place : ℕ
  pub there : slice_get (xs ++ ys) place ≡ Some x
  pub so : ((i < length ys) × (place ≡ length xs + i)) ⊎ ((length ys ≤ i) × (i ≡ length ys + place) × (place < length xs))

pub has-turned : (xs ys : List ℕ) (i x : ℕ) → slice_get (ys ++ xs) i ≡ Some x → HasTurned xs ys i x
has-turned xs ys i x there = by (nat_lt i (length ys)) refl
  where
    by : (b : Bool) → nat_lt i (length ys) ≡ b → HasTurned xs ys i x
    by true t =
        let less : i < length ys = grind (arith, nat_tests, t) in
        record {
          place = length xs + i;
          there = get-second xs ys (length xs + i) i refl ∙ sym (front_kept ys xs i less) ∙ there;
          so = inl (less, refl);
        }
    by false t =
        let more : length ys ≤ i = grind (arith, nat_tests, t) in
        let at : i ≡ length ys + (i - length ys) = omega (arith, more) in
        let here : slice_get xs (i - length ys) ≡ Some x = sym (get-second ys xs i (i - length ys) at) ∙ there in
        let within : i - length ys < length xs = slice_get_within xs (i - length ys) x here in
        record { place = i - length ys; there = front_kept xs ys (i - length ys) within ∙ here; so = inr (more, at, within) }

pub turned-distinct : (xs ys : List ℕ) → AreDistinct (xs ++ ys) → AreDistinct (ys ++ xs)
turned-distinct xs ys distinct i j x here there =
    let a = has-turned xs ys i x here in
    let b = has-turned xs ys j x there in
    by a.place b.place (distinct a.place b.place x a.there b.there) a.so b.so
  where
    by : (m n : ℕ) → m ≡ n
        → ((i < length ys) × (m ≡ length xs + i)) ⊎ ((length ys ≤ i) × (i ≡ length ys + m) × (m < length xs))
        → ((j < length ys) × (n ≡ length xs + j)) ⊎ ((length ys ≤ j) × (j ≡ length ys + n) × (n < length xs)) → i ≡ j
    by m n e (inl a) (inl b) = omega (arith, e, a.1, b.1)
    by m n e (inl a) (inr b) = absurd (omega (arith, e, a.1, b.2))
    by m n e (inr a) (inl b) = absurd (omega (arith, e, a.2, b.1))
    by m n e (inr a) (inr b) = omega (arith, e, a.1, b.1)

-- ---- how many there are

pub no-more-than : (xs : List ℕ) (n : ℕ) → AreDistinct xs → ((i x : ℕ) → slice_get xs i ≡ Some x → x < n) → length xs ≤ n
no-more-than xs n distinct below =
    length-le_from_distinct_below xs n (IsDistinct-from_apart eqb xs apart) among
  where
    among : (q : ℕ) → list_any (eqb q) xs ≡ true → q < n
    among q e =
        let a = Any-from_list_any (eqb q) xs e in
        below a.0 q (slice_get-get_or xs a.0 a.1 a.2 ∙ ap (λ (x : ℕ). Some x) (a.3 ∙ sym (eqb-true q a.1 a.4)))

    apart : (i j d : ℕ) → i < j → j < length xs → eqb (get_or xs i d) (get_or xs j d) ≡ false
    apart i j d less within = by (eqb (get_or xs i d) (get_or xs j d)) refl
      where
        by : (b : Bool) → eqb (get_or xs i d) (get_or xs j d) ≡ b → eqb (get_or xs i d) (get_or xs j d) ≡ false
        by false t = t
        by true t =
            let same =
            distinct i j (get_or xs j d)
            (slice_get-get_or xs i d (omega (arith, less, within)) ∙ ap (λ (x : ℕ). Some x) (eqb-true (get_or xs i d) (get_or xs j d) t))
            (slice_get-get_or xs j d within) in
            absurd (omega (arith, same, less))
