-- The definitions of Constant give the text that the grammar has, and no other.
use Rattle.std.proofs.Common.{◌≡◌, ◌≢◌, ℕ, true, false, List, [], ◌∷◌, ◌++◌, Some, refl, sym, ap, ◌∙◌, inl, inr, subst, ◌↔◌}
use Rattle.std.proofs.lemmas.Bool.{eqb-true, cases_Bool, false≢true}
use Rattle.hep_text.specs.declared.constant.Scanner.{Scanner}
use Rattle.hep_text.specs.declared.constant.Scanner.TheVariants.{Outside, Opened, Filled, Closing, Empty, Faulty}
use Rattle.hep_text.specs.Constant.{Character, is_apostrophe, kept_outside, upper_case, is_over, text_from, scanner_after}
use Rattle.hep_text.specs.Line.{is_blank}
use Rattle.hep_text.specs.Grammar.{Within, none, other, doubled, at_apostrophe, IsText, nothing, blank, plain, constant, Gives}

-- an apostrophe is no blank and no letter
apostrophe_stays : (c : ℕ) → is_apostrophe c ≡ true → kept_outside c ≡ Some c
apostrophe_stays c e = let n : c ≡ 39 = eqb-true c 39 e in rw n refl

-- From the grammar to the definitions

filled_text : (u s : List Character) → Within u → text_from Filled (u ++ s) ≡ u ++ text_from Filled s
filled_text _ s none = refl
filled_text _ s (other x u e w) = rw e (ap (λ (t : List Character). x ∷ t) (filled_text u s w))
filled_text _ s (doubled x y u e f w) = rw (e, f, apostrophe_stays y.byte f) (ap (λ (t : List Character). x ∷ y ∷ t) (filled_text u s w))

filled_place : (u s : List Character) → Within u → scanner_after Filled (u ++ s) ≡ scanner_after Filled s
filled_place _ s none = refl
filled_place _ s (other x u e w) = rw (e, scanner_after) (filled_place u s w)
filled_place _ s (doubled x y u e f w) = rw (e, f, scanner_after) (filled_place u s w)

opened_text : (u s : List Character) → u ≢ [] → Within u → text_from Opened (u ++ s) ≡ u ++ text_from Filled s
opened_text _ s n none = absurd (n refl)
opened_text _ s n (other x u e w) = rw e (ap (λ (t : List Character). x ∷ t) (filled_text u s w))
opened_text _ s n (doubled x y u e f w) = rw (e, f) (ap (λ (t : List Character). x ∷ y ∷ t) (filled_text u s w))

opened_place : (u s : List Character) → u ≢ [] → Within u → scanner_after Opened (u ++ s) ≡ scanner_after Filled s
opened_place _ s n none = absurd (n refl)
opened_place _ s n (other x u e w) = rw (e, scanner_after) (filled_place u s w)
opened_place _ s n (doubled x y u e f w) = rw (e, f, scanner_after) (filled_place u s w)

-- after a constant it goes on as outside one
closing_text : (s : List Character) → at_apostrophe s ≡ false → text_from Closing s ≡ text_from Outside s
closing_text [] e = refl
closing_text (x ∷ s) e = rw e refl

closing_over : (s : List Character) → at_apostrophe s ≡ false → is_over (scanner_after Closing s) ≡ is_over (scanner_after Outside s)
closing_over [] e = refl
closing_over (x ∷ s) e = rw e refl

constant_text : (x y : Character) (u s : List Character) → is_apostrophe x.byte ≡ true → u ≢ [] → Within u → is_apostrophe y.byte ≡ true → at_apostrophe s ≡ false → text_from Outside (x ∷ (u ++ y ∷ s)) ≡ x ∷ (u ++ y ∷ text_from Outside s)
constant_text x y u s e n w f a =
    let inner = opened_text u (y ∷ s) n w in
    let rest_after : text_from Filled (y ∷ s) ≡ y ∷ text_from Outside s = rw f (ap (λ (t : List Character). y ∷ t) (closing_text s a)) in
    rw (apostrophe_stays x.byte e, e) (ap (λ (t : List Character). x ∷ t) (inner ∙ ap (λ (t : List Character). u ++ t) rest_after))

constant_over : (x y : Character) (u s : List Character) → is_apostrophe x.byte ≡ true → u ≢ [] → Within u → is_apostrophe y.byte ≡ true → at_apostrophe s ≡ false → is_over (scanner_after Outside (x ∷ (u ++ y ∷ s))) ≡ is_over (scanner_after Outside s)
constant_over x y u s e n w f a =
    let rest_after : is_over (scanner_after Filled (y ∷ s)) ≡ is_over (scanner_after Outside s) = rw (f, scanner_after) (closing_over s a) in
    rw (e, scanner_after) (ap is_over (opened_place u (y ∷ s) n w) ∙ rest_after)

not_apostrophe : (c : ℕ) → is_blank c ≡ true → is_apostrophe c ≡ false
not_apostrophe c e = let n : c ≡ 32 = eqb-true c 32 e in rw n refl

pub gives : (s t : List Character) → IsText s t → Gives s t
gives _ _ nothing = (refl, refl)
gives _ _ (blank x s t e i) =
    let g = gives s t i in
    let n = not_apostrophe x.byte e in
    (rw n g.0, rw (e, n) g.1)
gives _ _ (plain x s t e f i) =
    let g = gives s t i in
    (rw f g.0, rw (e, f) (ap (λ (r : List Character). record { byte = upper_case x.byte; span = x.span } ∷ r) g.1))
gives _ _ (constant x y u s t e n w f a i) =
    let g = gives s t i in
    (constant_over x y u s e n w f a ∙ g.0, constant_text x y u s e n w f a ∙ ap (λ (r : List Character). x ∷ (u ++ y ∷ r)) g.1)

-- From the definitions to the grammar

-- what stands after a character of a constant, and its text: the rest of the constant, and what follows
data Rest : List Character → List Character → Type 0 where
  rest : (y : Character) (u s t : List Character) → Within u → is_apostrophe y.byte ≡ true → at_apostrophe s ≡ false → IsText s t → Rest (u ++ y ∷ s) (u ++ y ∷ t)

-- after the apostrophe that opens it
data First : List Character → List Character → Type 0 where
  first : (y : Character) (u s t : List Character) → u ≢ [] → Within u → is_apostrophe y.byte ≡ true → at_apostrophe s ≡ false → IsText s t → First (u ++ y ∷ s) (u ++ y ∷ t)

-- after an apostrophe that must be the first of two
data Again : List Character → List Character → Type 0 where
  again : (y : Character) (s t : List Character) → is_apostrophe y.byte ≡ true → Rest s t → Again (y ∷ s) (y ∷ t)

-- after an apostrophe that may be the first of two
data AfterApostrophe : List Character → List Character → Type 0 where
  ended : (s t : List Character) → at_apostrophe s ≡ false → IsText s t → AfterApostrophe s t
  twice : (s t : List Character) → Again s t → AfterApostrophe s t

abbrev Found : Scanner → List Character → List Character → Type 0
Found Outside s t = IsText s t
Found Opened s t = First s t
Found Filled s t = Rest s t
Found Closing s t = AfterApostrophe s t
Found Empty s t = Again s t
Found Faulty s t = ⊥

cons_not_nil : (x : Character) (u : List Character) → (x ∷ u) ≢ []
cons_not_nil x u e = cc

filled_other : (x : Character) (s t : List Character) → is_apostrophe x.byte ≡ false → Rest s t → Rest (x ∷ s) (x ∷ t)
filled_other x _ _ e (rest y u s t w f a i) = rest y (x ∷ u) s t (other x u e w) f a i

filled_again : (x : Character) (s t : List Character) → is_apostrophe x.byte ≡ true → Again s t → Rest (x ∷ s) (x ∷ t)
filled_again x _ _ e (again z _ _ g (rest y u s t w f a i)) = rest y (x ∷ z ∷ u) s t (doubled x z u e g w) f a i

filled_apostrophe : (x : Character) (s t : List Character) → is_apostrophe x.byte ≡ true → AfterApostrophe s t → Rest (x ∷ s) (x ∷ t)
filled_apostrophe x _ _ e (ended s t a i) = rest x [] s t none e a i
filled_apostrophe x _ _ e (twice s t g) = filled_again x s t e g

opened_other : (x : Character) (s t : List Character) → is_apostrophe x.byte ≡ false → Rest s t → First (x ∷ s) (x ∷ t)
opened_other x _ _ e (rest y u s t w f a i) = first y (x ∷ u) s t (cons_not_nil x u) (other x u e w) f a i

opened_apostrophe : (x : Character) (s t : List Character) → is_apostrophe x.byte ≡ true → Again s t → First (x ∷ s) (x ∷ t)
opened_apostrophe x _ _ e (again z _ _ g (rest y u s t w f a i)) = first y (x ∷ z ∷ u) s t (cons_not_nil x (z ∷ u)) (doubled x z u e g w) f a i

outside_apostrophe : (x : Character) (s t : List Character) → is_apostrophe x.byte ≡ true → First s t → IsText (x ∷ s) (x ∷ t)
outside_apostrophe x _ _ e (first y u s t n w f a i) = constant x y u s t e n w f a i

faulty_stays : (s : List Character) → scanner_after Faulty s ≡ Faulty
faulty_stays [] = refl
faulty_stays (x ∷ s) = faulty_stays s

abbrev Finds : Scanner → List Character → Type 0
Finds p s = is_over (scanner_after p s) ≡ true → Found p s (text_from p s)

outside_plain : (x : Character) (s : List Character) → is_apostrophe x.byte ≡ false → Finds Outside s → Finds Outside (x ∷ s)
outside_plain x s e f h =
    let i = f (rw (e, scanner_after) at h) in
    elim (cases_Bool (is_blank x.byte)) as (λ _. IsText (x ∷ s) (text_from Outside (x ∷ s))) [
      | inl b ↦ rw (b, e) (blank x s (text_from Outside s) b i)
      | inr b ↦ rw (b, e) (plain x s (text_from Outside s) b e i)
    ]

outside_step : (x : Character) (s : List Character) → Finds Outside s → Finds Opened s → Finds Outside (x ∷ s)
outside_step x s f g h =
    elim (cases_Bool (is_apostrophe x.byte)) as (λ _. IsText (x ∷ s) (text_from Outside (x ∷ s))) [
      | inl e ↦ rw (apostrophe_stays x.byte e, e) (outside_apostrophe x s (text_from Opened s) e (g (rw (e, scanner_after) at h)))
      | inr e ↦ outside_plain x s e f h
    ]

opened_step : (x : Character) (s : List Character) → Finds Filled s → Finds Empty s → Finds Opened (x ∷ s)
opened_step x s f g h =
    elim (cases_Bool (is_apostrophe x.byte)) as (λ _. First (x ∷ s) (text_from Opened (x ∷ s))) [
      | inl e ↦ rw e (opened_apostrophe x s (text_from Empty s) e (g (rw (e, scanner_after) at h)))
      | inr e ↦ rw e (opened_other x s (text_from Filled s) e (f (rw (e, scanner_after) at h)))
    ]

filled_step : (x : Character) (s : List Character) → Finds Filled s → Finds Closing s → Finds Filled (x ∷ s)
filled_step x s f g h =
    elim (cases_Bool (is_apostrophe x.byte)) as (λ _. Rest (x ∷ s) (text_from Filled (x ∷ s))) [
      | inl e ↦ rw e (filled_apostrophe x s (text_from Closing s) e (g (rw (e, scanner_after) at h)))
      | inr e ↦ rw e (filled_other x s (text_from Filled s) e (f (rw (e, scanner_after) at h)))
    ]

closing_step : (x : Character) (s : List Character) → Finds Outside s → Finds Filled s → Finds Closing (x ∷ s)
closing_step x s f g h =
    elim (cases_Bool (is_apostrophe x.byte)) as (λ _. AfterApostrophe (x ∷ s) (text_from Closing (x ∷ s))) [
      | inl e ↦ rw (apostrophe_stays x.byte e, e) (twice (x ∷ s) (x ∷ text_from Filled s) (again x s (text_from Filled s) e (g (rw (e, scanner_after) at h))))
      | inr e ↦ rw (closing_text (x ∷ s) e) (ended (x ∷ s) (text_from Outside (x ∷ s)) e (outside_plain x s e f (sym (closing_over (x ∷ s) e) ∙ h)))
    ]

empty_step : (x : Character) (s : List Character) → Finds Filled s → Finds Empty (x ∷ s)
empty_step x s f h =
    elim (cases_Bool (is_apostrophe x.byte)) as (λ _. Again (x ∷ s) (text_from Empty (x ∷ s))) [
      | inl e ↦ rw e (again x s (text_from Filled s) e (f (rw (e, scanner_after) at h)))
      | inr e ↦ absurd (false≢true (ap is_over (sym (faulty_stays s)) ∙ (rw (e, scanner_after) at h)))
    ]

finds : (p : Scanner) (s : List Character) → Finds p s
finds Outside [] h = nothing
finds Opened [] h = absurd (false≢true h)
finds Filled [] h = absurd (false≢true h)
finds Closing [] h = ended [] [] refl nothing
finds Empty [] h = absurd (false≢true h)
finds Faulty [] h = absurd (false≢true h)
finds Outside (x ∷ s) h = outside_step x s (finds Outside s) (finds Opened s) h
finds Opened (x ∷ s) h = opened_step x s (finds Filled s) (finds Empty s) h
finds Filled (x ∷ s) h = filled_step x s (finds Filled s) (finds Closing s) h
finds Closing (x ∷ s) h = closing_step x s (finds Outside s) (finds Filled s) h
finds Empty (x ∷ s) h = empty_step x s (finds Filled s) h
finds Faulty (x ∷ s) h = absurd (false≢true (ap is_over (sym (faulty_stays s)) ∙ h))

given : (s t : List Character) → Gives s t → IsText s t
given s t g = subst (λ (r : List Character). IsText s r) g.1 (finds Outside s g.0)

pub agrees : (s t : List Character) → IsText s t ↔ Gives s t
agrees s t = (gives s t, given s t)
