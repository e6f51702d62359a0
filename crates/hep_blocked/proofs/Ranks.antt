-- Numbers that rise and the places where they stand: what is said of places is said of numbers.
use Rattle.std.proofs.Common.{◌≡◌, ◌≢◌, ℕ, zero, suc, ◌+◌, ◌<◌, ◌≤◌, ◌||◌, Bool, true, false, true≢false, List, [], ◌∷◌, ◌++◌, length, get_or, map, Option, Some, None, refl, sym, ap, ◌∙◌, inl, inr, arith, if◌then◌else◌, nat_eq, nat_lt}
use Rattle.std.proofs.lemmas.Bool.{cases_lt, cases_eq, eqb-true, lt-ltb, le-ltb, ltb-true, ne_eqb, eq-eqb}
use Rattle.std.proofs.lemmas.List.{get_or_past}
use Rattle.hep_machine.specs.Words.{first_above, is_number_among}
use Rattle.hep_machine.proofs.Held.{among-head}
use Rattle.hep_cells.specs.declared.want.Want.{Want}
use Rattle.hep_blocked.specs.Numbers.{AreRising}
use Rattle.hep_blocked.specs.Rosters.{behind, number_at, place_of, places_to, waiting_in, want_of}
use Rattle.hep_blocked.specs.Waiting.{waiting_at}
use Rattle.hep_source.proofs.Tests.{or-true}

-- ---- numbers that rise

pub rise-from : (least greatest i : ℕ) (ns : List ℕ) → AreRising least greatest ns → i < length ns → least ≤ get_or ns i 0
rise-from least greatest i [] rise h = absurd (omega arith)
rise-from least greatest zero (n ∷ ns) rise h = rise.0
rise-from least greatest (suc i) (n ∷ ns) rise h = omega (arith, rise.0, rise-from (n + 1) greatest i ns rise.2 (omega arith))

pub rise-to : (least greatest i : ℕ) (ns : List ℕ) → AreRising least greatest ns → i < length ns → get_or ns i 0 ≤ greatest
rise-to least greatest i [] rise h = absurd (omega arith)
rise-to least greatest zero (n ∷ ns) rise h = rise.1
rise-to least greatest (suc i) (n ∷ ns) rise h = rise-to (n + 1) greatest i ns rise.2 (omega arith)

pub rise-less : (least greatest i j : ℕ) (ns : List ℕ) → AreRising least greatest ns → i < j → j < length ns → get_or ns i 0 < get_or ns j 0
rise-less least greatest i j [] rise less h = absurd (omega arith)
rise-less least greatest i zero (n ∷ ns) rise less h = absurd (omega arith)
rise-less least greatest zero (suc j) (n ∷ ns) rise less h = omega (arith, rise-from (n + 1) greatest j ns rise.2 (omega arith))
rise-less least greatest (suc i) (suc j) (n ∷ ns) rise less h = rise-less (n + 1) greatest i j ns rise.2 (omega arith) (omega arith)

pub rise-order : (least greatest : ℕ) (ns : List ℕ) → AreRising least greatest ns → (i j : ℕ) → i ≤ j → j < length ns → get_or ns i 0 ≤ get_or ns j 0
rise-order least greatest ns rise i j le h = elim (cases_lt i j) [
  | inl less ↦ omega (arith, rise-less least greatest i j ns rise less h)
  | inr ge ↦ let same : i ≡ j = omega (arith, le, ge) in omega (arith, ap (λ k. get_or ns k 0) same)
]

pub rise-further : (least greatest further : ℕ) (ns : List ℕ) → AreRising least greatest ns → greatest ≤ further → AreRising least further ns
rise-further least greatest further [] rise le = tt
rise-further least greatest further (n ∷ ns) rise le = (rise.0, omega (arith, rise.1), rise-further (n + 1) greatest further ns rise.2 le)

pub rise-more : (least greatest p : ℕ) (ns : List ℕ) → AreRising least greatest ns → least ≤ p → greatest < p → AreRising least p (ns ++ p ∷ [])
rise-more least greatest p [] rise from above = (from, omega arith, tt)
rise-more least greatest p (n ∷ ns) rise from above = (rise.0, omega (arith, rise.1), rise-more (n + 1) greatest p ns rise.2 (omega (arith, rise.1)) above)

-- ---- how many aren't above a number

pub to-within : (p : ℕ) (ns : List ℕ) → places_to ns p ≤ length ns
to-within p [] = omega arith
to-within p (n ∷ ns) = elim (cases_lt p n) [
  | inl l ↦ rw (lt-ltb p n l) (omega arith)
  | inr r ↦ rw (le-ltb p n r) (omega (arith, to-within p ns))
]

pub to-is : (p i : ℕ) (ns : List ℕ) → i ≤ length ns → ((k : ℕ) → k < i → get_or ns k 0 ≤ p) → ((k : ℕ) → i ≤ k → k < length ns → p < get_or ns k 0) → i ≡ places_to ns p
to-is p i [] h low high = omega arith
to-is p zero (n ∷ ns) h low high = rw (lt-ltb p n (high 0 (omega arith) (omega arith))) refl
to-is p (suc i) (n ∷ ns) h low high =
    rw (le-ltb p n (low 0 (omega arith))) (ap suc (to-is p i ns (omega arith) (λ k l. low (suc k) (omega arith)) (λ k l m. high (suc k) (omega arith) (omega arith))))

-- none is 0
pub to-zero : (greatest : ℕ) (ns : List ℕ) → AreRising 1 greatest ns → 0 ≡ places_to ns 0
to-zero greatest [] rise = refl
to-zero greatest (n ∷ ns) rise = rw (lt-ltb 0 n (omega (arith, rise.0))) refl

-- a number that stands there
pub to-found : (greatest p i : ℕ) (ns : List ℕ) → AreRising 1 greatest ns → i < length ns → get_or ns i 0 ≡ p → suc i ≡ places_to ns p
to-found greatest p i ns rise h is = to-is p (suc i) ns (omega arith) low (λ k l m. omega (arith, rise-less 1 greatest i k ns rise (omega arith) m, is)) where
  low : (k : ℕ) → k < suc i → get_or ns k 0 ≤ p
  low k l = elim (cases_eq k i) [
    | inl e ↦ omega (arith, ap (λ j. get_or ns j 0) e, is)
    | inr ne ↦ omega (arith, rise-less 1 greatest k i ns rise (omega (arith, ne)) h, is)
  ]

less-more : (a b : ℕ) → nat_lt (suc a) (suc b) ≡ nat_lt a b
less-more a b = elim (cases_lt a b) [
  | inl l ↦ lt-ltb (suc a) (suc b) (omega (arith, l)) ∙ sym (lt-ltb a b l)
  | inr r ↦ le-ltb (suc a) (suc b) (omega (arith, r)) ∙ sym (le-ltb a b r)
]

-- above p stand just those behind these places
pub above-behind : (p least greatest x : ℕ) (ns : List ℕ) → AreRising least greatest ns → 1 ≤ x → x ≤ length ns → nat_lt p (number_at ns x) ≡ nat_lt (places_to ns p) x
above-behind p least greatest zero ns rise some inside = absurd (omega arith)
above-behind p least greatest (suc i) [] rise some inside = absurd (omega arith)
above-behind p least greatest (suc zero) (n ∷ ns) rise some inside = elim (cases_lt p n) [
  | inl l ↦ rw (lt-ltb p n l) (sym (lt-ltb 0 1 (omega arith)))
  | inr r ↦ rw (le-ltb p n r) (sym (le-ltb (suc (places_to ns p)) 1 (omega arith)))
]
above-behind p least greatest (suc (suc i)) (n ∷ ns) rise some inside = elim (cases_lt p n) [
  | inl l ↦ rw (lt-ltb p n l) (lt-ltb p (get_or ns i 0) (omega (arith, l, rise-from (n + 1) greatest i ns rise.2 (omega arith))) ∙ sym (lt-ltb 0 (suc (suc i)) (omega arith)))
  | inr r ↦ rw (le-ltb p n r) (above-behind p (n + 1) greatest (suc i) ns rise.2 (omega arith) (omega arith) ∙ sym (less-more (places_to ns p) (suc i)))
]

-- ---- where a number stands

pub place-within : (p : ℕ) (ns : List ℕ) → place_of ns p ≤ length ns
place-within p [] = omega arith
place-within p (n ∷ ns) = elim (cases_eq p n) [
  | inl e ↦ rw (eq-eqb p n e) (omega arith)
  | inr ne ↦ rw (ne_eqb p n ne) (within-behind (place_of ns p) (place-within p ns))
] where
  within-behind : (k : ℕ) → k ≤ length ns → behind k ≤ suc (length ns)
  within-behind zero h = omega arith
  within-behind (suc k) h = omega arith

place-below : (p least greatest : ℕ) (ns : List ℕ) → AreRising least greatest ns → p < least → place_of ns p ≡ 0
place-below p least greatest [] rise low = refl
place-below p least greatest (n ∷ ns) rise low =
    rw (ne_eqb p n (λ e. omega (arith, rise.0))) (ap behind (place-below p (n + 1) greatest ns rise.2 (omega (arith, rise.0))))

pub place-above : (p least greatest : ℕ) (ns : List ℕ) → AreRising least greatest ns → greatest < p → place_of ns p ≡ 0
place-above p least greatest [] rise high = refl
place-above p least greatest (n ∷ ns) rise high =
    rw (ne_eqb p n (λ e. omega (arith, rise.1))) (ap behind (place-above p (n + 1) greatest ns rise.2 high))

behind-one : (k : ℕ) → false ≡ nat_eq (behind k) 1
behind-one zero = sym (ne_eqb 0 1 (λ e. omega (arith, e)))
behind-one (suc k) = sym (ne_eqb (suc (suc k)) 1 (λ e. omega (arith, e)))

behind-same : (k i : ℕ) → nat_eq k (suc i) ≡ nat_eq (behind k) (suc (suc i))
behind-same zero i = ne_eqb 0 (suc i) (λ e. omega (arith, e)) ∙ sym (ne_eqb 0 (suc (suc i)) (λ e. omega (arith, e)))
behind-same (suc k) i = elim (cases_eq (suc k) (suc i)) [
  | inl e ↦ eq-eqb (suc k) (suc i) e ∙ sym (eq-eqb (suc (suc k)) (suc (suc i)) (ap suc e))
  | inr ne ↦ ne_eqb (suc k) (suc i) ne ∙ sym (ne_eqb (suc (suc k)) (suc (suc i)) (λ e. ne (omega (arith, e))))
]

-- a number is p just where its place is that of p
pub place-is : (p least greatest x : ℕ) (ns : List ℕ) → AreRising least greatest ns → 1 ≤ x → x ≤ length ns → nat_eq p (number_at ns x) ≡ nat_eq (place_of ns p) x
place-is p least greatest zero ns rise some inside = absurd (omega arith)
place-is p least greatest (suc i) [] rise some inside = absurd (omega arith)
place-is p least greatest (suc zero) (n ∷ ns) rise some inside = elim (cases_eq p n) [
  | inl e ↦ rw (eq-eqb p n e) (sym (eq-eqb 1 1 refl))
  | inr ne ↦ rw (ne_eqb p n ne) (behind-one (place_of ns p))
]
place-is p least greatest (suc (suc i)) (n ∷ ns) rise some inside = elim (cases_eq p n) [
  | inl e ↦ rw (eq-eqb p n e) (ne_eqb p (get_or ns i 0) (λ same. omega (arith, same, e, rise-from (n + 1) greatest i ns rise.2 (omega arith))) ∙ sym (ne_eqb 1 (suc (suc i)) (λ same. omega (arith, same))))
  | inr ne ↦ rw (ne_eqb p n ne) (place-is p (n + 1) greatest (suc i) ns rise.2 (omega arith) (omega arith) ∙ behind-same (place_of ns p) i)
]

pub place-found : (p greatest x : ℕ) (ns : List ℕ) → AreRising 1 greatest ns → 1 ≤ x → x ≤ length ns → number_at ns x ≡ p → x ≡ place_of ns p
place-found p greatest x ns rise some inside is =
    sym (eqb-true (place_of ns p) x (sym (place-is p 1 greatest x ns rise some inside) ∙ eq-eqb p (number_at ns x) (sym is)))

-- at the place of p, if it has one, stands p
pub at-place : (p greatest : ℕ) (ns : List ℕ) → AreRising 1 greatest ns → 1 ≤ place_of ns p → number_at ns (place_of ns p) ≡ p
at-place p greatest ns rise some =
    let k = place_of ns p in
    sym (eqb-true p (number_at ns k) (place-is p 1 greatest k ns rise some (place-within p ns) ∙ eq-eqb k k refl))

pub less-at : (greatest j k : ℕ) (ns : List ℕ) → AreRising 1 greatest ns → 1 ≤ j → j < k → k ≤ length ns → number_at ns j < number_at ns k
less-at greatest zero k ns rise some less inside = absurd (omega arith)
less-at greatest (suc i) zero ns rise some less inside = absurd (omega arith)
less-at greatest (suc i) (suc j) ns rise some less inside = rise-less 1 greatest i j ns rise (omega arith) (omega arith)

-- it has none unless it is the last that isn't above p
pub place-none : (p greatest : ℕ) (ns : List ℕ) → AreRising 1 greatest ns → (1 ≤ places_to ns p → number_at ns (places_to ns p) ≢ p) → 0 ≡ place_of ns p
place-none p greatest ns rise other = elim (cases_lt 0 (place_of ns p)) [
  | inr none ↦ omega (arith, none)
  | inl some ↦
      let k = place_of ns p in
      let to = places_to ns p in
      let is = at-place p greatest ns rise some in
      let from : k ≤ to = elim (cases_lt to k) [
        | inr le ↦ le
        | inl less ↦ absurd (omega (arith, is, ltb-true p (number_at ns k) (above-behind p 1 greatest k ns rise some (place-within p ns) ∙ lt-ltb to k less)))
      ] in
      let last : number_at ns to ≤ p = elim (cases_lt p (number_at ns to)) [
        | inr le ↦ le
        | inl less ↦ absurd (true≢false (sym (lt-ltb p (number_at ns to) less) ∙ (above-behind p 1 greatest to ns rise (omega (arith, from, some)) (to-within p ns) ∙ le-ltb to to (omega arith))))
      ] in
      absurd (elim (cases_lt k to) [
        | inl less ↦ omega (arith, is, last, less-at greatest k to ns rise some less (to-within p ns))
        | inr le ↦
            let same : k ≡ to = omega (arith, le, from) in
            other (omega (arith, from, some)) (ap (number_at ns) (sym same) ∙ is)
      ])
]

-- where one more stands behind them
pub place-more : (p q least greatest : ℕ) (ns : List ℕ) → AreRising least greatest ns → greatest < p → place_of (ns ++ p ∷ []) q ≡ (if nat_eq q p then suc (length ns) else place_of ns q)
place-more p q least greatest [] rise high = elim (cases_eq q p) [
  | inl e ↦ rw (eq-eqb q p e) refl
  | inr ne ↦ rw (ne_eqb q p ne) refl
]
place-more p q least greatest (n ∷ ns) rise high = elim (cases_eq q n) [
  | inl e ↦ rw (eq-eqb q n e, ne_eqb q p (λ same. omega (arith, same, e, rise.1))) refl
  | inr ne ↦ rw (ne_eqb q n ne) (ap behind (place-more p q (n + 1) greatest ns rise.2 high) ∙ turned (nat_eq q p) (length ns) (place_of ns q))
] where
  turned : (b : Bool) (k l : ℕ) → behind (if b then suc k else l) ≡ (if b then suc (suc k) else behind l)
  turned true k l = refl
  turned false k l = refl

-- ---- those at places

-- all of them are places of these numbers
abbrev pub ArePlaces : List ℕ → List ℕ → Type 0
ArePlaces ns xs = (k : ℕ) → is_number_among k xs ≡ true → (1 ≤ k) × (k ≤ length ns)

places-behind : (ns : List ℕ) (x : ℕ) (xs : List ℕ) → ArePlaces ns (x ∷ xs) → ArePlaces ns xs
places-behind ns x xs are k among = are k (ap (λ (b : Bool). nat_eq k x || b) among ∙ or-true (nat_eq k x))

-- a number is among theirs just where its place is among them
pub among-mapped : (p greatest : ℕ) (ns xs : List ℕ) → AreRising 1 greatest ns → ArePlaces ns xs → is_number_among p (map (number_at ns) xs) ≡ is_number_among (place_of ns p) xs
among-mapped p greatest ns [] rise are = refl
among-mapped p greatest ns (x ∷ xs) rise are =
    let here = are x (among-head x xs) in
    λ i. place-is p 1 greatest x ns rise here.0 here.1 i || among-mapped p greatest ns xs rise (places-behind ns x xs are) i

-- the number at a place, if there is one
abbrev pub numbered : List ℕ → Option ℕ → Option ℕ
numbered ns None = None
numbered ns (Some x) = Some (number_at ns x)

pub first-mapped : (p greatest : ℕ) (ns xs : List ℕ) → AreRising 1 greatest ns → ArePlaces ns xs → first_above p (map (number_at ns) xs) None ≡ numbered ns (first_above (places_to ns p) xs None)
first-mapped p greatest ns [] rise are = refl
first-mapped p greatest ns (x ∷ xs) rise are =
    let here = are x (among-head x xs) in
    let alike = above-behind p 1 greatest x ns rise here.0 here.1 in
    elim (cases_lt (places_to ns p) x) [
      | inl l ↦ rw (alike, lt-ltb (places_to ns p) x l) refl
      | inr r ↦ rw (alike, le-ltb (places_to ns p) x r) (first-mapped p greatest ns xs rise (places-behind ns x xs are))
    ]

rise-mapped-from : (low least room greatest : ℕ) (ns xs : List ℕ) → AreRising 1 greatest ns → AreRising least room xs → ArePlaces ns xs → ((y : ℕ) → least ≤ y → 1 ≤ y → y ≤ length ns → low ≤ number_at ns y)
    → AreRising low greatest (map (number_at ns) xs)
rise-mapped-from low least room greatest ns [] rise places are above = tt
rise-mapped-from low least room greatest ns (x ∷ xs) rise places are above =
    let here = are x (among-head x xs) in (
      above x places.0 here.0 here.1,
      to x here.0 here.1,
      rise-mapped-from (number_at ns x + 1) (x + 1) room greatest ns xs rise places.2 (places-behind ns x xs are) (λ y more some inside. omega (arith, less-at greatest x y ns rise here.0 (omega arith) inside)),
    )
  where
    to : (k : ℕ) → 1 ≤ k → k ≤ length ns → number_at ns k ≤ greatest
    to zero some inside = absurd (omega arith)
    to (suc i) some inside = rise-to 1 greatest i ns rise (omega arith)

pub number-some : (greatest y : ℕ) (ns : List ℕ) → AreRising 1 greatest ns → 1 ≤ y → y ≤ length ns → 1 ≤ number_at ns y
number-some greatest zero ns rise some inside = absurd (omega arith)
number-some greatest (suc i) ns rise some inside = rise-from 1 greatest i ns rise (omega arith)

pub rise-mapped : (room greatest : ℕ) (ns xs : List ℕ) → AreRising 1 greatest ns → AreRising 1 room xs → ArePlaces ns xs → AreRising 1 greatest (map (number_at ns) xs)
rise-mapped room greatest ns xs rise places are = rise-mapped-from 1 1 room greatest ns xs rise places are (λ y more some inside. number-some greatest y ns rise some inside)

-- ---- what is waited for there

none-at : (k : ℕ) → waiting_at [] k ≡ None
none-at zero = refl
none-at (suc k) = refl

behind-at : (w : Option Want) (ws : List (Option Want)) (k : ℕ) → waiting_at ws k ≡ waiting_at (w ∷ ws) (behind k)
behind-at w ws zero = refl
behind-at w ws (suc k) = refl

pub past-at : (ws : List (Option Want)) (k : ℕ) → length ws < k → waiting_at ws k ≡ None
past-at ws zero h = refl
past-at ws (suc k) h = get_or_past ws k None (omega arith)

pub want-mapped : (p least greatest : ℕ) (ns : List ℕ) (ws : List (Option Want)) → AreRising least greatest ns → want_of (waiting_in ns ws) p ≡ waiting_at ws (place_of ns p)
want-mapped p least greatest [] ws rise = refl
want-mapped p least greatest (n ∷ ns) [] rise = sym (none-at (place_of (n ∷ ns) p))
want-mapped p least greatest (n ∷ ns) (None ∷ ws) rise = elim (cases_eq p n) [
  | inl e ↦
      rw (eq-eqb p n e) (
      want-mapped p (n + 1) greatest ns ws rise.2 ∙ ap (waiting_at ws) (place-below p (n + 1) greatest ns rise.2 (omega (arith, e))))
  | inr ne ↦ rw (ne_eqb p n ne) (want-mapped p (n + 1) greatest ns ws rise.2 ∙ behind-at None ws (place_of ns p))
]
want-mapped p least greatest (n ∷ ns) (Some w ∷ ws) rise = elim (cases_eq p n) [
  | inl e ↦ rw (eq-eqb p n e) refl
  | inr ne ↦ rw (ne_eqb p n ne) (want-mapped p (n + 1) greatest ns ws rise.2 ∙ behind-at (Some w) ws (place_of ns p))
]
