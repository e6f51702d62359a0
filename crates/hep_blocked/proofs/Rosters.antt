-- What a roster's calls do at places, as said of numbers.
use Rattle.std.proofs.Common.{◌≡◌, ◌≢◌, ℕ, zero, suc, ◌<◌, ◌≤◌, ◌&&◌, ◌||◌, Bool, true, false, true≢false, List, [], ◌∷◌, ◌++◌, length, length-append, map, Option, Some, None, refl, sym, ap, ◌∙◌, inl, inr, arith, if◌then◌else◌, is_some, nat_eq, nat_lt, not, Result, Ok, Err, OnOk}
use Rattle.std.specs.Option.{unwrap_or}
use Rattle.std.proofs.Math.Bool.{and-false}
use Rattle.std.proofs.lemmas.Option.{none-some, same_Some}
use Rattle.std.proofs.lemmas.Bool.{cases_Bool, cases_lt, cases_eq, lt-ltb, le-ltb, ltb-true, ne_eqb, eq-eqb}
use Rattle.hep_machine.specs.Words.{first_above, is_number_among, without}
use Rattle.hep_cells.specs.declared.want.Want.{Want}
use Rattle.hep_blocked.specs.RosterUpdates.{IsReadyNoMore, WaitsNow}
use Rattle.hep_blocked.specs.Numbers.{AreRising, with_number}
use Rattle.hep_blocked.specs.Rosters.{number_at, place_of, places_to, waiting_in, want_of}
use Rattle.hep_blocked.specs.Waiting.{awake, waiting_at, waits_for, wants}
use Rattle.hep_blocked.proofs.RanksAbove.{IsLeastAbove, first-least, is_among}
use Rattle.hep_blocked.proofs.QueueAdding.{among-one}
use Rattle.hep_blocked.proofs.Members.{among-filter}
use Rattle.hep_blocked.proofs.Ranks.{ArePlaces, above-behind, among-mapped, at-place, less-at, past-at, place-above, place-found, place-is, place-more, place-within, want-mapped}
use Rattle.hep_source.proofs.Tests.{numbers-turned}

-- ---- places of two numbers

-- numbers are the same where their places are, if one has a place
pub same-place : (p q greatest : ℕ) (ns : List ℕ) → AreRising 1 greatest ns → 1 ≤ place_of ns q → nat_eq p q ≡ nat_eq (place_of ns p) (place_of ns q)
same-place p q greatest ns rise some =
    ap (nat_eq p) (sym (at-place q greatest ns rise some)) ∙ place-is p 1 greatest (place_of ns q) ns rise some (place-within q ns)

-- ---- one more at the end

module _ (p greatest : ℕ) (ns xs : List ℕ) (ws : List (Option Want)) (rise : AreRising 1 greatest ns) (high : greatest < p) (further : AreRising 1 p (ns ++ p ∷ [])) (are : ArePlaces ns xs) (few : length ws ≤ length ns) where
  long : length (ns ++ p ∷ []) ≡ suc (length ns)
  long = length-append ns (p ∷ []) ∙ omega arith

  pub places-kept : ArePlaces (ns ++ p ∷ []) xs
  places-kept k among = let r = are k among in (r.0, omega (arith, r.1, long))

  pub places-more : ArePlaces (ns ++ p ∷ []) (with_number (suc (length ns)) xs)
  places-more k among = elim (cases_eq k (suc (length ns))) [
    | inl e ↦ (omega (arith, e), omega (arith, e, long))
    | inr ne ↦ places-kept k (sym (among-one k (suc (length ns)) xs ∙ rw (ne_eqb k (suc (length ns)) ne) refl) ∙ among)
  ]

  -- a place of another number is where it was
  place-other : (q : ℕ) → q ≢ p → place_of (ns ++ p ∷ []) q ≡ place_of ns q
  place-other q ne = place-more p q 1 greatest ns rise high ∙ rw (ne_eqb q p ne) refl

  place-last : (q : ℕ) → q ≡ p → place_of (ns ++ p ∷ []) q ≡ suc (length ns)
  place-last q e = place-more p q 1 greatest ns rise high ∙ rw (eq-eqb q p e) refl

  place-new : (q : ℕ) → q ≡ p → place_of ns q ≡ 0
  place-new q e = place-above q 1 greatest ns rise (omega (arith, e, high))

  not-last : (k : ℕ) → is_number_among k xs ≡ true → k ≢ suc (length ns)
  not-last k among e = omega (arith, e, (are k among).1)

  none-past : is_number_among (suc (length ns)) xs ≡ false
  none-past = elim (cases_Bool (is_number_among (suc (length ns)) xs)) [
    | inl among ↦ absurd (not-last (suc (length ns)) among refl)
    | inr none ↦ none
  ]

  pub unready-more : (q : ℕ) → is_number_among q (map (number_at (ns ++ p ∷ [])) xs) ≡ is_number_among q (map (number_at ns) xs)
  unready-more q =
      among-mapped q p (ns ++ p ∷ []) xs further places-kept
      ∙ elim (cases_eq q p) [
        | inl e ↦ ap (λ k. is_number_among k xs) (place-last q e) ∙ none-past ∙ sym (none-zero q e)
        | inr ne ↦ ap (λ k. is_number_among k xs) (place-other q ne)
      ]
      ∙ sym (among-mapped q greatest ns xs rise are)
    where
      none-zero : (q : ℕ) → q ≡ p → is_number_among (place_of ns q) xs ≡ false
      none-zero q e = elim (cases_Bool (is_number_among (place_of ns q) xs)) [
        | inl among ↦ absurd (omega (arith, (are (place_of ns q) among).0, place-new q e))
        | inr none ↦ none
      ]

  pub ready-more : (q : ℕ) → is_number_among q (map (number_at (ns ++ p ∷ [])) (with_number (suc (length ns)) xs)) ≡ (nat_eq q p || is_number_among q (map (number_at ns) xs))
  ready-more q =
      among-mapped q p (ns ++ p ∷ []) (with_number (suc (length ns)) xs) further places-more
      ∙ (among-one (place_of (ns ++ p ∷ []) q) (suc (length ns)) xs
      ∙ (λ i. last i || (sym (among-mapped q p (ns ++ p ∷ []) xs further places-kept) ∙ unready-more q) i))
    where
      last : nat_eq (place_of (ns ++ p ∷ []) q) (suc (length ns)) ≡ nat_eq q p
      last = elim (cases_eq q p) [
        | inl e ↦ eq-eqb _ _ (place-last q e) ∙ sym (eq-eqb q p e)
        | inr ne ↦ ne_eqb _ _ (λ same. omega (arith, same, place-other q ne, place-within q ns)) ∙ sym (ne_eqb q p ne)
      ]

  pub waiting-more : (q : ℕ) → want_of (waiting_in (ns ++ p ∷ []) ws) q ≡ want_of (waiting_in ns ws) q
  waiting-more q =
      want-mapped q 1 p (ns ++ p ∷ []) ws further
      ∙ elim (cases_eq q p) [
        | inl e ↦
            ap (waiting_at ws) (place-last q e) ∙ past-at ws (suc (length ns)) (omega (arith, few))
            ∙ sym (ap (waiting_at ws) (place-new q e))
        | inr ne ↦ ap (waiting_at ws) (place-other q ne)
      ]
      ∙ sym (want-mapped q 1 greatest ns ws rise)

  -- what is marked, and what is waited for, at the new place

  pub places-marked : (marked : Bool) (ready : List ℕ) → ((k : ℕ) → is_number_among k ready ≡ ((nat_eq k (suc (length ns)) && marked) || is_number_among k xs)) → ArePlaces (ns ++ p ∷ []) ready
  places-marked marked ready told k among = elim (cases_eq k (suc (length ns))) [
    | inl e ↦ (omega (arith, e), omega (arith, e, long))
    | inr ne ↦ places-kept k (sym (told k ∙ rw (ne_eqb k (suc (length ns)) ne) refl) ∙ among)
  ]

  last-place : (q : ℕ) → nat_eq (place_of (ns ++ p ∷ []) q) (suc (length ns)) ≡ nat_eq q p
  last-place q = elim (cases_eq q p) [
    | inl e ↦ eq-eqb (place_of (ns ++ p ∷ []) q) (suc (length ns)) (place-last q e) ∙ sym (eq-eqb q p e)
    | inr ne ↦ ne_eqb (place_of (ns ++ p ∷ []) q) (suc (length ns)) (λ same. omega (arith, same, place-other q ne, place-within q ns)) ∙ sym (ne_eqb q p ne)
  ]

  pub ready-marked : (marked : Bool) (ready : List ℕ) → ((k : ℕ) → is_number_among k ready ≡ ((nat_eq k (suc (length ns)) && marked) || is_number_among k xs))
      → (q : ℕ) → is_number_among q (map (number_at (ns ++ p ∷ [])) ready) ≡ ((nat_eq q p && marked) || is_number_among q (map (number_at ns) xs))
  ready-marked marked ready told q =
      among-mapped q p (ns ++ p ∷ []) ready further (places-marked marked ready told)
      ∙ (told (place_of (ns ++ p ∷ []) q)
      ∙ (λ i. (last-place q i && marked) || (sym (among-mapped q p (ns ++ p ∷ []) xs further places-kept) ∙ unready-more q) i))

  pub waiting-marked : (want : Option Want) (wants-now : List (Option Want)) → ((k : ℕ) → waiting_at wants-now k ≡ (if nat_eq (suc (length ns)) k then want else waiting_at ws k))
      → (q : ℕ) → want_of (waiting_in (ns ++ p ∷ []) wants-now) q ≡ (if nat_eq q p then want else want_of (waiting_in ns ws) q)
  waiting-marked want wants-now told q =
      want-mapped q 1 p (ns ++ p ∷ []) wants-now further
      ∙ (told (place_of (ns ++ p ∷ []) q)
      ∙ (λ i. if (numbers-turned (suc (length ns)) (place_of (ns ++ p ∷ []) q) ∙ last-place q) i then want else (sym (want-mapped q 1 p (ns ++ p ∷ []) ws further) ∙ waiting-more q) i))

  -- one that isn't there waits for nothing
  pub waiting-not : (want : Option Want) → is_some want ≡ false → (q : ℕ) → want_of (waiting_in ns ws) q ≡ (if nat_eq q p then want else want_of (waiting_in ns ws) q)
  waiting-not (Some w) none q = absurd (true≢false none)
  waiting-not None none q = elim (cases_eq q p) [
    | inl e ↦ rw (eq-eqb q p e) (want-mapped q 1 greatest ns ws rise ∙ ap (waiting_at ws) (place-new q e))
    | inr ne ↦ rw (ne_eqb q p ne) refl
  ]

-- ---- the same places

module _ (greatest : ℕ) (ns xs : List ℕ) (ws : List (Option Want)) (rise : AreRising 1 greatest ns) (are : ArePlaces ns xs) where
  among-there : (k : ℕ) (left : List ℕ) → is_number_among k (without k left) ≡ false
  among-there k left = among-filter (λ r. not (nat_eq k r)) k left ∙ rw (eq-eqb k k refl) refl

  pub places-without : (k : ℕ) → ArePlaces ns (without k xs)
  places-without k j among = elim (cases_Bool (is_number_among j xs)) [
    | inl there ↦ are j there
    | inr none ↦ absurd (true≢false (sym among ∙ (among-filter (λ r. not (nat_eq k r)) j xs ∙ (rw none (and-false (not (nat_eq k j)))))))
  ]

  pub ready-no-more : (p : ℕ) → IsReadyNoMore p (map (number_at ns) xs) (map (number_at ns) (without (place_of ns p) xs))
  ready-no-more p q =
      let k = place_of ns p in
      among-mapped q greatest ns (without k xs) rise (places-without k)
      ∙ (among-filter (λ r. not (nat_eq k r)) (place_of ns q) xs
      ∙ (elim (cases_Bool (is_number_among (place_of ns q) xs)) [
        | inl there ↦ ap (λ b. not b && is_number_among (place_of ns q) xs) (sym (same-place p q greatest ns rise (are (place_of ns q) there).0))
        | inr none ↦ rw none (and-false (not (nat_eq k (place_of ns q))) ∙ sym (and-false (not (nat_eq p q))))
      ]
      ∙ ap (λ b. not (nat_eq p q) && b) (sym (among-mapped q greatest ns xs rise are))))

  -- one that is ready or waits has a place
  pub has-place : (p : ℕ) → (is_number_among p (map (number_at ns) xs) || is_some (want_of (waiting_in ns ws) p)) ≡ true → 1 ≤ place_of ns p
  has-place p enrolled = elim (cases_lt 0 (place_of ns p)) [
    | inl some ↦ some
    | inr none ↦
        let zero-is : place_of ns p ≡ 0 = omega (arith, none) in
        let unready : is_number_among p (map (number_at ns) xs) ≡ false = among-mapped p greatest ns xs rise are ∙ (ap (λ k. is_number_among k xs) zero-is ∙ none-zero) in
        let idle : is_some (want_of (waiting_in ns ws) p) ≡ false = ap is_some (want-mapped p 1 greatest ns ws rise ∙ ap (waiting_at ws) zero-is) in
        absurd (true≢false (sym enrolled ∙ λ i. unready i || idle i))
  ] where
    none-zero : is_number_among 0 xs ≡ false
    none-zero = elim (cases_Bool (is_number_among 0 xs)) [
      | inl among ↦ absurd (omega (arith, (are 0 among).0))
      | inr none ↦ none
    ]

  -- what is held at its place it waits for
  pub waits-mapped : (p : ℕ) (want : Want) (wants-now : List (Option Want)) → 1 ≤ place_of ns p → WaitsNow (place_of ns p) want (waiting_at ws) (waiting_at wants-now)
      → WaitsNow p want (want_of (waiting_in ns ws)) (want_of (waiting_in ns wants-now))
  waits-mapped p want wants-now some told q =
      want-mapped q 1 greatest ns wants-now rise
      ∙ (told (place_of ns q)
      ∙ λ i. if alike i then Some (unwrap_or (sym (want-mapped p 1 greatest ns ws rise) i) want) else sym (want-mapped q 1 greatest ns ws rise) i)
    where
      alike : nat_eq (place_of ns p) (place_of ns q) ≡ nat_eq p q
      alike = numbers-turned (place_of ns p) (place_of ns q) ∙ (sym (same-place q p greatest ns rise some) ∙ numbers-turned q p)

  -- ---- those that are woken

  pub awake-all : (want : Want) (wants-now : List (Option Want)) → ((k : ℕ) → waiting_at wants-now k ≡ awake want (waiting_at ws k))
      → (q : ℕ) → want_of (waiting_in ns wants-now) q ≡ awake want (want_of (waiting_in ns ws) q)
  awake-all want wants-now told q =
      want-mapped q 1 greatest ns wants-now rise ∙ (told (place_of ns q) ∙ ap (awake want) (sym (want-mapped q 1 greatest ns ws rise)))

  pub places-woken : (want : Want) (ready : List ℕ) → length ws ≤ length ns → ((k : ℕ) → is_number_among k ready ≡ (waits_for want ws k || is_number_among k xs)) → ArePlaces ns ready
  places-woken want ready few told k among = elim (cases_Bool (is_number_among k xs)) [
    | inl there ↦ are k there
    | inr none ↦ elim (cases_lt (length ws) k) [
      | inl past ↦ absurd (true≢false (sym among ∙ (told k ∙ λ i. wants want (past-at ws k past i) || none i)))
      | inr within ↦ (some k (sym (told k ∙ rw none (or-none (waits_for want ws k))) ∙ among), omega (arith, within, few))
    ]
  ] where
    or-none : (b : Bool) → (b || false) ≡ b
    or-none true = refl
    or-none false = refl

    some : (k : ℕ) → waits_for want ws k ≡ true → 1 ≤ k
    some zero e = absurd (true≢false (sym e))
    some (suc k) e = omega arith

  pub ready-woken : (want : Want) (ready : List ℕ) → ArePlaces ns ready → ((k : ℕ) → is_number_among k ready ≡ (waits_for want ws k || is_number_among k xs))
      → (q : ℕ) → is_number_among q (map (number_at ns) ready) ≡ (wants want (want_of (waiting_in ns ws) q) || is_number_among q (map (number_at ns) xs))
  ready-woken want ready places told q =
      among-mapped q greatest ns ready rise places
      ∙ (told (place_of ns q)
      ∙ λ i. wants want (sym (want-mapped q 1 greatest ns ws rise) i) || sym (among-mapped q greatest ns xs rise are) i)

  -- ---- what comes next

  -- a place that is found above others is one of these
  pub found-place : (room k x : ℕ) → AreRising 1 room xs → Some x ≡ first_above k xs None → (1 ≤ x) × (x ≤ length ns)
  found-place room k x places is = are x (found (first_above k xs None) is (first-least k 1 room xs places)) where
    found : (o : Option ℕ) → Some x ≡ o → IsLeastAbove (is_among xs) k o → is_among xs x ≡ true
    found None e l = absurd (none-some x (sym e))
    found (Some y) e l = ap (is_among xs) (same_Some x y e) ∙ l.1

  -- what waits at a place
  pub want-at : (k : ℕ) → 1 ≤ k → k ≤ length ns → want_of (waiting_in ns ws) (number_at ns k) ≡ waiting_at ws k
  want-at k some inside =
      want-mapped (number_at ns k) 1 greatest ns ws rise
      ∙ ap (waiting_at ws) (sym (place-found (number_at ns k) greatest k ns rise some inside refl))

  -- a place at which something is waited for is one of them
  pub waits-within : (k : ℕ) → length ws ≤ length ns → waiting_at ws k ≢ None → (1 ≤ k) × (k ≤ length ns)
  waits-within zero few some = absurd (some refl)
  waits-within (suc i) few some = (
    omega arith,
    elim (cases_lt (length ws) (suc i)) [
      | inl past ↦ absurd (some (past-at ws (suc i) past))
      | inr within ↦ omega (arith, few, within)
    ],
  )

  -- where one has a place its number is above p just where its place is behind those of p
  place-above-to : (p q : ℕ) → p < q → 1 ≤ place_of ns q → places_to ns p < place_of ns q
  place-above-to p q above some =
      let k = place_of ns q in
      ltb-true (places_to ns p) k (
      sym (above-behind p 1 greatest k ns rise some (place-within q ns))
      ∙ lt-ltb p (number_at ns k) (omega (arith, above, at-place q greatest ns rise some)))

  pub none-above : (p : ℕ) → ((k : ℕ) → places_to ns p < k → waiting_at ws k ≡ None) → (q : ℕ) → p < q → want_of (waiting_in ns ws) q ≡ None
  none-above p none q above = want-mapped q 1 greatest ns ws rise ∙ elim (cases_lt 0 (place_of ns q)) [
    | inl some ↦ none (place_of ns q) (place-above-to p q above some)
    | inr low ↦ let zero-is : place_of ns q ≡ 0 = omega (arith, low) in ap (waiting_at ws) zero-is
  ]

  pub found-above : (p x : ℕ) → length ws ≤ length ns → places_to ns p < x → waiting_at ws x ≢ None → ((k : ℕ) → places_to ns p < k → k < x → waiting_at ws k ≡ None)
      → (p < number_at ns x) × (want_of (waiting_in ns ws) (number_at ns x) ≢ None) × ((r : ℕ) → p < r → r < number_at ns x → want_of (waiting_in ns ws) r ≡ None)
  found-above p x few behind-to some none =
      let within = waits-within x few some in (
        ltb-true p (number_at ns x) (above-behind p 1 greatest x ns rise within.0 within.1 ∙ lt-ltb (places_to ns p) x behind-to),
        λ e. some (sym (want-at x within.0 within.1) ∙ e),
        λ r above below. want-mapped r 1 greatest ns ws rise ∙ elim (cases_lt 0 (place_of ns r)) [
          | inr low ↦ let zero-is : place_of ns r ≡ 0 = omega (arith, low) in ap (waiting_at ws) zero-is
          | inl there ↦ none (place_of ns r) (place-above-to p r above there) (elim (cases_lt (place_of ns r) x) [
            | inl less ↦ less
            | inr from ↦ absurd (elim (cases_lt x (place_of ns r)) [
              | inl less ↦ omega (arith, below, at-place r greatest ns rise there, less-at greatest x (place_of ns r) ns rise within.0 less (place-within r ns))
              | inr to ↦
                  let same : x ≡ place_of ns r = omega (arith, from, to) in
                  omega (arith, below, at-place r greatest ns rise there, ap (number_at ns) same)
            ])
          ])
        ],
      )

  -- ---- those at the first places

  zero-among : is_number_among 0 xs ≡ false
  zero-among = elim (cases_Bool (is_number_among 0 xs)) [
    | inl among ↦ absurd (omega (arith, (are 0 among).0))
    | inr none ↦ none
  ]

  pub taken-none : (q : ℕ) → false ≡ (nat_lt (place_of ns q) 1 && is_number_among (place_of ns q) xs)
  taken-none q = elim (cases_lt 0 (place_of ns q)) [
    | inl some ↦ rw (le-ltb (place_of ns q) 1 (omega (arith, some))) refl
    | inr low ↦
        let zero-is : place_of ns q ≡ 0 = omega (arith, low) in
        sym (ap (λ k. nat_lt (place_of ns q) 1 && is_number_among k xs) zero-is ∙ (ap (λ b. nat_lt (place_of ns q) 1 && b) zero-among ∙ and-false (nat_lt (place_of ns q) 1)))
  ]

  no-want : (b : Bool) (o : Option Want) → o ≡ None → None ≡ (if b then o else None)
  no-want true o e = sym e
  no-want false o e = refl

  pub wanted-none : (q : ℕ) → None ≡ (if nat_lt (place_of ns q) 1 then waiting_at ws (place_of ns q) else None)
  wanted-none q = elim (cases_lt 0 (place_of ns q)) [
    | inl some ↦ rw (le-ltb (place_of ns q) 1 (omega (arith, some))) refl
    | inr low ↦
        let zero-is : place_of ns q ≡ 0 = omega (arith, low) in
        no-want (nat_lt (place_of ns q) 1) (waiting_at ws (place_of ns q)) (ap (waiting_at ws) zero-is)
  ]

  still-below : (k m : ℕ) → k ≢ m → nat_lt k m ≡ nat_lt k (suc m)
  still-below k m ne = elim (cases_lt k m) [
    | inl l ↦ lt-ltb k m l ∙ sym (lt-ltb k (suc m) (omega (arith, l)))
    | inr r ↦ le-ltb k m r ∙ sym (le-ltb k (suc m) (omega (arith, r, ne)))
  ]

  or-off : (b : Bool) → (b || false) ≡ b
  or-off true = refl
  or-off false = refl

  pub taken-next : (at q : ℕ) (marked : Bool) → at < length ns → marked ≡ is_number_among (suc at) xs
      → ((nat_eq q (number_at ns (suc at)) && marked) || (nat_lt (place_of ns q) (suc at) && is_number_among (place_of ns q) xs)) ≡ (nat_lt (place_of ns q) (suc (suc at)) && is_number_among (place_of ns q) xs)
  taken-next at q marked inside is =
      let k = place_of ns q in
      (λ i. (place-is q 1 greatest (suc at) ns rise (omega arith) (omega (arith, inside)) i && marked) || (nat_lt k (suc at) && is_number_among k xs))
      ∙ elim (cases_eq k (suc at)) [
        | inl e ↦
            rw (eq-eqb k (suc at) e, le-ltb k (suc at) (omega (arith, e)), lt-ltb k (suc (suc at)) (omega (arith, e))) (
            or-off marked ∙ (is ∙ ap (λ j. is_number_among j xs) (sym e)))
        | inr ne ↦ rw (ne_eqb k (suc at) ne) (ap (λ b. b && is_number_among k xs) (still-below k (suc at) ne))
      ]

  pub wanted-next : (at q : ℕ) (want : Option Want) → at < length ns → want ≡ waiting_at ws (suc at)
      → (if nat_eq q (number_at ns (suc at)) then want else (if nat_lt (place_of ns q) (suc at) then waiting_at ws (place_of ns q) else None)) ≡ (if nat_lt (place_of ns q) (suc (suc at)) then waiting_at ws (place_of ns q) else None)
  wanted-next at q want inside is =
      let k = place_of ns q in
      (λ i. if place-is q 1 greatest (suc at) ns rise (omega arith) (omega (arith, inside)) i then want else (if nat_lt k (suc at) then waiting_at ws k else None))
      ∙ elim (cases_eq k (suc at)) [
        | inl e ↦ rw (eq-eqb k (suc at) e, lt-ltb k (suc (suc at)) (omega (arith, e))) (is ∙ ap (waiting_at ws) (sym e))
        | inr ne ↦ rw (ne_eqb k (suc at) ne) (ap (λ b. if b then waiting_at ws k else None) (still-below k (suc at) ne))
      ]

  pub taken-all : (at q : ℕ) → length ns ≤ at → (nat_lt (place_of ns q) (suc at) && is_number_among (place_of ns q) xs) ≡ is_number_among (place_of ns q) xs
  taken-all at q all = ap (λ b. b && is_number_among (place_of ns q) xs) (lt-ltb (place_of ns q) (suc at) (omega (arith, all, place-within q ns)))

  pub wanted-all : (at q : ℕ) → length ns ≤ at → (if nat_lt (place_of ns q) (suc at) then waiting_at ws (place_of ns q) else None) ≡ waiting_at ws (place_of ns q)
  wanted-all at q all = ap (λ b. if b then waiting_at ws (place_of ns q) else None) (lt-ltb (place_of ns q) (suc at) (omega (arith, all, place-within q ns)))

pub on-ok : {T E P : Type 0} (r : Result T E) → P → OnOk r P
on-ok (Ok x) p = p
on-ok (Err e) p = tt
