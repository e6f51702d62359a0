-- Which numbers are among those that pass a test, among the living processes, and among numbers that rise.
use Rattle.std.proofs.Common.{◌≡◌, ◌≢◌, inl, inr, ℕ, zero, suc, ◌+◌, ◌<◌, ◌≤◌, ◌&&◌, Bool, true, false, true≢false, List, [], ◌∷◌, length, refl, sym, ap, ◌∙◌, subst, arith, is_some, not, nat_eq, slice_get}
use Rattle.std.specs.List.{filter}
use Rattle.std.proofs.Math.Bool.{and-false}
use Rattle.std.proofs.lemmas.Bool.{cases_Bool, cases_eq, cases_lt, ne_eqb, eq-eqb}
use Rattle.hep_machine.specs.Words.{is_number_among, living, top_of, Progress, living_from, ready_in, without, Process, State}
use Rattle.hep_blocked.specs.Numbers.{AreRising}
use Rattle.hep_machine.proofs.Held.{among-head}

-- ---- a test

pub among-filter : (test : ℕ → Bool) (q : ℕ) (ps : List ℕ) → is_number_among q (filter test ps) ≡ (test q && is_number_among q ps)
among-filter test q [] = sym (and-false (test q))
among-filter test q (p ∷ ps) = elim (cases_Bool (test p)) [
  | inl passes ↦ elim (cases_eq q p) [
    | inl same ↦ let here : test q ≡ true = ap test same ∙ passes in rw (passes, here, eq-eqb q p same) refl
    | inr apart ↦ rw (passes, ne_eqb q p apart) (among-filter test q ps)
  ]
  | inr fails ↦ elim (cases_eq q p) [
    | inl same ↦ let here : test q ≡ false = ap test same ∙ fails in rw fails (among-filter test q ps ∙ rw here refl)
    | inr apart ↦ rw (fails, ne_eqb q p apart) (among-filter test q ps)
  ]
]

pub among-without : (p q : ℕ) (ps : List ℕ) → p ≢ q → is_number_among q (without p ps) ≡ is_number_among q ps
among-without p q ps other = among-filter (λ r. not (nat_eq p r)) q ps ∙ rw (ne_eqb p q other) refl

-- ---- the living processes

living-before : (k q : ℕ) (qs : List Process) → q < k → is_number_among q (living_from k qs) ≡ false
living-before k q [] h = refl
living-before k q ([] ∷ qs) h = living-before (suc k) q qs (omega arith)
living-before k q ((l ∷ ls) ∷ qs) h = rw (ne_eqb q k (λ same. omega arith)) (living-before (suc k) q qs (omega arith))

living-at : (k i q : ℕ) (qs : List Process) → q ≡ k + i → is_number_among q (living_from k qs) ≡ is_some (top_of (slice_get qs i))
living-at k i q [] h = refl
living-at k zero q ([] ∷ qs) h = living-before (suc k) q qs (omega arith)
living-at k zero q ((l ∷ ls) ∷ qs) h = rw (eq-eqb q k (omega arith)) refl
living-at k (suc i) q ([] ∷ qs) h = living-at (suc k) i q qs (omega arith)
living-at k (suc i) q ((l ∷ ls) ∷ qs) h = rw (ne_eqb q k (λ same. omega arith)) (living-at (suc k) i q qs (omega arith))

pub among-living : (s : State) (q : ℕ) → is_number_among q (living_from 1 s.processes) ≡ is_some (living s q)
among-living s zero = living-before 1 0 s.processes (omega arith)
among-living s (suc i) = living-at 1 i (suc i) s.processes (omega arith)

-- those are ready that live and aren't listed
pub among-ready : (x : Progress) (q : ℕ) → is_number_among q (ready_in x) ≡ (not (is_number_among q x.listed) && is_some (living x.state q))
among-ready x q =
    among-filter (λ p. not (is_number_among p x.listed)) q (living_from 1 x.state.processes)
    ∙ ap (λ b. not (is_number_among q x.listed) && b) (among-living x.state q)

-- ---- numbers that rise

rising-from : (low high greatest : ℕ) (ps : List ℕ) → low ≤ high → AreRising high greatest ps → AreRising low greatest ps
rising-from low high greatest [] le rising = tt
rising-from low high greatest (p ∷ ps) le rising = (omega (arith, rising.0), rising.1, rising.2)

pub rising-filter : (test : ℕ → Bool) (least greatest : ℕ) (ps : List ℕ) → AreRising least greatest ps
    → AreRising least greatest (filter test ps)
rising-filter test least greatest [] rising = tt
rising-filter test least greatest (p ∷ ps) rising = elim (cases_Bool (test p)) [
  | inl passes ↦ rw passes (rising.0, rising.1, rising-filter test (p + 1) greatest ps rising.2)
  | inr fails ↦ rw fails (
      rising-filter test least greatest ps (rising-from least (p + 1) greatest ps (omega (arith, rising.0)) rising.2))
]

living-rise : (least k greatest : ℕ) (qs : List Process) → least ≤ k → k + length qs ≤ greatest + 1
    → AreRising least greatest (living_from k qs)
living-rise least k greatest [] from to = tt
living-rise least k greatest ([] ∷ qs) from to = living-rise least (suc k) greatest qs (omega arith) (omega arith)
living-rise least k greatest ((l ∷ ls) ∷ qs) from to =
    (from, omega arith, living-rise (k + 1) (suc k) greatest qs (omega arith) (omega arith))

pub ready-rise : (x : Progress) → AreRising 1 (length x.state.processes) (ready_in x)
ready-rise x =
    rising-filter (λ p. not (is_number_among p x.listed)) 1 (length x.state.processes) (living_from 1 x.state.processes) (
    living-rise 1 1 (length x.state.processes) x.state.processes (omega arith) (omega arith))

below-rising : (q least greatest : ℕ) (ps : List ℕ) → AreRising least greatest ps → q < least → is_number_among q ps ≡ false
below-rising q least greatest [] rising h = refl
below-rising q least greatest (p ∷ ps) rising h =
    rw (ne_eqb q p (λ same. omega (arith, rising.0))) (below-rising q (p + 1) greatest ps rising.2 (omega (arith, rising.0)))

-- of two lists with the same numbers, neither begins above the other
first-least : (over p q : ℕ) (ps qs : List ℕ) → AreRising q over (q ∷ qs)
    → ((r : ℕ) → is_number_among r (p ∷ ps) ≡ is_number_among r (q ∷ qs)) → q ≤ p
first-least over p q ps qs rising same = elim (cases_lt p q) [
  | inl less ↦ absurd (true≢false (sym (among-head p ps) ∙ (same p ∙ below-rising p q over (q ∷ qs) rising less)))
  | inr le ↦ le
]

rising-behind : (p above over r : ℕ) (ps qs : List ℕ) → AreRising (p + 1) above ps → AreRising (p + 1) over qs
    → is_number_among r (p ∷ ps) ≡ is_number_among r (p ∷ qs) → is_number_among r ps ≡ is_number_among r qs
rising-behind p above over r ps qs f g same = elim (cases_eq r p) [
  | inl e ↦ below-rising r (p + 1) above ps f (omega arith) ∙ sym (below-rising r (p + 1) over qs g (omega arith))
  | inr ne ↦ rw (ne_eqb r p ne) at same
]

-- they are told by which ones they are
pub rising-same : (least above over : ℕ) (ps qs : List ℕ) → AreRising least above ps → AreRising least over qs
    → ((r : ℕ) → is_number_among r ps ≡ is_number_among r qs) → ps ≡ qs
rising-same least above over [] [] f g same = refl
rising-same least above over [] (q ∷ qs) f g same = absurd (true≢false (sym (same q ∙ among-head q qs)))
rising-same least above over (p ∷ ps) [] f g same = absurd (true≢false (sym (among-head p ps) ∙ same p))
rising-same least above over (p ∷ ps) (q ∷ qs) f g same =
    let high : q ≤ p = first-least over p q ps qs (omega arith, g.1, g.2) same in
    let low : p ≤ q = first-least above q p qs ps (omega arith, f.1, f.2) (λ r. sym (same r)) in
    let one : p ≡ q = omega (arith, high, low) in
    let rising = subst (λ n. AreRising (n + 1) over qs) (sym one) g.2 in
    let others = λ (r : ℕ). rising-behind p above over r ps qs f.2 rising (same r ∙ ap (λ n. is_number_among r (n ∷ qs)) (sym one)) in
    let behind : ps ≡ qs = rising-same (p + 1) above over ps qs f.2 rising others in
    λ i. one i ∷ behind i

-- where nothing is among them, they are none
pub none-among : (ps : List ℕ) → ((q : ℕ) → is_number_among q ps ≡ false) → ps ≡ []
none-among [] none = refl
none-among (p ∷ ps) none = absurd (true≢false (sym (among-head p ps) ∙ none p))
