-- The clocks after a step, from those that the code takes out and puts back.
use Rattle.std.proofs.Common.{◌≡◌, ℕ, suc, ◌<◌, ◌≤◌, Bool, true, false, ◌||◌}
use Rattle.std.proofs.Common.{if◌then◌else◌, max, nat_eq, List, [], ◌∷◌, Option, None, Some}
use Rattle.std.proofs.Common.{refl, ◌∙◌, subst, arith}
use Rattle.std.proofs.Math.Path.{fun_ext}
use Rattle.std.proofs.lemmas.Bool.{eqb-true}
use Rattle.hep_accesses.specs.Clocks.{Clock, Clocks, clock_before, clock_of_need, clocks_after, joined, ticked}
use Rattle.hep_accesses.specs.Detector.{Detector, detector_after_accesses}
use Rattle.hep_accesses.specs.Events.{Access, Event, is_made, leads_to}

-- no clock knows a step from n on
pub record AreWithin {L : Type 0} (n : ℕ) (x : Clocks L) : Type 0 where
  pub process : (p q : ℕ) → x.of_process p q ≤ n
  pub unit : (at : L) (q : ℕ) → x.of_location at q ≤ n

module _ {L S : Type 0} where
  -- ---- one step

  -- the clock of a step knows no later step
  ticked-within : (n : ℕ) (x : Clocks L) (e : Event L S) → AreWithin n x → (q : ℕ) → ticked n e.process (clock_before x e) q ≤ suc n
  ticked-within n x e h q = by (nat_eq e.process q)
    where
      need : (o : Option L) → clock_of_need x o q ≤ n
      need None = omega arith
      need (Some at) = h.unit at q

      by : (b : Bool) → (if b then suc n else max (x.of_process e.process q) (clock_of_need x e.needs q)) ≤ suc n
      by true = omega arith
      by false = omega (arith, h.process e.process q, need e.needs)

  -- nor does any clock after it
  pub within-more : (n : ℕ) (x : Clocks L) (e : Event L S) → AreWithin n x → AreWithin (suc n) (clocks_after n x e)
  within-more n x e h = record { process = λ p q. at_process p q (leads_to e p); unit = λ at q. at_unit at q (e.changes at) }
    where
      at_process : (p q : ℕ) (b : Bool)
          → (if b then joined (ticked n e.process (clock_before x e)) (x.of_process p) else x.of_process p) q ≤ suc n
      at_process p q true = omega (arith, ticked-within n x e h q, h.process p q)
      at_process p q false = omega (arith, h.process p q)

      at_unit : (at : L) (q : ℕ) (b : Bool) → (if b then ticked n e.process (clock_before x e) else x.of_location at) q ≤ suc n
      at_unit at q true = ticked-within n x e h q
      at_unit at q false = omega (arith, h.unit at q)

  -- so after an earlier step no clock knows a step from n on
  pub within-later : (n m : ℕ) (x : Clocks L) (e : Event L S) → m < n → AreWithin n x → AreWithin n (clocks_after m x e)
  within-later n m x e early h = record { process = λ p q. at_process p q (leads_to e p); unit = λ at q. at_unit at q (e.changes at) }
    where
      need : (o : Option L) (q : ℕ) → clock_of_need x o q ≤ n
      need None q = omega arith
      need (Some at) q = h.unit at q

      clock : (q : ℕ) (b : Bool) → (if b then suc m else max (x.of_process e.process q) (clock_of_need x e.needs q)) ≤ n
      clock q true = omega (arith, early)
      clock q false = omega (arith, h.process e.process q, need e.needs q)

      ticks : (q : ℕ) → ticked m e.process (clock_before x e) q ≤ n
      ticks q = clock q (nat_eq e.process q)

      at_process : (p q : ℕ) (b : Bool)
          → (if b then joined (ticked m e.process (clock_before x e)) (x.of_process p) else x.of_process p) q ≤ n
      at_process p q true = omega (arith, ticks q, h.process p q)
      at_process p q false = h.process p q

      at_unit : (at : L) (q : ℕ) (b : Bool) → (if b then ticked m e.process (clock_before x e) else x.of_location at) q ≤ n
      at_unit at q true = ticks q
      at_unit at q false = h.unit at q

  -- a process joins nothing new from its own clock
  own-joined : (n : ℕ) (x : Clocks L) (e : Event L S) → AreWithin n x → (q : ℕ)
      → x.of_process e.process q ≤ ticked n e.process (clock_before x e) q
  own-joined n x e h q = by (nat_eq e.process q)
    where
      by : (b : Bool) → x.of_process e.process q ≤ (if b then suc n else max (x.of_process e.process q) (clock_of_need x e.needs q))
      by true = omega (arith, h.process e.process q)
      by false = omega arith

  -- the clock of its process is taken out, ticks, is left at the changes, joined by the process that is made, and put back
  module _ (n : ℕ) (x y z : Clocks L) (e : Event L S) (c : Clock) (h : AreWithin n x)
      (others : (p q : ℕ) → nat_eq e.process p ≡ false → y.of_process p q ≡ x.of_process p q)
      (units : (at : L) (q : ℕ) → y.of_location at q ≡ x.of_location at q)
      (is : (q : ℕ) → c q ≡ ticked n e.process (clock_before x e) q) where
    -- the clock of a process
    process-put : (p q : ℕ) (b m : Bool) → nat_eq e.process p ≡ b
        → (if b then c q else (if m then joined c (y.of_process p) q else y.of_process p q))
        ≡ (if b || m then joined (ticked n e.process (clock_before x e)) (x.of_process p) else x.of_process p) q
    process-put p q true m t =
        let same : e.process ≡ p = eqb-true e.process p t in
        let below : x.of_process p q ≤ ticked n e.process (clock_before x e) q =
        subst (λ r. x.of_process r q ≤ ticked n e.process (clock_before x e) q) same (own-joined n x e h q) in
        is q ∙ larger (ticked n e.process (clock_before x e) q) (x.of_process p q) below
      where
        larger : (i j : ℕ) → j ≤ i → i ≡ max i j
        larger i j k = omega arith
    process-put p q false true t = λ i. max (is q i) (others p q t i)
    process-put p q false false t = others p q t

    -- and all clocks
    pub clocks-put :
        ((p q : ℕ) → z.of_process p q
        ≡ (if nat_eq e.process p then c q else (if is_made e.makes p then joined c (y.of_process p) q else y.of_process p q)))
        → ((at : L) (q : ℕ) → z.of_location at q ≡ (if e.changes at then c q else y.of_location at q))
        → z ≡ clocks_after n x e
    clocks-put put left =
        let process_is : z.of_process ≡ (clocks_after n x e).of_process =
        fun_ext (λ p. fun_ext (λ q. put p q ∙ process-put p q (nat_eq e.process p) (is_made e.makes p) refl)) in
        let unit_is : z.of_location ≡ (clocks_after n x e).of_location =
        fun_ext (λ at. fun_ext (λ q. left at q ∙ unit-put at q (e.changes at))) in
        λ i. record { of_process = process_is i; of_location = unit_is i }
      where
        unit-put : (at : L) (q : ℕ) (b : Bool) → (if b then c q else y.of_location at q)
            ≡ (if b then ticked n e.process (clock_before x e) else x.of_location at) q
        unit-put at q true = is q
        unit-put at q false = units at q

-- ---- runs

module _ {L S : Type 0} (same : L → L → Bool) (alike : S → S → Bool) where
  -- accesses leave the clocks as they are
  pub clocks-kept : (c : Clock) (n p : ℕ) (accesses : List (Access L S)) (x : Detector L S)
      → (detector_after_accesses same alike c n p accesses x).clocks ≡ x.clocks
  clocks-kept c n p [] x = refl
  clocks-kept c n p (a ∷ others) x = clocks-kept c n p others _
