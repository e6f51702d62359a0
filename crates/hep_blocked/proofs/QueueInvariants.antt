-- The lists and what the processes wait for, kept together: where nobody waits, where one more process waits, and where those
-- that wait for the same wait no more.
use Rattle.std.proofs.Common.{◌≡◌, ◌≢◌, ℕ, zero, suc, ◌-◌, ◌<◌, ◌≤◌, ◌||◌, Bool, true, false, true≢false, List, [], ◌∷◌, ◌++◌, length, length-append, length-set, get_or, get_or-set_same, get_or-set_other, replicate, set, map, max, Option, Some, None, refl, sym, ap, ◌∙◌, inl, inr, arith, nat_eq, if◌then◌else◌}
use Rattle.std.proofs.lemmas.Bool.{cases_lt, cases_eq, cases_Bool, or_parts, eqb-false, ne_eqb, eq-eqb}
use Rattle.std.proofs.lemmas.List.{ext_get_or, length-map, length-replicate}
use Rattle.std.proofs.Math.ListN.{get_or-eq_default}
use Rattle.hep_machine.specs.Words.{is_number_among}
use Rattle.hep_cells.specs.declared.want.Want.{Want}
use Rattle.hep_blocked.specs.WaitQueues.{with_process, without_list, want_eq}
use Rattle.hep_blocked.specs.QueueInvariant.{AreApart, IsTied, cleared}
use Rattle.hep_blocked.specs.Waiting.{awake, numbers_waiting, waiting_at, wants, with_numbers, with_want}
use Rattle.hep_blocked.proofs.QueueAdding.{among-behind, among-many, numbers-same}
use Rattle.hep_blocked.proofs.Wanting.{among-waiting, at-awake, at-grown, awake-keeps, awake-wants, waiting-awake}
use Rattle.hep_blocked.proofs.Wants.{want-apart, want-is, want-same}

-- ---- the processes in a list wait no more

at-cleared : (ws : List (Option Want)) (p k : ℕ) → 1 ≤ p → get_or (set ws (p - 1) None) k None ≡ (if nat_eq (suc k) p then None else get_or ws k None)
at-cleared ws p k some = elim (cases_eq (suc k) p) [
  | inl e ↦ rw (eq-eqb (suc k) p e) (elim (cases_lt k (length ws)) [
    | inl l ↦ let same : p - 1 ≡ k = omega arith in rw same (get_or-set_same ws k None None l)
    | inr r ↦ get_or-eq_default (set ws (p - 1) None) None (omega (arith, length-set ws (p - 1) None, r))
  ])
  | inr ne ↦ let apart : k ≢ p - 1 = λ e. ne (omega arith) in rw (ne_eqb (suc k) p ne) (get_or-set_other ws (p - 1) k None None apart)
]

at-cleared_all : (ps : List ℕ) (ws : List (Option Want)) (k : ℕ) → is_number_among 0 ps ≡ false → get_or (cleared ps ws) k None ≡ (if is_number_among (suc k) ps then None else get_or ws k None)
at-cleared_all [] ws k some = refl
at-cleared_all (p ∷ ps) ws k some =
    let parts = or_parts (nat_eq 0 p) (is_number_among 0 ps) some in
    let low : 1 ≤ p = elim (cases_lt 0 p) [ inl l ↦ l | inr r ↦ absurd (eqb-false 0 p parts.0 (omega arith)) ] in
    at-cleared_all ps (set ws (p - 1) None) k parts.1 ∙ elim (cases_Bool (is_number_among (suc k) ps)) [
      | inl e ↦ elim (cases_Bool (nat_eq (suc k) p)) [ inl h ↦ rw (e, h) refl | inr h ↦ rw (e, h) refl ]
      | inr e ↦ rw e (at-cleared ws p k low ∙ elim (cases_Bool (nat_eq (suc k) p)) [ inl h ↦ rw h refl | inr h ↦ rw h refl ])
    ]

length-cleared : (ps : List ℕ) (ws : List (Option Want)) → length (cleared ps ws) ≡ length ws
length-cleared [] ws = refl
length-cleared (p ∷ ps) ws = length-cleared ps (set ws (p - 1) None) ∙ length-set ws (p - 1) None

-- a process that waits has a number, and a place
waiting-known : (want : Want) (ws : List (Option Want)) (p : ℕ) → wants want (waiting_at ws p) ≡ true → (1 ≤ p) × (p ≤ length ws)
waiting-known want ws zero h = cc
waiting-known want ws (suc k) h = elim (cases_lt k (length ws)) [
  | inl l ↦ (omega arith, omega arith)
  | inr r ↦ absurd (true≢false (sym h ∙ ap (wants want) (get_or-eq_default ws None r)))
]

-- what is so of the list under a want
module _ (want : Want) (ps : List ℕ) (ws : List (Option Want)) (lists : Want → List ℕ) (t : IsTied ws lists) (is : ps ≡ lists want) where
  listed : (p : ℕ) → is_number_among p ps ≡ wants want (waiting_at ws p)
  listed p = ap (is_number_among p) is ∙ t.tied want p

  pub cleared-awake : cleared ps ws ≡ map (awake want) ws
  cleared-awake = ext_get_or None (cleared ps ws) (map (awake want) ws) (length-cleared ps ws ∙ sym (length-map ws (awake want))) (λ k h.
      at-cleared_all ps ws k (listed 0) ∙ ap (λ (b : Bool). if b then None else get_or ws k None) (listed (suc k)) ∙ sym (at-awake want ws k))

  pub cleared-waiting : (p : ℕ) → waiting_at (cleared ps ws) p ≡ awake want (waiting_at ws p)
  cleared-waiting p = ap (λ (os : List (Option Want)). waiting_at os p) cleared-awake ∙ waiting-awake want ws p

  pub woken-ready : (ready : List ℕ) → with_numbers ps ready ≡ with_numbers (numbers_waiting want ws) ready
  woken-ready ready = numbers-same ps (numbers_waiting want ws) ready (λ p. listed p ∙ sym (among-waiting want ws p))

  pub woken-among : (ready : List ℕ) (p : ℕ) → is_number_among p (with_numbers ps ready) ≡ (wants want (waiting_at ws p) || is_number_among p ready)
  woken-among ready p = among-many p ps ready ∙ ap (λ (b : Bool). b || is_number_among p ready) (listed p)

  -- each has a number, and a place
  pub woken-known : (p : ℕ) → is_number_among p ps ≡ true → (1 ≤ p) × (p ≤ length ws)
  woken-known p among = waiting-known want ws p (sym (listed p) ∙ among)

-- ---- nobody waits

nobody : (want : Want) (p : ℕ) → wants want (waiting_at [] p) ≡ false
nobody want zero = refl
nobody want (suc k) = refl

pub tied-none : (lists : Want → List ℕ) (ws : List (Option Want)) → ws ≡ [] → ((want : Want) → lists want ≡ []) → IsTied ws lists
tied-none lists ws none empty = record {
  tied = λ want p. ap (is_number_among p) (empty want) ∙ sym (ap (λ (os : List (Option Want)). wants want (waiting_at os p)) none ∙ nobody want p);
  once = λ want. rw (empty want) tt;
}

-- ---- those that wait for the same wait no more

pub tied-woken : (want : Want) (ws ws' : List (Option Want)) (lists lists' : Want → List ℕ) → IsTied ws lists → ws' ≡ map (awake want) ws → ((w : Want) → lists' w ≡ without_list want lists w) → IsTied ws' lists'
tied-woken want ws ws' lists lists' t woken left = record {
  tied = λ w p.
      let seen : waiting_at ws' p ≡ awake want (waiting_at ws p) = ap (λ (os : List (Option Want)). waiting_at os p) woken ∙ waiting-awake want ws p in
      elim (cases_Bool (want_eq want w)) [
        | inl e ↦
            let none : lists' w ≡ [] = rw e at (left w) in
            ap (is_number_among p) none ∙ sym (ap (wants w) seen ∙ awake-wants w want (waiting_at ws p) e)
        | inr e ↦
            let same : lists' w ≡ lists w = rw e at (left w) in
            ap (is_number_among p) same ∙ t.tied w p ∙ sym (ap (wants w) seen ∙ awake-keeps w want (waiting_at ws p) e)
      ];
  once = λ w. elim (cases_Bool (want_eq want w)) [
    | inl e ↦ let none : lists' w ≡ [] = rw e at (left w) in rw none tt
    | inr e ↦ let same : lists' w ≡ lists w = rw e at (left w) in rw same (t.once w)
  ];
}

-- ---- one more process waits

pub grown-length : (p : ℕ) (ws : List (Option Want)) → length (ws ++ replicate (p - length ws) None) ≡ max p (length ws)
grown-length p ws =
    let none : Option Want = None in
    omega (arith, length-append ws (replicate (p - length ws) none), length-replicate (p - length ws) none)

pub blocked-items : (p : ℕ) (want : Want) (ws grown : List (Option Want)) → grown ≡ ws ++ replicate (p - length ws) None → set grown (p - 1) (Some want) ≡ with_want p want ws
blocked-items p want ws grown is = ap (λ (os : List (Option Want)). set os (p - 1) (Some want)) is

pub waiting-blocked : (p : ℕ) (want : Want) (ws : List (Option Want)) → 1 ≤ p → (q : ℕ) → waiting_at (with_want p want ws) q ≡ (if nat_eq p q then Some want else waiting_at ws q)
waiting-blocked p want ws some zero = rw (ne_eqb p 0 (λ e. omega arith)) refl
waiting-blocked p want ws some (suc k) =
    let grown = ws ++ replicate (p - length ws) None in
    elim (cases_eq p (suc k)) [
      | inl e ↦
          let same : p - 1 ≡ k = omega arith in
          let inside : k < length (ws ++ replicate (p - length ws) None) = omega (arith, grown-length p ws) in
          rw (eq-eqb p (suc k) e, same) (get_or-set_same grown k (Some want) None inside)
      | inr ne ↦
          let apart : k ≢ p - 1 = λ e. ne (omega arith) in
          rw (ne_eqb p (suc k) ne) (get_or-set_other grown (p - 1) k (Some want) None apart ∙ at-grown ws (p - length ws) k)
    ]

apart-behind : (p : ℕ) (ps : List ℕ) → is_number_among p ps ≡ false → AreApart ps → AreApart (ps ++ p ∷ [])
apart-behind p [] new apart = (refl, tt)
apart-behind p (x ∷ xs) new apart = elim (cases_eq p x) [
  | inl e ↦ absurd (true≢false (sym (ap (λ (b : Bool). b || is_number_among p xs) (eq-eqb p x e)) ∙ new))
  | inr ne ↦
      let rest : is_number_among p xs ≡ false = rw (ne_eqb p x ne) at new in
      (among-behind x p xs ∙ rw (ne_eqb x p (λ e. ne (sym e))) apart.0, apart-behind p xs rest apart.1)
]

pub tied-blocked : (p : ℕ) (want : Want) (ws ws' : List (Option Want)) (lists lists' : Want → List ℕ) → IsTied ws lists → 1 ≤ p → waiting_at ws p ≡ None → ws' ≡ with_want p want ws → ((w : Want) → lists' w ≡ with_process want p lists w) → IsTied ws' lists'
tied-blocked p want ws ws' lists lists' t some idle blocked added =
    let new : (w : Want) → is_number_among p (lists w) ≡ false = λ w. t.tied w p ∙ ap (wants w) idle in
    let seen : (q : ℕ) → waiting_at ws' q ≡ (if nat_eq p q then Some want else waiting_at ws q) = λ q. ap (λ (os : List (Option Want)). waiting_at os q) blocked ∙ waiting-blocked p want ws some q in
    record {
      tied = λ w q. elim (cases_Bool (want_eq want w)) [
        | inl e ↦
            let more : lists' w ≡ lists w ++ p ∷ [] = rw e at (added w) in
            ap (is_number_among q) more ∙ among-behind q p (lists w) ∙ elim (cases_eq p q) [
              | inl same ↦
                  let one : waiting_at ws' q ≡ Some want = rw (eq-eqb p q same) at (seen q) in
                  ap (λ (b : Bool). b || is_number_among q (lists w)) (eq-eqb q p (sym same)) ∙ sym (ap (wants w) one ∙ ap (want_eq w) (want-is want w e) ∙ want-same w)
              | inr ne ↦
                  let other : waiting_at ws' q ≡ waiting_at ws q = rw (ne_eqb p q ne) at (seen q) in
                  ap (λ (b : Bool). b || is_number_among q (lists w)) (ne_eqb q p (λ e. ne (sym e))) ∙ t.tied w q ∙ sym (ap (wants w) other)
            ]
        | inr e ↦
            let as_before : lists' w ≡ lists w = rw e at (added w) in
            ap (is_number_among q) as_before ∙ elim (cases_eq p q) [
              | inl same ↦
                  let one : waiting_at ws' q ≡ Some want = rw (eq-eqb p q same) at (seen q) in
                  ap (λ (n : ℕ). is_number_among n (lists w)) (sym same) ∙ new w ∙ sym (ap (wants w) one ∙ want-apart want w e)
              | inr ne ↦
                  let other : waiting_at ws' q ≡ waiting_at ws q = rw (ne_eqb p q ne) at (seen q) in
                  t.tied w q ∙ sym (ap (wants w) other)
            ]
      ];
      once = λ w. elim (cases_Bool (want_eq want w)) [
        | inl e ↦ let more : lists' w ≡ lists w ++ p ∷ [] = rw e at (added w) in rw more (apart-behind p (lists w) (new w) (t.once w))
        | inr e ↦ let as_before : lists' w ≡ lists w = rw e at (added w) in rw as_before (t.once w)
      ];
    }
