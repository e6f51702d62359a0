-- One process waits for nothing any more: what the others wait for, its list, and the numbers of those that wait.
use Rattle.std.proofs.Common.{◌≡◌, ◌≢◌, ℕ, zero, suc, ◌-◌, ◌≤◌, ◌&&◌, Bool, true, false, true≢false, List, [], ◌∷◌, length, length-set, get_or, get_or-set_same, get_or-set_other, not, set, Option, Some, None, refl, sym, ap, ◌∙◌, inl, inr, arith, nat_eq, if◌then◌else◌, is_some}
use Rattle.std.proofs.lemmas.Bool.{cases_lt, cases_eq, cases_Bool, ne_eqb, eq-eqb}
use Rattle.std.proofs.Math.ListN.{get_or-eq_default}
use Rattle.hep_machine.specs.Words.{is_number_among, without}
use Rattle.hep_blocked.specs.Numbers.{Numbers}
use Rattle.hep_cells.specs.declared.want.Want.{Want}
use Rattle.hep_blocked.specs.WaitQueues.{without_process, want_eq}
use Rattle.hep_blocked.specs.QueueInvariant.{AreApart, AreNumbers, IsTied}
use Rattle.hep_blocked.specs.Waiting.{waiting_at, wants, without_want}
use Rattle.hep_blocked.proofs.Numbering.{among-without}
use Rattle.hep_blocked.proofs.Wants.{want-apart}

-- ---- the lists

apart-without : (p : ℕ) (ps : List ℕ) → AreApart ps → AreApart (without p ps)
apart-without p [] apart = tt
apart-without p (x ∷ xs) apart = elim (cases_Bool (nat_eq p x)) [
  | inl e ↦ rw e (apart-without p xs apart.1)
  | inr e ↦ rw e (among-without x p xs ∙ rw (e, apart.0) refl, apart-without p xs apart.1)
]

-- ---- what the processes wait for

-- a process that waits has a number, and a place
pub waiting-placed : (want : Want) (ws : List (Option Want)) (p : ℕ) → waiting_at ws p ≡ Some want → (1 ≤ p) × (p ≤ length ws)
waiting-placed want ws zero h = cc
waiting-placed want ws (suc k) h = elim (cases_lt k (length ws)) [
  | inl l ↦ (omega arith, omega arith)
  | inr r ↦ absurd (true≢false (sym (ap is_some h) ∙ ap is_some (get_or-eq_default ws None r)))
]

pub removed-items : (p : ℕ) (ws : List (Option Want)) → 1 ≤ p → set ws (p - 1) None ≡ without_want p ws
removed-items zero ws some = absurd (omega arith)
removed-items (suc k) ws some = let same : suc k - 1 ≡ k = omega arith in rw same refl

removed-length : (p : ℕ) (ws : List (Option Want)) → length (without_want p ws) ≡ length ws
removed-length zero ws = refl
removed-length (suc k) ws = length-set ws k None

at-removed : (ws : List (Option Want)) (k j : ℕ) → k ≡ j → get_or (set ws k None) j None ≡ None
at-removed ws k j e = elim (cases_lt j (length ws)) [
  | inl l ↦ rw e (get_or-set_same ws j None None l)
  | inr r ↦ get_or-eq_default (set ws k None) None (omega (arith, length-set ws k None, r))
]

waiting-removed : (p : ℕ) (ws : List (Option Want)) (q : ℕ) → waiting_at (without_want p ws) q ≡ (if nat_eq p q then None else waiting_at ws q)
waiting-removed zero ws zero = refl
waiting-removed zero ws (suc j) = rw (ne_eqb 0 (suc j) (λ e. omega arith)) refl
waiting-removed (suc k) ws zero = rw (ne_eqb (suc k) 0 (λ e. omega arith)) refl
waiting-removed (suc k) ws (suc j) = elim (cases_eq (suc k) (suc j)) [
  | inl e ↦ rw (eq-eqb (suc k) (suc j) e) (at-removed ws k j (omega arith))
  | inr ne ↦ let apart : j ≢ k = λ e. ne (omega arith) in rw (ne_eqb (suc k) (suc j) ne) (get_or-set_other ws k j None None apart)
]

-- ---- the lists and the numbers, kept together with it

module _ (p : ℕ) (want : Want) (ws ws' : List (Option Want)) (waits : waiting_at ws p ≡ Some want) (removed : ws' ≡ without_want p ws) where
  seen : (q : ℕ) → waiting_at ws' q ≡ (if nat_eq p q then None else waiting_at ws q)
  seen q = ap (λ (os : List (Option Want)). waiting_at os q) removed ∙ waiting-removed p ws q

  pub tied-removed : (lists lists' : Want → List ℕ) → IsTied ws lists → ((w : Want) → lists' w ≡ without_process want p lists w) → IsTied ws' lists'
  tied-removed lists lists' t left = record {
    tied = λ w q. elim (cases_Bool (want_eq want w)) [
      | inl e ↦
          let less : lists' w ≡ without p (lists w) = rw e at (left w) in
          ap (is_number_among q) less ∙ among-without q p (lists w) ∙ elim (cases_Bool (nat_eq p q)) [
            | inl same ↦ let none : waiting_at ws' q ≡ None = rw same at (seen q) in rw same (sym (ap (wants w) none))
            | inr other ↦ let kept : waiting_at ws' q ≡ waiting_at ws q = rw other at (seen q) in rw other (t.tied w q ∙ sym (ap (wants w) kept))
          ]
      | inr e ↦
          let as_before : lists' w ≡ lists w = rw e at (left w) in
          ap (is_number_among q) as_before ∙ t.tied w q ∙ elim (cases_eq p q) [
            | inl same ↦
                let none : waiting_at ws' q ≡ None = rw (eq-eqb p q same) at (seen q) in
                ap (λ (n : ℕ). wants w (waiting_at ws n)) (sym same) ∙ ap (wants w) waits ∙ want-apart want w e ∙ sym (ap (wants w) none)
            | inr ne ↦
                let kept : waiting_at ws' q ≡ waiting_at ws q = rw (ne_eqb p q ne) at (seen q) in
                sym (ap (wants w) kept)
          ]
    ];
    once = λ w. elim (cases_Bool (want_eq want w)) [
      | inl e ↦ let less : lists' w ≡ without p (lists w) = rw e at (left w) in rw less (apart-without p (lists w) (t.once w))
      | inr e ↦ let as_before : lists' w ≡ lists w = rw e at (left w) in rw as_before (t.once w)
    ];
  }

  not-is_some : (b : Bool) (o : Option Want) → (not b && is_some o) ≡ is_some (if b then None else o)
  not-is_some true o = refl
  not-is_some false o = refl

  pub numbers-removed : (numbers left : Numbers) → AreNumbers ws numbers → left.ready ≡ without p numbers.ready → left.room ≡ numbers.room → AreNumbers ws' left
  numbers-removed numbers left n taken same = record {
    among = λ q.
        ap (is_number_among q) taken ∙ among-without q p numbers.ready ∙ ap (λ (b : Bool). not (nat_eq p q) && b) (n.among q)
        ∙ not-is_some (nat_eq p q) (waiting_at ws q) ∙ sym (ap is_some (seen q));
    places = omega (arith, ap length removed, removed-length p ws, n.places, same);
  }
