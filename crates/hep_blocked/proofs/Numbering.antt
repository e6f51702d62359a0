-- The numbers of those that wait: where nobody waits, where one more process waits, and where those that wait for the same wait
-- no more.
use Rattle.std.proofs.Common.{◌≡◌, ℕ, zero, suc, ◌-◌, ◌≤◌, ◌&&◌, ◌||◌, Bool, true, false, List, [], ◌∷◌, ◌++◌, length, length-set, map, max, replicate, not, Option, Some, None, refl, sym, ap, ◌∙◌, inl, inr, arith, nat_eq, if◌then◌else◌, is_some}
use Rattle.std.proofs.lemmas.Bool.{cases_Bool, eqb-true}
use Rattle.std.proofs.lemmas.List.{length-map}
use Rattle.std.proofs.lemmas.Map.Views.{any-filter_same}
use Rattle.hep_machine.specs.Words.{is_number_among, without}
use Rattle.hep_blocked.specs.Numbers.{Numbers, with_number}
use Rattle.hep_cells.specs.declared.want.Want.{Want}
use Rattle.hep_blocked.specs.QueueInvariant.{AreNumbers, IsTied, without_numbers}
use Rattle.hep_blocked.specs.WaitQueues.{want_eq}
use Rattle.hep_blocked.specs.Waiting.{awake, waiting_at, wants, with_want}
use Rattle.hep_blocked.proofs.QueueAdding.{among-one}
use Rattle.hep_blocked.proofs.QueueInvariants.{grown-length, waiting-blocked}
use Rattle.hep_blocked.proofs.Wanting.{waiting-awake}
use Rattle.hep_source.proofs.Tests.{numbers-turned}

-- ---- numbers are taken out

pub among-without : (q p : ℕ) (xs : List ℕ) → is_number_among q (without p xs) ≡ (not (nat_eq p q) && is_number_among q xs)
among-without q p xs =
    any-filter_same (nat_eq q) (λ k. not (nat_eq p k)) (not (nat_eq p q)) (λ k e. ap (λ (n : ℕ). not (nat_eq p n)) (sym (eqb-true q k e))) xs

not-or : (a b c : Bool) → (not a && (not b && c)) ≡ (not (b || a) && c)
not-or true true c = refl
not-or true false c = refl
not-or false true c = refl
not-or false false c = refl

among-without_many : (q : ℕ) (ps xs : List ℕ) → is_number_among q (without_numbers ps xs) ≡ (not (is_number_among q ps) && is_number_among q xs)
among-without_many q [] xs = refl
among-without_many q (p ∷ ps) xs =
    among-without_many q ps (without p xs) ∙ ap (λ (b : Bool). not (is_number_among q ps) && b) (among-without q p xs)
    ∙ not-or (is_number_among q ps) (nat_eq p q) (is_number_among q xs)
    ∙ ap (λ (b : Bool). not (b || is_number_among q ps) && is_number_among q xs) (numbers-turned p q)

-- ---- nobody waits

nobody : (p : ℕ) → is_some (waiting_at [] p) ≡ false
nobody zero = refl
nobody (suc k) = refl

pub numbers-none : (ws : List (Option Want)) (numbers : Numbers) → ws ≡ [] → numbers.ready ≡ [] → AreNumbers ws numbers
numbers-none ws numbers none empty = record {
  among = λ p. ap (is_number_among p) empty ∙ sym (ap (λ (os : List (Option Want)). is_some (waiting_at os p)) none ∙ nobody p);
  places = omega (arith, ap length none);
}

-- ---- one more process waits

places-blocked : (p : ℕ) (want : Want) (ws : List (Option Want)) → length (with_want p want ws) ≡ max p (length ws)
places-blocked p want ws = length-set (ws ++ replicate (p - length ws) None) (p - 1) (Some want) ∙ grown-length p ws

module _ (p : ℕ) (want : Want) (ws ws' : List (Option Want)) (numbers more : Numbers) (n : AreNumbers ws numbers) (some : 1 ≤ p) (blocked : ws' ≡ with_want p want ws) where
  or-waits : (q : ℕ) (b : Bool) → (b || is_some (waiting_at ws q)) ≡ is_some (if b then Some want else waiting_at ws q)
  or-waits q true = refl
  or-waits q false = refl

  pub numbers-blocked : more.ready ≡ with_number p numbers.ready → p ≤ more.room → numbers.room ≤ more.room → AreNumbers ws' more
  numbers-blocked added room grows = record {
    among = λ q.
        ap (is_number_among q) added ∙ among-one q p numbers.ready ∙ ap (λ (b : Bool). nat_eq q p || b) (n.among q)
        ∙ ap (λ (b : Bool). b || is_some (waiting_at ws q)) (numbers-turned q p) ∙ or-waits q (nat_eq p q)
        ∙ sym (ap is_some (ap (λ (os : List (Option Want)). waiting_at os q) blocked ∙ waiting-blocked p want ws some q));
    places = omega (arith, ap length blocked, places-blocked p want ws, n.places, room, grows);
  }

-- ---- those that wait for the same wait no more

still-waits : (want : Want) (w : Option Want) → (not (wants want w) && is_some w) ≡ is_some (awake want w)
still-waits want None = refl
still-waits want (Some w) = elim (cases_Bool (want_eq want w)) [ inl e ↦ rw e refl | inr e ↦ rw e refl ]

module _ (want : Want) (ps : List ℕ) (ws ws' : List (Option Want)) (lists : Want → List ℕ) (numbers left : Numbers) (n : AreNumbers ws numbers) (t : IsTied ws lists) where
  pub numbers-woken : ps ≡ lists want → ws' ≡ map (awake want) ws → left.ready ≡ without_numbers ps numbers.ready → left.room ≡ numbers.room → AreNumbers ws' left
  numbers-woken listed woken taken same = record {
    among = λ p.
        let in_list : is_number_among p ps ≡ wants want (waiting_at ws p) = ap (is_number_among p) listed ∙ t.tied want p in
        ap (is_number_among p) taken ∙ among-without_many p ps numbers.ready
        ∙ ap (λ (b : Bool). not b && is_number_among p numbers.ready) in_list ∙ ap (λ (b : Bool). not (wants want (waiting_at ws p)) && b) (n.among p)
        ∙ still-waits want (waiting_at ws p) ∙ sym (ap is_some (ap (λ (os : List (Option Want)). waiting_at os p) woken ∙ waiting-awake want ws p));
    places = omega (arith, ap length woken, length-map ws (awake want), n.places, same);
  }
