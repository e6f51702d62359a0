-- Which processes are out, after a ticket more and after a process that came back; and which of them still live.
use Rattle.std.proofs.Common.{◌≡◌, ◌≢◌, ◌⊎◌, ℕ, ◌&&◌, ◌||◌, Bool, true, false, List, [], ◌∷◌, ◌++◌, inl, inr, refl, sym, ap, ◌∙◌, nat_eq, not}
use Rattle.std.specs.List.{filter}
use Rattle.std.proofs.lemmas.Bool.{cases_Bool, cases_eq, ne_eqb, eq-eqb}
use Rattle.hep_commit.specs.TicketId.{TicketId}
use Rattle.hep_core.specs.Tickets.{has_ticket, is_out, without_process}

both-of : (a b c d : Bool) → ((a && b) || c) ≡ true → (c ≡ true → d ≡ true) → (a || d) ≡ true
both-of true b c d is further = refl
both-of false b c d is further = further is

-- the ticket that is out for a process is of one that is out
pub out-by : (id : TicketId) (out : List TicketId) → has_ticket id out ≡ true → is_out id.process out ≡ true
out-by id [] is = is
out-by id (t ∷ ts) is =
    both-of (nat_eq t.process id.process) (nat_eq t.number id.number) (has_ticket id ts) (is_out id.process ts) is (out-by id ts)

pub out-more : (p : ℕ) (id : TicketId) (out : List TicketId) → is_out p (out ++ id ∷ []) ≡ true → (is_out p out ≡ true) ⊎ (id.process ≡ p)
out-more p id [] is = elim (cases_eq id.process p) [
  | inl same ↦ inr same
  | inr apart ↦ absurd (apart-out (rw (ne_eqb id.process p apart) at is))
] where
  apart-out : (false || false) ≡ true → ⊥
  apart-out e = cc
out-more p id (t ∷ ts) is = elim (cases_Bool (nat_eq t.process p)) [
  | inl same ↦ inl (rw same refl)
  | inr apart ↦ elim (out-more p id ts (rw apart at is)) [
    | inl before ↦ inl (rw apart before)
    | inr new ↦ inr new
  ]
]

-- those that are still out were out before, and are others
pub out-still : (p q : ℕ) (out : List TicketId) → is_out q (without_process p out) ≡ true → (is_out q out ≡ true) × (p ≢ q)
out-still p q [] is = absurd cc
out-still p q (t ∷ ts) is = elim (cases_eq t.process p) [
  | inl same ↦
      let rest = out-still p q ts (rw (eq-eqb t.process p same) at is) in
      (or-true (nat_eq t.process q) rest.0, rest.1)
  | inr apart ↦ elim (cases_eq t.process q) [
    | inl here ↦ (rw (eq-eqb t.process q here) refl, λ same. apart (here ∙ sym same))
    | inr other ↦
        let rest = out-still p q ts (rw (ne_eqb t.process p apart, ne_eqb t.process q other) at is) in
        (or-true (nat_eq t.process q) rest.0, rest.1)
  ]
] where
  or-true : (a : Bool) {b : Bool} → b ≡ true → (a || b) ≡ true
  or-true true e = refl
  or-true false e = e

-- one that came back isn't out
pub home-again : (p : ℕ) (out : List TicketId) → is_out p (without_process p out) ≡ false
home-again p [] = refl
home-again p (t ∷ ts) = elim (cases_eq t.process p) [
  | inl same ↦ rw (eq-eqb t.process p same) (home-again p ts)
  | inr other ↦ rw (ne_eqb t.process p other, ne_eqb t.process p other) (home-again p ts)
]

-- without one that isn't out it is the same
pub without-home : (p : ℕ) (out : List TicketId) → is_out p out ≡ false → without_process p out ≡ out
without-home p [] home = refl
without-home p (t ∷ ts) home = elim (cases_Bool (nat_eq t.process p)) [
  | inl same ↦ absurd cc
  | inr other ↦ rw other (ap (λ rest. t ∷ rest) (without-home p ts (rw other at home)))
]

-- a ticket more of one that isn't out, and without it again
pub home-left : (p : ℕ) (id : TicketId) (out : List TicketId) → id.process ≡ p → is_out p out ≡ false → without_process p (out ++ id ∷ []) ≡ out
home-left p id [] own home = rw (eq-eqb id.process p own) refl
home-left p id (t ∷ ts) own home = elim (cases_Bool (nat_eq t.process p)) [
  | inl same ↦ absurd cc
  | inr other ↦ rw other (ap (λ rest. t ∷ rest) (home-left p id ts own (rw other at home)))
]

-- where nobody is out, all that are ready are free
pub all_free : (ps : List ℕ) (out : List TicketId) → out ≡ [] → filter (λ p. not (is_out p out)) ps ≡ ps
all_free ps out none = ap (λ ts. filter (λ p. not (is_out p ts)) ps) none ∙ whole ps where
  whole : (qs : List ℕ) → filter (λ p. not (is_out p [])) qs ≡ qs
  whole [] = refl
  whole (q ∷ qs) = ap (λ rest. q ∷ rest) (whole qs)
