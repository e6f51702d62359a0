-- What taking and giving make of the first hole, by cases.
use Rattle.std.proofs.Common.{◌≡◌, ◌⊎◌, inl, inr, ℕ, ◌+◌, ◌-◌, ◌<◌, ◌≤◌, List, ◌∷◌, Some, if◌then◌else◌, nat_eq, nat_le, nat_lt}
use Rattle.std.proofs.lemmas.Bool.{cond_both, eqb-false, eqb-true, leb-false, leb-true, ltb-false, ltb-true}
use Rattle.hep_arena.specs.Holes.{Hole, first_fit, given, joined, shortened, taken}
use Rattle.hep_machine.proofs.Frames.{chosen}

-- the first hole is long enough, or another one is the first that is
pub fit-cases : (n at : ℕ) (h : Hole) (hs : List Hole) → first_fit n (h ∷ hs) ≡ Some at → ((n ≤ h.1) × (h.0 ≡ at)) ⊎ ((h.1 < n) × (first_fit n hs ≡ Some at))
fit-cases n at h hs e = elim (chosen (nat_le n h.1) h.0 (first_fit n hs) at e) [ inl c ↦ inl (leb-true n h.1 c.0, c.1) | inr c ↦ inr (leb-false n h.1 c.0, c.1) ]

module _ (P : List Hole → Type 0) where
  pub shortened-cases : (n : ℕ) (h : Hole) (hs : List Hole) → (h.1 ≡ n → P hs) → ((h.1 ≡ n → ⊥) → P ((h.0 + n, h.1 - n) ∷ hs)) → P (shortened n h hs)
  shortened-cases n h hs all part = cond_both (nat_eq h.1 n) hs ((h.0 + n, h.1 - n) ∷ hs) P (λ e. all (eqb-true h.1 n e)) (λ e. part (eqb-false h.1 n e))

  pub taken-cases : (n : ℕ) (h : Hole) (hs : List Hole) → (n ≤ h.1 → P (shortened n h hs)) → (h.1 < n → P (h ∷ taken n hs)) → P (taken n (h ∷ hs))
  taken-cases n h hs fits short = cond_both (nat_le n h.1) (shortened n h hs) (h ∷ taken n hs) P (λ e. fits (leb-true n h.1 e)) (λ e. short (leb-false n h.1 e))

  pub joined-cases : (b h : Hole) (hs : List Hole) → (b.0 + b.1 ≡ h.0 → P ((b.0, b.1 + h.1) ∷ hs)) → ((b.0 + b.1 ≡ h.0 → ⊥) → P (b ∷ h ∷ hs)) → P (joined b (h ∷ hs))
  joined-cases b h hs touch apart =
      cond_both (nat_eq (b.0 + b.1) h.0) ((b.0, b.1 + h.1) ∷ hs) (b ∷ h ∷ hs) P (λ e. touch (eqb-true (b.0 + b.1) h.0 e)) (λ e. apart (eqb-false (b.0 + b.1) h.0 e))

  -- the cells lie in front of the first hole, touch its end, or lie further behind
  pub given-cases : (b h : Hole) (hs : List Hole) → (b.0 < h.0 → P (joined b (h ∷ hs))) → (h.0 ≤ b.0 → h.0 + h.1 ≡ b.0 → P (joined (h.0, h.1 + b.1) hs)) → (h.0 ≤ b.0 → (h.0 + h.1 ≡ b.0 → ⊥) → P (h ∷ given b hs)) → P (given b (h ∷ hs))
  given-cases b h hs front touch behind =
      let rest = if nat_eq (h.0 + h.1) b.0 then joined (h.0, h.1 + b.1) hs else h ∷ given b hs in
      cond_both (nat_lt b.0 h.0) (joined b (h ∷ hs)) rest P (λ e. front (ltb-true b.0 h.0 e)) (λ e.
      let up = ltb-false b.0 h.0 e in
      cond_both (nat_eq (h.0 + h.1) b.0) (joined (h.0, h.1 + b.1) hs) (h ∷ given b hs) P (λ d. touch up (eqb-true (h.0 + h.1) b.0 d)) (λ d. behind up (eqb-false (h.0 + h.1) b.0 d)))
