-- The cells of ranges are emptied, and no others.
use Rattle.std.proofs.Common.{◌≡◌, ◌⊎◌, inl, inr, ℕ, zero, suc, ◌+◌, ◌<◌, ◌≤◌, Bool, true, false, List, [], ◌∷◌, length, Some, refl, sym, ap, ◌∙◌, true≢false, arith, slice_get, slice_set, nat_le, nat_lt, ◌||◌, length-set}
use Rattle.std.specs.Option.{unwrap_or}
use Rattle.std.proofs.lemmas.Bool.{and_from, and_parts, cases_eq, or_parts}
use Rattle.std.proofs.lemmas.Bool.Decides.{nat_tests}
use Rattle.std.proofs.lemmas.Option.{slice_get_within}
use Rattle.hep_machine.specs.declared.slot.Slot.{Slot}
use Rattle.hep_machine.specs.Words.{purged_cell, unset_cell}
use Rattle.hep_arena.proofs.Lists.{get-set_other, get-set_same}
use Rattle.hep_image.specs.Addressing.{cells_in}
use Rattle.hep_step.specs.declared.closed_range.ClosedRange.{ClosedRange}
use Rattle.hep_step.specs.PurgeEffects.{has_cell, have_cell, purged, purged_from}

-- ---- one range

-- the first cell, and then the others
pub purged_from-first : (n m at : ℕ) (contents : List Slot) → n ≡ suc m → purged_from n at contents ≡ purged_from m (suc at) (slice_set contents at (purged_cell (cells_in contents at)))
purged_from-first n m at contents e = ap (λ k. purged_from k at contents) e

pub length-purged_from : (n at : ℕ) (contents : List Slot) → length (purged_from n at contents) ≡ length contents
length-purged_from zero at contents = refl
length-purged_from (suc n) at contents =
    let cell = purged_cell (cells_in contents at) in
    length-purged_from n (suc at) (slice_set contents at cell) ∙ length-set contents at cell

elsewhere_from : (n at : ℕ) (contents : List Slot) (p : ℕ) → (at ≤ p → p < at + n → ⊥) → slice_get (purged_from n at contents) p ≡ slice_get contents p
elsewhere_from zero at contents p outside = refl
elsewhere_from (suc n) at contents p outside =
    let cell = purged_cell (cells_in contents at) in
    elsewhere_from n (suc at) (slice_set contents at cell) p (λ above below. outside (omega (arith, above)) (omega (arith, below)))
    ∙ get-set_other contents at p cell (λ same. outside (omega (arith, same)) (omega (arith, same)))

within_from : (n at : ℕ) (contents : List Slot) (p : ℕ) (slot : Slot) → at ≤ p → p < at + n → slice_get contents p ≡ Some slot → slice_get (purged_from n at contents) p ≡ Some (purged_cell slot)
within_from zero at contents p slot above below there = absurd (omega (arith, above, below))
within_from (suc n) at contents p slot above below there = by_place (cases_eq p at) (within_from n (suc at) (slice_set contents at (purged_cell (cells_in contents at))) p slot) where
  cell : Slot
  cell = purged_cell (cells_in contents at)

  after : List Slot
  after = slice_set contents at cell

  by_place : (p ≡ at) ⊎ (p ≡ at → ⊥) → (suc at ≤ p → p < suc at + n → slice_get after p ≡ Some slot → slice_get (purged_from n (suc at) after) p ≡ Some (purged_cell slot)) → slice_get (purged_from n (suc at) after) p ≡ Some (purged_cell slot)
  by_place (inl same) rest =
      let here : slice_get contents at ≡ Some slot = ap (slice_get contents) (sym same) ∙ there in
      let inside = slice_get_within contents at slot here in
      elsewhere_from n (suc at) after p (λ above below. omega (arith, same, above))
      ∙ (ap (slice_get after) same ∙ (get-set_same contents at cell inside ∙ ap (λ o. Some (purged_cell (unwrap_or o unset_cell))) here))
  by_place (inr other) rest = rest (omega (arith, above, other)) (omega (arith, below)) (get-set_other contents at p cell other ∙ there)

-- ---- all ranges

pub length-purged : (ranges : List ClosedRange) (contents : List Slot) → length (purged ranges contents) ≡ length contents
length-purged [] contents = refl
length-purged (r ∷ rs) contents = length-purged rs (purged_from r.cells r.first contents) ∙ length-purged_from r.cells r.first contents

-- ---- whose a cell is

has-cell : (r : ClosedRange) (p : ℕ) → has_cell r p ≡ true → (r.first ≤ p) × (p < r.first + r.cells)
has-cell r p e =
    let both = and_parts (nat_le r.first p) (nat_lt p (r.first + r.cells)) e in
    (grind (arith, nat_tests, both.0), grind (arith, nat_tests, both.1))

has-no-cell : (r : ClosedRange) (p : ℕ) → has_cell r p ≡ false → r.first ≤ p → p < r.first + r.cells → ⊥
has-no-cell r p e from to = true≢false (sym (and_from (nat_le r.first p) (nat_lt p (r.first + r.cells)) (grind (arith, nat_tests, from)) (grind (arith, nat_tests, to))) ∙ e)

pub emptied-elsewhere : (ranges : List ClosedRange) (contents : List Slot) (p : ℕ) → have_cell ranges p ≡ false → slice_get (purged ranges contents) p ≡ slice_get contents p
emptied-elsewhere [] contents p e = refl
emptied-elsewhere (r ∷ rs) contents p e =
    let none = or_parts (has_cell r p) (have_cell rs p) e in
    emptied-elsewhere rs (purged_from r.cells r.first contents) p none.1 ∙ elsewhere_from r.cells r.first contents p (has-no-cell r p none.0)

-- to purge a cell once more changes nothing
pub emptied-within : (ranges : List ClosedRange) (contents : List Slot) (p : ℕ) (slot : Slot) → have_cell ranges p ≡ true → slice_get contents p ≡ Some slot → slice_get (purged ranges contents) p ≡ Some (purged_cell slot)
emptied-within [] contents p slot e there = absurd cc
emptied-within (r ∷ rs) contents p slot e there = by_tests (has_cell r p) (have_cell rs p) refl refl e (emptied-within rs after p) where
  after : List Slot
  after = purged_from r.cells r.first contents

  here : has_cell r p ≡ true → slice_get after p ≡ Some (purged_cell slot)
  here f = let this = has-cell r p f in within_from r.cells r.first contents p slot this.0 this.1 there

  by_tests : (b c : Bool) → has_cell r p ≡ b → have_cell rs p ≡ c → (b || c) ≡ true
      → ((z : Slot) → have_cell rs p ≡ true → slice_get after p ≡ Some z → slice_get (purged rs after) p ≡ Some (purged_cell z)) → slice_get (purged rs after) p ≡ Some (purged_cell slot)
  by_tests true true f g e rest = rest (purged_cell slot) g (here f)
  by_tests true false f g e rest = emptied-elsewhere rs after p g ∙ here f
  by_tests false true f g e rest = rest slot g (elsewhere_from r.cells r.first contents p (has-no-cell r p f) ∙ there)
  by_tests false false f g e rest = absurd cc
