-- An allocated cell is in COMMON or in a frame.
use Rattle.std.proofs.Common.{◌≡◌, ◌⊎◌, inl, inr, ℕ, ◌+◌, ◌-◌, ◌<◌, ◌≤◌, false, List, [], ◌∷◌, Some, None, arith, if◌then◌else◌}
use Rattle.std.proofs.Common.{nat_eq, nat_lt, refl, sym, ap, ◌∙◌}
use Rattle.std.proofs.lemmas.Bool.{cases_Bool, cases_lt, eq-eqb, eqb-true}
use Rattle.std.proofs.lemmas.Bool.Decides.{nat_tests}
use Rattle.std.proofs.lemmas.Option.{none-some}
use Rattle.hep_machine.specs.Words.{Frame, Layout, StandApart}
use Rattle.hep_arena.specs.Gaps.{frame_among, gap_before, gaps}
use Rattle.hep_arena.specs.Holes.{Hole, IsOut}
use Rattle.hep_layout.specs.Words.{AreSingle}

-- it is in the frame of an activation
pub record IsInFrame (layout : Layout) (c : ℕ) : Type 0 where
  pub frame : Frame
  pub there : frame_among frame.activation layout ≡ Some frame
  pub low : frame.first ≤ c
  pub high : c < frame.first + frame.cells

-- it is before a gap, or after it, and in none of the holes behind
before-or-after : (from to c : ℕ) (hs : List Hole) → IsOut c (gap_before from to hs) → from ≤ to → ((c < from) ⊎ (to ≤ c)) × IsOut c hs
before-or-after from to c hs out le =
    elim (cases_Bool (nat_lt from to)) [
      | inl less ↦ gap (rw less at out)
      | inr none ↦ (none-between (not-less none), rw none at out)
    ]
  where
    gap : IsOut c ((from, to - from) ∷ hs) → ((c < from) ⊎ (to ≤ c)) × IsOut c hs
    gap h = (elim h.0 [ inl low ↦ inl low | inr high ↦ inr (omega (arith, high, le)) ], h.1)

    not-less : nat_lt from to ≡ false → to ≤ from
    not-less none = grind (arith, nat_tests)

    none-between : to ≤ from → (c < from) ⊎ (to ≤ c)
    none-between same = elim (cases_lt c from) [ inl l ↦ inl l | inr l ↦ inr (omega (arith, l, same)) ]

-- the frame in front isn't one of those behind
found-behind : (f g : Frame) (fs : Layout) → frame_among f.activation fs ≡ None → frame_among g.activation fs ≡ Some g
    → frame_among g.activation (f ∷ fs) ≡ Some g
found-behind f g fs none there = elim (cases_Bool (nat_eq f.activation g.activation)) [
  | inl is ↦ absurd (none-some g (sym none ∙ ap (λ a. frame_among a fs) (eqb-true f.activation g.activation is) ∙ there))
  | inr other ↦ ap (λ b. if b then Some f else frame_among g.activation fs) other ∙ there
]

-- a cell that is in no gap
pub in-frame : (cells from c : ℕ) (layout : Layout) → StandApart cells from layout → AreSingle layout → c < cells
    → IsOut c (gaps cells from layout)
    → (c < from) ⊎ IsInFrame layout c
in-frame cells from c [] apart single inside out = elim (before-or-after from cells c [] out apart).0 [
  | inl low ↦ inl low
  | inr high ↦ absurd (omega (arith, high, inside))
]
in-frame cells from c (f ∷ fs) apart single inside out =
    let here = before-or-after from f.first c (gaps cells (f.first + f.cells) fs) out apart.0 in
    elim here.0 [
      | inl low ↦ inl low
      | inr high ↦ elim (in-frame cells (f.first + f.cells) c fs apart.2 single.1 inside here.1) [
        | inl low ↦ inr (record {
          frame = f;
          there = ap (λ b. if b then Some f else frame_among f.activation fs) (eq-eqb f.activation f.activation refl);
          low = high;
          high = low;
        })
        | inr found ↦ inr (record {
          frame = found.frame;
          there = found-behind f found.frame fs single.0 found.there;
          low = found.low;
          high = found.high;
        })
      ]
    ]
