-- Frames of a layout: which one an activation has, and how they lie.
use Rattle.std.proofs.Common.{◌≡◌, ◌⊎◌, inl, inr, ℕ, ◌+◌, ◌<◌, ◌≤◌, true, false, [], ◌∷◌, Some, None, refl, sym, ◌∙◌, subst, arith, if◌then◌else◌, nat_eq, nat_le, nat_lt}
use Rattle.std.proofs.lemmas.Bool.{eqb-true, cond_both}
use Rattle.std.proofs.lemmas.Bool.Decides.{nat_tests}
use Rattle.std.proofs.lemmas.Option.{none-some}
use Rattle.hep_machine.specs.Words.{StandApart, Frame, Layout, lowest_gap, with_frame}
use Rattle.hep_arena.specs.Gaps.{frame_among, gaps, without}
use Rattle.hep_arena.specs.Holes.{IsOut}
use Rattle.hep_arena.proofs.Gaps.{apart-end, cut, frame-out}
use Rattle.hep_layout.specs.Words.{AreSingle}
use Rattle.hep_machine.proofs.Frames.{apart_further, gap_after, chosen}

-- ---- the frame of an activation

pub record IsAmong (cells from a : ℕ) (f : Frame) : Type 0 where
  pub owner : f.activation ≡ a
  pub behind : from ≤ f.first
  pub some : 0 < f.cells
  pub inside : f.first + f.cells ≤ cells

pub among : (cells from a : ℕ) (fs : Layout) (f : Frame) → StandApart cells from fs → frame_among a fs ≡ Some f → IsAmong cells from a f
among cells from a [] f h e = absurd (none-some f e)
among cells from a (g ∷ gs) f h e = elim (chosen (nat_eq g.activation a) g (frame_among a gs) f e) [
  | inl c ↦ subst (IsAmong cells from a) c.1 (record { owner = eqb-true g.activation a c.0; behind = h.0; some = h.1; inside = apart-end cells (g.first + g.cells) gs h.2 })
  | inr c ↦ let r = among cells (g.first + g.cells) a gs f h.2 c.1 in record { owner = r.owner; behind = omega (arith, h.0, r.behind); some = r.some; inside = r.inside }
]

-- the frames of two activations share no cell
pub apart-frames : (cells from a b : ℕ) (fs : Layout) (f g : Frame) → StandApart cells from fs → frame_among a fs ≡ Some f → frame_among b fs ≡ Some g → (a ≡ b) ⊎ ((f.first + f.cells ≤ g.first) ⊎ (g.first + g.cells ≤ f.first))
apart-frames cells from a b [] f g h d e = absurd (none-some f d)
apart-frames cells from a b (r ∷ rs) f g h d e =
    let behind : (c : ℕ) (k : Frame) → frame_among c rs ≡ Some k → r.first + r.cells ≤ k.first = λ c k there. (among cells (r.first + r.cells) c rs k h.2 there).behind in
    elim (chosen (nat_eq r.activation a) r (frame_among a rs) f d) [
      | inl c ↦ elim (chosen (nat_eq r.activation b) r (frame_among b rs) g e) [
        | inl k ↦ inl (sym (eqb-true r.activation a c.0) ∙ eqb-true r.activation b k.0)
        | inr k ↦ inr (inl (rw (← c.1) (behind b g k.1)))
      ]
      | inr c ↦ elim (chosen (nat_eq r.activation b) r (frame_among b rs) g e) [
        | inl k ↦ inr (inr (rw (← k.1) (behind a f c.1)))
        | inr k ↦ apart-frames cells (r.first + r.cells) a b rs f g h.2 c.1 k.1
      ]
    ]

-- its cells are out of the gaps
pub among-out : (cells from a p : ℕ) (fs : Layout) (f : Frame) → StandApart cells from fs → frame_among a fs ≡ Some f → f.first ≤ p → p < f.first + f.cells → IsOut p (gaps cells from fs)
among-out cells from a p fs f h e low high =
    let c = cut a f fs e in
    subst (λ (l : Layout). IsOut p (gaps cells from l)) (sym c.all) (frame-out cells from p c.front f c.back (subst (StandApart cells from) c.all h) low high)

-- ---- a frame enters

pub among-with_frame : (a : ℕ) (fs : Layout) (f : Frame) → frame_among f.activation fs ≡ None → frame_among a (with_frame fs f) ≡ (if nat_eq f.activation a then Some f else frame_among a fs)
among-with_frame a [] f none = refl
among-with_frame a (g ∷ gs) f none = grind (arith, nat_tests, among-with_frame a gs f)

pub single-with_frame : (fs : Layout) (f : Frame) → AreSingle fs → frame_among f.activation fs ≡ None → AreSingle (with_frame fs f)
single-with_frame [] f h none = (refl, tt)
single-with_frame (g ∷ gs) f h none =
    let others : frame_among f.activation gs ≡ None = grind arith in
    cond_both (nat_lt f.first g.first) (f ∷ (g ∷ gs)) (g ∷ with_frame gs f) AreSingle (λ e. (none, h)) (λ e. (grind (arith, nat_tests, h.0, among-with_frame g.activation gs f others), single-with_frame gs f h.1 others))

pub apart-with_frame : (cells from : ℕ) (fs : Layout) (f : Frame) → 0 < f.cells → StandApart cells from fs → lowest_gap cells f.cells from fs ≡ Some f.first → StandApart cells from (with_frame fs f)
apart-with_frame cells from [] f some h e = (grind (arith, nat_tests), some, grind (arith, nat_tests))
apart-with_frame cells from (g ∷ gs) f some h e = elim (chosen (nat_le (from + f.cells) g.first) from (lowest_gap cells f.cells (g.first + g.cells) gs) f.first e) [
  | inl c ↦
      let fits : f.first + f.cells ≤ g.first = grind (arith, nat_tests, c.0, c.1) in
      let before : nat_lt f.first g.first ≡ true = grind (arith, nat_tests) in
      rw before (omega (arith, c.1), some, (fits, h.1, h.2))
  | inr c ↦
      let behind = gap_after cells f.cells (g.first + g.cells) gs f.first h.2 c.1 in
      let before : nat_lt f.first g.first ≡ false = grind (arith, nat_tests) in
      rw before (h.0, h.1, apart-with_frame cells (g.first + g.cells) gs f some h.2 c.1)
]

-- ---- a frame leaves

pub among-without : (a b : ℕ) (fs : Layout) → AreSingle fs → frame_among b (without a fs) ≡ (if nat_eq a b then None else frame_among b fs)
among-without a b [] h = grind arith
among-without a b (g ∷ gs) h = grind (arith, nat_tests, among-without a b gs h.1, h.0)

pub single-without : (a : ℕ) (fs : Layout) → AreSingle fs → AreSingle (without a fs)
single-without a [] h = tt
single-without a (g ∷ gs) h =
    cond_both (nat_eq g.activation a) gs (g ∷ without a gs) AreSingle (λ e. h.1) (λ e. (grind (arith, h.0, among-without a g.activation gs h.1), single-without a gs h.1))

pub apart-without : (cells from a : ℕ) (fs : Layout) → StandApart cells from fs → StandApart cells from (without a fs)
apart-without cells from a [] h = h
apart-without cells from a (g ∷ gs) h =
    cond_both (nat_eq g.activation a) gs (g ∷ without a gs) (StandApart cells from)
    (λ e. apart_further cells from (g.first + g.cells) gs (omega (arith, h.0)) h.2) (λ e. (h.0, h.1, apart-without cells (g.first + g.cells) a gs h.2))
