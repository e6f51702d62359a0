-- The holes are the gaps of the layout, whatever is taken and given.
use Rattle.hep_arena.proofs.Taking.{holes_from_lower}
use Rattle.hep_arena.proofs.RowLengths.{BeginFrom}
use Rattle.std.proofs.lemmas.Bool.{cases_Bool, cond_both}
use Rattle.std.proofs.Common.{◌≡◌, inl, inr, ℕ, suc, ◌+◌, ◌-◌, ◌<◌, ◌≤◌, Bool, true, false, List, [], ◌∷◌, ◌++◌, Option, Some, None, refl, sym, ap, ◌∙◌, subst, arith, append_assoc, if◌then◌else◌, nat_eq, nat_le, nat_lt}
use Rattle.std.specs.List.{filter}
use Rattle.std.proofs.lemmas.Bool.Decides.{nat_tests}
use Rattle.std.proofs.lemmas.Option.{none-some}
use Rattle.hep_machine.specs.Words.{StandApart, Frame, Layout, lowest_gap, with_frame}
use Rattle.hep_arena.specs.Gaps.{frame_among, framed_cells, gap_before, gaps, given_back, without}
use Rattle.hep_arena.specs.Holes.{Hole, AreHoles, IsOut, first_fit, free_cells, given, joined, taken}
use Rattle.hep_machine.proofs.Frames.{apart_further, gap_after, chosen}

-- ---- the lowest gap is the first fit

fit-gap_before : (n from to : ℕ) (hs : List Hole) (o : Option ℕ) → 1 ≤ n → first_fit n hs ≡ o → first_fit n (gap_before from to hs) ≡ (if nat_le (from + n) to then Some from else o)
fit-gap_before n from to hs o one e = grind (arith, nat_tests)

pub fit-gaps : (cells n from : ℕ) (fs : Layout) → 1 ≤ n → first_fit n (gaps cells from fs) ≡ lowest_gap cells n from fs
fit-gaps cells n from [] one = fit-gap_before n from cells [] None one refl
fit-gaps cells n from (f ∷ fs) one = let e = f.first + f.cells in fit-gap_before n from f.first (gaps cells e fs) (lowest_gap cells n e fs) one (fit-gaps cells n e fs one)

-- ---- a new frame

-- a gap of which the front is taken
pub taken-gap_before : (n from to : ℕ) (hs : List Hole) → 1 ≤ n → from + n ≤ to → taken n (gap_before from to hs) ≡ gap_before (from + n) to hs
taken-gap_before n from to hs one le = grind (arith, nat_tests)

-- a gap that is too short
taken-short_gap : (n from to : ℕ) (hs : List Hole) → 1 ≤ n → nat_le (from + n) to ≡ false → taken n (gap_before from to hs) ≡ gap_before from to (taken n hs)
taken-short_gap n from to hs one short = grind (arith, nat_tests)

no-gap : (from : ℕ) (hs : List Hole) → gap_before from from hs ≡ hs
no-gap from hs = grind (arith, nat_tests)

pub taken-gaps : (cells a n from first : ℕ) (fs : Layout) → 1 ≤ n → StandApart cells from fs → lowest_gap cells n from fs ≡ Some first
    → taken n (gaps cells from fs) ≡ gaps cells from (with_frame fs (record { activation = a; first = first; cells = n }))
taken-gaps cells a n from first [] one h e =
    elim (chosen (nat_le (from + n) cells) from None first e) [
      | inl c ↦
          let fits : from + n ≤ cells = grind (arith, nat_tests, c.0) in
          rw (← c.1) (taken-gap_before n from cells [] one fits ∙ sym (no-gap from (gap_before (from + n) cells [])))
      | inr c ↦ absurd (none-some first c.1)
    ]
taken-gaps cells a n from first (f ∷ fs) one h e =
    let rest = gaps cells (f.first + f.cells) fs in
    elim (chosen (nat_le (from + n) f.first) from (lowest_gap cells n (f.first + f.cells) fs) first e) [
      | inl c ↦
          let fits : from + n ≤ f.first = grind (arith, nat_tests, c.0) in
          let before : nat_lt first f.first ≡ true = grind (arith, nat_tests, c.1) in
          rw before (rw (← c.1) (taken-gap_before n from f.first rest one fits ∙ sym (no-gap from (gap_before (from + n) f.first rest))))
      | inr c ↦
          let rest_after = gap_after cells n (f.first + f.cells) fs first h.2 c.1 in
          let behind : nat_lt first f.first ≡ false = grind (arith, nat_tests, h.1) in
          rw behind (taken-short_gap n from f.first rest one c.0 ∙ ap (gap_before from f.first) (taken-gaps cells a n (f.first + f.cells) first fs one h.2 c.1))
    ]

-- ---- a frame that leaves

begin-lower : (low high : ℕ) (hs : List Hole) → low ≤ high → BeginFrom high hs → BeginFrom low hs
begin-lower low high [] le k = tt
begin-lower low high (h ∷ hs) le k = omega (arith, k)

begin-gaps : (cells from : ℕ) (fs : Layout) → StandApart cells from fs → BeginFrom from (gaps cells from fs)
begin-gaps cells from [] h = elim (nat_lt from cells) as (λ (b : Bool). BeginFrom from (if b then (from, cells - from) ∷ [] else [])) [ true ↦ omega arith | false ↦ tt ]
begin-gaps cells from (f ∷ fs) h =
    let rest = gaps cells (f.first + f.cells) fs in
    elim (nat_lt from f.first) as (λ (b : Bool). BeginFrom from (if b then (from, f.first - from) ∷ rest else rest))
    [ true ↦ omega arith | false ↦ begin-lower from (f.first + f.cells) rest (omega (arith, h.0)) (begin-gaps cells (f.first + f.cells) fs h.2) ]

joined-alone : (from n end : ℕ) (hs : List Hole) → from + n ≡ end → BeginFrom (suc end) hs → joined (from, n) hs ≡ (from, n) ∷ hs
joined-alone from n end [] e k = refl
joined-alone from n end (h ∷ hs) e k = grind (arith, nat_tests)

-- the cells up to an index, with the gap after it
joined-gap_before : (from e to : ℕ) (hs : List Hole) → from < e → e ≤ to → BeginFrom (suc e) hs → joined (from, e - from) (gap_before e to hs) ≡ gap_before from to hs
joined-gap_before from e to hs some le k = grind (arith, nat_tests, joined-alone from (e - from) e hs (omega arith) k)

joined-gaps : (cells from e : ℕ) (fs : Layout) → from < e → StandApart cells e fs → joined (from, e - from) (gaps cells e fs) ≡ gaps cells from fs
joined-gaps cells from e [] some h = joined-gap_before from e cells [] some h tt
joined-gaps cells from e (f ∷ fs) some h =
    let rest = gaps cells (f.first + f.cells) fs in
    joined-gap_before from e f.first rest some h.0 (begin-lower (suc e) (f.first + f.cells) rest (omega (arith, h.0, h.1)) (begin-gaps cells (f.first + f.cells) fs h.2))

given-in_front : (b : Hole) (hs : List Hole) → BeginFrom (suc b.0) hs → given b hs ≡ joined b hs
given-in_front b [] k = refl
given-in_front b (h ∷ hs) k = grind (arith, nat_tests)

-- the first frame
given-first : (cells from : ℕ) (f : Frame) (fs : Layout) → StandApart cells from (f ∷ fs) → given (f.first, f.cells) (gaps cells from (f ∷ fs)) ≡ gaps cells from fs
given-first cells from f fs h =
    let rest = gaps cells (f.first + f.cells) fs in
    let later = begin-lower (suc f.first) (f.first + f.cells) rest (omega (arith, h.1)) (begin-gaps cells (f.first + f.cells) fs h.2) in
    grind (arith, nat_tests, h.0, h.1, given-in_front (f.first, f.cells) rest later, joined-gaps cells from (f.first + f.cells) fs (omega (arith, h.0, h.1)) h.2)

-- frames in front of others begin below them
begin-above : (cells from : ℕ) (front : Layout) (f : Frame) (back : Layout) → StandApart cells from (front ++ f ∷ back) → from ≤ f.first
begin-above cells from [] f back h = h.0
begin-above cells from (g ∷ front) f back h = omega (arith, h.0, begin-above cells (g.first + g.cells) front f back h.2)

pub given-gaps : (cells from : ℕ) (front : Layout) (f : Frame) (back : Layout) → StandApart cells from (front ++ f ∷ back) → given (f.first, f.cells) (gaps cells from (front ++ f ∷ back)) ≡ gaps cells from (front ++ back)
given-gaps cells from [] f back h = given-first cells from f back h
given-gaps cells from (g ∷ front) f back h =
    grind (arith, nat_tests, h.1, given-gaps cells (g.first + g.cells) front f back h.2, begin-above cells (g.first + g.cells) front f back h.2)

apart-without : (cells from : ℕ) (front : Layout) (f : Frame) (back : Layout) → StandApart cells from (front ++ f ∷ back) → StandApart cells from (front ++ back)
apart-without cells from [] f back h = apart_further cells from (f.first + f.cells) back (omega (arith, h.0)) h.2
apart-without cells from (g ∷ front) f back h = (h.0, h.1, apart-without cells (g.first + g.cells) front f back h.2)

-- a frame among others, and the layout without it
pub record IsCut (a : ℕ) (f : Frame) (fs : Layout) : Type 0 where
  pub front : Layout
  pub back : Layout
  pub all : fs ≡ front ++ f ∷ back
  pub rest : without a fs ≡ front ++ back

pub cut : (a : ℕ) (f : Frame) (fs : Layout) → frame_among a fs ≡ Some f → IsCut a f fs
cut a f [] e = absurd (none-some f e)
cut a f (g ∷ gs) e = elim (chosen (nat_eq g.activation a) g (frame_among a gs) f e) [
  | inl c ↦ record { front = []; back = gs; all = ap (λ (z : Frame). z ∷ gs) c.1; rest = rw c.0 refl }
  | inr c ↦ let r = cut a f gs c.1 in record { front = g ∷ r.front; back = r.back; all = ap (λ (l : Layout). g ∷ l) r.all; rest = rw c.0 (ap (λ (l : Layout). g ∷ l) r.rest) }
]

-- the frame of an activation
pub given-without : (cells from a : ℕ) (fs : Layout) (f : Frame) → StandApart cells from fs → frame_among a fs ≡ Some f → given (f.first, f.cells) (gaps cells from fs) ≡ gaps cells from (without a fs)
given-without cells from a fs f h e =
    let c = cut a f fs e in
    ap (λ (l : Layout). given (f.first, f.cells) (gaps cells from l)) c.all ∙ given-gaps cells from c.front f c.back (subst (StandApart cells from) c.all h) ∙ ap (gaps cells from) (sym c.rest)

-- all frames for which a test fails
given-all : (cells from : ℕ) (keeps : Frame → Bool) (front fs : Layout) → StandApart cells from (front ++ fs) → given_back keeps fs (gaps cells from (front ++ fs)) ≡ gaps cells from (front ++ filter keeps fs)
given-all cells from keeps front [] h = refl
given-all cells from keeps front (f ∷ fs) h =
    let one : front ++ f ∷ fs ≡ (front ++ f ∷ []) ++ fs = sym (append_assoc front (f ∷ []) fs) in
    elim (cases_Bool (keeps f)) [
      | inl k ↦ rw (k, one) (given-all cells from keeps (front ++ f ∷ []) fs (rw one at h) ∙ ap (gaps cells from) (append_assoc front (f ∷ []) (filter keeps fs)))
      | inr k ↦ rw k (ap (given_back keeps fs) (given-gaps cells from front f fs h) ∙ given-all cells from keeps front fs (apart-without cells from front f fs h))
    ]

pub given-remaining_layout : (cells from : ℕ) (keeps : Frame → Bool) (fs : Layout) → StandApart cells from fs → given_back keeps fs (gaps cells from fs) ≡ gaps cells from (filter keeps fs)
given-remaining_layout cells from keeps fs h = given-all cells from keeps [] fs h

-- ---- cells

pub apart-end : (cells from : ℕ) (fs : Layout) → StandApart cells from fs → from ≤ cells
apart-end cells from [] h = h
apart-end cells from (f ∷ fs) h = omega (arith, h.0, apart-end cells (f.first + f.cells) fs h.2)

pub gaps-holes : (cells from : ℕ) (fs : Layout) → StandApart cells from fs → AreHoles from cells (gaps cells from fs)
gaps-holes cells from [] h = elim (cases_Bool (nat_lt from cells)) [ inl l ↦ rw l (omega arith, grind (arith, nat_tests), grind (arith, nat_tests), tt) | inr l ↦ rw l tt ]
gaps-holes cells from (f ∷ fs) h =
    let rest = gaps cells (f.first + f.cells) fs in
    let more = gaps-holes cells (f.first + f.cells) fs h.2 in
    let inside = apart-end cells (f.first + f.cells) fs h.2 in
    elim (cases_Bool (nat_lt from f.first)) [
      | inl l ↦ let less : from < f.first = grind (arith, nat_tests) in rw l (omega arith, omega arith, omega (arith, inside), holes_from_lower (f.first + f.cells) (from + (f.first - from) + 1) cells rest (omega (arith, h.1)) more)
      | inr l ↦ rw l (holes_from_lower (f.first + f.cells) from cells rest (omega (arith, h.0)) more)
    ]

pub front-out : (cells from k : ℕ) (fs : Layout) → StandApart cells from fs → k < from → IsOut k (gaps cells from fs)
front-out cells from k [] h l = cond_both (nat_lt from cells) ((from, cells - from) ∷ []) [] (IsOut k) (λ e. (inl l, tt)) (λ e. tt)
front-out cells from k (f ∷ fs) h l =
    let rest = gaps cells (f.first + f.cells) fs in
    let out = front-out cells (f.first + f.cells) k fs h.2 (omega (arith, h.0)) in
    cond_both (nat_lt from f.first) ((from, f.first - from) ∷ rest) rest (IsOut k) (λ e. (inl l, out)) (λ e. out)

pub frame-out : (cells from k : ℕ) (front : Layout) (f : Frame) (back : Layout) → StandApart cells from (front ++ f ∷ back) → f.first ≤ k → k < f.first + f.cells → IsOut k (gaps cells from (front ++ f ∷ back))
frame-out cells from k [] f back h low high =
    let rest = gaps cells (f.first + f.cells) back in
    let out = front-out cells (f.first + f.cells) k back h.2 high in
    cond_both (nat_lt from f.first) ((from, f.first - from) ∷ rest) rest (IsOut k) (λ e. (inr (omega (arith, h.0)), out)) (λ e. out)
frame-out cells from k (g ∷ front) f back h low high =
    let rest = gaps cells (g.first + g.cells) (front ++ f ∷ back) in
    let out = frame-out cells (g.first + g.cells) k front f back h.2 low high in
    let far = begin-above cells (g.first + g.cells) front f back h.2 in
    cond_both (nat_lt from g.first) ((from, g.first - from) ∷ rest) rest (IsOut k) (λ e. (inr (omega (arith, h.0)), out)) (λ e. out)

free-gap_before : (from to : ℕ) (hs : List Hole) → from ≤ to → free_cells (gap_before from to hs) + from ≡ to + free_cells hs
free-gap_before from to hs le = grind (arith, nat_tests)

pub gaps-cells : (cells from : ℕ) (fs : Layout) → StandApart cells from fs → free_cells (gaps cells from fs) + (from + framed_cells fs) ≡ cells
gaps-cells cells from [] h = omega (arith, free-gap_before from cells [] h)
gaps-cells cells from (f ∷ fs) h = omega (arith, free-gap_before from f.first (gaps cells (f.first + f.cells) fs) h.0, gaps-cells cells (f.first + f.cells) fs h.2)
