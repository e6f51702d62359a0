-- Frames lie apart after any turns.
use Rattle.std.proofs.Common.{◌≡◌, ◌⊎◌, inl, inr, ℕ, ◌+◌, ◌<◌, ◌≤◌, Bool, true, false, List, [], ◌∷◌, length, Option, Some, None, refl, subst, arith, if◌then◌else◌, nat_le, nat_lt}
use Rattle.std.specs.List.{filter}
use Rattle.std.specs.Option.{option_map}
use Rattle.std.proofs.lemmas.Bool.Decides.{nat_tests}
use Rattle.std.proofs.lemmas.Option.{same_Some, none-some}
use Rattle.hep_machine.specs.Words.{StandApart, Frame, Layout, Placing, lowest_gap, with_frame, layout_with_activation, frame_of, with_new, remaining_layout, opening_layout, layout_after_turn, placing_turn, placing_from, layout_of, common_cells, opening, state_after_turn, State, Units}

-- ---- choices

-- a choice between two options that has a value has it by the one that was chosen
pub chosen : {A : Type 0} (b : Bool) (x : A) (o : Option A) (y : A) → (if b then Some x else o) ≡ Some y → ((b ≡ true) × (x ≡ y)) ⊎ ((b ≡ false) × (o ≡ Some y))
chosen true x o y e = inl (refl, same_Some x y e)
chosen false x o y e = inr (refl, e)

pub mapped_from : {A B : Type 0} (f : A → B) (o : Option A) (y : B) → option_map f o ≡ Some y → (x : A) × (o ≡ Some x) × (f x ≡ y)
mapped_from f None y e = absurd (none-some y e)
mapped_from f (Some x) y e = (x, refl, same_Some (f x) y e)

-- ---- a new frame

pub gap_after : (cells n from : ℕ) (fs : Layout) (first : ℕ) → StandApart cells from fs → lowest_gap cells n from fs ≡ Some first → from ≤ first
gap_after cells n from [] first h e =
    elim (chosen (nat_le (from + n) cells) from None first e) [ inl c ↦ omega arith | inr c ↦ absurd (none-some first c.1) ]
gap_after cells n from (f ∷ fs) first h e =
    elim (chosen (nat_le (from + n) f.first) from (lowest_gap cells n (f.first + f.cells) fs) first e)
    [ inl c ↦ omega arith | inr c ↦ let rest_after = gap_after cells n (f.first + f.cells) fs first h.2 c.1 in omega arith ]

-- the first frame, where no other one is yet
apart-first : (cells a n from first : ℕ) → 0 < n → lowest_gap cells n from [] ≡ Some first → StandApart cells from (record { activation = a; first = first; cells = n } ∷ [])
apart-first cells a n from first some e =
    elim (chosen (nat_le (from + n) cells) from None first e) [
      | inl c ↦ let fits : from + n ≤ cells = grind (arith, nat_tests) in (omega arith, some, omega arith)
      | inr c ↦ absurd (none-some first c.1)
    ]

-- a frame in the lowest gap lies apart from the others
apart-with_frame : (cells a n from : ℕ) (fs : Layout) (first : ℕ) → 0 < n → StandApart cells from fs → lowest_gap cells n from fs ≡ Some first → StandApart cells from (with_frame fs (record { activation = a; first = first; cells = n }))
apart-with_frame cells a n from [] first some h e = apart-first cells a n from first some e
apart-with_frame cells a n from (f ∷ fs) first some h e =
    elim (chosen (nat_le (from + n) f.first) from (lowest_gap cells n (f.first + f.cells) fs) first e) [
      | inl c ↦
          let fits : from + n ≤ f.first = grind (arith, nat_tests) in
          let before : nat_lt first f.first ≡ true = grind (arith, nat_tests) in
          rw before (omega arith, some, (omega arith, h.1, h.2))
      | inr c ↦
          let rest_after = gap_after cells n (f.first + f.cells) fs first h.2 c.1 in
          let test : nat_lt first f.first ≡ false = grind (arith, nat_tests) in
          rw test (h.0, h.1, apart-with_frame cells a n (f.first + f.cells) fs first some h.2 c.1)
    ]

-- ---- frames that are given back

pub apart_further : (cells m n : ℕ) (fs : Layout) → m ≤ n → StandApart cells n fs → StandApart cells m fs
apart_further cells m n [] le h = omega arith
apart_further cells m n (f ∷ fs) le h = (omega arith, h.1, h.2)

apart-filter : (cells from : ℕ) (keeps : Frame → Bool) (fs : Layout) → StandApart cells from fs → StandApart cells from (filter keeps fs)
apart-filter cells from keeps [] h = h
apart-filter cells from keeps (f ∷ fs) h =
    let rest = apart-filter cells (f.first + f.cells) keeps fs h.2 in
    elim (keeps f) as (λ (b : Bool). StandApart cells from (if b then f ∷ filter keeps fs else filter keeps fs))
    [ true ↦ (h.0, h.1, rest) | false ↦ apart_further cells from (f.first + f.cells) (filter keeps fs) (omega arith) rest ]

-- ---- turns

-- frames that lie apart, where there are any
abbrev LieApart : Units → ℕ → Option Layout → Type 0
LieApart program cells None = Unit {0}
LieApart program cells (Some layout) = StandApart cells (common_cells program) layout

apart-option_map : (program : Units) (cells : ℕ) (f : ℕ → Layout) (gap : Option ℕ) → ((first : ℕ) → gap ≡ Some first → StandApart cells (common_cells program) (f first)) → LieApart program cells (option_map f gap)
apart-option_map program cells f None h = tt
apart-option_map program cells f (Some first) h = h first refl

apart-layout_with_activation : (program : Units) (cells a n : ℕ) (fs : Layout) → 0 < n → StandApart cells (common_cells program) fs → LieApart program cells (layout_with_activation program cells fs a n)
apart-layout_with_activation program cells a n fs some h =
    apart-option_map program cells (λ first. with_frame fs (record { activation = a; first = first; cells = n })) (lowest_gap cells n (common_cells program) fs) (λ first e.
    apart-with_frame cells a n (common_cells program) fs first some h e)

apart-with_new : (program : Units) (cells n : ℕ) (s : State) (fs : Layout) → StandApart cells (common_cells program) fs → LieApart program cells (with_new program cells n s fs)
apart-with_new program cells n s fs h =
    elim (nat_lt n (length s.activations)) as (λ (b : Bool). LieApart program cells (if b then layout_with_activation program cells fs (length s.activations) (frame_of program s (length s.activations)) else Some fs))
    [ true ↦ apart-layout_with_activation program cells (length s.activations) (frame_of program s (length s.activations)) fs (omega arith) h | false ↦ h ]

apart-opening : (program : Units) (cells : ℕ) → LieApart program cells (opening_layout program cells)
unfolding opening
apart-opening program cells =
    apart-option_map program cells (λ first. record { activation = 1; first = first; cells = frame_of program (opening program) 1 } ∷ []) (lowest_gap cells (frame_of program (opening program) 1) (common_cells program) []) (λ first e.
    apart-first cells 1 (frame_of program (opening program) 1) (common_cells program) first (omega arith) e)

apart-remaining_layout : (program : Units) (cells : ℕ) (has : State → ℕ → Bool) (s : State) (fs : Option Layout) → LieApart program cells fs → LieApart program cells (option_map (remaining_layout has s) fs)
apart-remaining_layout program cells has s None h = tt
apart-remaining_layout program cells has s (Some fs) h = apart-filter cells (common_cells program) (λ (f : Frame). has s f.activation) fs h

apart-state_after_turn : (program : Units) (cells : ℕ) (has : State → ℕ → Bool) (s t : State) (fs : Option Layout) → LieApart program cells fs → LieApart program cells (layout_after_turn program cells has s t fs).layout
apart-state_after_turn program cells has s t None h = tt
apart-state_after_turn program cells has s t (Some fs) h =
    apart-remaining_layout program cells has t (with_new program cells (length s.activations) t fs) (apart-with_new program cells (length s.activations) t fs h)

apart-turns : (program : Units) (cells : ℕ) (has : State → ℕ → Bool) (x : Placing) (ps : List ℕ) → LieApart program cells x.layout → LieApart program cells (placing_from program cells has x ps).layout
unfolding placing_from
apart-turns program cells has x [] h = h
apart-turns program cells has x (p ∷ ps) h =
    apart-turns program cells has (placing_turn program cells has x p) ps (apart-state_after_turn program cells has x.state (state_after_turn program p x.state) x.layout h)

pub frames_apart : (program : Units) (cells : ℕ) (has : State → ℕ → Bool) (processes : List ℕ) (layout : Layout) → layout_of program cells has processes ≡ Some layout → StandApart cells (common_cells program) layout
frames_apart program cells has processes layout e =
    subst (LieApart program cells) e (apart-turns program cells has (record { state = opening program; layout = opening_layout program cells }) processes (apart-opening program cells))
