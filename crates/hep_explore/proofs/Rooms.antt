-- Whatever steps are made, there is an arena in which each of their frames has a gap.
use Rattle.std.proofs.Common.{◌≡◌, ℕ, ◌+◌, ◌≤◌, Bool, true, false, if◌then◌else◌, nat_le, nat_lt, List, [], ◌∷◌, length}
use Rattle.std.proofs.Common.{Option, Some, None, IsSome, is_some, refl, sym, ap, ◌∙◌, subst, arith}
use Rattle.std.specs.List.{filter}
use Rattle.std.specs.Option.{option_map}
use Rattle.std.proofs.lemmas.Bool.{le-leb}
use Rattle.hep_machine.specs.Words.{Layout, State, Units, common_cells, is_held, layout_of, opening, opening_layout, run}
use Rattle.hep_machine.specs.Words.{run_from, state_after_turn}
use Rattle.hep_machine.specs.Layout.{Frame, frame_of, layout_after_step, layout_after_turn, layout_with_activation, lowest_gap}
use Rattle.hep_machine.specs.Layout.{placing_from, remaining_layout, with_frame, with_new}
use Rattle.hep_explore.specs.Endings.{Ending, IsEnding, IsEndingWithin, IsTerminal, ending_of}
use Rattle.hep_explore.proofs.Turns.{steps_of}

-- each frame ends before this cell
abbrev EndBefore : ℕ → Layout → Type 0
EndBefore n [] = Unit {0}
EndBefore n (f ∷ fs) = (f.first + f.cells ≤ n) × EndBefore n fs

-- and before each later one
end_later : (m n : ℕ) (layout : Layout) → m ≤ n → EndBefore m layout → EndBefore n layout
end_later m n [] le h = tt
end_later m n (f ∷ fs) le h = (let end = h.0 in omega arith, end_later m n fs le h.1)

-- the lowest gap is at the end of the frames at the latest
gap_there : (cells n from end : ℕ) (layout : Layout) → from ≤ end → EndBefore end layout → end + n ≤ cells
    → (first : ℕ) × (lowest_gap cells n from layout ≡ Some first) × (first ≤ end)
gap_there cells n from end [] le h room =
    let fits : from + n ≤ cells = omega arith in
    (from, ap (λ b. if b then Some from else None) (le-leb (from + n) cells fits), le)
gap_there cells n from end (f ∷ fs) le h room =
    by_gap (nat_le (from + n) f.first) refl (gap_there cells n (f.first + f.cells) end fs h.0 h.1 room)
  where
    by_gap : (b : Bool) → nat_le (from + n) f.first ≡ b
        → ((first : ℕ) × (lowest_gap cells n (f.first + f.cells) fs ≡ Some first) × (first ≤ end))
        → (first : ℕ) × (lowest_gap cells n from (f ∷ fs) ≡ Some first) × (first ≤ end)
    by_gap true e rest = (from, ap (λ b. if b then Some from else lowest_gap cells n (f.first + f.cells) fs) e, le)
    by_gap false e rest = (rest.0, ap (λ b. if b then Some from else lowest_gap cells n (f.first + f.cells) fs) e ∙ rest.1, rest.2)

-- with one more of them
frame_ends : (end : ℕ) (layout : Layout) (f : Frame) → EndBefore end layout → f.first + f.cells ≤ end → EndBefore end (with_frame layout f)
frame_ends end [] f h k = (k, tt)
frame_ends end (g ∷ gs) f h k = by_place (nat_lt f.first g.first) (frame_ends end gs f h.1 k) where
  by_place : (b : Bool) → EndBefore end (with_frame gs f) → EndBefore end (if b then f ∷ (g ∷ gs) else g ∷ with_frame gs f)
  by_place true rest = (k, h)
  by_place false rest = (h.0, rest)

-- without some of them
filter_ends : (end : ℕ) (keeps : Frame → Bool) (layout : Layout) → EndBefore end layout → EndBefore end (filter keeps layout)
filter_ends end keeps [] h = tt
filter_ends end keeps (f ∷ fs) h = by_kept (keeps f) (filter_ends end keeps fs h.1) where
  by_kept : (b : Bool) → EndBefore end (filter keeps fs) → EndBefore end (if b then f ∷ filter keeps fs else filter keeps fs)
  by_kept true rest = (h.0, rest)
  by_kept false rest = rest

module _ (program : Units) where
  -- a layout that is there, and ends before this cell
  record IsLaid (end : ℕ) (o : Option Layout) : Type 0 where
    layout : Layout
    is : o ≡ Some layout
    ends : EndBefore end layout

  -- a new frame has a gap
  new_laid : (cells n end : ℕ) (s : State) (layout : Layout) → common_cells program ≤ end → EndBefore end layout
      → end + frame_of program s (length s.activations) ≤ cells
      → IsLaid (end + frame_of program s (length s.activations)) (with_new program cells n s layout)
  new_laid cells n end s layout low h room = by_new (nat_lt n (length s.activations)) where
    size : ℕ
    size = frame_of program s (length s.activations)

    by_new : (b : Bool) → IsLaid (end + size)
        (if b then layout_with_activation program cells layout (length s.activations) size else Some layout)
    by_new false = record { layout = layout; is = refl; ends = end_later end (end + size) layout (omega arith) h }
    by_new true =
        let gap = gap_there cells size (common_cells program) end layout low h room in
        let f : Frame = record { activation = length s.activations; first = gap.0; cells = size } in
        let le = gap.2 in
        record {
          layout = with_frame layout f;
          is = ap (option_map (λ first. with_frame layout (record { activation = length s.activations; first = first; cells = size }))) (
              gap.1);
          ends = frame_ends (end + size) layout f (end_later end (end + size) layout (omega arith) h) (omega arith);
        }

  -- the cells of the frames that these turns make, at most
  need : List ℕ → State → ℕ
  need [] s = 0
  need (p ∷ ps) s =
      let t : State = state_after_turn program p s in
      frame_of program t (length t.activations) + need ps t

  -- each frame has a gap, where the arena has these cells after the frames that are there
  room_from : (cells : ℕ) (choices : List ℕ) (end : ℕ) (s : State) (o : Option Layout) → common_cells program ≤ end → IsLaid end o
      → end + need choices s ≤ cells
      → IsSome (placing_from program cells is_held (record { state = s; layout = o }) choices).layout
  unfolding placing_from need
  room_from cells [] end s o low laid room = ap is_some laid.is
  room_from cells (p ∷ ps) end s o low laid room =
      let t : State = state_after_turn program p s in
      let size : ℕ = frame_of program t (length t.activations) in
      let new = new_laid cells (length s.activations) end t laid.layout low laid.ends (omega arith) in
      let next : IsLaid (end + size) (layout_after_step program cells is_held s t laid.layout) =
      record {
        layout = remaining_layout is_held t new.layout;
        is = ap (option_map (remaining_layout is_held t)) new.is;
        ends = filter_ends (end + size) (λ (f : Frame). is_held t f.activation) new.layout new.ends;
      }
      in
      subst (λ l. IsSome (placing_from program cells is_held (layout_after_turn program cells is_held s t l) ps).layout) (sym laid.is) (
      room_from cells ps (end + size) t (layout_after_step program cells is_held s t laid.layout) (omega arith) next (omega arith))

  -- an arena that is large enough
  enough : List ℕ → ℕ
  enough choices = common_cells program + frame_of program (opening program) 1 + need choices (opening program)

  -- each frame of these turns has a gap in it
  room : (choices : List ℕ) → IsSome (layout_of program (enough choices) is_held choices)
  unfolding enough opening
  room choices =
      let first = frame_of program (opening program) 1 in
      let end : ℕ = common_cells program + first in
      room_from (enough choices) choices end (opening program) (opening_layout program (enough choices)) (omega arith) (
      new_laid (enough choices) 0 (common_cells program) (opening program) [] (omega arith) tt (omega arith)) (omega arith)

-- each ending is one within some arena
pub ending_fits : (program : Units) (e : Ending) → IsEnding program e → (cells : ℕ) × IsEndingWithin program cells e
unfolding run
ending_fits program e ending =
    let way = steps_of program ending.1.0 (opening program) in
    let there : ending.0 ≡ run_from program (opening program) way.steps = sym (way.same ∙ ending.1.1) in
    let terminal : IsTerminal program (run_from program (opening program) way.steps) = subst (IsTerminal program) there ending.2 in
    (enough program way.steps, (way.steps, way.made, room program way.steps, terminal, ending.3 ∙ ap (ending_of program) there))

-- and the other way round
pub ending_within : (program : Units) (e : Ending) → (cells : ℕ) × IsEndingWithin program cells e → IsEnding program e
ending_within program e (cells, (choices, made, fits, terminal, is)) = (run program choices, (choices, refl), terminal, is)
