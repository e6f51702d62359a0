-- Where the frame of the main program is at the opening.
use Rattle.std.proofs.Common.{◌≡◌, ℕ, ◌+◌, Bool, true, false, [], ◌∷◌, Some, None, refl, if◌then◌else◌, nat_le}
use Rattle.std.specs.Option.{option_map}
use Rattle.hep_machine.specs.Words.{Units, main_unit, unit_at, Frame, common_cells, frame_of, opening_layout, opening, run, run_from, frame_cells}
use Rattle.hep_image.specs.Data.{first_frames}

-- the frame of the main program at a first cell
abbrev pub frame_at : Units → ℕ → Frame
frame_at program first = record { activation = 1; first = first; cells = frame_cells (unit_at program (main_unit program)) }

pub layout-by-numbers : (program : Units) (cells : ℕ) → opening_layout program cells ≡ (if nat_le (common_cells program + frame_cells (unit_at program (main_unit program))) cells then Some (first_frames program) else None)
unfolding opening
layout-by-numbers program cells = by_fit (nat_le (common_cells program + frame_cells (unit_at program (main_unit program))) cells) where
  by_fit : (b : Bool) → option_map (λ (first : ℕ). frame_at program first ∷ []) (if b then Some (common_cells program) else None) ≡ (if b then Some (first_frames program) else None)
  by_fit true = refl
  by_fit false = refl

pub frame-of-main : (program : Units) → frame_of program (run program []) 1 ≡ frame_cells (unit_at program (main_unit program))
unfolding run run_from opening
frame-of-main program = refl
