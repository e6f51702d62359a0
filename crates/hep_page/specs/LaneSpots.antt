-- What the lane of a process shows in each column of a picture: docs/RUNS.md, "A picture".
use Rattle.std.specs.Prelude.{ℕ, ◌+◌, ◌*◌, ◌/◌, ◌%◌, Bool, false, true, nat_eq, nat_le, if◌then◌else◌, List, [], ◌∷◌, ◌++◌, length}
use Rattle.std.specs.List.{flat_map}
use Rattle.hep_page.specs.declared.lane_spot.LaneSpot.{LaneSpot}
use Rattle.hep_page.specs.declared.picture_scale.PictureScale.{PictureScale}
use Rattle.hep_formats.specs.declared.turn_mark.TurnKind.{TurnKind}
use Rattle.hep_formats.specs.declared.turn_mark.TurnKind.TheVariants.{Begins, Idle}
use Rattle.hep_formats.specs.declared.turn_mark.TurnMark.{TurnMark}
use Rattle.hep_formats.specs.TurnMarks.{rank}

-- how many parts of this size n has, the last one perhaps smaller
abbrev pub parts : ℕ → ℕ → ℕ
parts n size = if nat_eq (n % size) 0 then n / size else n / size + 1

-- how many turns a column has, the width of a column, after how many columns and how many turns there is a number, how many columns a row
-- has, the width of a row, and whether a column may have several turns
pub record Scale : Type 0 where
  pub turns : ℕ
  pub step : ℕ
  pub tick : ℕ
  pub tick_turns : ℕ
  pub row : ℕ
  pub wide : ℕ
  pub folded : Bool

abbrev pub fields_of : PictureScale → Scale
fields_of s =
    record { turns = s.turns; step = s.step; tick = s.tick; tick_turns = s.tick_turns; row = s.row; wide = s.wide; folded = s.folded }

-- up to 50 turns are wide, and up to 1,000 narrow, 100 to a row; more are folded into up to 400 columns
abbrev pub scale_of : ℕ → Scale
scale_of n =
    if nat_le n 50 then record { turns = 1; step = 24; tick = 5; tick_turns = 5; row = 100; wide = 2400; folded = false }
    else (if nat_le n 1000 then record { turns = 1; step = 12; tick = 10; tick_turns = 10; row = 100; wide = 1200; folded = false }
    else record { turns = parts n 400; step = 3; tick = 40; tick_turns = 40 * parts n 400; row = 400; wide = 1200; folded = true })

-- what a turn is to a process
abbrev pub kind_for : ℕ → TurnMark → TurnKind
kind_for p mark = if nat_eq mark.process p then mark.kind else (if nat_eq mark.created p then Begins else Idle)

-- that which matters more
abbrev pub stronger : TurnKind → TurnKind → TurnKind
stronger j k = if nat_le (rank j) (rank k) then k else j

abbrev pub is_idle : TurnKind → Bool
is_idle k = nat_eq (rank k) 0

-- a column with one turn more
abbrev pub with_kind : LaneSpot → TurnKind → LaneSpot
with_kind spot k = if is_idle k then spot else record { column = spot.column; lane = spot.lane; strong = stronger spot.strong k; last = k }

abbrev pub spot_after : LaneSpot → TurnMark → LaneSpot
spot_after spot mark = with_kind spot (kind_for spot.lane mark)

-- a column without turns
abbrev pub idle_spot : ℕ → ℕ → LaneSpot
idle_spot column p = record { column = column; lane = p; strong = Idle; last = Idle }

abbrev pub shown : LaneSpot → List LaneSpot
shown spot = if is_idle spot.strong then [] else spot ∷ []

-- the columns of a lane that have turns, and then its end; with this number of turns in the first column so far
abbrev pub lane_from : ℕ → ℕ → ℕ → LaneSpot → List TurnMark → List LaneSpot
lane_from turns columns filled spot [] = shown spot ++ idle_spot columns spot.lane ∷ []
lane_from turns columns filled spot (mark ∷ marks) =
    if nat_eq (filled + 1) turns
    then shown (spot_after spot mark) ++ lane_from turns columns 0 (idle_spot (spot.column + 1) spot.lane) marks
    else lane_from turns columns (filled + 1) (spot_after spot mark) marks

abbrev pub lane_spots : ℕ → ℕ → List TurnMark → ℕ → List LaneSpot
lane_spots turns columns marks p = lane_from turns columns 0 (idle_spot 0 p) marks

-- of all lanes, so many
abbrev pub spots_of : Scale → List TurnMark → List ℕ → List LaneSpot
spots_of scale marks lanes = flat_map (lane_spots scale.turns (parts (length marks) scale.turns) marks) lanes
