-- The paths of a picture, a list for each kind of mark: docs/RUNS.md, "A picture".
use Rattle.std.specs.Prelude.{ℕ, ◌+◌, ◌*◌, ◌/◌, Bool, false, not, nat_eq, nat_le, ◌&&◌, ◌||◌, if◌then◌else◌, List, [], ◌∷◌}
use Rattle.std.specs.Prelude.{◌++◌, codes}
use Rattle.std.specs.Fmt.{decimal}
use Rattle.std.specs.List.{flat_map}
use Rattle.hep_page.specs.declared.lane_spot.LaneSpot.{LaneSpot}
use Rattle.hep_formats.specs.declared.turn_mark.TurnKind.{TurnKind}
use Rattle.hep_formats.specs.declared.turn_mark.TurnMark.{TurnMark}
use Rattle.hep_page.specs.LaneSpots.{Scale, is_idle}
use Rattle.hep_page.specs.PictureShapes.{class_of, kinds, shape_of}
use Rattle.hep_formats.specs.TurnMarks.{rank}

-- the middle of a column, and that of a lane
abbrev pub column_x : Scale → ℕ → ℕ
column_x scale column = scale.step * column + scale.step / 2

abbrev pub lane_y : ℕ → ℕ
lane_y lane = 24 * lane + 12

-- a path begins at a place
abbrev pub point : ℕ → ℕ → List ℕ
point x y = codes "M" ++ decimal x ++ codes " " ++ decimal y

abbrev pub spot_point : Scale → LaneSpot → List ℕ
spot_point scale spot = point (column_x scale spot.column) (lane_y spot.lane)

abbrev pub line_to : Scale → LaneSpot → List ℕ
line_to scale spot = codes "H" ++ decimal (column_x scale spot.column)

-- ---- marks

abbrev pub mark_path : Scale → TurnKind → LaneSpot → List ℕ
mark_path scale k spot = if nat_eq (rank spot.strong) (rank k) then spot_point scale spot ++ shape_of scale.folded k else []

-- the marks of a kind, wherever they are
unfoldable pub kind_path : Scale → List LaneSpot → TurnKind → List ℕ
kind_path scale spots k = codes "<path class=\"" ++ class_of k ++ codes "\" d=\"" ++ flat_map (mark_path scale k) spots ++ codes "\"/>"

abbrev pub marks_text : Scale → List LaneSpot → List ℕ
marks_text scale spots = flat_map (kind_path scale spots) kinds

-- ---- lives: a line from the first turn of a process, or from where it is created, to its end

abbrev pub is_over : LaneSpot → Bool
is_over spot = nat_eq (rank spot.last) 0 || nat_le 11 (rank spot.last)

-- whether a process has begun, by whether it lives before a column
abbrev pub has_begun : Bool → LaneSpot → Bool
has_begun lives spot = lives || not (is_idle spot.last)

abbrev pub life_step : Scale → Bool → LaneSpot → List ℕ
life_step scale lives spot =
    (if not lives && not (is_idle spot.last) then spot_point scale spot else [])
    ++ (if has_begun lives spot && is_over spot then line_to scale spot else [])

abbrev pub lives_after : Bool → LaneSpot → Bool
lives_after lives spot = has_begun lives spot && not (is_over spot)

abbrev pub lives_from : Scale → Bool → List LaneSpot → List ℕ
lives_from scale lives [] = []
lives_from scale lives (spot ∷ spots) = life_step scale lives spot ++ lives_from scale (lives_after lives spot) spots

-- ---- waiting: a box from where a process was found waiting to its next turn

abbrev pub waits_at : LaneSpot → Bool
waits_at spot = nat_eq (rank spot.last) 5

abbrev pub box_begins : Bool → List ℕ
box_begins folded = if folded then codes "v5" else codes "m0-5v10"

abbrev pub box_ends : Bool → List ℕ
box_ends folded = if folded then codes "v-5z" else codes "v-10z"

abbrev pub wait_step : Scale → Bool → LaneSpot → List ℕ
wait_step scale waits spot =
    if waits then (if waits_at spot then [] else line_to scale spot ++ box_ends scale.folded)
    else (if waits_at spot then spot_point scale spot ++ box_begins scale.folded else [])

abbrev pub waits_from : Scale → Bool → List LaneSpot → List ℕ
waits_from scale waits [] = []
waits_from scale waits (spot ∷ spots) = wait_step scale waits spot ++ waits_from scale (waits_at spot) spots

-- ---- births: from who creates to who is created

abbrev pub is_lane : ℕ → ℕ → Bool
is_lane lanes p = nat_le 1 p && nat_le p lanes

abbrev pub birth_at : Scale → ℕ → ℕ → TurnMark → List ℕ
birth_at scale lanes turn mark =
    if is_lane lanes mark.process && is_lane lanes mark.created
    then point (column_x scale (turn / scale.turns)) (lane_y mark.process) ++ codes "V" ++ decimal (lane_y mark.created)
    else []

abbrev pub births_from : Scale → ℕ → ℕ → List TurnMark → List ℕ
births_from scale lanes turn [] = []
births_from scale lanes turn (mark ∷ marks) = birth_at scale lanes turn mark ++ births_from scale lanes (turn + 1) marks

-- ---- all of them

-- a path of a class
abbrev pub path_text : List ℕ → List ℕ → List ℕ
path_text class path = codes "<path class=\"" ++ class ++ codes "\" d=\"" ++ path ++ codes "\"/>"

unfoldable pub lives_text : Scale → List LaneSpot → List ℕ
lives_text scale spots = path_text (codes "lane") (lives_from scale false spots)

unfoldable pub waits_text : Scale → List LaneSpot → List ℕ
waits_text scale spots = path_text (codes "waiting") (waits_from scale false spots)

unfoldable pub births_path : Scale → ℕ → List TurnMark → List ℕ
births_path scale lanes marks = path_text (codes "birth") (births_from scale lanes 0 marks)

unfoldable pub run_text : Scale → ℕ → List TurnMark → List LaneSpot → List ℕ
run_text scale lanes marks spots =
    lives_text scale spots ++ waits_text scale spots ++ births_path scale lanes marks ++ marks_text scale spots
