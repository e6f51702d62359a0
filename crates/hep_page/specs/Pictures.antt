-- The picture of a run: docs/RUNS.md, "A picture".
use Rattle.std.specs.Prelude.{ℕ, ◌+◌, ◌-◌, ◌*◌, ◌/◌, ◌%◌, Bool, nat_eq, nat_le, if◌then◌else◌, List, [], ◌∷◌, ◌++◌, codes, length, map}
use Rattle.std.specs.Prelude.{reverse}
use Rattle.std.specs.Fmt.{decimal}
use Rattle.std.specs.List.{flat_map, range_with_len}
use Rattle.hep_text.specs.Line as text
use Rattle.hep_page.specs.Html.{html}
use Rattle.hep_page.specs.LaneSpots.{Scale, fields_of, parts, scale_of, spots_of}
use Rattle.hep_page.specs.PicturePaths.{run_text}
use Rattle.hep_formats.specs.LineWords.{after_blank}
use Rattle.hep_formats.specs.TurnMarks.{deed_of, first_word, from_unit, higher, highest_process, mark_of}
use Rattle.hep_formats.specs.TraceLines.{line_of, waits}
use Rattle.hep_page.specs.declared.lane_lines.LaneLines.{LaneLines}
use Rattle.hep_page.specs.declared.lane_spot.LaneSpot.{LaneSpot}
use Rattle.hep_page.specs.declared.picture_frame.PictureFrame.{PictureFrame}
use Rattle.hep_page.specs.declared.picture_parts.PictureParts.{PictureParts}
use Rattle.hep_page.specs.declared.picture_template.TheConstants.{ALL_NAMES, BEGINS, COLUMNS, DEFINED, DESCRIPTION, FOLDED, HEADING}
use Rattle.hep_page.specs.declared.picture_template.TheConstants.{LEGEND, NAME, NAMES}
use Rattle.hep_page.specs.declared.picture_template.TheConstants.{ROLE, SHOWN, STYLE, TITLE, WANT}
use Rattle.hep_formats.specs.declared.turn_mark.TurnMark.{TurnMark}

-- ---- lanes

-- a process, and the lines of its first and its last turn
pub record Lane : Type 0 where
  pub number : ℕ
  pub first : List ℕ
  pub last : List ℕ

abbrev pub lane_of : LaneLines → Lane
lane_of lane = record { number = lane.number; first = lane.first.now; last = lane.last.now }

abbrev pub lane_in : List (List ℕ) → List (List ℕ) → ℕ → Lane
lane_in lines back p = record { number = p; first = line_of p lines; last = line_of p back }

abbrev pub lanes_of : List (List ℕ) → List ℕ → List Lane
lanes_of lines numbers = map (lane_in lines (reverse lines)) numbers

-- ---- the frame

-- no more lanes than 100 are drawn
abbrev pub lane_count : ℕ → ℕ
lane_count processes = if nat_le processes 100 then processes else 100

abbrev pub frame_of : Scale → List TurnMark → PictureFrame
frame_of scale marks = record {
  turns = length marks;
  processes = highest_process marks;
  lanes = lane_count (highest_process marks);
  columns = parts (length marks) scale.turns;
  rows = parts (parts (length marks) scale.turns) scale.row;
  high = 24 * lane_count (highest_process marks) + 36;
}

-- the width of the rows, and so much more
abbrev pub width_and : Scale → PictureFrame → ℕ → ℕ
width_and scale frame more = if nat_le scale.row frame.columns then scale.wide + more else scale.step * frame.columns + more

abbrev pub width_of : Scale → PictureFrame → ℕ
width_of scale frame = higher 720 (width_and scale frame 312)

abbrev pub height_of : PictureFrame → ℕ
height_of frame = frame.high * frame.rows + 112

-- the number of columns in the last row
abbrev pub last_columns : Scale → PictureFrame → ℕ
last_columns scale frame = if nat_eq (frame.columns % scale.row) 0 then scale.row else frame.columns % scale.row

-- ---- titles

unfoldable pub folded_text : Scale → List ℕ
folded_text scale = if scale.folded then codes ", " ++ decimal scale.turns ++ FOLDED.now else []

unfoldable pub undrawn_text : PictureFrame → List ℕ
undrawn_text frame = if nat_le frame.processes 100 then [] else codes ", the first 100 of them drawn"

-- the unit of the first line
abbrev pub main_unit : List (List ℕ) → List ℕ
main_unit [] = []
main_unit (line ∷ lines) = first_word (from_unit line)

unfoldable pub title_text : Scale → PictureFrame → List ℕ → List ℕ
title_text scale frame unit =
    html unit ++ codes ": " ++ decimal frame.turns ++ codes " turns of " ++ decimal frame.processes ++ codes " processes"
    ++ folded_text scale ++ undrawn_text frame

-- for those who listen: who waits, where and for what
unfoldable pub wait_words : Lane → List ℕ
wait_words lane = if waits lane.last then html (after_blank lane.last) ++ codes ". " else []

-- ---- texts

abbrev pub text_y : Lane → ℕ
text_y lane = 24 * lane.number + 16

unfoldable pub number_text : Lane → List ℕ
number_text lane =
    codes "<text class=\"n\" x=\"8\" y=\"" ++ decimal (text_y lane) ++ codes "\">" ++ decimal lane.number ++ codes "</text>"

-- a text on the line of a lane, after its beginning
unfoldable pub line_text : List ℕ → Lane → List ℕ → List ℕ
line_text begins lane words = begins ++ decimal (text_y lane) ++ codes "\">" ++ html words ++ codes "</text>"

unfoldable pub name_text : Lane → List ℕ
name_text lane = number_text lane ++ line_text NAME.now lane (first_word (from_unit lane.first))

-- at the end of the lane of a process that waits, what for
unfoldable pub end_text : Lane → List ℕ
end_text lane = if waits lane.last then line_text WANT.now lane (deed_of lane.last) else []

unfoldable pub tick_text : Scale → ℕ → List ℕ
tick_text scale k =
    codes "<text class=\"t\" y=\"16\" x=\"" ++ decimal (120 * k + 0) ++ codes "\">" ++ decimal (scale.tick_turns * k + 0) ++ codes "</text>"

abbrev pub ticks_text : Scale → PictureFrame → List ℕ
ticks_text scale frame = flat_map (tick_text scale) (range_with_len 1 (frame.columns / scale.tick))

-- ---- rows

unfoldable pub row_names : PictureFrame → ℕ → List ℕ
row_names frame row = NAMES.now ++ decimal (frame.high * row + 40) ++ codes "\"/>"

-- where the columns of a row are, with this width
unfoldable pub row_place : PictureFrame → ℕ → ℕ → List ℕ
row_place frame width row =
    COLUMNS.now ++ decimal (frame.high * row + 40) ++ codes "\" width=\"" ++ decimal width ++ codes "\" height=\"" ++ decimal frame.high

-- which columns of the run it shows
unfoldable pub row_view : Scale → PictureFrame → ℕ → ℕ → List ℕ
row_view scale frame width row =
    codes "\" viewBox=\"" ++ decimal (scale.wide * row + 0) ++ codes " 0 " ++ decimal width ++ codes " " ++ decimal frame.high
    ++ SHOWN.now

unfoldable pub row_text : Scale → PictureFrame → ℕ → List ℕ
row_text scale frame row =
    row_names frame row ++ row_place frame (width_and scale frame 0) row ++ row_view scale frame (width_and scale frame 0) row

abbrev pub rows_text : Scale → PictureFrame → List ℕ
rows_text scale frame = flat_map (row_text scale frame) (range_with_len 0 frame.rows)

-- ---- the whole

pub record Picture : Type 0 where
  pub scale : Scale
  pub frame : PictureFrame
  pub marks : List TurnMark
  pub spots : List LaneSpot
  pub lanes : List Lane
  pub title : List ℕ

abbrev pub picture_of_parts : PictureParts → Picture
picture_of_parts p = record {
  scale = fields_of p.scale;
  frame = p.frame;
  marks = p.marks.items;
  spots = p.spots.items;
  lanes = map lane_of p.lanes.items;
  title = p.title.items;
}

-- with these marks and this layout
abbrev pub picture_with : List (List ℕ) → List TurnMark → Scale → Picture
picture_with lines marks scale = record {
  scale = scale;
  frame = frame_of scale marks;
  marks = marks;
  spots = spots_of scale marks (range_with_len 1 (frame_of scale marks).lanes);
  lanes = lanes_of lines (range_with_len 1 (frame_of scale marks).lanes);
  title = title_text scale (frame_of scale marks) (main_unit lines);
}

abbrev pub picture_of_lines : List (List ℕ) → Picture
picture_of_lines lines = picture_with lines (map mark_of lines) (scale_of (length (map mark_of lines)))

unfoldable pub view_text : ℕ → ℕ → List ℕ
view_text width height = BEGINS.now ++ decimal width ++ codes " " ++ decimal height

unfoldable pub extent_text : ℕ → ℕ → List ℕ
extent_text width height = codes "\" width=\"" ++ decimal width ++ codes "\" height=\"" ++ decimal height ++ ROLE.now

unfoldable pub titles_text : Picture → List ℕ
titles_text p =
    TITLE.now ++ p.title ++ DESCRIPTION.now ++ flat_map wait_words p.lanes ++ codes "</desc>"

-- the class of what differs where columns are folded
abbrev pub form_text : Bool → List ℕ
form_text folded = if folded then codes "\" class=\"folded\">" else codes "\" class=\"each\">"

unfoldable pub run_group : Picture → List ℕ
run_group p =
    codes "<g id=\"run" ++ form_text p.scale.folded ++ ticks_text p.scale p.frame ++ run_text p.scale p.frame.lanes p.marks p.spots
    ++ codes "</g>"

unfoldable pub names_group : List Lane → List ℕ
names_group lanes = ALL_NAMES.now ++ flat_map name_text lanes ++ DEFINED.now

unfoldable pub heading : List ℕ → List ℕ
heading title =
    HEADING.now ++ title ++ codes "</text>"

-- at the end of the last row
unfoldable pub end_place : Scale → PictureFrame → List ℕ
end_place scale frame =
    codes "<svg x=\"" ++ decimal (scale.step * last_columns scale frame + 132) ++ codes "\" y=\""
    ++ decimal (frame.high * (frame.rows - 1) + 40) ++ codes "\">"

unfoldable pub ends_group : Picture → List ℕ
ends_group p = end_place p.scale p.frame ++ flat_map end_text p.lanes ++ codes "</svg>"

unfoldable pub legend_group : Picture → List ℕ
legend_group p =
    codes "<svg y=\"" ++ decimal (p.frame.high * p.frame.rows + 48) ++ form_text p.scale.folded ++ LEGEND.now ++ codes "</svg></svg>\n"

unfoldable pub front_text : Picture → List ℕ
front_text p =
    view_text (width_of p.scale p.frame) (height_of p.frame) ++ extent_text (width_of p.scale p.frame) (height_of p.frame)
    ++ titles_text p ++ STYLE.now ++ run_group p ++ names_group p.lanes

unfoldable pub shown_text : Picture → List ℕ
shown_text p = heading p.title ++ rows_text p.scale p.frame ++ ends_group p ++ legend_group p

-- the picture of the run that these lines of `trace` are of
abbrev pub picture_of : List ℕ → List ℕ
picture_of trace = front_text (picture_of_lines (text.lines trace)) ++ shown_text (picture_of_lines (text.lines trace))
