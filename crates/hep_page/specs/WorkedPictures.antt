-- Worked rows: the paths of small runs.
use Rattle.std.specs.Prelude.{◌≡◌, ℕ, List, [], ◌∷◌, codes, false, map, refl}
use Rattle.std.specs.Fmt.{digits}
use Rattle.hep_page.specs.LaneSpots.{scale_of, spots_of}
use Rattle.hep_page.specs.PicturePaths.{lives_from, waits_from}
use Rattle.hep_formats.specs.TurnMarks.{mark_of}

-- 1,001 turns are folded, three to a column
folded_turns : (scale_of 1001).turns ≡ 3
folded_turns = refl

-- the lines of process 1, which creates process 2 and then waits, and of process 2, which ends
abbrev trace : List (List ℕ)
trace =
    codes "1 PROCESS 1 MAIN LINE 3 creates 2 SUB as 2" ∷ codes "2 PROCESS 1 MAIN LINE 4 waits FOR FULL $A OF 1"
    ∷ codes "3 PROCESS 2 SUB LINE 9 ends, frame of 2 given back" ∷ []

-- process 1 lives to the right edge, and process 2 from where it is created to its end
lives : lives_from (scale_of 3) false (spots_of (scale_of 3) (map mark_of trace) (1 ∷ 2 ∷ [])) ≡ codes "M12 36H84M12 60H60"
unfolding digits
lives = refl

waiting : waits_from (scale_of 3) false (spots_of (scale_of 3) (map mark_of trace) (1 ∷ 2 ∷ [])) ≡ codes "M36 36m0-5v10H84v-10z"
unfolding digits
waiting = refl
