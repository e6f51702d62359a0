-- Of processes 1, 7 and 9, which are ready but for 7, the first has place 1, and 4 has ended: where a number stands, and who waits.
use Rattle.std.proofs.Common.{◌≡◌, [], ◌∷◌, List, ℕ, Option, None, Some, map, true, refl}
use Rattle.hep_cells.specs.declared.want.Want.{Want}
use Rattle.hep_blocked.specs.Rosters.{number_at, place_of, places_to, waiting_in, want_of}

abbrev filled : Want
filled = record { cell = 7; full = true }

abbrev numbers : List ℕ
numbers = 1 ∷ 4 ∷ 7 ∷ 9 ∷ []

abbrev wants : List (Option Want)
wants = None ∷ None ∷ Some filled ∷ []

ready : map (number_at numbers) (1 ∷ 4 ∷ []) ≡ 1 ∷ 9 ∷ []
ready = refl

seven : place_of numbers 7 ≡ 3
seven = refl

five : place_of numbers 5 ≡ 0
five = refl

-- two numbers aren't above 5, and all not above 20
to_five : places_to numbers 5 ≡ 2
to_five = refl

to_twenty : places_to numbers 20 ≡ 4
to_twenty = refl

-- 7 waits, 4 doesn't, and 9 has no place among those that may
waiting : waiting_in numbers wants ≡ (7, filled) ∷ []
waiting = refl

of_seven : want_of (waiting_in numbers wants) 7 ≡ Some filled
of_seven = refl

of_four : want_of (waiting_in numbers wants) 4 ≡ None
of_four = refl
