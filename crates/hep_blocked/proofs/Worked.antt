-- Of four processes 1 and 4 wait for cell 7 to be full and 3 waits for it to be empty: what is so once it is full, where process
-- 6 waits too, where one waits no more, and who waits behind a number.
use Rattle.std.proofs.Common.{◌≡◌, [], ◌∷◌, List, Option, None, Some, map, true, false, refl}
use Rattle.hep_cells.specs.declared.want.Want.{Want}
use Rattle.hep_blocked.specs.Waiting.{awake, next_waiting, numbers_waiting, with_numbers, with_want, without_want}

abbrev filled : Want
filled = record { cell = 7; full = true }

abbrev emptied : Want
emptied = record { cell = 7; full = false }

abbrev waiting : List (Option Want)
waiting = Some filled ∷ None ∷ Some emptied ∷ Some filled ∷ []

-- 3 still waits
after_full : map (awake filled) waiting ≡ None ∷ None ∷ Some emptied ∷ None ∷ []
after_full = refl

-- 2 was ready, and 1 and 4 are too
ready_after : with_numbers (numbers_waiting filled waiting) (2 ∷ []) ≡ 1 ∷ 2 ∷ 4 ∷ []
ready_after = refl

-- 5 has a place then and doesn't wait
six_waits : with_want 6 emptied waiting ≡ Some filled ∷ None ∷ Some emptied ∷ Some filled ∷ None ∷ Some emptied ∷ []
six_waits = refl

-- 4 waits no more, and 1 still waits for the same; 2 and 5 didn't wait
without_four : without_want 4 waiting ≡ Some filled ∷ None ∷ Some emptied ∷ None ∷ []
without_four = refl

without_two : without_want 2 waiting ≡ waiting
without_two = refl

without_five : without_want 5 waiting ≡ waiting
without_five = refl

-- behind 1 it is 3 and not 2, behind 4 nobody
after_one : next_waiting waiting 1 ≡ Some 3
after_one = refl

after_four : next_waiting waiting 4 ≡ None
after_four = refl

-- 1 waits no more once the cell is full
first_after_full : next_waiting (map (awake filled) waiting) 0 ≡ Some 3
first_after_full = refl
