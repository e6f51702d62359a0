-- Eight places: which of them is the first with a number that is great enough, and which the last before one.
use Rattle.std.proofs.Common.{◌≡◌, [], ◌∷◌, Some, None, refl, drop, set, take}
use Rattle.hep_arena.specs.Places.{first_from, last_from}

-- a hole of 2 begins at 1 and one of 3 at 5
first_of_two : first_from 0 2 (0 ∷ 2 ∷ 0 ∷ 0 ∷ 0 ∷ 3 ∷ 0 ∷ 0 ∷ []) ≡ Some 1
first_of_two = refl

first_of_three : first_from 0 3 (0 ∷ 2 ∷ 0 ∷ 0 ∷ 0 ∷ 3 ∷ 0 ∷ 0 ∷ []) ≡ Some 5
first_of_three = refl

first_of_four : first_from 0 4 (0 ∷ 2 ∷ 0 ∷ 0 ∷ 0 ∷ 3 ∷ 0 ∷ 0 ∷ []) ≡ None
first_of_four = refl

-- the hole at 5 isn't before itself
before_five : last_from 0 (take 5 (0 ∷ 2 ∷ 0 ∷ 0 ∷ 0 ∷ 3 ∷ 0 ∷ 0 ∷ [])) None ≡ Some 1
before_five = refl

before_eight : last_from 0 (take 8 (0 ∷ 2 ∷ 0 ∷ 0 ∷ 0 ∷ 3 ∷ 0 ∷ 0 ∷ [])) None ≡ Some 5
before_eight = refl

before_one : last_from 0 (take 1 (0 ∷ 2 ∷ 0 ∷ 0 ∷ 0 ∷ 3 ∷ 0 ∷ 0 ∷ [])) None ≡ None
before_one = refl

-- the hole at 1 is filled
filled : first_from 0 1 (set (0 ∷ 2 ∷ 0 ∷ 0 ∷ 0 ∷ 3 ∷ 0 ∷ 0 ∷ []) 1 0) ≡ Some 5
filled = refl

-- from a place on, itself among them
after_one : first_from 1 1 (drop 1 (0 ∷ 2 ∷ 0 ∷ 0 ∷ 0 ∷ 3 ∷ 0 ∷ 0 ∷ [])) ≡ Some 1
after_one = refl

after_two : first_from 2 1 (drop 2 (0 ∷ 2 ∷ 0 ∷ 0 ∷ 0 ∷ 3 ∷ 0 ∷ 0 ∷ [])) ≡ Some 5
after_two = refl

after_six : first_from 6 1 (drop 6 (0 ∷ 2 ∷ 0 ∷ 0 ∷ 0 ∷ 3 ∷ 0 ∷ 0 ∷ [])) ≡ None
after_six = refl
