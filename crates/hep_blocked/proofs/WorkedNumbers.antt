-- Eight numbers have room, and of them 2, 3 and 6 are ready: what comes next, and what is ready after a change.
use Rattle.std.proofs.Common.{◌≡◌, [], ◌∷◌, Some, None, refl}
use Rattle.hep_machine.specs.Words.{next_of_ready, without}
use Rattle.hep_blocked.specs.Numbers.{numbers_from, with_number}

three_ready : numbers_from 1 (0 ∷ 1 ∷ 1 ∷ 0 ∷ 0 ∷ 1 ∷ 0 ∷ 0 ∷ []) ≡ 2 ∷ 3 ∷ 6 ∷ []
three_ready = refl

-- after 3 comes 6, after that the least, as at the beginning
after_three : next_of_ready 3 (2 ∷ 3 ∷ 6 ∷ []) ≡ Some 6
after_three = refl

after_six : next_of_ready 6 (2 ∷ 3 ∷ 6 ∷ []) ≡ Some 2
after_six = refl

at_first : next_of_ready 0 (2 ∷ 3 ∷ 6 ∷ []) ≡ Some 2
at_first = refl

-- 4 is ready again, and 2 waits
with_four : with_number 4 (2 ∷ 3 ∷ 6 ∷ []) ≡ 2 ∷ 3 ∷ 4 ∷ 6 ∷ []
with_four = refl

without_two : without 2 (2 ∷ 3 ∷ 4 ∷ 6 ∷ []) ≡ 3 ∷ 4 ∷ 6 ∷ []
without_two = refl

-- a second time changes nothing
again : with_number 4 (3 ∷ 4 ∷ 6 ∷ []) ≡ 3 ∷ 4 ∷ 6 ∷ []
again = refl

none_ready : next_of_ready 4 [] ≡ None
none_ready = refl
