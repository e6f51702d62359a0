-- What some seeds draw, word by word.
use Rattle.std.proofs.Common.{◌≡◌, ◌∷◌, [], Some, None, true, false, refl}
use Rattle.rand_pcg.specs.Lcg.{state_after}
use Rattle.hep_outcome.specs.LotDraws.{drawn, drawn_anew, further, is_ready, stay_of, word_of}

-- the words of seed 42 are those of PCG's own example
first_word : word_of 42 0 ≡ 0xa15c02b7
unfolding state_after
first_word = refl

third_word : word_of 42 2 ≡ 0xba1d3330
unfolding state_after
third_word = refl

-- seed 8 draws another process at each step, seed 15 at one out of 128
changes_always : stay_of 8 ≡ 1
changes_always = refl

stays_long : stay_of 15 ≡ 128
stays_long = refl

-- of the processes 2, 3 and 5 two further on from 3, around
around : further 2 3 (2 ∷ 3 ∷ 5 ∷ []) ≡ Some 2
around = refl

still_ready : is_ready 3 (2 ∷ 3 ∷ 5 ∷ []) ≡ true
still_ready = refl

not_ready : is_ready 4 (2 ∷ 3 ∷ 5 ∷ []) ≡ false
not_ready = refl

-- the word 7 says 1 and 4: four further on from 1
anew : drawn_anew 7 5 (2 ∷ 3 ∷ 5 ∷ []) ≡ Some 2
anew = refl

-- where one word out of 4 draws another process, 7 keeps process 3 its turn
kept : drawn 4 7 5 3 (2 ∷ 3 ∷ 5 ∷ []) ≡ Some 3
kept = refl

-- 8 draws another one, and so does any word where process 4, which came last, isn't ready
drawn_otherwise : drawn 4 8 5 3 (2 ∷ 3 ∷ 5 ∷ []) ≡ Some 5
drawn_otherwise = refl

last_waits : drawn 4 7 5 4 (2 ∷ 3 ∷ 5 ∷ []) ≡ Some 3
last_waits = refl

-- nobody is ready
nobody : drawn 4 7 5 4 [] ≡ None
nobody = refl
