-- The ready process that a lot draws: docs/RUNS.md, "Lots".
use Rattle.std.specs.Prelude.{ℕ, zero, suc, ◌+◌, ◌-◌, ◌/◌, ◌%◌, ◌^◌, ◌&&◌, Bool, false, not, nat_eq, if◌then◌else◌, List, length, Option, Some, option_and_then}
use Rattle.std.specs.Option.{option_map_or}
use Rattle.rand_pcg.specs.Lcg.{Lcg, advance, increment_of, started}
use Rattle.rand_pcg.specs.Pcg.{multiplier_64, pcg32}
use Rattle.hep_machine.specs.declared.event.Entry.{Entry}
use Rattle.hep_machine.specs.Words.{Units, last_process, next_of_ready, progress_after, ready_in, state_after}

-- ---- words

-- the generator of a seed after n words: PCG32, begun at the seed, on stream 54
abbrev pub generator_after : ℕ → ℕ → Lcg
generator_after seed n = advance 64 multiplier_64 n (started 64 multiplier_64 seed (increment_of 64 54))

-- the word of a seed after n others, a number of 32 bits
abbrev pub word_of : ℕ → ℕ → ℕ
word_of seed n = (pcg32 (generator_after seed n)).0

-- one out of this many words draws another process, on average; at the others a process keeps its turn
abbrev pub stay_of : ℕ → ℕ
stay_of seed = 2 ^ (seed % 8)

-- ---- lots

-- n places after p among the ready ones, in a circle; the numbers rise
abbrev pub further : ℕ → ℕ → List ℕ → Option ℕ
further zero p ready = Some p
further (suc k) p ready = option_and_then (λ q. further k q ready) (next_of_ready p ready)

-- any of the ready ones, where `made` processes were made: one to four places after a number that the word gives
abbrev pub drawn_anew : ℕ → ℕ → List ℕ → Option ℕ
drawn_anew word made ready = further (word % 4 + 1) (word / 4 % made) ready

-- p is the first ready one from its own number on
abbrev pub is_ready : ℕ → List ℕ → Bool
is_ready p ready = option_map_or (nat_eq p) (next_of_ready (p - 1) ready) false

-- the process that a word draws: the last one keeps its turn if it is ready, except at one word out of `stay`
abbrev pub drawn : ℕ → ℕ → ℕ → ℕ → List ℕ → Option ℕ
drawn stay word made last ready =
    if not (nat_eq (word % stay) 0) && is_ready last ready then Some last else drawn_anew (word / stay) made ready

-- the process that a seed draws after a history, by the word with the number of entries; none where none is ready
abbrev pub next_drawn : ℕ → Units → List Entry → Option ℕ
next_drawn seed program history =
    drawn (stay_of seed) (word_of seed (length history)) (length (state_after program history).processes) (last_process history)
    (ready_in (progress_after program history))
