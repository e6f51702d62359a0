-- The state of lots, and the process that they draw in a core: docs/ARCHITECTURE.md, "Forms".
use Rattle.std.specs.Prelude.{ℕ, length, Option}
use Rattle.rand_pcg.specs.Lcg.{Lcg}
use Rattle.rand_pcg.specs.Pcg.{pcg32}
use Rattle.hep_machine.specs.Words.{last_process}
use Rattle.hep_core.specs.CoreValues.{CoreValue, free_of, state_of}
use Rattle.hep_outcome.specs.LotDraws.{drawn, generator_after, stay_of}

-- `stay`, where one word out of `stay` draws another process, and the generator
pub record LotsValue : Type 0 where
  pub stay : ℕ
  pub generator : Lcg

-- the lots of a seed after n draws
abbrev pub lots_after : ℕ → ℕ → LotsValue
lots_after seed n = record { stay = stay_of seed; generator = generator_after seed n }

-- the process that they draw next of those that are ready and aren't out
abbrev pub next_in : LotsValue → CoreValue → Option ℕ
next_in lots core =
    drawn lots.stay (pcg32 lots.generator).0 (length (state_of core).processes) (last_process core.history) (free_of core)

-- the lots after one draw more
abbrev pub lots_next : LotsValue → LotsValue
lots_next lots = record lots { generator = (pcg32 lots.generator).1 }
