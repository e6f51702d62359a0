-- The states that a search has found, by their keys.
use Rattle.std.specs.Prelude.{ℕ, List, map}
use Rattle.hep_explore.specs.declared.key.Key.{Key}

-- the bytes of each key
abbrev pub bytes_in : List Key → List (List ℕ)
bytes_in keys = map (λ (k : Key). k.bytes.items) keys
