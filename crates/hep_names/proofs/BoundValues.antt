-- Values of bounds.
use Rattle.std.proofs.Common.{◌≡◌, Option, Some, None, ◌++◌, refl}
use Rattle.std.specs.Option.{option_map}
use Rattle.hep_machine.specs.Words.{Value, integer_of, Bounds}

-- bounds, and those of more dimensions after them
abbrev pub prefixed : Bounds → Option Bounds → Option Bounds
prefixed bs None = None
prefixed bs (Some cs) = Some (bs ++ cs)

-- an upper bound that isn't open
pub closed-value : (o : Option Value) → option_map Some (option_map integer_of o) ≡ option_map (λ (v : Value). Some (integer_of v)) o
closed-value None = refl
closed-value (Some v) = refl
