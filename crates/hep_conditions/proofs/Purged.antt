-- A worked condition of what no text reads to: no name in PARAMETER has a `$` there (docs/LANGUAGE.md, 3).
use Rattle.std.specs.Prelude.{◌≡◌, codes, pos, [], ◌∷◌, None, true, refl}
use Rattle.hep_machine.specs.Words.{constant, Occurrence, Parameter, Purge, End, Int, Units}
use Rattle.hep_conditions.specs.Words.{violations}

-- $I
abbrev name : Occurrence
name = record { name = record { asynchronous = true; letters = codes "I     " }; position = 0 }

-- PARAMETER ($I=1), PURGE $I and END
abbrev program : Units
program =
    (record { line = 1; label = None; conditions = []; form = Parameter (record { occurrence = name; value = constant (Int (pos 1)) } ∷ []) }
    ∷ record { line = 2; label = None; conditions = []; form = Purge (record { occurrence = name; subscripts = [] } ∷ []) }
    ∷ record { line = 3; label = None; conditions = []; form = End } ∷ []) ∷ []

-- a named constant isn't purged
constant_purged : violations program ≡ record { line = 2; number = 304; name = None; position = 0 } ∷ []
constant_purged = refl
