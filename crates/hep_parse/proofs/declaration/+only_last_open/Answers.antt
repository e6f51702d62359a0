use Rattle.std.proofs.Common.{◌≡◌, true, ◌<◌, List, [], ◌∷◌, length, refl, arith}
use Rattle.hep_source.specs.declared.declaration.Dimension.{Dimension}
use Rattle.hep_parse.specs.Declaration.{only_last_open}
use Rattle.hep_parse.proofs.declaration.+only_last_open.Goals as goal

short : (xs : List Dimension) → length xs < 2 → true ≡ only_last_open xs
short [] h = refl
short (x ∷ []) h = refl
short (x ∷ y ∷ more) h = absurd (omega arith)

pub returns-in-empty : goal.returns-in-empty
returns-in-empty t c = short c.args.dimensions.now c.in-empty.len_below
