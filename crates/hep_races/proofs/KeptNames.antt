-- The names of a unit are found by its index, and by their numbers.
use Rattle.std.proofs.Common.{◌≡◌, ℕ, ◌+◌, ◌-◌, ◌<◌, true, List, length, map, Some, get_or, slice_get, sym, ap, ◌∙◌, arith}
use Rattle.std.specs.Option.{option_map}
use Rattle.std.proofs.lemmas.List.{length-map}
use Rattle.std.proofs.lemmas.Option.{same_Some, slice_get-get_or, slice_get-map}
use Rattle.hep_image.specs.Names.{first_variable, variable_index, variable_number}
use Rattle.hep_image.proofs.Numbers.{unit-there, variable-at}
use Rattle.hep_machine.specs.Words.{Name, Units, is_among, names_of, unit_at}

-- the names that are kept at the index of a unit
pub kept-names : (program : Units) (u : ℕ) (rows : List (List Name)) (row : List Name) → u < length program → rows ≡ map names_of program
    → row ≡ get_or rows u row → row ≡ names_of (unit_at program u)
kept-names program u rows row inside all is =
    let there : u < length rows = omega (arith, inside, ap length all, length-map program names_of) in
    same_Some row (names_of (unit_at program u)) (
    ap (λ r. Some r) is ∙ sym (slice_get-get_or rows u row there) ∙ ap (λ rs. slice_get rs u) all
    ∙ slice_get-map names_of program u ∙ ap (option_map names_of) (unit-there program u inside))

-- the name with a number
pub named-at : (program : Units) (u : ℕ) (x : Name) (number first : ℕ) → is_among x (names_of (unit_at program u)) ≡ true
    → number ≡ variable_number program u x → first ≡ first_variable program u + 0
    → slice_get (names_of (unit_at program u)) (number - first) ≡ Some x
named-at program u x number first among is begins =
    let index : number - first ≡ variable_index (unit_at program u) x = omega (arith, is, begins) in
    ap (slice_get (names_of (unit_at program u))) index ∙ variable-at (unit_at program u) x among
