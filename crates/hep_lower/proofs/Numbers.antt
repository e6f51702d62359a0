-- The names of a program are put in order, and where those of each kind begin is noted.
use Rattle.std.proofs.Common.{◌≡◌, ℕ, zero, suc, ◌+◌, ◌<◌, ◌^◌, List, [], ◌∷◌, ◌++◌, map, length, take, Some, refl, ap, sym, ◌∙◌, arith, append_assoc, slice_get}
use Rattle.std.specs.List.{flat_map}
use Rattle.std.proofs.lemmas.List.{length-append, length-map}
use Rattle.std.proofs.lemmas.Option.{same_Some}
use Rattle.hep_machine.specs.Words.{Units, unit_name, blocks_of, block_spelling}
use Rattle.hep_image.specs.declared.names.ProgramNames.{ProgramNames}
use Rattle.hep_image.specs.Names.{AreNames, spellings_of}
use Rattle.hep_lower.specs.Numbers.{numbers_from}

numbers-all : (n : ℕ) (us : Units) → length (numbers_from n us) ≡ length us
numbers-all n [] = refl
numbers-all n (unit ∷ units) = ap suc (numbers-all (n + length (spellings_of unit)) units)

numbers-at : (n : ℕ) (us : Units) (u m : ℕ) → slice_get (numbers_from n us) u ≡ Some m → m ≡ n + length (flat_map spellings_of (take u us))
numbers-at n [] u m h = absurd cc
numbers-at n (unit ∷ units) zero m h = omega (arith, same_Some n m h)
numbers-at n (unit ∷ units) (suc u) m h =
    omega (arith, numbers-at (n + length (spellings_of unit)) units u m h, length-append (spellings_of unit) (flat_map spellings_of (take u units)))

-- the names of units, then those of variables too, then all
pub names-are : (program : Units) (names : ProgramNames) (units variables all : List (List ℕ)) → units ≡ map unit_name program → variables ≡ units ++ flat_map spellings_of program
    → all ≡ variables ++ map block_spelling (blocks_of program) → names.spelled ≡ all → names.variables ≡ numbers_from (length units) program → names.blocks ≡ length variables
    → length all < 2 ^ 32 → AreNames program names
names-are program names units variables all first second third spelled numbers behind few =
    let own = flat_map spellings_of program in
    let blocks = map block_spelling (blocks_of program) in
    let count : length units ≡ length program = ap length first ∙ length-map program unit_name in
    record {
      spelled =
          spelled
          ∙ (third ∙ (ap (λ ns. ns ++ blocks) (second ∙ ap (λ ns. ns ++ own) first) ∙ append_assoc (map unit_name program) own blocks));
      few = omega (arith, few, ap length spelled);
      all = ap length numbers ∙ numbers-all (length units) program;
      variables_are = λ u n h.
          let at = numbers-at (length units) program u n (ap (λ ns. slice_get ns u) (sym numbers) ∙ h) in
          omega (arith, at, count);
      blocks_are = omega (arith, behind, ap length second, length-append units own, count);
    }
