-- What joined lists of names and letters give.
use Rattle.std.proofs.Common.{◌≡◌, ℕ, List, ◌++◌, ap, ◌∙◌}
use Rattle.std.specs.List.{filter}
use Rattle.std.proofs.lemmas.List.{map-append}
use Rattle.std.proofs.lemmas.List.Elements.{filter-append}
use Rattle.hep_machine.specs.Words.{Declarator, LetterRange, Target, names_declared, is_nonempty}
use Rattle.hep_conditions.specs.Words.{names_of_targets}
use Rattle.hep_types.specs.AmbiguityLines.{ranges_at}
use Rattle.hep_types.specs.Uses.{names_bounded}

pub ranges_append : (line : ℕ) (xs ys : List LetterRange) → ranges_at line (xs ++ ys) ≡ ranges_at line xs ++ ranges_at line ys
ranges_append line xs ys = map-append (λ (r : LetterRange). (r, line)) xs ys

pub targets_append : (xs ys : List Target) → names_of_targets (xs ++ ys) ≡ names_of_targets xs ++ names_of_targets ys
targets_append xs ys = map-append (λ (t : Target). t.occurrence.name) xs ys

pub bounded_append : (xs ys : List Declarator) → names_bounded (xs ++ ys) ≡ names_bounded xs ++ names_bounded ys
bounded_append xs ys =
    ap names_declared (filter-append (λ (d : Declarator). is_nonempty d.dimensions) xs ys)
    ∙ map-append (λ (d : Declarator). d.occurrence.name) (filter (λ (d : Declarator). is_nonempty d.dimensions) xs) (filter (λ (d : Declarator). is_nonempty d.dimensions) ys)
