-- Declarators that give no dimensions are of no consequence for arrays.
use Rattle.std.proofs.Common.{◌≡◌, Bool, true, false, ◌&&◌, if◌then◌else◌, Option, Some, List, [], ◌∷◌, ◌++◌, refl, ap, sym, ◌∙◌}
use Rattle.std.proofs.lemmas.List.{append_assoc}
use Rattle.std.proofs.lemmas.List.Elements.{filter-append}
use Rattle.std.specs.List.{list_all}
use Rattle.hep_machine.specs.Words.{Declarator, Name, same_name, declarator_among, is_nonempty}
use Rattle.hep_names.specs.Tables.{arrays_among}

pub among_arrays : (x : Name) (ds : List Declarator) → declarator_among x (arrays_among ds) ≡ declarator_among x ds
among_arrays x [] = refl
among_arrays x (d ∷ ds) = by (is_nonempty d.dimensions) refl (among_arrays x ds)
  where
    none : (a : Bool) (o : Option Declarator) → (if a && false then Some d else o) ≡ o
    none true o = refl
    none false o = refl

    by : (t : Bool) → is_nonempty d.dimensions ≡ t → declarator_among x (arrays_among ds) ≡ declarator_among x ds
        → declarator_among x (if t then d ∷ arrays_among ds else arrays_among ds) ≡ declarator_among x (d ∷ ds)
    by true e i = ap (λ o. if same_name d.occurrence.name x && is_nonempty d.dimensions then Some d else o) i
    by false e i =
        i
        ∙ sym
        (ap (λ t. if same_name d.occurrence.name x && t then Some d else declarator_among x ds) e
        ∙ none (same_name d.occurrence.name x) (declarator_among x ds))

-- a test that all without dimensions pass
pub all_arrays : (test : Declarator → Bool) → ((d : Declarator) → is_nonempty d.dimensions ≡ false → test d ≡ true) → (ds : List Declarator) → list_all test (arrays_among ds) ≡ list_all test ds
all_arrays test h [] = refl
all_arrays test h (d ∷ ds) = by (is_nonempty d.dimensions) refl (all_arrays test h ds)
  where
    by : (t : Bool) → is_nonempty d.dimensions ≡ t → list_all test (arrays_among ds) ≡ list_all test ds → list_all test (if t then d ∷ arrays_among ds else arrays_among ds) ≡ (test d && list_all test ds)
    by true e i = ap (λ b. test d && b) i
    by false e i = i ∙ rw (h d e) refl

-- one turn of a loop over declarators: those that give dimensions are added
pub arrays-turn : (found ds rest : List Declarator) → found ++ arrays_among ds ++ arrays_among rest ≡ found ++ arrays_among (ds ++ rest)
arrays-turn found ds rest =
    append_assoc found (arrays_among ds) (arrays_among rest)
    ∙ ap (λ more. found ++ more) (sym (filter-append (λ (d : Declarator). is_nonempty d.dimensions) ds rest))
