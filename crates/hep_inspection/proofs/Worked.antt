-- What is expected of the outcomes of a search, row by row.
use Rattle.std.proofs.Common.{◌≡◌, ◌∷◌, ℕ, [], Some, None, codes, false, refl, true}
use Rattle.std.specs.Fmt.{digits}
use Rattle.hep_explore.specs.Explored.{Found}
use Rattle.hep_outcome.specs.declared.status.Status.TheVariants.{Done, StepLimit, Unexpected}
use Rattle.hep_inspection.specs.Explorations.{contradicts_one, contradicts_status, expected_one_text, expected_status_text, explored_status}

-- an outcome with this status
abbrev ended : ℕ → Found
ended n = record { status = n; lines = []; choices = [] }

one_outcome : contradicts_one (ended 4 ∷ []) true ≡ false
one_outcome = refl

-- the search is cut short, and still there are two
two_outcomes : contradicts_one (ended 0 ∷ ended 0 ∷ []) false ≡ true
two_outcomes = refl

no_outcome : contradicts_one [] true ≡ true
no_outcome = refl

no_outcome_yet : contradicts_one [] false ≡ false
no_outcome_yet = refl

same_statuses : contradicts_status 0 (ended 0 ∷ ended 0 ∷ []) true ≡ false
same_statuses = refl

other_status : contradicts_status 0 (ended 0 ∷ ended 4 ∷ []) false ≡ true
other_status = refl

no_status : contradicts_status 0 [] true ≡ true
no_status = refl

no_status_yet : contradicts_status 0 [] false ≡ false
no_status_yet = refl

line_of_one : expected_one_text true (ended 0 ∷ ended 4 ∷ []) true ≡ codes "EXPECTED ONE OUTCOME\n"
line_of_one = refl

none_expected : expected_one_text false (ended 0 ∷ ended 4 ∷ []) true ≡ []
none_expected = refl

line_of_status : expected_status_text (Some 4) (ended 0 ∷ []) true ≡ codes "EXPECTED STATUS 4\n"
unfolding digits
line_of_status = refl

no_status_expected : expected_status_text None (ended 0 ∷ []) true ≡ []
no_status_expected = refl

unexpected : explored_status (codes "EXPECTED ONE OUTCOME\n") false ≡ Unexpected
unexpected = refl

-- nothing contradicts what is expected, and more may come
cut_short : explored_status [] false ≡ StepLimit
cut_short = refl

as_expected : explored_status [] true ≡ Done
as_expected = refl
