-- Computed examples of what `sample` writes.
use Rattle.std.proofs.Common.{◌≡◌, ◌∷◌, ◌++◌, List, [], codes, refl}
use Rattle.std.specs.Fmt.{digits}
use Rattle.hep_formats.specs.Strings.{json_string}
use Rattle.hep_outcome.specs.Tallies.{Tally, sample_objects, sample_text}

-- three runs that printed 5 6, and one that printed 7 and then waits
two : List Tally
two =
    record { count = 3; seed = 1; status = 0; lines = codes " 5\n 6\n" }
    ∷ record { count = 1; seed = 2; status = 4; lines = codes " 7\nWAITING 1 MAIN LINE 2 FOR FULL $A OF 1\n" }
    ∷ []

as_lines : sample_text 4 two
    ≡ codes "3 OF 4 STATUS 0 FIRST BY SEED 1\n 5\n 6\n"
    ++ codes "1 OF 4 STATUS 4 FIRST BY SEED 2\n 7\nWAITING 1 MAIN LINE 2 FOR FULL $A OF 1\n"
    ++ codes "OTHER OUTCOMES MAY BE POSSIBLE\n"
unfolding digits two
as_lines = refl

as_objects : sample_objects 4 two
    ≡ codes "{\"status\":0,\"count\":3,\"first_seed\":1,\"lines\":[\" 5\",\" 6\"]}\n"
    ++ codes "{\"status\":4,\"count\":1,\"first_seed\":2,\"lines\":[\" 7\",\"WAITING 1 MAIN LINE 2 FOR FULL $A OF 1\"]}\n"
    ++ codes "{\"runs\":4,\"outcomes\":2,\"others_possible\":true}\n"
unfolding digits json_string two
as_objects = refl
