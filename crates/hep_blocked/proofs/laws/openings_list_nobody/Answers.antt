use Rattle.std.proofs.Common.{◌≡◌, [], ◌∷◌, refl, ap}
use Rattle.std.proofs.lemmas.Option.{none-some}
use Rattle.hep_machine.specs.Words.{Units, opening, is_number_among, run, run_from, ready_in}
use Rattle.hep_blocked.proofs.laws.openings_list_nobody.Goals as goal

opening-run : (program : Units) → opening program ≡ run program []
unfolding run run_from
opening-run program = refl

opening-ready : (program : Units) → 1 ∷ [] ≡ ready_in (record { state = opening program; listed = [] })
unfolding opening
opening-ready program = refl

pub returns : goal.returns
returns c program cells =
    record {
      state = opening-run program;
      listed = λ p. refl;
      blocked = λ p w e. absurd (none-some w e);
      are_ready = λ p. ap (is_number_among p) (opening-ready program);
    }
