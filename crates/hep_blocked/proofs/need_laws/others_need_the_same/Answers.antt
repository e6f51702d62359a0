use Rattle.std.proofs.Common.{◌≡◌, ℕ, true, [], ◌∷◌, ◌++◌}
use Rattle.hep_machine.specs.Words.{is_owned}
use Rattle.hep_blocked.proofs.NeededCells.{need-after}
use Rattle.hep_blocked.proofs.need_laws.others_need_the_same.Goals as goal

pub returns : goal.returns
returns c program cells choices p q cell full layout needs there other placed =
    let w = needs.wanted in
    let needed = need-after program choices p q w there other needs.needed in
    let after = choices ++ p ∷ [] in
    record {
      wanted = w;
      needed = needed;
      state = needs.state;
      kept = λ left turned.
          let held = λ (b : ℕ) (owned : is_owned b w.at ≡ true). c.needed_units_are_held.ensures program after q b w needed owned in
          c.units_stay_in_their_cells.ensures program cells choices p cell layout left w.at placed turned held (needs.kept layout placed);
    }
