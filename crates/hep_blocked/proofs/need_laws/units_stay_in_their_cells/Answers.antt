use Rattle.std.proofs.Common.{ℕ, [], ◌∷◌, ◌++◌}
use Rattle.hep_machine.specs.Words.{run, Activation}
use Rattle.hep_blocked.proofs.RankPlaces.{cell-stays}
use Rattle.hep_blocked.proofs.need_laws.units_stay_in_their_cells.Goals as goal

pub returns : goal.returns
returns c program cells choices p cell layout after at e f =
    let s = run program choices in
    let laid = c.layouts_have_what_is_held.ensures.laid program cells choices layout e in
    let t = run program (choices ++ p ∷ []) in
    let enters = λ (x : Activation) (first : ℕ). c.frames_enter.ensures.addresses program s t x layout first cells cell at laid in
    cell-stays program cells choices p cell layout after at (c.numbers_rise.ensures.activations program p s) enters e f
