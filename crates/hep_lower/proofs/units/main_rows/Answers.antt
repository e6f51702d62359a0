use Rattle.std.proofs.Common.{refl}
use Rattle.hep_machine.specs.Words.{main_unit}
use Rattle.hep_lower.proofs.PlacedUnits.{both-then, main-frame}
use Rattle.hep_lower.proofs.units.main_rows.Goals as goal

pub returns : goal.returns
returns c =
    both-then c.data_rows.result _ _ _ c.data_rows.ensures.initial c.data_rows.ensures.units
    (λ rows initial of_units program accepted unit places starts small_common small_frame.
    let framed = main-frame program c.args.symbols.now c.args.places.now c.deref.result.now (main_unit program) c.cells.result refl unit places c.deref.ensures.value
    (c.cells.ensures.common program starts) small_common small_frame in
    record { initial = initial program accepted framed; of_units = of_units program accepted framed })
