use Rattle.std.proofs.lemmas.Result.{IfOk-weaker}
use Rattle.indexmap.specs.IndexMap.{get}
use Rattle.hep_machine.specs.Words.{name_eq}
use Rattle.hep_places.proofs.FrameFit.{rows_are_right}
use Rattle.hep_places.proofs.initial_rows.data_rows.Goals as goal

pub returns : goal.returns
returns c =
    let f = c.args.frame.now in
    let right = rows_are_right c.constants_agree.ensures c.places_are_local.ensures.local c.places_are_local.ensures.elements f.symbols.now (get name_eq f.variables.now) f.arrays.now f.common in
    record {
      initial = IfOk-weaker c.rows_of.result _ _ (λ rows same program accepted frame. (right rows.items same program accepted frame).0) c.rows_of.ensures;
      units = IfOk-weaker c.rows_of.result _ _ (λ rows same program accepted frame. (right rows.items same program accepted frame).1) c.rows_of.ensures;
    }
