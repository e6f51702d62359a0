-- Declarators that give no dimensions have no bounds that could be wrong.
use Rattle.std.proofs.Common.{◌≡◌, List, refl}
use Rattle.std.specs.List.{list_all}
use Rattle.hep_machine.specs.Words.{Declarator, Statement}
use Rattle.hep_conditions.specs.Words.{Parameters, has_bounds}
use Rattle.hep_names.specs.Tables.{arrays_among}
use Rattle.hep_names.proofs.ArraysAmong.{all_arrays}

pub bounded_arrays : (unit : List Statement) (ps : Parameters) (ds : List Declarator) → list_all (has_bounds unit ps) (arrays_among ds) ≡ list_all (has_bounds unit ps) ds
bounded_arrays unit ps ds = all_arrays (has_bounds unit ps) (λ d e. rw e refl) ds
