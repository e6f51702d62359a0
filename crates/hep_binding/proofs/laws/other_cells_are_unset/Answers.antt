use Rattle.std.proofs.Common.{◌≡◌, suc, ◌+◌, ap, ◌∙◌, arith}
use Rattle.hep_binding.specs.AdjustableBounds.{cells_to_bounds_of}
use Rattle.hep_binding.proofs.Cells.{to-end, to-next, to-plain}
use Rattle.hep_binding.proofs.Calls.{rest-unset}
use Rattle.hep_binding.proofs.laws.other_cells_are_unset.Goals as goal

pub returns-clause-made : goal.returns-clause-made
returns-clause-made c creates call layout first out arena nodes lives = rest-unset call lives creates layout first out arena nodes

pub returns-clause-next : goal.returns-clause-next
returns-clause-next c unit k x e = ap (cells_to_bounds_of unit) (let one : k + 1 ≡ suc k = omega arith in one) ∙ to-next unit k x e

pub returns-clause-all : goal.returns-clause-all
returns-clause-all c = to-end

pub returns-clause-plain : goal.returns-clause-plain
returns-clause-plain c = to-plain
