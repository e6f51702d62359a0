use Rattle.std.proofs.Common.{◌≡◌, ◌-◌, ◌≤◌, List, [], ◌∷◌, true, drop, refl, sym, ◌∙◌, arith, length, length-drop}
use Rattle.hep_workers.specs.declared.receipt.Receipt.{Receipt}
use Rattle.hep_workers.specs.Receipts.{rises}
use Rattle.hep_workers.proofs.report.rises.Goals as goal

-- one receipt at most
short : (rs : List Receipt) → length rs ≤ 1 → rises rs ≡ true
short [] le = refl
short (r ∷ []) le = refl
short (r ∷ q ∷ rs) le = absurd (omega arith)

pub returns : goal.returns
returns c = sym (short (drop (c.loop-i.i - 1) c.args.receipts.now) (omega (arith, length-drop {A = Receipt}))) ∙ c.loop-i.invariant
