use Rattle.std.proofs.Common.{◌≡◌, ◌∙◌, subst, arith}
use Rattle.hep_core.specs.SilentChoices.{entries_along}
use Rattle.hep_core.proofs.SilentChoices.{entries-many}
use Rattle.hep_core.proofs.run_core.note_all.Goals as goal

pub returns-then-count-eq1 : goal.returns-then-count-eq1
returns-then-count-eq1 c =
    let one : 1 ≡ c.args.count = omega arith in
    subst (λ n. c.note.new.history.items ≡ entries_along c.args.history.now.items c.args.p n) one c.note.ensures

pub returns : goal.returns
returns c = c.push_many.ensures.items ∙ entries-many c.args.history.now.items c.args.p c.args.count
