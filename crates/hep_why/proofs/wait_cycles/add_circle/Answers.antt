use Rattle.std.proofs.Common.{◌≡◌, ◌∙◌, None, sym, append-nil}
use Rattle.hep_why.specs.WaitCycles.{circle_at}
use Rattle.hep_why.proofs.CycleLists.{unnoted}
use Rattle.hep_why.proofs.wait_cycles.add_circle.Goals as goal

pub returns-then-not-is_noted : goal.returns-then-not-is_noted
returns-then-not-is_noted c =
    let none : circle_at c.args.nexts.now c.args.index ≡ None =
    unnoted c.args.nexts.now c.args.noted.now c.args.index c.requires (sym c.is_noted.ensures ∙ c.if-not-is_noted.true) in
    rw none (sym (append-nil _))
