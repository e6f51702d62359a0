use Rattle.std.proofs.Common.{ap, sym, ◌∙◌}
use Rattle.hep_machine.specs.Words.{is_main, main_among, procedure_name}
use Rattle.hep_image.proofs.image.Image.main.Goals as goal
use Rattle.hep_source.proofs.Tests.{index-below}

pub returns-clause-main : goal.returns-clause-main
returns-clause-main c = ap main_among (sym c.self.view_is) ∙ c.self.invariant.main_is

pub returns-clause-inside : goal.returns-clause-inside
returns-clause-inside c =
    let program = c.args.self.now in
    index-below (λ unit. is_main (procedure_name unit)) program c.self.inside.main (ap main_among (sym c.self.view_is) ∙ c.self.invariant.main_is)
