use Rattle.std.proofs.Common.{◌≡◌, ◌∙◌, ◌||◌, not, ap, sym}
use Rattle.hep_machine.specs.Words.{external, function_called, is_external, listed_meaning, trees_of}
use Rattle.hep_conditions.specs.Words.{fits_subroutine, function_types, list_of}
use Rattle.hep_names.specs.Meanings.{meaning}
use Rattle.hep_types.proofs.CallPasses.{fits_called}
use Rattle.hep_types.proofs.argument_association.fits_reference.Goals as goal
use Rattle.hep_source.proofs.Trees.{list_of_trees}

pub returns-in-External : goal.returns-in-External
returns-in-External c =
    let program = c.args.program.now in
    let unit = c.args.symbols.now in
    let x = c.args.reference.now.occurrence.name in
    let ts = c.args.reference.now.arguments.now in
    let o = function_called program x in
    let means : listed_meaning unit x ≡ external = sym c.listed_meaning.ensures ∙ ap meaning c.in-External.is in
    c.fits_function.ensures
    ∙ (sym (fits_called (function_types program) program unit o ts)
    ∙ (ap (fits_subroutine (function_types program) program unit o) (sym (list_of_trees ts))
    ∙ ap (λ m. not (is_external m) || fits_subroutine (function_types program) program unit o (list_of (trees_of ts))) (sym means)))
