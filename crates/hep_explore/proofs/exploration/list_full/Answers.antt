use Rattle.std.proofs.Common.{IfSome, inr, subst}
use Rattle.hep_machine.specs.Words.{Units}
use Rattle.hep_explore.specs.Searching.{IsFullPath, IsSearch, known_of}
use Rattle.hep_explore.proofs.Paths.{full_steps}
use Rattle.hep_explore.proofs.exploration.list_full.Goals as goal

pub full_path-requires : goal.full_path-requires
full_path-requires c = (c.args.image.now, c.requires.search)

pub list_by-requires : goal.list_by-requires
list_by-requires c =
    let s = c.args.search.now in
    let path =
    subst (λ o. IfSome o (λ choices. (program : Units) → IsSearch program (known_of s) → IsFullPath program s.cells choices.items))
    c.in-Some.is c.in_ok-choices.ensures.full
    in
    record {
      cells = c.requires.cells;
      made = full_steps c.args.image.now s.cells c.in-Some.choices.items (path c.args.image.now c.requires.search);
      outcomes = c.requires.outcomes;
    }

pub returns-clause-full : goal.returns-clause-full
returns-clause-full c =
    let s = c.args.search.now in
    let path =
    subst (λ o. IfSome o (λ choices. (program : Units) → IsSearch program (known_of s) → IsFullPath program s.cells choices.items))
    c.in-Some.is c.in_ok-choices.ensures.full
    in
    inr (c.in-Some.choices.items, path c.args.image.now c.requires.search)
