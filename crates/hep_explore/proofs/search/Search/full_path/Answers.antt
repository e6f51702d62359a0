use Rattle.hep_explore.specs.Searching.{known_of}
use Rattle.std.proofs.lemmas.Option.{slice_get_within}
use Rattle.hep_explore.proofs.Paths.{full_after}
use Rattle.hep_explore.proofs.search.Search.full_path.Goals as goal

pub path-requires : goal.path-requires
path-requires c =
    let s = known_of c.args.self.now in
    let step = c.requires.1.full c.in-Some.origin c.in-Some.is in
    record { search = c.requires; found = slice_get_within s.states c.in-Some.origin.from step.from step.from_is }

pub returns : goal.returns
returns c =
    let s = known_of c.args.self.now in
    record {
      none = tt;
      full = λ program search.
          full_after program s c.in-Some.origin c.in_ok-choices.choices.items c.push.new.self.items (
          search.full c.in-Some.origin c.in-Some.is) (
          c.in_ok-choices.ensures program search) c.in_ok-push.ensures.items;
    }
