use Rattle.std.proofs.Common.{◌+◌, arith, subst, sym}
use Rattle.std.proofs.lemmas.Option.{slice_get_within}
use Rattle.hep_explore.specs.Searching.{AreExpanded, IsWholeTry, known_of}
use Rattle.hep_explore.proofs.Paths.{counted_soon}
use Rattle.hep_explore.proofs.SearchedStates.{expanded_on, numbered_on, told_is_search}
use Rattle.hep_explore.proofs.TriedSteps.{expanded_no, expanded_yes}
use Rattle.hep_explore.proofs.search.Search.expand.Goals as goal

pub has_steps-requires : goal.has_steps-requires
has_steps-requires c =
    let program = c.args.image.now in
    let s = known_of c.args.self.now in
    let m = c.args.machine.now in
    let alike = c.machines_with_equal_keys_keep_the_same_states.ensures program in
    let soon = counted_soon program alike s c.requires.search c.args.from m c.requires.numbered in
    let less = slice_get_within s.states c.args.from c.requires.numbered.key c.requires.numbered.numbered in
    let origins = c.requires.search.origins in
    record {
      search = c.requires.search;
      numbered = c.requires.numbered;
      countable = omega (arith, soon.0, less, origins);
      numerable = omega (arith, soon.1, less, origins);
    }

pub returns-then-moved : goal.returns-then-moved
returns-then-moved c =
    let program = c.args.image.now in
    let s = known_of c.args.self.now in
    let new = known_of c.has_steps.new.self in
    let m = c.args.machine.now in
    let on = c.in_ok-moved.ensures.goes_on in
    let less = slice_get_within s.states c.args.from c.requires.numbered.key c.requires.numbered.numbered in
    let still = expanded_on program s new on c.args.from (omega arith) c.requires.expanded in
    let numbered = numbered_on program s new on.kept c.args.from m c.requires.numbered in
    let alike = c.machines_with_equal_keys_keep_the_same_states.ensures program in
    record {
      search = c.in_ok-moved.ensures.search;
      expanded = expanded_yes program alike new c.args.from m numbered still (
          subst (λ b. IsWholeTry program m b new) c.if-moved.true c.in_ok-moved.ensures.tried);
      same = (on.kept, c.in_ok-moved.ensures.same);
    }

pub returns : goal.returns
returns c =
    let program = c.args.image.now in
    let s = known_of c.args.self.now in
    let new = known_of c.has_steps.new.self in
    let m = c.args.machine.now in
    let on = c.in_ok-moved.ensures.goes_on in
    let less = slice_get_within s.states c.args.from c.requires.numbered.key c.requires.numbered.numbered in
    let still = expanded_on program s new on c.args.from (omega arith) c.requires.expanded in
    let numbered = numbered_on program s new on.kept c.args.from m c.requires.numbered in
    let alike = c.machines_with_equal_keys_keep_the_same_states.ensures program in
    let tried = subst (λ b. IsWholeTry program m b new) c.if-moved.false c.in_ok-moved.ensures.tried in
    record {
      search = told_is_search program new c.push.new.self.items new.cut c.in_ok-moved.ensures.search c.in_ok-moved.ensures.search.cut;
      expanded = subst (λ es. AreExpanded program (c.args.from + 1) (record new { ended = es })) (sym c.in_ok-push.ensures.items) (
          expanded_no program alike new c.args.from m numbered still tried);
      same = (record { cells = on.kept.cells; most = on.kept.most; states = on.kept.states }, c.in_ok-moved.ensures.same);
    }
