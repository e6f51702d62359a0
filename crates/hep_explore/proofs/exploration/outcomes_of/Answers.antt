use Rattle.std.proofs.Common.{arith, length, subst, sym}
use Rattle.hep_explore.specs.FoundOutcomes.{AreOutcomes}
use Rattle.hep_explore.specs.CountedStates.{HaveStates, IsCutBy}
use Rattle.hep_explore.specs.Searching.{known_of}
use Rattle.hep_explore.proofs.CountedStates.{search_states}
use Rattle.hep_explore.proofs.ListedOutcomes.{all_on, no_outcomes}
use Rattle.hep_explore.proofs.NoOther.{EndAlike, search_cut, search_explored}
use Rattle.hep_explore.proofs.exploration.outcomes_of.Goals as goal

pub list_ended-requires : goal.list_ended-requires
list_ended-requires c =
    record {
      cells = c.requires.cells;
      search = c.requires.within.search;
      expanded = c.requires.within.expanded;
      outcomes = subst (AreOutcomes c.args.image.now c.args.cells) (sym c.new-found.ensures.items) (
          no_outcomes c.args.image.now c.args.cells);
    }

pub returns : goal.returns
returns c =
    let program = c.args.image.now in
    let cells = c.args.cells in
    let most = c.args.most in
    let s = known_of c.args.search.now in
    let within = c.requires.within in
    let image = c.is_runnable.ensures in
    let end_alike : EndAlike program = λ n before after m one two.
    c.states_of_a_machine_end_alike.ensures program n before after m image.accepted image.main one two
    in
    let full = c.in_ok-list_full.ensures in
    let listed =
    all_on program cells s (length s.ended) c.list_ended.new.found.items c.list_full.new.found.items full.kept
    c.in_ok-list_ended.ensures.listed
    in
    record {
      explored = search_explored program cells most s within (c.machines_with_equal_keys_keep_the_same_states.ensures program) end_alike
          c.list_full.new.found.items full.outcomes listed c.is_complete.result c.is_complete.ensures.whole;
      states = subst (λ n. HaveStates program cells n c.list_full.new.found.items c.is_complete.result) (sym c.len.ensures) (
          search_states program cells most s within c.list_full.new.found.items listed c.is_complete.result c.is_complete.ensures.whole);
      few = let few = within.search.few in omega (arith, within.bounded, c.len.ensures);
      cut = λ partial.
          subst (IsCutBy program cells most) (sym c.len.ensures) (
          search_cut program cells most s within full.full (c.is_complete.ensures.partial partial));
    }
