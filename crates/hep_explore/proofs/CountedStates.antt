-- How many states a search has found: steps lead to each of them, no two are the same, and each that has ended is listed.
use Rattle.std.proofs.Common.{◌≡◌, ℕ, Bool, true, true≢false, List, [], length, None, IsSome, is_some, refl, sym, ap, ◌∙◌, subst, arith}
use Rattle.std.proofs.lemmas.Option.{none-some, same_Some, slice_get_within}
use Rattle.hep_machine.specs.Words.{Units, is_held, layout_of, opening, opening_layout}
use Rattle.hep_machine.specs.Layout.{placing_from}
use Rattle.hep_explore.proofs.LargerArenas.{none_stays}
use Rattle.hep_explore.specs.CountedStates.{HaveStates}
use Rattle.hep_explore.specs.Explored.{Found}
use Rattle.hep_explore.specs.FoundOutcomes.{AreListed}
use Rattle.hep_explore.specs.Searching.{IsKept, IsSearchWithin, IsWhole, Known}
use Rattle.hep_explore.proofs.NoOther.{leads_among, stopped_among}
use Rattle.hep_explore.proofs.Paths.{has_path}

-- those that a search has found are all where each is expanded and no step was left out
pub search_states : (program : Units) (cells most : ℕ) (s : Known) → IsSearchWithin program cells most s → (all : List Found)
    → AreListed program cells s (length s.ended) all → (complete : Bool) → (complete ≡ true → IsWhole s)
    → HaveStates program cells (length s.states) all complete
search_states program cells most s within all listed complete is_whole =
    record {
      arena = s.cells;
      within = within.within;
      keys = s.states;
      count = refl;
      different = within.search.different;
      reached = λ i key here.
          let less = slice_get_within s.states i key here in
          let path = has_path program s within.search i i (omega arith) less in (
            path.0,
            path.1.made,
            subst (IsKept program s.cells path.0) (same_Some path.1.key key (sym path.1.numbered ∙ here)) path.1.kept,
          );
      ended = λ i key before here kept terminal.
          let less = slice_get_within s.states i key here in
          let none = ap length within.done in
          let count = within.search.counted in
          let there = within.expanded.all i key before (omega arith) here kept terminal in
          let one = listed there.0 i (slice_get_within s.ended there.0 i there.1) there.1 in
          let same = same_Some one.path.key key (sym one.path.numbered ∙ here) in
          record {
            choices = one.choices;
            made = one.path.made;
            kept = subst (IsKept program s.cells one.choices) same one.path.kept;
            listed = one.listed;
          };
      no_other = λ is choices made laid going.
          leads_among program s within.search within.expanded (is_whole is) within.done choices made going;
      stopped = λ is choices made laid halted.
          stopped_among program s within.search within.expanded (is_whole is) within.done choices halted;
    }

-- there are none where the main program's frame doesn't fit the arena
pub no_states : (program : Units) (cells : ℕ) → opening_layout program cells ≡ None → (all : List Found) (complete : Bool)
    → HaveStates program cells 0 all complete
no_states program cells none all complete =
    record {
      arena = cells;
      within = omega arith;
      keys = [];
      count = refl;
      different = λ i j key here. absurd (none-some key here);
      reached = λ i key here. absurd (none-some key here);
      ended = λ i key before here. absurd (none-some key here);
      no_other = λ is choices made laid going. absurd (unlaid choices laid);
      stopped = λ is choices made laid halted. absurd (unlaid choices laid);
    }
  where
    unlaid : (choices : List ℕ) → IsSome (layout_of program cells is_held choices) → ⊥
    unlaid choices laid =
        let unplaced : layout_of program cells is_held choices ≡ None =
        ap (λ l. (placing_from program cells is_held (record { state = opening program; layout = l }) choices).layout) none
        ∙ none_stays program cells cells (omega arith) choices (opening program)
        in
        true≢false (sym laid ∙ ap is_some unplaced)
