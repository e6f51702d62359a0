-- Where each frame of some steps has a gap, it has the same one in a larger arena.
use Rattle.std.proofs.Common.{◌≡◌, ℕ, ◌+◌, ◌≤◌, Bool, true, false, true≢false, if◌then◌else◌, nat_le, nat_lt, List, [], ◌∷◌, length}
use Rattle.std.proofs.Common.{Option, Some, None, IsSome, is_some, refl, sym, ap, ◌∙◌, subst, arith}
use Rattle.std.specs.Option.{option_map}
use Rattle.std.proofs.lemmas.Bool.{le-leb, leb-true}
use Rattle.std.proofs.lemmas.Option.{none-some}
use Rattle.hep_machine.specs.Words.{Layout, State, Units, common_cells, is_held, layout_of, opening, opening_layout, with_frame, with_new}
use Rattle.hep_machine.specs.Words.{state_after_turn}
use Rattle.hep_machine.specs.Layout.{frame_of, layout_after_step, layout_with_activation, lowest_gap, placing_from, remaining_layout}
use Rattle.hep_explore.specs.Endings.{Ending, IsEndingWithin}

-- what a mapped option was
was_some : {A B : Type 0} (f : A → B) (o : Option A) (y : B) → option_map f o ≡ Some y → (x : A) × (o ≡ Some x)
was_some f (Some x) y e = (x, refl)
was_some f None y e = absurd (none-some y e)

module _ (program : Units) (small large : ℕ) (le : small ≤ large) where
  same_gap : (n from first : ℕ) (layout : Layout) → lowest_gap small n from layout ≡ Some first
      → lowest_gap large n from layout ≡ Some first
  same_gap n from first [] e = by_room (nat_le (from + n) small) refl where
    by_room : (b : Bool) → nat_le (from + n) small ≡ b → lowest_gap large n from [] ≡ Some first
    by_room true fits =
        let room : from + n ≤ large = (let there = leb-true (from + n) small fits in omega arith) in
        ap (λ b. if b then Some from else None) (le-leb (from + n) large room) ∙ (sym (ap (λ b. if b then Some from else None) fits) ∙ e)
    by_room false fits = absurd (none-some first (sym (ap (λ b. if b then Some from else None) fits) ∙ e))
  same_gap n from first (f ∷ fs) e = by_gap (nat_le (from + n) f.first) refl (same_gap n (f.first + f.cells) first fs) where
    by_gap : (b : Bool) → nat_le (from + n) f.first ≡ b
        → (lowest_gap small n (f.first + f.cells) fs ≡ Some first → lowest_gap large n (f.first + f.cells) fs ≡ Some first)
        → lowest_gap large n from (f ∷ fs) ≡ Some first
    by_gap true fits later =
        ap (λ b. if b then Some from else lowest_gap large n (f.first + f.cells) fs) fits
        ∙ (sym (ap (λ b. if b then Some from else lowest_gap small n (f.first + f.cells) fs) fits) ∙ e)
    by_gap false fits later =
        ap (λ b. if b then Some from else lowest_gap large n (f.first + f.cells) fs) fits
        ∙ later (sym (ap (λ b. if b then Some from else lowest_gap small n (f.first + f.cells) fs) fits) ∙ e)

  -- the layout with the frame of the last activation of a state, if it is new
  abbrev with_last : ℕ → Bool → State → Layout → Option Layout
  with_last cells b s layout =
      if b then layout_with_activation program cells layout (length s.activations) (frame_of program s (length s.activations))
      else Some layout

  same_new : (n : ℕ) (s : State) (layout after : Layout) → with_new program small n s layout ≡ Some after
      → with_new program large n s layout ≡ Some after
  same_new n s layout after = by_new (nat_lt n (length s.activations)) where
    by_new : (b : Bool) → with_last small b s layout ≡ Some after → with_last large b s layout ≡ Some after
    by_new false e = e
    by_new true e =
        let a = length s.activations in
        let size = frame_of program s a in
        let framed : ℕ → Layout = λ first. with_frame layout (record { activation = a; first = first; cells = size }) in
        let gap = was_some framed (lowest_gap small size (common_cells program) layout) after e in
        ap (option_map framed) (same_gap size (common_cells program) gap.0 layout gap.1) ∙ (sym (ap (option_map framed) gap.1) ∙ e)

  same_step : (s t : State) (layout after : Layout) → layout_after_step program small is_held s t layout ≡ Some after
      → layout_after_step program large is_held s t layout ≡ Some after
  same_step s t layout after e =
      let new = was_some (remaining_layout is_held t) (with_new program small (length s.activations) t layout) after e in
      ap (option_map (remaining_layout is_held t)) (same_new (length s.activations) t layout new.0 new.1)
      ∙ (sym (ap (option_map (remaining_layout is_held t)) new.1) ∙ e)

  -- where a frame had no gap, there is no layout from there on
  pub none_stays : (ps : List ℕ) (s : State) → (placing_from program small is_held (record { state = s; layout = None }) ps).layout ≡ None
  unfolding placing_from
  none_stays [] s = refl
  none_stays (p ∷ ps) s = none_stays ps (state_after_turn program p s)

  -- the layout after these turns from a state and a layout
  abbrev small_after : List ℕ → State → Option Layout → Option Layout
  small_after ps s o = (placing_from program small is_held (record { state = s; layout = o }) ps).layout

  abbrev large_after : List ℕ → State → Option Layout → Option Layout
  large_after ps s o = (placing_from program large is_held (record { state = s; layout = o }) ps).layout

  same_from : (ps : List ℕ) (s : State) (before after : Layout) → small_after ps s (Some before) ≡ Some after
      → large_after ps s (Some before) ≡ Some after
  unfolding placing_from
  same_from [] s before after e = e
  same_from (p ∷ ps) s before after e =
      let t = state_after_turn program p s in
      by_step (layout_after_step program small is_held s t before) refl (same_from ps t)
    where
      by_step : (o : Option Layout) → layout_after_step program small is_held s (state_after_turn program p s) before ≡ o
          → ((mid end : Layout) → small_after ps (state_after_turn program p s) (Some mid) ≡ Some end
          → large_after ps (state_after_turn program p s) (Some mid) ≡ Some end)
          → large_after ps (state_after_turn program p s) (layout_after_step program large is_held s (state_after_turn program p s) before)
          ≡ Some after
      by_step (Some mid) is later =
          let t = state_after_turn program p s in
          ap (large_after ps t) (same_step s t before mid is) ∙ later mid after (sym (ap (small_after ps t) is) ∙ e)
      by_step None is later =
          let t = state_after_turn program p s in
          absurd (none-some after (sym (none_stays ps t) ∙ (sym (ap (small_after ps t) is) ∙ e)))

  -- the layout after these turns is the same
  pub same_layout : (choices : List ℕ) (after : Layout) → layout_of program small is_held choices ≡ Some after
      → layout_of program large is_held choices ≡ Some after
  same_layout choices after e = by_opening (opening_layout program small) refl where
    by_opening : (o : Option Layout) → opening_layout program small ≡ o → layout_of program large is_held choices ≡ Some after
    by_opening (Some first) is =
        ap (λ o. (placing_from program large is_held (record { state = opening program; layout = o }) choices).layout) (
        same_new 0 (opening program) [] first is)
        ∙ same_from choices (opening program) first after (
        sym (ap (λ o. (placing_from program small is_held (record { state = opening program; layout = o }) choices).layout) is) ∙ e)
    by_opening None is =
        absurd (none-some after (
        sym (none_stays choices (opening program))
        ∙ (sym (ap (λ o. (placing_from program small is_held (record { state = opening program; layout = o }) choices).layout) is) ∙ e)))

  -- how the program may end is the same
  pub fits_larger : (e : Ending) → IsEndingWithin program small e → IsEndingWithin program large e
  fits_larger e (choices, made, fits, terminal, is) =
      (choices, made, by_layout (layout_of program small is_held choices) refl, terminal, is)
    where
      by_layout : (o : Option Layout) → layout_of program small is_held choices ≡ o → IsSome (layout_of program large is_held choices)
      by_layout (Some layout) same = ap is_some (same_layout choices layout same)
      by_layout None same = absurd (true≢false (sym (subst IsSome same fits)))
