-- What is held after a turn keeps its frame, and so its cells.
use Rattle.std.proofs.Common.{◌≡◌, inl, inr, ℕ, true, List, [], ◌∷◌, ◌++◌, length, Option, Some, None, refl, sym, ap, ◌∙◌, subst}
use Rattle.std.specs.Option.{option_map}
use Rattle.std.proofs.lemmas.Option.{none-some, same_Some}
use Rattle.hep_machine.specs.Words.{Units, IsSameOrOneMore, Layout, common_cells, frame_of, is_held, layout_after_step, layout_of, lowest_gap, remaining_layout, with_frame, run, state_after_turn, Activation, Location, State, is_owned}
use Rattle.hep_layout.specs.Words.{address, frame_from}
use Rattle.hep_layout.proofs.Addresses.{address-alike}
use Rattle.hep_layout.proofs.HeldFrames.{run-last, among-filter, layout-last, layout-more, layout-stays}
use Rattle.hep_layout.proofs.Memory.{same-activation}

-- ---- frames that remain

remaining-address : (program : Units) (s : State) (layout : Layout) (at : Location) → ((b : ℕ) → is_owned b at ≡ true → is_held s b ≡ true)
    → address program s (remaining_layout is_held s layout) at ≡ address program s layout at
remaining-address program s layout at held =
    address-alike program s s layout (remaining_layout is_held s layout) at (λ b owned. (refl, among-filter (is_held s) b layout ∙ rw (held b owned) refl))

-- ---- a step

-- where a frame enters, each storage unit is kept where it was
abbrev pub KeepsAddresses : Units → State → State → Layout → Location → ℕ → Type 0
KeepsAddresses program s t layout at c =
    (x : Activation) (first : ℕ) → t.activations ≡ s.activations ++ x ∷ [] → address program s layout at ≡ Some c
    → address program t (with_frame layout (frame_from program t (length t.activations) first)) at ≡ Some c

module _ (program : Units) (cells : ℕ) (s t : State) (layout after : Layout) (at : Location) (c : ℕ)
    (held : (b : ℕ) → is_owned b at ≡ true → is_held t b ≡ true) (kept : address program s layout at ≡ Some c) where
  same-address : t.activations ≡ s.activations → layout_after_step program cells is_held s t layout ≡ Some after
      → address program t after at ≡ Some c
  same-address same turned =
      let left : remaining_layout is_held t layout ≡ after = same_Some (remaining_layout is_held t layout) after (sym (layout-stays program cells s t layout same) ∙ turned) in
      ap (λ l. address program t l at) (sym left)
      ∙ (remaining-address program t layout at held
      ∙ (address-alike program s t layout layout at (λ b owned. (same-activation s t b same, refl)) ∙ kept))

  entered-address : (x : Activation) → t.activations ≡ s.activations ++ x ∷ [] → KeepsAddresses program s t layout at c
      → layout_after_step program cells is_held s t layout ≡ Some after → address program t after at ≡ Some c
  entered-address x more enters turned =
      by_gap (lowest_gap cells (frame_of program t (length t.activations)) (common_cells program) layout) (sym (layout-more program cells s t x layout more) ∙ turned)
    where
      entered : ℕ → Layout
      entered first = with_frame layout (frame_from program t (length t.activations) first)

      by_gap : (o : Option ℕ) → option_map (remaining_layout is_held t) (option_map entered o) ≡ Some after
          → address program t after at ≡ Some c
      by_gap None e = absurd (none-some after e)
      by_gap (Some first) e =
          ap (λ l. address program t l at) (sym (same_Some (remaining_layout is_held t (entered first)) after e))
          ∙ (remaining-address program t (entered first) at held ∙ enters x first more kept)

  turned-address : IsSameOrOneMore s.activations t.activations → KeepsAddresses program s t layout at c
      → layout_after_step program cells is_held s t layout ≡ Some after → address program t after at ≡ Some c
  turned-address (inl same) enters turned = same-address same turned
  turned-address (inr more) enters turned = entered-address more.0 more.1 enters turned

pub cell-stays : (program : Units) (cells : ℕ) (ps : List ℕ) (p c : ℕ) (layout after : Layout) (at : Location)
    → IsSameOrOneMore (run program ps).activations (state_after_turn program p (run program ps)).activations
    → KeepsAddresses program (run program ps) (run program (ps ++ p ∷ [])) layout at c
    → layout_of program cells is_held ps ≡ Some layout → layout_of program cells is_held (ps ++ p ∷ []) ≡ Some after
    → ((b : ℕ) → is_owned b at ≡ true → is_held (run program (ps ++ p ∷ [])) b ≡ true)
    → address program (run program ps) layout at ≡ Some c → address program (run program (ps ++ p ∷ [])) after at ≡ Some c
cell-stays program cells ps p c layout after at risen enters e f held kept =
    turned-address program cells (run program ps) (run program (ps ++ p ∷ [])) layout after at c held kept (
    subst (λ (t : State). IsSameOrOneMore (run program ps).activations t.activations) (sym (run-last program ps p)) risen) enters (
    rw run-last (sym (layout-last program cells ps p layout e) ∙ f))
