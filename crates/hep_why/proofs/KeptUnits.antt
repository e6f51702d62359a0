-- What is kept in a cell after turns was kept there after the first ones of them, once it was there.
use Rattle.std.proofs.Common.{◌≡◌, ◌+◌, inl, inr, ℕ, zero, suc, ◌≤◌, true, false, true≢false, List, [], ◌∷◌, ◌++◌, length, length-append, Option, Some, None, refl, sym, ap, ◌∙◌, subst, arith, append_assoc, append-nil, is_some, IsSome, nat_eq}
use Rattle.std.specs.Option.{option_map}
use Rattle.std.proofs.lemmas.Bool.{ne_eqb, eqb-true}
use Rattle.std.proofs.lemmas.Bool.Decides.{nat_tests}
use Rattle.std.proofs.lemmas.Option.{none-some, same_Some}
use Rattle.hep_arena.specs.Gaps.{frame_among}
use Rattle.hep_layout.specs.Words.{FramePart, IsLaid, address, address_of_kept, frame_from, kept_in, place_of_part, cell_in}
use Rattle.hep_layout.proofs.Addresses.{address-alike}
use Rattle.hep_layout.proofs.Frames.{among-with_frame}
use Rattle.hep_layout.proofs.HeldFrames.{run-last, among-filter, layout-last, layout-more, layout-stays, placed-run}
use Rattle.hep_layout.proofs.Memory.{activation-kept, same-activation}
use Rattle.hep_machine.proofs.Others.{activations_after}
use Rattle.hep_machine.specs.Words.{Activation, Frame, IsSameOrOneMore, Layout, Location, State, Units, activation_of, common, common_cells, dummies_of, frame_of, index_among, is_held, is_owned, layout_after_step, layout_of, local, lowest_gap, remaining_layout, run, state_after_turn, unit_at, unit_of, with_frame}
use Rattle.hep_state.proofs.Runs.{laid-before}
use Rattle.hep_why.specs.LatestChanges.{is_there, owner_of}
use Rattle.hep_why.specs.Watches.{IsKeptAfter}

-- ---- the owner of a storage unit

owner-is : (b : ℕ) (at : Location) → is_owned b at ≡ true → b ≡ owner_of at
owner-is b (local a x i) owned = eqb-true b a owned
owner-is b (common k i) owned = absurd (true≢false (sym owned))

-- what has an address has a frame of its activation
framed : (program : Units) (s : State) (layout : Layout) (at : Location) (c b : ℕ) → address program s layout at ≡ Some c
    → is_owned b at ≡ true → is_some (frame_among b layout) ≡ true
framed program s layout (common k i) c b e owned = absurd (true≢false (sym owned))
framed program s layout (local a x zero) c b e owned = absurd (none-some c e)
framed program s layout (local a x (suc i)) c b e owned =
    subst (λ n. is_some (frame_among n layout) ≡ true) (sym (eqb-true b a owned))
    (by_kept (kept_in a (activation_of s a).dummies x i (index_among x (dummies_of (unit_at program (unit_of s a))))) e)
  where
    by_frame : (o : Option Frame) (n : Option ℕ) → cell_in o n ≡ Some c → is_some o ≡ true
    by_frame None n e = absurd (none-some c e)
    by_frame (Some f) n e = refl

    by_kept : (o : Option (FramePart × ℕ)) → address_of_kept program s layout a o ≡ Some c → is_some (frame_among a layout) ≡ true
    by_kept None e = absurd (none-some c e)
    by_kept (Some k) e = by_frame (frame_among a layout) (place_of_part (unit_at program (unit_of s a)) k.0 k.1) e

-- ---- one turn back

module _ (program : Units) (cells : ℕ) (s t : State) (layout after : Layout) (laid : IsLaid program s cells layout) (b : ℕ) (made : b ≤ length s.activations) (held : is_held t b ≡ true) where
  -- the frame of what was made before and is held after a turn is the same
  stays : t.activations ≡ s.activations → layout_after_step program cells is_held s t layout ≡ Some after
      → (activation_of t b ≡ activation_of s b) × (frame_among b after ≡ frame_among b layout)
  stays same turned =
      let left : remaining_layout is_held t layout ≡ after =
      same_Some (remaining_layout is_held t layout) after (sym (layout-stays program cells s t layout same) ∙ turned) in
      (same-activation s t b same, ap (frame_among b) (sym left) ∙ among-filter (is_held t) b layout ∙ rw held refl)

  enters : (x : Activation) → t.activations ≡ s.activations ++ x ∷ [] → layout_after_step program cells is_held s t layout ≡ Some after
      → (activation_of t b ≡ activation_of s b) × (frame_among b after ≡ frame_among b layout)
  enters x more turned =
      (activation-kept s t x b more made, by_gap (lowest_gap cells (frame_of program t n) (common_cells program) layout) (sym (layout-more program cells s t x layout more) ∙ turned))
    where
      n : ℕ
      n = length t.activations

      entered : ℕ → Layout
      entered first = with_frame layout (frame_from program t n first)

      long : n ≡ length s.activations + 1
      long = ap length more ∙ length-append s.activations (x ∷ [])

      new : (o : Option Frame) → frame_among n layout ≡ o → frame_among n layout ≡ None
      new None e = e
      new (Some f) e = absurd (omega (arith, (laid.made n f e).1, long))

      other : nat_eq n b ≡ false
      other = ne_eqb n b (λ same. omega (arith, same, long, made))

      by_gap : (o : Option ℕ) → option_map (remaining_layout is_held t) (option_map entered o) ≡ Some after
          → frame_among b after ≡ frame_among b layout
      by_gap None e = absurd (none-some after e)
      by_gap (Some first) e =
          ap (frame_among b) (sym (same_Some (remaining_layout is_held t (entered first)) after e))
          ∙ among-filter (is_held t) b (entered first)
          ∙ rw held (among-with_frame b layout (frame_from program t n first) (new (frame_among n layout) refl) ∙ rw other refl)

  turned-back : IsSameOrOneMore s.activations t.activations → layout_after_step program cells is_held s t layout ≡ Some after
      → (activation_of t b ≡ activation_of s b) × (frame_among b after ≡ frame_among b layout)
  turned-back (inl same) turned = stays same turned
  turned-back (inr more) turned = enters more.0 more.1 turned

one-back : (program : Units) (cells : ℕ) (ps : List ℕ) (p c : ℕ) (layout after : Layout) (at : Location)
    → layout_of program cells is_held ps ≡ Some layout → layout_of program cells is_held (ps ++ p ∷ []) ≡ Some after
    → is_there (run program ps) at ≡ true
    → address program (run program (ps ++ p ∷ [])) after at ≡ Some c → address program (run program ps) layout at ≡ Some c
one-back program cells ps p c layout after at e f there kept =
    sym (address-alike program s t layout after at (λ b owned. turned-back program cells s t layout after (placed-run program cells ps layout e).laid b (made b owned) (held b owned) risen turned))
    ∙ kept
  where
    s : State
    s = run program ps

    t : State
    t = run program (ps ++ p ∷ [])

    risen : IsSameOrOneMore s.activations t.activations
    risen = subst (λ (u : State). IsSameOrOneMore s.activations u.activations) (sym (run-last program ps p)) (activations_after program p s)

    turned : layout_after_step program cells is_held s t layout ≡ Some after
    turned =
        ap (λ (u : State). layout_after_step program cells is_held s u layout) (run-last program ps p)
        ∙ sym (layout-last program cells ps p layout e) ∙ f

    made : (b : ℕ) → is_owned b at ≡ true → b ≤ length s.activations
    made b owned = let same = owner-is b at owned in grind (arith, nat_tests, there, same)

    held : (b : ℕ) → is_owned b at ≡ true → is_held t b ≡ true
    held b owned = sym ((placed-run program cells (ps ++ p ∷ []) after f).held b) ∙ framed program t after at c b kept owned

-- ---- many turns back

-- what was there is there after one turn more
pub there-next : (program : Units) (ps : List ℕ) (p : ℕ) (at : Location) → is_there (run program ps) at ≡ true
    → is_there (run program (ps ++ p ∷ [])) at ≡ true
there-next program ps p at there =
    let risen = activations_after program p (run program ps) in
    let more : length (run program ps).activations ≤ length (state_after_turn program p (run program ps)).activations = longer-by risen in
    let same : length (run program (ps ++ p ∷ [])).activations ≡ length (state_after_turn program p (run program ps)).activations =
    ap (λ (s : State). length s.activations) (run-last program ps p) in
    grind (arith, nat_tests, there, more, same)
  where
    longer-by : {xs ys : List Activation} → IsSameOrOneMore xs ys → length xs ≤ length ys
    longer-by {xs} {ys} (inl same) = omega (arith, ap length same)
    longer-by {xs} {ys} (inr more) = omega (arith, ap length more.1, length-append xs (more.0 ∷ []))

back : (program : Units) (cells c : ℕ) (at : Location) (ps qs : List ℕ) (layout after : Layout)
    → layout_of program cells is_held ps ≡ Some layout → layout_of program cells is_held (ps ++ qs) ≡ Some after
    → is_there (run program ps) at ≡ true
    → address program (run program (ps ++ qs)) after at ≡ Some c → address program (run program ps) layout at ≡ Some c
back program cells c at ps [] layout after e f there kept =
    let same : ps ++ [] ≡ ps = append-nil ps in
    let one : after ≡ layout = same_Some after layout (sym f ∙ ap (layout_of program cells is_held) same ∙ e) in
    (λ i. address program (run program (sym same i)) (sym one i) at) ∙ kept
back program cells c at ps (q ∷ qs) layout after e f there kept =
    let same : (ps ++ q ∷ []) ++ qs ≡ ps ++ q ∷ qs = append_assoc ps (q ∷ []) qs in
    let mid =
    layout-there (layout_of program cells is_held (ps ++ q ∷ [])) refl
    (laid-before program cells (ps ++ q ∷ []) qs (ap (λ rs. is_some (layout_of program cells is_held rs)) same ∙ ap is_some f)) in
    let f' = ap (layout_of program cells is_held) same ∙ f in
    let kept' = ap (λ rs. address program (run program rs) after at) same ∙ kept in
    one-back program cells ps q c layout mid.0 at e mid.1 there
    (back program cells c at (ps ++ q ∷ []) qs mid.0 after mid.1 f' (there-next program ps q at there) kept')
  where
    layout-there : (o : Option Layout) → layout_of program cells is_held (ps ++ q ∷ []) ≡ o
        → is_some (layout_of program cells is_held (ps ++ q ∷ [])) ≡ true
        → (l : Layout) × (layout_of program cells is_held (ps ++ q ∷ []) ≡ Some l)
    layout-there None e some = absurd (true≢false (sym some ∙ ap is_some e))
    layout-there (Some l) e some = (l, e)

-- what is kept in a cell in the end was kept there after the first turns, once it was there
pub kept-then : (program : Units) (cells : ℕ) (turns ps qs : List ℕ) (at : Location) (cell : ℕ) → turns ≡ ps ++ qs
    → IsSome (layout_of program cells is_held turns)
    → IsKeptAfter program cells turns at cell → is_there (run program ps) at ≡ true → IsKeptAfter program cells ps at cell
kept-then program cells turns ps qs at cell same laid kept there layout e =
    by (layout_of program cells is_held turns) refl laid
  where
    by : (o : Option Layout) → layout_of program cells is_held turns ≡ o → IsSome o → address program (run program ps) layout at ≡ Some cell
    by None f some = absurd (true≢false (sym some))
    by (Some after) f some =
        back program cells cell at ps qs layout after e (ap (layout_of program cells is_held) (sym same) ∙ f) there (
        ap (λ rs. address program (run program rs) after at) (sym same) ∙ kept after f)
