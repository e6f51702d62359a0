-- What a dummy argument is associated with, by its two cells.
use Rattle.std.proofs.Common.{◌≡◌, ℕ, ◌+◌, ◌<◌, ◌≤◌, ◌^◌, Bool, true, false, true≢false, List, [], length, Some, refl, sym, ap, ◌∙◌, subst, arith, if◌then◌else◌, is_some, pos, slice_get, get_or}
use Rattle.std.specs.Option.{unwrap_or}
use Rattle.std.proofs.lemmas.Option.{same_Some}
use Rattle.hep_conditions.specs.Words.{IsAccepted}
use Rattle.hep_image.specs.Addressing.{natural_in}
use Rattle.hep_image.specs.Names.{names_in_order}
use Rattle.hep_image.specs.declared.owners.FrameVariable.{FrameVariable}
use Rattle.hep_image.proofs.Variables.{further-none}
use Rattle.hep_layout.specs.Words.{IsOwnedAbove, address, argument, first_of_part, number}
use Rattle.hep_layout.proofs.Addresses.{address-out}
use Rattle.hep_layout.proofs.References.{references}
use Rattle.hep_layout.proofs.Telling.{tells-first, tells-rest, tells-value}
use Rattle.hep_machine.specs.Words.{Dummy, Layout, Location, Name, Occurrence, State, Statement, Units, activation_of, dummies_of, dummy_at, index_among, is_owned, main_among, names_of_occurrences, run, scope_of, spelling, storage_by_dummy, storage_of, unit_at, unit_of, unset_cell}
use Rattle.hep_machine.specs.declared.slot.Slot.{Slot}
use Rattle.hep_state.specs.declared.core_state.CoreState.{CoreState}
use Rattle.hep_state_text.specs.Associations.{IsDummyAt, IsStackedAt, association_line}
use Rattle.hep_state_text.specs.Lines as lines
use Rattle.hep_state_text.specs.States as words
use Rattle.hep_state_text.specs.StoredVariables.{AreOut, IsFrameOf}
use Rattle.hep_state_text.specs.declared.activations.NamedUnit.{NamedUnit}
use Rattle.hep_state_text.specs.declared.associations.StackedFrame.{StackedFrame}
use Rattle.hep_state_text.proofs.Owned.{dummy-out}
use Rattle.hep_state_text.proofs.Valued.{first-is, there}
use Rattle.hep_state_text.proofs.WaitTexts.{place-told}
use Rattle.hep_views.specs.CellOwners.{IsPlaceSought, IsSought}
use Rattle.hep_views.specs.declared.place.Place.{Place}

module _ (frame : StackedFrame) (cell cells : ℕ) (choices : List ℕ) (a : ℕ) (x : Name) (h : IsDummyAt frame cell cells choices a x) where
  abbrev program : Units
  program = frame.image.now

  abbrev m : CoreState
  m = frame.machine.now

  abbrev s : State
  s = run program choices

  abbrev layout : Layout
  layout = h.under.after.after.layout

  abbrev unit : List Statement
  unit = unit_at program (unit_of s a)

  abbrev contents : List Slot
  contents = m.frames.arena.contents

  abbrev pub d : Dummy
  d = dummy_at (activation_of s a).dummies h.index

  abbrev own : IsFrameOf program s layout a h.under.node.first m.frames.arena
  own = h.under.is_of

  index : index_among x (dummies_of unit) ≡ Some h.index
  index = own.dummies.once h.index x h.named

  start : (storage_of (scope_of program s a) x).start ≡ d.start
  start = ap (λ o. (storage_by_dummy (scope_of program s a) x o).start) index

  -- its cells are in the frame
  pub out : AreOut cell 2 m.frames.arena
  out = subst (λ n. AreOut n 2 m.frames.arena) (sym h.cell_is) (dummy-out program s layout a h.under.node.first m.frames.arena own h.index x h.named)

  -- a cell of them is so many cells behind the first one
  at : (i : ℕ) → cell + i ≡ own.frame.first + first_of_part unit (argument x) + i
  at i = omega (arith, h.cell_is, own.first_is)

  -- ---- an expression

  second-own : is_owned a d.start ≡ true → slice_get contents (cell + 1) ≡ Some unset_cell
  second-own owned = ap (slice_get contents) (at 1) ∙ tells-value program s layout contents a own.frame own.described own.framed x h.index index owned

  second-other : is_owned a d.start ≡ false → slice_get contents (cell + 1) ≡ Some (number (pos d.rest))
  second-other other = ap (slice_get contents) (at 1) ∙ tells-rest program s layout contents a own.frame own.described own.framed x h.index index other

  -- it has no line
  pub no-line : (second : Slot) → slice_get contents (cell + 1) ≡ Some second → is_some second.value ≡ false → [] ≡ words.association_text program s (scope_of program s a) x
  no-line second holds none = by_owner (is_owned a d.start) refl where
    by_owner : (b : Bool) → is_owned a d.start ≡ b → [] ≡ words.association_text program s (scope_of program s a) x
    by_owner true owned = sym (ap (λ b. if b then [] else lines.association_text (spelling x) (words.place_text program s (storage_of (scope_of program s a) x).start)) (ap (is_owned a) start ∙ owned))
    by_owner false other =
        absurd (true≢false (sym (ap (λ (z : Slot). is_some z.value) (same_Some second (number (pos d.rest)) (sym holds ∙ second-other other))) ∙ none))

  -- ---- storage units

  module _ (second : Slot) (holds : slice_get contents (cell + 1) ≡ Some second) (some : is_some second.value ≡ true) where
    other : is_owned a d.start ≡ false
    other = by_owner (is_owned a d.start) refl where
      by_owner : (b : Bool) → is_owned a d.start ≡ b → is_owned a d.start ≡ false
      by_owner false e = e
      by_owner true e =
          absurd (true≢false (sym some ∙ ap (λ (z : Slot). is_some z.value) (same_Some second unset_cell (sym holds ∙ second-own e))))

    -- the first one is in a cell
    kept : (base : ℕ) × (address program s layout d.start ≡ Some base)
    kept =
        let runs = h.under.after.after.shows.kept a h.under.stacked h.index other in
        let bound = own.dummies.bound x h.index index in
        let same : d ≡ bound.0 = ap (λ o. unwrap_or o (dummy_at [] 0)) bound.1 in
        let one : 1 ≤ d.rest = subst (λ (z : Dummy). 1 ≤ z.rest) (sym same) bound.2.some in
        (runs.0, ap (address program s layout) (sym (further-none d.start)) ∙ runs.1 0 (omega (arith, one)) ∙ ap (λ n. Some n) (omega arith))

    module _ (first : Slot) (holds-first : slice_get contents cell ≡ Some first) where
      -- the first cell has its address
      address-is : natural_in first ≡ kept.0
      address-is =
          let here : slice_get contents cell ≡ Some (number (pos kept.0))
          = ap (slice_get contents) (omega (arith, at 0))
          ∙ tells-first program s layout contents a own.frame own.described own.framed x h.index kept.0 index other kept.1 in
          ap natural_in (same_Some first (number (pos kept.0)) (sym holds-first ∙ here))

      pub fits : natural_in first < 2 ^ 32
      fits =
          let found = address-out program s (length contents) layout d.start kept.0 own.is_of.memory.laid kept.1 in
          omega (arith, address-is, found.0, own.is_of.few)

      pub sought : (at : ℕ) → at ≡ natural_in first → IsSought program cells choices m frame.key at d.start
      sought at is =
          record {
            after = h.under.after.after;
            few = h.under.after.few;
            kept = kept.1 ∙ ap (λ n. Some n) (sym (is ∙ address-is));
            node = h.under.node;
            there = h.under.there;
            owned = subst (λ b. IsOwnedAbove s b d.start) (sym h.under.activation) (references program choices a h.index);
          }

      -- its line has the words for it
      pub line-is : (at : ℕ) (place : Place) → at ≡ natural_in first → IsAccepted program → is_some (main_among program) ≡ true → IsPlaceSought program m frame.key at place
          → association_line (names_in_order program) x (Some place) ≡ words.association_text program s (scope_of program s a) x
      line-is at place is accepted main found =
          let it = sought at is in
          ap (λ (z : Place). association_line (names_in_order program) x (Some z)) (found cells choices d.start it)
          ∙ ap (lines.association_text (spelling x)) (place-told program cells choices m accepted main frame.key at d.start it)
          ∙ sym (ap (λ b. if b then [] else lines.association_text (spelling x) (words.place_text program s d.start)) other)
          ∙ sym (ap (λ (l : Location). if is_owned a l then [] else lines.association_text (spelling x) (words.place_text program s l)) start)

-- ---- a dummy argument in the loop over those of an activation

module _ (frame : StackedFrame) (unit : NamedUnit) (cells : ℕ) (choices : List ℕ) (a : ℕ) (h : IsStackedAt frame unit cells choices a)
    (ds : List Occurrence) (ds-are : names_of_occurrences ds ≡ dummies_of unit.symbols.now) (i : ℕ) (d : Occurrence) (less : i < length ds) where
  -- its first cell is where the code has it
  pub dummy-at : (vs : List FrameVariable) → vs ≡ unit.code.now.variables → (v : FrameVariable) (first : ℕ) → first ≡ h.under.node.first
      → IsDummyAt frame (first + (get_or vs i v).first) cells choices a (get_or ds i d).name
  dummy-at vs vs-are v first first_is =
      let s = run frame.image.now choices in
      let layout = h.under.after.after.layout in
      let arena = frame.machine.now.frames.arena in
      let begins = first-is frame.image.now s layout a unit h.under.node.first arena h.at ds ds-are i d less vs vs-are v in
      record {
        under = h.under;
        index = i;
        named = there frame.image.now s layout a unit h.under.node.first arena h.at ds ds-are i d less;
        cell_is = omega (arith, first_is, begins);
      }
