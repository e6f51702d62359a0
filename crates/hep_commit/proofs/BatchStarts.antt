-- A batch whose start is there: its steps come next, and its end is what they store.
use Rattle.std.proofs.Common.{◌≡◌, ℕ, ℤ, zero, suc, pos, ◌+◌, Bool, true, false, ◌||◌, nat_eq, if◌then◌else◌, List, [], ◌∷◌, length, Option, Some, slice_get, slice_set, refl, sym, ap, ◌∙◌, subst, arith}
use Rattle.std.specs.Option.{unwrap_or}
use Rattle.std.proofs.lemmas.Bool.Decides.{nat_tests}
use Rattle.std.proofs.lemmas.Option.{same_Some, slice_get_within}
use Rattle.hep_arena.proofs.Lists.{get-set_other, get-set_same}
use Rattle.hep_machine.specs.Words.{Int, Units, Value, is_number_among, unit_at, unset_cell}
use Rattle.hep_machine.specs.declared.slot.Slot.{Slot}
use Rattle.hep_code.specs.declared.instruction.Instruction.{Instruction}
use Rattle.hep_image.specs.Addressing.{cells_in}
use Rattle.hep_image.specs.Private.{private_cells}
use Rattle.hep_step.specs.Effects.{with_counts, with_value_at}
use Rattle.hep_step.specs.Simulation.{unit_code}
use Rattle.hep_layout.specs.Words.{number}
use Rattle.hep_private.specs.declared.record.Record.{Record}
use Rattle.hep_private.specs.declared.record.Record.TheVariants.{Goes, Gives, Reads, Stores, Enters, Ends}
use Rattle.hep_private.specs.OwnState.{OwnState, Values, begun, contents_after, set, stores_of_loop, values_after, values_at, with_stores}
use Rattle.hep_private.specs.FirstReads.{HaveRead}
use Rattle.hep_private.specs.StepRecords.{own_after, recorded}
use Rattle.hep_private.proofs.StepRows.{first-of}
use Rattle.hep_commit.specs.UndoneStores.{AreOf}
use Rattle.hep_commit.proofs.SavedCells.{alike-with, size-with, undone}
use Rattle.hep_private.specs.Segments.{BeginsAt, IsMadeBy, IsMadeFrom, Start}
use Rattle.hep_private.specs.Batches.{IsBatch, BatchValue, records_in, segment_of, start_of, steps_of}
use Rattle.hep_commit.specs.BatchStarts.{AreThere, IsThere, slot_with, slots_with}
use Rattle.hep_commit.specs.OwnCells.{own_cells_of}
use Rattle.hep_commit.specs.UndoLogs.{slots_of, with_slots}
use Rattle.hep_commit.proofs.OwnReads.{AreStoredThere, HaveLaws, read-by, stored-by}
use Rattle.hep_commit.proofs.Restored.{with-put}
use Rattle.std.proofs.lemmas.Bool.{eqb-true}
use Rattle.hep_private.proofs.BatchSegments.{as-many}
use Rattle.hep_private.specs.InPlace.{stored_with}

-- ---- values that are there

module _ (first : ℕ) where
  -- in each of these cells
  abbrev Stand : List ℕ → List Slot → Values → Type 0
  Stand cells contents values = (c : ℕ) → is_number_among c cells ≡ true → IsThere first contents values c

  pub each-there : (contents : List Slot) (values : Values) (cells : List ℕ) → AreThere first contents values cells → Stand cells contents values
  each-there contents values [] there c among = absurd (grind (arith, among))
  each-there contents values (d ∷ ds) there c among = by_test (nat_eq c d) refl (each-there contents values ds there.1 c) where
    by_test : (b : Bool) → nat_eq c d ≡ b → (is_number_among c ds ≡ true → IsThere first contents values c) → IsThere first contents values c
    by_test true same rest = subst (IsThere first contents values) (sym (eqb-true c d same)) there.0
    by_test false other rest = rest (sym (ap (λ b. b || is_number_among c ds) other) ∙ among)

  slots-there : (contents : List Slot) (values : Values) (cells : List ℕ) → Stand cells contents values → slots_with values cells ≡ slots_of first cells contents
  slots-there contents values [] stand = refl
  slots-there contents values (c ∷ cs) stand =
      let head : slot_with (values c) ≡ cells_in contents (first + c) = sym (ap (λ (o : Option Slot). unwrap_or o unset_cell) (stand c (in-front c))) in
      let rest = slots-there contents values cs (λ d among. stand d (behind d among)) in
      λ i. head i ∷ rest i where
        in-front : (d : ℕ) → is_number_among d (d ∷ cs) ≡ true
        in-front d = grind (arith, nat_tests)

        behind : (d : ℕ) → is_number_among d cs ≡ true → is_number_among d (c ∷ cs) ≡ true
        behind d among = by_test (nat_eq d c) where
          by_test : (b : Bool) → (b || is_number_among d cs) ≡ true
          by_test true = refl
          by_test false = among

  module _ (cells : List ℕ) where
    set-there : (contents : List Slot) (values : Values) (d : ℕ) (slot : Slot) (v : Value) → (is_number_among d cells ≡ true → slot ≡ slot_with (Some v)) → Stand cells contents values → Stand cells (slice_set contents (first + d) slot) (set values d v)
    set-there contents values d slot v is stand c among = by_test (nat_eq c d) refl where
      by_test : (b : Bool) → nat_eq c d ≡ b → slice_get (slice_set contents (first + d) slot) (first + c) ≡ Some (slot_with (if b then Some v else values c))
      by_test true same =
          let e : c ≡ d = eqb-true c d same in
          let there : is_number_among d cells ≡ true = subst (λ k. is_number_among k cells ≡ true) e among in
          ap (λ k. slice_get (slice_set contents (first + d) slot) (first + k)) e
          ∙ (get-set_same contents (first + d) slot (slice_get_within contents (first + d) (slot_with (values d)) (stand d there))
          ∙ ap (λ (s : Slot). Some s) (is there))
      by_test false other = get-set_other contents (first + d) (first + c) slot (apart other) ∙ stand c among where
        apart : nat_eq c d ≡ false → first + c ≡ first + d → ⊥
        apart other e = grind (arith, nat_tests, other, e)

    value-there : (contents : List Slot) (values : Values) (d : ℕ) (v : Value) → Stand cells contents values → Stand cells (with_value_at contents (first + d) v) (set values d v)
    value-there contents values d v stand =
        set-there contents values d (record { value = Some v; full = (cells_in contents (first + d)).full }) v (λ among. ap (λ (o : Option Slot). record { value = Some v; full = (unwrap_or o unset_cell).full }) (stand d among)) stand

    loop-there : (contents : List Slot) (values : Values) (c d : ℕ) (z : ℤ) (count : ℕ) (increment : ℤ) → Stand cells contents values
        → Stand cells (with_counts (with_value_at contents (first + c) (Int z)) (first + d) count increment) (with_stores values (stores_of_loop c d z count increment))
    loop-there contents values c d z count increment stand =
        let one = with_value_at contents (first + c) (Int z) in
        let two = slice_set one (first + d) (number (pos count)) in
        let next : first + suc d ≡ suc (first + d) = omega arith in
        let after = set-there one (set values c (Int z)) d (number (pos count)) (Int (pos count)) (λ among. refl) (value-there contents values c (Int z) stand) in
        subst (λ at. Stand cells (slice_set two at (number increment)) (with_stores values (stores_of_loop c d z count increment))) next (
        set-there two (set (set values c (Int z)) d (Int (pos count))) (suc d) (number increment) (Int increment) (λ among. refl) after)

    there-after : (contents : List Slot) (values : Values) (r : Record) → Stand cells contents values → Stand cells (contents_after first contents r) (values_after values r)
    there-after contents values (Stores c at v) stand = value-there contents values c v stand
    there-after contents values (Enters c d at z count increment) stand = loop-there contents values c d z _ increment stand
    there-after contents values (Ends f g h c d at z count increment) stand = loop-there contents values c d z _ increment stand
    there-after contents values (Goes at) stand = stand
    there-after contents values (Gives at v) stand = stand
    there-after contents values (Reads f c at v) stand = stand

    -- what private steps store is there then
    there-steps : (private : List ℕ) (code : List Instruction) (n : ℕ) (own : OwnState) (records : List Record) (end : OwnState) (contents : List Slot) → recorded private code n own ≡ Some (records, end) → Stand cells contents own.values
        → Stand cells (stored_with first contents records) end.values
    there-steps private code zero own records end contents is stand =
        subst (λ (r : List Record × OwnState). Stand cells (stored_with first contents r.0) r.1.values) (same_Some ([], own) (records, end) is) stand
    there-steps private code (suc n) own records end contents is stand =
        let made = first-of private code n own records end is in
        subst (λ rs. Stand cells (stored_with first contents rs) end.values) made.are (
        there-steps private code n (own_after private code own made.m) made.rest end (contents_after first contents made.m.noted) made.later (there-after contents own.values made.m.noted stand))

    -- and to put it there does what they do
    put-there : (contents : List Slot) (records : List Record) (values : Values) → AreOf cells records → Stand cells (stored_with first contents records) values
        → with_slots first cells (slots_with values cells) contents ≡ stored_with first contents records
    put-there contents records values of stand =
        let after = stored_with first contents records in
        ap (λ (ss : List Slot). with_slots first cells ss contents) (slots-there after values cells stand)
        ∙ (with-put first cells after contents
        ∙ undone first after cells contents (sym (size-with first contents records)) (λ p out. sym (alike-with first cells contents records of p out)))

-- ---- batches

module _ (program : Units) (v : BatchValue) (h : IsBatch program v) where
  abbrev private : List ℕ
  private = private_cells (unit_at program v.unit)

  abbrev code : List Instruction
  code = unit_code program v.unit

  records-are : records_in (steps_of program v) ≡ h.records
  records-are = ap records_in h.made

  -- it has so many steps
  pub count : length (records_in (steps_of program v)) ≡ v.steps
  count = ap length records-are ∙ as-many private code v.steps (start_of v) h.records h.end h.made

  -- it is made by the program
  pub made-by : IsMadeBy program (segment_of program v)
  made-by = (
    values_at v.start 0,
    record {
      end = h.end;
      made = ap (λ n. recorded private code n (start_of v)) count ∙ (h.made ∙ ap (λ rs. Some (rs, h.end)) (sym records-are));
      index = h.index;
      operands = h.operands;
    },
  )

  module _ (laws : HaveLaws) (start : Start) (begins : BeginsAt start (segment_of program v)) where
    made-read : HaveRead start.values h.records → IsMadeFrom program start (segment_of program v)
    made-read read =
        let again = laws.same private code v.steps v.index v.operands (values_at v.start 0) start.values h.records h.end h.made read in (
          begins,
          record {
            end = again.0;
            made = ap (λ n. recorded private code n (begun v.index v.operands start.values)) count ∙ (again.1 ∙ ap (λ rs. Some (rs, again.0)) (sym records-are));
            index = again.2 ∙ h.index;
            operands = again.3 ∙ h.operands;
          },
        )

    -- without steps it comes next wherever it begins
    pub made-without : v.steps ≡ 0 → IsMadeFrom program start (segment_of program v)
    made-without none =
        let records : h.records ≡ [] = empty h.records (sym (ap length records-are) ∙ count ∙ none) in
        made-read (subst (HaveRead start.values) (sym records) tt) where
          empty : (rs : List Record) → length rs ≡ 0 → rs ≡ []
          empty [] is = refl
          empty (r ∷ rs) is = absurd (omega (arith, is))

    -- where its start is there it comes next
    pub made-there : (first : ℕ) (contents : List Slot) → start.values ≡ values_at contents first → AreThere first contents (values_at v.start 0) (own_cells_of program v.unit) → IsMadeFrom program start (segment_of program v)
    made-there first contents are there =
        let alike : (c : ℕ) → is_number_among c (own_cells_of program v.unit) ≡ true → start.values c ≡ values_at v.start 0 c =
        λ c among. ap (λ (values : Values). values c) are ∙ ap (λ (o : Option Slot). (unwrap_or o unset_cell).value) (each-there first contents (values_at v.start 0) (own_cells_of program v.unit) there c among) in
        made-read (read-by program v.unit v.steps laws v.index v.operands (values_at v.start 0) start.values h.records h.end alike h.made)

  -- and its end is what its steps store
  pub stored-there : AreStoredThere → (first : ℕ) (contents : List Slot) → AreThere first contents (values_at v.start 0) (own_cells_of program v.unit)
      → with_slots first (own_cells_of program v.unit) (slots_with (values_at v.end 0) (own_cells_of program v.unit)) contents ≡ stored_with first contents (segment_of program v).records
  stored-there stored first contents there =
      let cells = own_cells_of program v.unit in
      let stand = there-steps first cells private code v.steps (start_of v) h.records h.end contents h.made (each-there first contents (values_at v.start 0) cells there) in
      put-there first cells contents h.records (values_at v.end 0) (stored-by program v.unit v.steps stored (start_of v) h.records h.end h.made) (
      subst (Stand first cells (stored_with first contents h.records)) h.values stand)
      ∙ ap (stored_with first contents) (sym records-are)
