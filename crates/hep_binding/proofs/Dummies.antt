-- The dummy arguments of a new activation are written.
use Rattle.std.proofs.Common.{◌≡◌, ℕ, suc, ◌+◌, ◌*◌, ◌<◌, ◌≤◌, Bool, true, false, List, Some, refl, sym, ap, ◌∙◌, subst, arith, [], ◌∷◌, length, take, get_or, Option, None, if◌then◌else◌, nat_eq, not, pos, slice_get, take_all}
use Rattle.std.specs.Option.{option_map}
use Rattle.std.proofs.lemmas.Bool.{eq-eqb, eqb-true, eqb-false}
use Rattle.std.proofs.lemmas.Option.{same_Some, none-some, slice_get-get_or}
use Rattle.hep_machine.specs.Words.{Name, Statement, Value, index_among, dummies_of, unset_cell, Frame, dummy_at, activation_of, Dummy, Location, State, Store, common, local, further, with_value, is_owned}
use Rattle.hep_machine.specs.declared.slot.Slot.{Slot}
use Rattle.hep_arena.specs.Gaps.{frame_among}
use Rattle.hep_arena.specs.Space.{Space}
use Rattle.hep_layout.specs.Words.{address, is_descriptor, is_value, number, slot_by_dummy, slot_of_dummy, slot_of_reference, slot_of_value, descriptor_slots, FramePart, argument, frame_row, place_of_part, same_part, header, Nodes}
use Rattle.hep_layout.proofs.FrameRows.{argument-first}
use Rattle.hep_layout.proofs.Rows.{place-at}
use Rattle.hep_layout.proofs.Runs.{runs-value}
use Rattle.hep_proc.specs.FrameTable.{FramesOf, Keeps, with_unset}
use Rattle.hep_step.specs.declared.dummy_storage.DummyStorage.{DummyStorage}
use Rattle.hep_step.specs.declared.dummy_storage.DummyStorage.TheVariants as given
use Rattle.hep_binding.specs.ActualArguments.{IsGiven, with_one_given, with_given}
use Rattle.hep_binding.specs.FrameWriting.{IsPut, IsSet, stored_in, unit_framed, unwritten, wanted_up_to, written_up_to, IsBinding, is_before}
use Rattle.hep_binding.proofs.Cells.{keeps-given, keeps-skipped, keeps-written, one-cell}
use Rattle.std.proofs.lemmas.Bool.Decides.{nat_tests}
use Rattle.hep_proc.proofs.UnchangedFrames.{keeps-same}
use Rattle.hep_binding.specs.AdjustableBounds.{cells_to_locals}
use Rattle.hep_binding.proofs.Names.{full-given, given-at, given-many, given-next, index-found}

-- ---- the two cells of one

module _ (f : FramesOf) (a : ℕ) (nodes : Nodes) (frame : Frame) (framed : frame_among a f.layout ≡ Some frame)
    (k : ℕ) (x : Name) (d : Dummy) (index : index_among x (dummies_of (unit_framed f a)) ≡ Some k) (there : dummy_at (activation_of f.state a).dummies k ≡ d) where
  abbrev unit : List Statement
  unit = unit_framed f a

  place : (i m : ℕ) → i < 2 → m ≡ 1 + 2 * k + i → place_of_part unit (argument x) i ≡ Some m
  place i m less e =
      let entry = argument-first unit x k index in
      place-at (same_part (argument x)) i (frame_row unit) (subst (λ n. i < n) (sym entry.sized) less) ∙ ap (λ n. Some n) (omega (arith, entry.begins, e))

  wants : (i : ℕ) → descriptor_slots f.program f.state f.layout a (argument x, i) ≡ slot_of_dummy f.program f.state f.layout a d i
  wants i = ap (slot_by_dummy (λ z. slot_of_dummy f.program f.state f.layout a z i) (activation_of f.state a).dummies) index ∙ ap (λ z. slot_of_dummy f.program f.state f.layout a z i) there

  -- storage units of others
  keeps-units : (store : Store) (before after : Space) (first count : ℕ) → IsGiven f.program f.state f.layout a x d (given.Units first count) → IsPut (frame.first + (1 + 2 * k)) (given.Units first count) before after
      → Keeps (stored_in (written_up_to f a (1 + 2 * k)) store) before nodes → Keeps (stored_in (written_up_to f a (suc (suc (1 + 2 * k)))) store) after nodes
  keeps-units store before after first count is put h =
      keeps-written f a nodes store put.0 after (suc (1 + 2 * k)) frame (argument x, 1) (number (pos count)) framed (place 1 (suc (1 + 2 * k)) (omega arith) (omega arith)) refl (wants 1 ∙ (other 1 ∙ ap (λ n. Some (number (pos n))) is.2))
      (subst (λ p. IsSet p (number (pos count)) put.0 after) (let next : frame.first + (1 + 2 * k) + 1 ≡ frame.first + suc (1 + 2 * k) = omega arith in next) put.2)
      (keeps-written f a nodes store before put.0 (1 + 2 * k) frame (argument x, 0) (number (pos first)) framed (place 0 (1 + 2 * k) (omega arith) (omega arith)) descriptor (wants 0 ∙ (other 0 ∙ ap (option_map (λ n. number (pos n))) begins)) put.1 h)
    where
      other : (i : ℕ) → slot_of_dummy f.program f.state f.layout a d i ≡ slot_of_reference (address f.program f.state f.layout d.start) d.rest i
      other i = ap (λ b. if b then slot_of_value i else slot_of_reference (address f.program f.state f.layout d.start) d.rest i) is.0

      descriptor : is_descriptor f.program f.state a (argument x, 0) ≡ true
      descriptor = ap (λ o. not (is_value a (activation_of f.state a).dummies o)) index ∙ (ap (λ (z : Dummy). not (is_owned a z.start)) there ∙ ap not is.0)

      begins : address f.program f.state f.layout d.start ≡ Some first
      begins = no_further d.start (is.3 0 (omega (arith, is.1))) where
        no_further : (at : Location) → address f.program f.state f.layout (further at 0) ≡ Some (first + 0) → address f.program f.state f.layout at ≡ Some first
        no_further (local b y i) e = ap (λ j. address f.program f.state f.layout (local b y j)) (let same : i ≡ i + 0 = omega arith in same) ∙ (e ∙ ap (λ n. Some n) (omega arith))
        no_further (common b i) e = ap (λ j. address f.program f.state f.layout (common b j)) (let same : i ≡ i + 0 = omega arith in same) ∙ (e ∙ ap (λ n. Some n) (omega arith))

  -- the value of an expression
  keeps-value : (store : Store) (before after : Space) (v : Value) → IsGiven f.program f.state f.layout a x d (given.Value v) → (store (local a x 1)).full ≡ false → IsPut (frame.first + (1 + 2 * k)) (given.Value v) before after
      → Keeps (stored_in (written_up_to f a (1 + 2 * k)) store) before nodes → Keeps (stored_in (written_up_to f a (suc (suc (1 + 2 * k)))) (with_one_given store a x (given.Value v))) after nodes
  keeps-value store before after v is empty put h =
      keeps-skipped f a nodes (with_value store (local a x 1) (Some v)) after (1 + 2 * k) (suc (suc (1 + 2 * k))) (omega arith) unset
      (keeps-given f a nodes store before after (1 + 2 * k) (frame.first + (1 + 2 * k)) (local a x 1) (record { value = Some v; full = (store (local a x 1)).full }) here
      (subst (λ b. IsSet (frame.first + (1 + 2 * k)) (record { value = Some v; full = b }) before after) (sym empty) put) h)
    where
      owned : is_owned a (dummy_at (activation_of f.state a).dummies k).start ≡ true
      owned = ap (λ (z : Dummy). is_owned a z.start) there ∙ (ap (is_owned a) is ∙ eq-eqb a a refl)

      here : address f.program f.state f.layout (local a x 1) ≡ Some (frame.first + (1 + 2 * k))
      here =
          let entry = argument-first unit x k index in
          runs-value f.program f.state f.layout a x k frame framed index owned 0 (omega arith) ∙ ap (λ n. Some n) (omega (arith, entry.begins))

      own : (i : ℕ) → descriptor_slots f.program f.state f.layout a (argument x, i) ≡ slot_of_value i
      own i = wants i ∙ ap (λ b. if b then slot_of_value i else slot_of_reference (address f.program f.state f.layout d.start) d.rest i) (ap (is_owned a) is ∙ eq-eqb a a refl)

      unset : (c : FramePart × ℕ) (n : ℕ) (slot : Slot) → place_of_part unit c.0 c.1 ≡ Some n → 1 + 2 * k ≤ n → n < suc (suc (1 + 2 * k)) → descriptor_slots f.program f.state f.layout a c ≡ Some slot → slot ≡ unset_cell
      unset c n slot at low high w = by_number (nat_eq n (1 + 2 * k)) refl where
        value : (i : ℕ) → (argument x, i) ≡ c → slot_of_value i ≡ Some slot
        value i same = sym (own i) ∙ (ap (descriptor_slots f.program f.state f.layout a) same ∙ w)

        by_number : (b : Bool) → nat_eq n (1 + 2 * k) ≡ b → slot ≡ unset_cell
        by_number true e =
            let same = one-cell unit (argument x, 0) c n (place 0 n (omega arith) (omega (arith, eqb-true n (1 + 2 * k) e))) at in
            absurd (none-some slot (value 0 same))
        by_number false e =
            let last : n ≡ 1 + 2 * k + 1 = omega (arith, eqb-false n (1 + 2 * k) e, low, high) in
            let same = one-cell unit (argument x, 1) c n (place 1 n (omega arith) last) at in
            sym (same_Some unset_cell slot (value 1 same))

  pub keeps-put : (store : Store) (before after : Space) (g : DummyStorage) → IsGiven f.program f.state f.layout a x d g → (store (local a x 1)).full ≡ false → IsPut (frame.first + (1 + 2 * k)) g before after
      → Keeps (stored_in (written_up_to f a (1 + 2 * k)) store) before nodes → Keeps (stored_in (written_up_to f a (suc (suc (1 + 2 * k)))) (with_one_given store a x g)) after nodes
  keeps-put store before after (given.Value v) is empty put h = keeps-value store before after v is empty put h
  keeps-put store before after (given.Units first count) is empty put h = keeps-units store before after first count is put h

-- ---- none is written

none-before : (o : Option ℕ) → is_before 0 o ≡ false
none-before None = refl
none-before (Some n) = grind (arith, nat_tests)

-- the header holds nothing that is wanted
pub keeps-unset : (f : FramesOf) (s : State) (a : ℕ) (arena : Space) (nodes : Nodes) → f.state.activations ≡ s.activations → Keeps (unwritten f s a) arena nodes → Keeps (stored_in (written_up_to f a 1) s.store) arena nodes
keeps-unset f s a arena nodes same h =
    keeps-skipped f a nodes s.store arena 0 1 (omega arith) headed
    (keeps-same (unwritten f s a) (record f.state { store = s.store }) f.on (wanted_up_to f.program f.state f.layout a 0 f.wanted) arena nodes h same refl (λ b. refl) none)
  where
    none : (b : ℕ) (c : FramePart × ℕ) (v : Slot) → wanted_up_to f.program f.state f.layout a 0 f.wanted b c ≡ Some v → with_unset a f.wanted b c ≡ Some v
    none b c v w = by_number (nat_eq b a) w where
      by_number : (x : Bool) → (if x then (if is_before 0 (place_of_part (unit_framed f a) c.0 c.1) then descriptor_slots f.program f.state f.layout a c else Some unset_cell) else f.wanted b c) ≡ Some v → (if x then Some unset_cell else f.wanted b c) ≡ Some v
      by_number false w = w
      by_number true w = sym (ap (λ z. if z then descriptor_slots f.program f.state f.layout a c else Some unset_cell) (none-before (place_of_part (unit_framed f a) c.0 c.1))) ∙ w

    headed : (d : FramePart × ℕ) (n : ℕ) (v : Slot) → place_of_part (unit_framed f a) d.0 d.1 ≡ Some n → 0 ≤ n → n < 1 → descriptor_slots f.program f.state f.layout a d ≡ Some v → v ≡ unset_cell
    headed d n v at low high w =
        let first : 0 ≡ n = omega (arith, high) in
        let same : (header, 0) ≡ d = one-cell (unit_framed f a) (header, 0) d n (ap (λ m. Some m) first) at in
        absurd (none-some v (ap (descriptor_slots f.program f.state f.layout a) same ∙ w))

-- ---- the first k are

-- what is kept once the first k are written, where the frame begins at a cell
abbrev pub AreBound : ℕ → List DummyStorage → Space → Nodes → ℕ → Space → Nodes → Type 0
AreBound first given before old k after new =
    (f : FramesOf) (s : State) (a : ℕ) → Keeps (unwritten f s a) before old → f.state.activations ≡ s.activations → ((y : Name) → s.store (local a y 1) ≡ unset_cell) → IsBinding f.program f.state f.layout a first given
    → Keeps (stored_in (written_up_to f a (1 + 2 * k)) (with_given s.store a (dummies_of (unit_framed f a)) (take k given))) after new

none-given : (store : Store) (a : ℕ) (xs : List Name) → with_given store a xs [] ≡ store
none-given store a [] = refl
none-given store a (x ∷ xs) = refl

pub bound-begins : (first : ℕ) (given : List DummyStorage) (before : Space) (old : Nodes) → AreBound first given before old 0 before old
bound-begins first given before old f s a h same fresh b =
    subst (λ z. Keeps (stored_in (written_up_to f a 1) z) before old) (sym (none-given s.store a (dummies_of (unit_framed f a))))
    (keeps-unset f s a before old same h)

pub bound-goes_on : (first : ℕ) (given : List DummyStorage) (before : Space) (old : Nodes) (k : ℕ) (g : DummyStorage) (mid after : Space) (nodes new : Nodes)
    → slice_get given k ≡ Some g → IsPut (first + 1 + 2 * k) g mid after → new ≡ nodes → AreBound first given before old k mid nodes → AreBound first given before old (k + 1) after new
bound-goes_on first given before old k g mid after nodes new there put same_nodes so_far f s a h same fresh b =
    let names = dummies_of (unit_framed f a) in
    let at = given-at f.program f.state f.layout a names (activation_of f.state a).dummies given k g b.given_are there in
    let store = with_given s.store a names (take k given) in
    let empty : (store (local a at.name 1)).full ≡ false = full-given s.store (local a at.name 1) a names (take k given) ∙ ap (λ (c : Slot). c.full) (fresh at.name) in
    let place : first + 1 + 2 * k ≡ b.frame.first + (1 + 2 * k) = omega (arith, b.begins) in
    let next : suc k ≡ k + 1 = omega arith in
    let cells : suc (suc (1 + 2 * k)) ≡ 1 + 2 * (k + 1) = omega arith in
    let written = keeps-put f a nodes b.frame b.framed k at.name at.dummy (index-found at.name names k b.distinct at.named) at.there store mid after g at.is_given empty (subst (λ p. IsPut p g mid after) place put) (
    so_far f s a h same fresh b) in
    subst (λ z. Keeps (stored_in (written_up_to f a (1 + 2 * (k + 1))) (with_given s.store a names (take z given))) after new) next (
    subst (λ z. Keeps (stored_in (written_up_to f a (1 + 2 * (k + 1))) z) after new) (sym (given-next s.store a names given k at.name g at.named there)) (
    subst (λ m. Keeps (stored_in (written_up_to f a m) (with_one_given store a at.name g)) after new) cells (
    subst (Keeps (stored_in (written_up_to f a (suc (suc (1 + 2 * k)))) (with_one_given store a at.name g)) after) (sym same_nodes) written)))

pub bound-next : (first : ℕ) (given : List DummyStorage) (before : Space) (old : Nodes) (k at : ℕ) (default : DummyStorage) (mid after : Space) (nodes new : Nodes)
    → k < length given → at ≡ first + 1 + 2 * k → IsPut at (get_or given k default) mid after → new ≡ nodes → AreBound first given before old k mid nodes → AreBound first given before old (k + 1) after new
bound-next first given before old k at default mid after nodes new less place put same h =
    bound-goes_on first given before old k (get_or given k default) mid after nodes new (slice_get-get_or given k default less) (subst (λ p. IsPut p (get_or given k default) mid after) place put) same h

pub bound-ends : (first : ℕ) (given : List DummyStorage) (before : Space) (old : Nodes) (k : ℕ) (after : Space) (new : Nodes) → k ≡ length given → AreBound first given before old k after new
    → (f : FramesOf) (s : State) (a : ℕ) → Keeps (unwritten f s a) before old → f.state.activations ≡ s.activations → f.state.store ≡ with_given s.store a (dummies_of (unit_framed f a)) given → ((y : Name) → s.store (local a y 1) ≡ unset_cell)
    → IsBinding f.program f.state f.layout a first given → Keeps (written_up_to f a (cells_to_locals (unit_framed f a))) after new
bound-ends first given before old k after new all so_far f s a h same stored fresh b =
    let many : length given ≡ length (dummies_of (unit_framed f a)) = given-many f.program f.state f.layout a (dummies_of (unit_framed f a)) (activation_of f.state a).dummies given b.given_are in
    subst (λ n. Keeps (written_up_to f a (1 + 2 * n)) after new) many (
    subst (λ z. Keeps (stored_in (written_up_to f a (1 + 2 * length given)) z) after new) (sym stored) (
    subst (λ gs. Keeps (stored_in (written_up_to f a (1 + 2 * length given)) (with_given s.store a (dummies_of (unit_framed f a)) gs)) after new) (take_all (length given) given (omega arith)) (
    subst (λ z. Keeps (stored_in (written_up_to f a (1 + 2 * z)) (with_given s.store a (dummies_of (unit_framed f a)) (take z given))) after new) all (
    so_far f s a h same fresh b))))
