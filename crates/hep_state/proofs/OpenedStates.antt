-- What a core keeps before the first step shows the opening, once rows of DATA have given values to its cells.
use Rattle.std.proofs.Common.{◌≡◌, ℕ, zero, suc, ◌+◌, ◌<◌, Bool, true, false, List, [], ◌∷◌, length, Option, Some, None, refl, sym, ap, ◌∙◌, subst, arith, ◌⊎◌, inl, inr, ◌-◌, ◌≤◌, ◌&&◌, ◌||◌, get_or, drop, reverse, if◌then◌else◌, nat_eq, nat_le, slice_get, nat_lt}
use Rattle.std.specs.Option.{option_map, IsSome, is_some}
use Rattle.std.proofs.lemmas.Option.{same_Some, none-some}
use Rattle.hep_machine.specs.Words.{Value, Units, executable_from, main_unit, unit_at, Layout, common_cells, is_held, layout_of, lowest_gap, opening_layout, placing_from, cell_given, opening, activation_of, numbered, unit_of, run, run_from, Location, Process, State, entry_level, frame_cells}
use Rattle.hep_machine.specs.declared.slot.Slot.{Slot}
use Rattle.hep_code.specs.Words.{entry_index}
use Rattle.hep_code.proofs.CodePositions.{StandsAt, entry_stands}
use Rattle.hep_arena.specs.Gaps.{gaps}
use Rattle.hep_layout.specs.Words.{Holds, IsLaid, IsMemory, address, Describes, descriptor_slots, is_stacked, FrameNode, Nodes, first_nodes}
use Rattle.hep_layout.proofs.Beginning.{tree-same, needed-same, main_node}
use Rattle.hep_layout.proofs.Descriptors.{descriptor-apart, described-same, wanted-same}
use Rattle.hep_layout.proofs.HeldFrames.{opening-is}
use Rattle.hep_layout.proofs.Memory.{address-same, laid-same}
use Rattle.hep_layout.proofs.FrameTree.{rest-held}
use Rattle.hep_image.specs.declared.data.DataRow.{DataRow}
use Rattle.hep_image.specs.Data.{AreOfUnits, AreInitial, first_frames, value_in_rows}
use Rattle.hep_proc.specs.FrameTable.{IsOpening, Keeps, IsUnused, frames_in}
use Rattle.hep_proc.specs.Stacks.{Stack}
use Rattle.hep_step.specs.Simulation.{unit_addressed}
use Rattle.hep_arena.specs.Space.{Space}
use Rattle.hep_state.specs.Words.{IsEntered, IsGiven, snapshot_opened, unset_opening, IsStack, IsAfter, AreOut}
use Rattle.hep_state.proofs.LeftActivations.{none-kept}
use Rattle.hep_state.proofs.SettledPositions.{are-on, AreStanding, stack-again}
use Rattle.std.proofs.lemmas.Bool.{cases_Bool, eq-eqb, false≢true}
use Rattle.std.proofs.lemmas.Bool.Decides.{nat_tests}
use Rattle.std.proofs.lemmas.List.{drop_more, get_or-reverse, length-reverse}
use Rattle.hep_arena.specs.Holes.{IsOut, first_fit}
use Rattle.hep_arena.proofs.Gaps.{fit-gaps}
use Rattle.hep_layout.proofs.Addresses.{address-out}
use Rattle.hep_state.proofs.Processes.{numbered-only}
use Rattle.hep_state.proofs.UnchangedStates.{carry}
use Rattle.hep_image.proofs.Openings.{frame_at}

-- ---- the opening

laid-opening : (program : Units) (cells : ℕ) → layout_of program cells is_held [] ≡ opening_layout program cells
unfolding placing_from
laid-opening program cells = refl

-- the first frame begins just behind COMMON
opening-layout-is : (program : Units) (cells : ℕ)
    → opening_layout program cells ≡ option_map (λ (first : ℕ). frame_at program first ∷ []) (lowest_gap cells (frame_cells (unit_at program (main_unit program))) (common_cells program) [])
unfolding opening
opening-layout-is program cells = refl

pub frames-first : (program : Units) (cells : ℕ) (layout : Layout) → opening_layout program cells ≡ Some layout → layout ≡ first_frames program
frames-first program cells layout e = by_fit (nat_le (common_cells program + frame_cells (unit_at program (main_unit program))) cells) (sym (opening-layout-is program cells) ∙ e) where
  by_fit : (b : Bool) → option_map (λ (first : ℕ). frame_at program first ∷ []) (if b then Some (common_cells program) else None) ≡ Some layout → layout ≡ first_frames program
  by_fit true h = sym (same_Some (frame_at program (common_cells program) ∷ []) layout h)
  by_fit false h = absurd (none-some layout h)

-- addresses at the opening
pub opening-address : (program : Units) (cells : ℕ) (layout : Layout) → opening_layout program cells ≡ Some layout → (at : Location) → address program (unset_opening program) layout at ≡ address program (opening program) (first_frames program) at
opening-address program cells layout laid at =
    let same = frames-first program cells layout laid in
    address-same program (run program []) (unset_opening program) layout at refl ∙ (λ i. address program (opening-is program i) (same i) at)

opened-dummies : (program : Units) (a : ℕ) → (activation_of (run program []) a).dummies ≡ []
unfolding run run_from opening
opened-dummies program zero = refl
opened-dummies program (suc zero) = refl
opened-dummies program (suc (suc i)) = refl

-- the opening's parts
record IsOpened (program : Units) (s : State) : Type 0 where
  pub unit : unit_of s 1 ≡ main_unit program
  pub activations : length s.activations ≡ 1
  pub processes : s.processes ≡ (entry_level (unit_at program (main_unit program)) 1 ∷ []) ∷ []
  pub records : s.records ≡ []
  pub faults : s.faults ≡ []
  pub running : s.halted ≡ false

opened : (program : Units) → IsOpened program (run program [])
unfolding run run_from opening
opened program = record { unit = refl; activations = refl; processes = refl; records = refl; faults = refl; running = refl }

-- ---- with what DATA gives

module _ (program : Units) (cells key entry : ℕ) (rows : List DataRow) (before after : Space) (nodes : Nodes) (h : IsEntered program cells key before nodes) (given : IsGiven rows before after) (initial : AreInitial program rows) (units : AreOfUnits program rows) where
  abbrev s : State
  s = unset_opening program

  abbrev t : State
  t = run program []

  holds : Holds program t h.layout after.contents
  holds at p here =
      let there : address program s h.layout at ≡ Some p = address-same program t s h.layout at refl ∙ here in
      let first = h.keeps.memory.holds at p there in
      let value = initial at p (sym (opening-address program cells h.layout h.laid at) ∙ there) in
      given.given p ∙ (ap (option_map (cell_given (value_in_rows rows p))) first ∙ ap (λ (c : Slot). Some c) (sym value ∙ ap (λ (z : State). z.store at) (sym (opening-is program))))

  memory : IsMemory program t h.layout after.contents after.holes
  memory =
      let k = h.keeps.memory in
      record {
        laid = subst (λ n. IsLaid program t n h.layout) (sym given.size) (laid-same program s t (length before.contents) h.layout refl k.laid);
        holds = holds;
        holes_are = given.holes_are ∙ (k.holes_are ∙ ap (λ n. gaps n (common_cells program) h.layout) (sym given.size));
      }

  -- no descriptor has got a value
  described : Describes program s h.layout (descriptor_slots program s h.layout) after.contents
  described a c p slot is here want = by_value (value_in_rows rows p) refl (given.given p ∙ ap (option_map (cell_given (value_in_rows rows p))) (h.keeps.described a c p slot is here want)) where
    by_value : (o : Option Value) → value_in_rows rows p ≡ o → slice_get after.contents p ≡ Some (cell_given (value_in_rows rows p) slot) → slice_get after.contents p ≡ Some slot
    by_value None e there = there ∙ ap (λ o. Some (cell_given o slot)) e
    by_value (Some v) e there =
        let unit = units p v e in
        absurd (descriptor-apart program s (length before.contents) h.layout unit.0 a p c h.keeps.memory.laid (opening-address program cells h.layout h.laid unit.0 ∙ unit.1) here is)

  keeps-opened : Keeps (frames_in program t (λ a. nat_eq a 1) h.layout) after nodes
  keeps-opened =
      let k = h.keeps in
      record {
        memory = memory;
        tree = tree-same s t (is_stacked t) (λ a. nat_eq a 1) nodes refl k.tree;
        rest = needed-same s t (is_stacked t) (λ a. nat_eq a 1) None refl k.rest;
        framed = k.framed;
        frames_are = k.frames_are;
        described = described-same program s t h.layout (descriptor_slots program s h.layout) (descriptor_slots program t h.layout) after.contents described refl (λ a c v w. sym (wanted-same program s t h.layout a c refl (λ d i is. refl)) ∙ w);
      }

  held : (λ (a : ℕ). nat_eq a 1) ≡ is_held t
  held = λ i a. rest-held program [] (λ b. nat_eq b 1) nodes a (record { tree = keeps-opened.tree; needed = keeps-opened.rest }) i

  keeps-held : Keeps (frames_in program t (is_held t) h.layout) after nodes
  keeps-held = subst (λ out. Keeps (frames_in program t out h.layout) after nodes) held keeps-opened

  module _ (inside : main_unit program < length program) (entry_is : entry ≡ entry_index (unit_addressed program (main_unit program))) where
    standing : AreStanding program t nodes [] [] (record { key = key; unit = main_unit program; kept = 0; index = entry } ∷ []) (entry_level (unit_at program (main_unit program)) 1 ∷ [])
    standing =
        let addressed = unit_addressed program (main_unit program) in
        let one = (opened program).activations in (
          record {
            here = record {
              inside = inside;
              node = h.node;
              there = h.there;
              activation = sym h.first;
              made = (omega arith, omega (arith, one));
              unit = (opened program).unit;
            };
            stands = subst (StandsAt addressed (entry_level addressed.unit 1)) (sym entry_is) (entry_stands addressed (entry_level addressed.unit 1) (executable_from addressed.unit 0));
          },
          tt,
          refl,
        )

    stacks : (n : ℕ) (k : Stack) (q : Process) → numbered (record { levels = record { key = key; unit = main_unit program; kept = 0; index = entry } ∷ []; operands = []; pending = [] } ∷ []) n ≡ Some k → numbered t.processes n ≡ Some q
        → IsStack program t after.contents nodes k q
    stacks n k q kept there =
        let one = numbered-only _ k n kept in
        let process = numbered-only _ q n (sym (ap (λ (qs : List Process). numbered qs n) ((opened program).processes)) ∙ there) in
        stack-again program t nodes after.contents h.layout keeps-held.described keeps-held.framed k q (carry (λ i. AreStanding program t nodes (one i).operands (one i).pending (one i).levels (process i)) standing) (are-on program [] n q there)

    pub opened-shown : IsAfter program cells [] (snapshot_opened program key entry after nodes)
    opened-shown =
        record {
          layout = h.layout;
          laid = laid-opening program cells ∙ h.laid;
          size = given.size ∙ h.size;
          shows = record {
            keeps = keeps-held;
            kept = λ a on. none-kept program t h.layout a (opened-dummies program a);
            processes = sym (ap length ((opened program).processes));
            stacks = stacks;
            activations = sym (opened program).activations;
            records = sym (opened program).records;
            faults = sym (opened program).faults;
            halted = sym (opened program).running;
          };
        }

-- ---- the frame of the main program has entered

pub unset-opens : (program : Units) → IsOpening program (unset_opening program)
unset-opens program = record { activations_are = refl; processes_are = refl; unset = λ at. refl }

pub is-entered : (program : Units) (cells key : ℕ) (layout : Layout) (arena : Space) (nodes : Nodes) (node : FrameNode) → opening_layout program cells ≡ Some layout → length arena.contents ≡ cells
    → Keeps (record (frames_in program (unset_opening program) (λ a. nat_eq a 1) layout) { wanted = descriptor_slots program (unset_opening program) (first_frames program) }) arena nodes → nodes key ≡ Some node → node.activation ≡ 1 → IsEntered program cells key arena nodes
is-entered program cells key layout arena nodes node laid size keeps there first =
    let s = unset_opening program in
    record {
      layout = layout;
      laid = laid;
      size = size;
      keeps = subst (λ fs. Keeps (record (frames_in program s (λ a. nat_eq a 1) layout) { wanted = descriptor_slots program s fs }) arena nodes) (sym (frames-first program cells layout laid)) keeps;
      node = node;
      there = there;
      first = first;
    }

-- ---- a row

in-row : (first count p : ℕ) → first ≤ p → p < first + count → nat_le first p && nat_lt p (first + count) ≡ true
in-row first count p low high = grind (arith, nat_tests)

-- as many cells as a row has are the arena's, from its first one on
pub row-inside : (first count : ℕ) (v : Value) (arena : Space) → AreOut (record { first = first; count = count; value = v } ∷ []) arena → (count ≡ 0) ⊎ (first + count ≤ length arena.contents)
row-inside first zero v arena out = inl refl
row-inside first (suc n) v arena out =
    let inside = (out (first + n) v (ap (λ b. if b then Some v else None) (in-row first (suc n) (first + n) (omega arith) (omega arith)))).0 in
    inr (omega (arith, inside))

pub cell-out : (row : DataRow) (arena : Space) (p : ℕ) → AreOut (row ∷ []) arena → row.first ≤ p → p < row.first + row.count → (p < length arena.contents) × IsOut p arena.holes
cell-out row arena p out low high = out p row.value (ap (λ b. if b then Some row.value else None) (in-row row.first row.count p low high))

-- ---- values, one after the other

pub nothing-given : (arena : Space) → IsGiven [] arena arena
nothing-given arena = record { holes_are = refl; size = refl; given = λ p. by_cell (slice_get arena.contents p) } where
  by_cell : (o : Option Slot) → o ≡ option_map (cell_given None) o
  by_cell None = refl
  by_cell (Some slot) = refl

-- what rows give, and then what a row gives in front of them
pub given-before : (row : DataRow) (rows : List DataRow) (a b c : Space) → IsGiven rows a b → IsGiven (row ∷ []) b c → IsGiven (row ∷ rows) a c
given-before row rows a b c rest first =
    record {
      holes_are = first.holes_are ∙ rest.holes_are;
      size = first.size ∙ rest.size;
      given = λ p.
          first.given p ∙ ap (option_map (cell_given (value_in_rows (row ∷ []) p))) (rest.given p)
          ∙ by_test (nat_le row.first p && nat_lt p (row.first + row.count)) (value_in_rows rows p) (slice_get a.contents p);
    }
  where
    by_test : (t : Bool) (w : Option Value) (o : Option Slot) → option_map (cell_given (if t then Some row.value else None)) (option_map (cell_given w) o) ≡ option_map (cell_given (if t then Some row.value else w)) o
    by_test t w None = refl
    by_test true None (Some slot) = refl
    by_test true (Some v) (Some slot) = refl
    by_test false w (Some slot) = refl

-- the same values
pub given-same : (rows others : List DataRow) (a b : Space) → ((p : ℕ) → value_in_rows rows p ≡ value_in_rows others p) → IsGiven rows a b → IsGiven others a b
given-same rows others a b same h =
    record {
      holes_are = h.holes_are;
      size = h.size;
      given = λ p. h.given p ∙ ap (λ o. option_map (cell_given o) (slice_get a.contents p)) (same p);
    }

module _ (first n at count : ℕ) (v : Value) (behind : at ≡ first + n) (more : count ≡ n + 1) where
  one-more : (p : ℕ) → nat_le first p && nat_lt p (first + count) ≡ (nat_le at p && nat_lt p (at + 1)) || (nat_le first p && nat_lt p (first + n))
  one-more p = grind (arith, nat_tests)

  by_tests : (s t : Bool) → (if s then Some v else (if t then Some v else None)) ≡ (if s || t then Some v else None)
  by_tests true t = refl
  by_tests false t = refl

  -- a cell more of a row
  pub given-next : (a b c : Space) → IsGiven (record { first = first; count = n; value = v } ∷ []) a b → IsGiven (record { first = at; count = 1; value = v } ∷ []) b c → IsGiven (record { first = first; count = count; value = v } ∷ []) a c
  given-next a b c h g =
      given-same (record { first = at; count = 1; value = v } ∷ record { first = first; count = n; value = v } ∷ []) (record { first = first; count = count; value = v } ∷ []) a c
      (λ p. by_tests (nat_le at p && nat_lt p (at + 1)) (nat_le first p && nat_lt p (first + n)) ∙ ap (λ (t : Bool). if t then Some v else None) (sym (one-more p)))
      (given-before (record { first = at; count = 1; value = v }) (record { first = first; count = n; value = v } ∷ []) a b c h g)

-- a row without cells
pub given-empty : (first count : ℕ) (v : Value) (arena : Space) → count ≡ 0 → IsGiven (record { first = first; count = count; value = v } ∷ []) arena arena
given-empty first count v arena none =
    given-same [] (record { first = first; count = count; value = v } ∷ []) arena arena (λ p. let past : nat_le first p && nat_lt p (first + count) ≡ false = grind (arith, nat_tests) in rw past) (nothing-given arena)

-- ---- rows from the last one on

-- where the one after k others stands
pub record IsFromLast (rows : List DataRow) (row : DataRow) (k i : ℕ) : Type 0 where
  pub next : i + 1 ≡ length rows - k
  pub inside : i < length rows
  pub is : row ≡ get_or rows i row

pub from-last : (rows : List DataRow) (row : DataRow) (k i : ℕ) → i ≡ length rows - (k + 1) → (k < length (reverse rows)) × (row ≡ get_or (reverse rows) k row) → IsFromLast rows row k i
from-last rows row k i at turn =
    let below : k < length rows = subst (λ n. k < n) (length-reverse rows) turn.0 in
    let here : length rows - 1 - k ≡ i = omega arith in
    record { next = omega arith; inside = omega arith; is = turn.1 ∙ (get_or-reverse rows k row below ∙ ap (λ j. get_or rows j row) here) }

-- a row and those behind it
pub given-turn : (rows : List DataRow) (row : DataRow) (i k : ℕ) (a b c : Space) → i + 1 ≡ k → i < length rows → row ≡ get_or rows i row → IsGiven (drop k rows) a b → IsGiven (row ∷ []) b c → IsGiven (drop i rows) a c
given-turn rows row i k a b c next inside is rest first =
    subst (λ rs. IsGiven rs a c) (sym (drop_more rows i row inside ∙ (λ j. sym is j ∷ drop (next j) rows))) (given-before row (drop k rows) a b c rest first)

-- ---- what rows give is out

pub out-given : (rows given : List DataRow) (a b : Space) → IsGiven given a b → AreOut rows a → AreOut rows b
out-given rows given a b h out p v e = (omega (arith, h.size, (out p v e).0), subst (IsOut p) (sym h.holes_are) (out p v e).1)

-- a cell of a row among rows has a value
among : (rows : List DataRow) (row : DataRow) (i p : ℕ) (v : Value) → i < length rows → row ≡ get_or rows i row → value_in_rows (row ∷ []) p ≡ Some v → (w : Value) × (value_in_rows rows p ≡ Some w)
among [] row i p v inside is e = absurd (omega arith)
among (r ∷ rs) row zero p v inside is e =
    let own = ap (λ (x : DataRow). value_in_rows (x ∷ []) p) (sym is) ∙ e in
    elim (cases_Bool (nat_le r.first p && nat_lt p (r.first + r.count))) [ inl in_it ↦ (r.value, rw in_it) | inr out ↦ absurd (none-some v (rw out at own)) ]
among (r ∷ rs) row (suc i) p v inside is e =
    let rest = among rs row i p v (omega arith) is e in
    elim (cases_Bool (nat_le r.first p && nat_lt p (r.first + r.count))) [ inl in_it ↦ (r.value, rw in_it) | inr out ↦ (rest.0, rw out rest.1) ]

pub row-out : (rows : List DataRow) (row : DataRow) (i : ℕ) (arena : Space) → i < length rows → row ≡ get_or rows i row → AreOut rows arena → AreOut (row ∷ []) arena
row-out rows row i arena inside is out p v e =
    let some = among rows row i p v inside is e in
    out p some.0 some.1

-- those of the opening are in COMMON and in the main program's frame
pub entered-out : (program : Units) (cells key : ℕ) (arena : Space) (nodes : Nodes) (rows : List DataRow) → IsEntered program cells key arena nodes → AreOfUnits program rows → AreOut rows arena
entered-out program cells key arena nodes rows h units p v e =
    let unit = units p v e in
    let memory = h.keeps.memory in
    let same = opening-address program cells h.layout h.laid unit.0 in
    let out = address-out program (unset_opening program) (length arena.contents) h.layout unit.0 p memory.laid (same ∙ unit.1) in
    (out.0, subst (IsOut p) (sym memory.holes_are) out.1)

-- ---- the main program's frame enters

-- the lowest gap is just behind COMMON
pub first-fit : (program : Units) (arena : Space) (nodes : Nodes) → IsUnused (common_cells program) arena nodes
    → ((cells : ℕ) → opening_layout program cells ≡ (if nat_le (common_cells program + frame_cells (unit_at program (main_unit program))) cells then Some (first_frames program) else None))
    → IsSome (opening_layout program (length arena.contents)) → first_fit (frame_cells (unit_at program (main_unit program))) arena.holes ≡ Some (common_cells program)
first-fit program arena nodes unused by_numbers fits =
    let n = frame_cells (unit_at program (main_unit program)) in
    let common = common_cells program in
    ap (first_fit n) unused.holes_are ∙ (fit-gaps (length arena.contents) n common [] (omega arith) ∙ by_test (nat_le (common + n) (length arena.contents)) (ap is_some (sym (by_numbers (length arena.contents))) ∙ fits))
  where
    by_test : (t : Bool) → is_some (if t then Some (first_frames program) else None) ≡ true → (if t then Some (common_cells program) else None) ≡ Some (common_cells program)
    by_test true h = refl
    by_test false h = absurd (false≢true h)

pub node-there : (key unit first cells : ℕ) → first_nodes key unit first cells key ≡ Some (main_node unit first cells)
node-there key unit first cells = rw (eq-eqb key key refl)
