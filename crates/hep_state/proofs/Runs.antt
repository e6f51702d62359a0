-- One turn more of a run: the state and the layout after it, and what shows that state.
use Rattle.std.proofs.Common.{◌≡◌, ◌⊎◌, inl, inr, ℕ, suc, ◌+◌, ◌≤◌, Bool, true, false, true≢false, List, [], ◌∷◌, ◌++◌, length, Option, Some, None, refl, sym, ap, subst, ◌∙◌, arith, zero, ◌-◌, IsSome, if◌then◌else◌, is_some, nat_eq, nat_lt, slice_get, slice_set, length-append}
use Rattle.std.specs.List.{filter}
use Rattle.std.specs.Option.{option_map, unwrap_or}
use Rattle.std.proofs.lemmas.Bool.{eq-eqb, eqb-true, eqb-false, cases_Bool}
use Rattle.std.proofs.lemmas.Bool.Decides.{nat_tests}
use Rattle.hep_machine.specs.Words.{Units, IsSameOrOneMore, Frame, Layout, Placing, common_cells, frame_of, is_held, layout_after_step, layout_after_turn, layout_of, layout_with_activation, lowest_gap, opening_layout, placing_from, placing_turn, remaining_layout, with_frame, opening, run, run_from, state_after_turn, State, Process, step, numbered, with_numbered}
use Rattle.hep_machine.proofs.Others.{activations_after, other_numbered, processes_after}
use Rattle.hep_arena.specs.Gaps.{frame_among}
use Rattle.hep_layout.specs.Words.{frame_from, IsAtRest, is_stacked, FrameNode, Nodes}
use Rattle.hep_layout.proofs.HeldFrames.{turned, layout-last}
use Rattle.hep_proc.specs.FrameTable.{frames_of, Keeps, frames_in}
use Rattle.hep_proc.specs.Stacks.{Stack}
use Rattle.std.proofs.lemmas.Option.{same_Some, none-some}
use Rattle.hep_arena.specs.Space.{Space}
use Rattle.hep_image.specs.BoundActivations.{AreKept}
use Rattle.hep_layout.proofs.FrameTree.{rest-held}
use Rattle.hep_state.specs.Words.{HasMadeTurn, HoldsInTurn, IsStack, IsTurning, Shows, Snapshot, TurnOf, state_before}
use Rattle.hep_layout.proofs.Stacks.{top-numbered}
use Rattle.hep_state.proofs.SettledPositions.{AreOn, are-on, AreMade, AreStanding, stack-again, stack-standing, standing-still}
use Rattle.hep_binding.proofs.Calls.{set-numbered}
use Rattle.hep_state.proofs.ProcessNumbers.{from-one, within-number}

-- ---- the state

-- ---- the layout

placing-append : (program : Units) (cells : ℕ) (has : State → ℕ → Bool) (x : Placing) (ps qs : List ℕ) → placing_from program cells has x (ps ++ qs) ≡ placing_from program cells has (placing_from program cells has x ps) qs
unfolding placing_from
placing-append program cells has x [] qs = refl
placing-append program cells has x (p ∷ ps) qs = placing-append program cells has (placing_turn program cells has x p) ps qs

state-of-turn : (program : Units) (cells : ℕ) (has : State → ℕ → Bool) (s t : State) (o : Option Layout) → (layout_after_turn program cells has s t o).state ≡ t
state-of-turn program cells has s t None = refl
state-of-turn program cells has s t (Some l) = refl

placing-state : (program : Units) (cells : ℕ) (has : State → ℕ → Bool) (x : Placing) (ps : List ℕ) → (placing_from program cells has x ps).state ≡ run_from program x.state ps
unfolding placing_from run_from
placing-state program cells has x [] = refl
placing-state program cells has x (p ∷ ps) =
    placing-state program cells has (placing_turn program cells has x p) ps ∙ ap (λ s. run_from program s ps) (state-of-turn program cells has x.state (state_after_turn program p x.state) x.layout)

-- the placing after turns
abbrev placing_after : Units → ℕ → List ℕ → Placing
placing_after program cells choices = placing_from program cells is_held (record { state = opening program; layout = opening_layout program cells }) choices

placing-last : (program : Units) (cells : ℕ) (x : Placing) (p : ℕ) → placing_from program cells is_held x (p ∷ []) ≡ placing_turn program cells is_held x p
unfolding placing_from
placing-last program cells x p = refl

-- where a frame had no gap, there is none from there on
placing-none : (program : Units) (cells : ℕ) (x : Placing) (ps : List ℕ) → x.layout ≡ None → (placing_from program cells is_held x ps).layout ≡ None
unfolding placing_from
placing-none program cells x [] e = e
placing-none program cells x (p ∷ ps) e =
    placing-none program cells (placing_turn program cells is_held x p) ps (ap (λ o. (layout_after_turn program cells is_held x.state (state_after_turn program p x.state) o).layout) e)

-- so each turn before others has its gap where all have
pub laid-before : (program : Units) (cells : ℕ) (ps qs : List ℕ) → IsSome (layout_of program cells is_held (ps ++ qs)) → IsSome (layout_of program cells is_held ps)
laid-before program cells ps qs h = by_layout (layout_of program cells is_held ps) refl where
  by_layout : (o : Option Layout) → layout_of program cells is_held ps ≡ o → IsSome (layout_of program cells is_held ps)
  by_layout (Some layout) e = subst IsSome (sym e) refl
  by_layout None e =
      let first : Placing = record { state = opening program; layout = opening_layout program cells } in
      let none = ap (λ (z : Placing). z.layout) (placing-append program cells is_held first ps qs) ∙ placing-none program cells (placing_after program cells ps) qs e in
      absurd (true≢false (sym (subst IsSome none h)))

-- where no activation is new, it is what is left of the layout
pub layout-stays : (program : Units) (cells : ℕ) (choices : List ℕ) (p : ℕ) (layout : Layout) → layout_of program cells is_held choices ≡ Some layout
    → (state_after_turn program p (run program choices)).activations ≡ (run program choices).activations
    → layout_of program cells is_held (choices ++ p ∷ []) ≡ Some (remaining_layout is_held (state_after_turn program p (run program choices)) layout)
layout-stays program cells choices p layout e same =
    let s = run program choices in
    let t = state_after_turn program p s in
    let long : length t.activations ≡ length s.activations = ap length same in
    let none : nat_lt (length s.activations) (length t.activations) ≡ false = grind (arith, nat_tests) in
    layout-last program cells choices p layout e ∙ ap (λ (b : Bool). option_map (remaining_layout is_held t) (if b then layout_with_activation program cells layout (length t.activations) (frame_of program t (length t.activations)) else Some layout)) none

pub layout-left : (program : Units) (cells : ℕ) (choices : List ℕ) (p : ℕ) (layout : Layout) (t : State) → layout_of program cells is_held choices ≡ Some layout → step program p (run program choices) ≡ Some t
    → t.activations ≡ (run program choices).activations → layout_of program cells is_held (choices ++ p ∷ []) ≡ Some (remaining_layout is_held t layout)
layout-left program cells choices p layout t e made same =
    let s = run program choices in
    let after : state_after_turn program p s ≡ t = ap (λ o. unwrap_or o s) made in
    layout-stays program cells choices p layout e (ap (λ (u : State). u.activations) after ∙ same) ∙ ap (λ (u : State). Some (remaining_layout is_held u layout)) after

-- where one is, it is what is left of the layout with its frame, in its lowest gap
pub layout-more : (program : Units) (cells : ℕ) (choices : List ℕ) (p : ℕ) (layout : Layout) (t : State) (gap : Option ℕ) → layout_of program cells is_held choices ≡ Some layout → step program p (run program choices) ≡ Some t
    → length t.activations ≡ suc (length (run program choices).activations) → lowest_gap cells (frame_of program t (length t.activations)) (common_cells program) layout ≡ gap
    → layout_of program cells is_held (choices ++ p ∷ []) ≡ option_map (remaining_layout is_held t) (option_map (λ first. with_frame layout (frame_from program t (length t.activations) first)) gap)
layout-more program cells choices p layout t gap e made long is =
    let s = run program choices in
    let one : nat_lt (length s.activations) (length t.activations) ≡ true = grind (arith, nat_tests) in
    layout-last program cells choices p layout e
    ∙ (ap (λ o. layout_after_step program cells is_held s (unwrap_or o s) layout) made ∙ rw one (ap (λ o. option_map (remaining_layout is_held t) (option_map (λ first. with_frame layout (frame_from program t (length t.activations) first)) o)) is))

-- ---- how many activations there are

-- a list that is the same or has one element more is at most one longer
pub few-more : {A : Type 0} (xs ys : List A) → IsSameOrOneMore xs ys → length ys ≤ length xs + 1
few-more xs ys (inl same) = omega (arith, ap length same)
few-more xs ys (inr (x, more)) = omega (arith, ap length more, length-append xs (x ∷ []))

few-from : (program : Units) (s : State) (ps : List ℕ) → length (run_from program s ps).activations ≤ length s.activations + length ps
unfolding run_from
few-from program s [] = omega arith
few-from program s (p ∷ ps) =
    let one = few-more s.activations (state_after_turn program p s).activations (activations_after program p s) in
    omega (arith, one, few-from program (state_after_turn program p s) ps)

-- a turn makes one at most, and the opening has one
pub few : (program : Units) (choices : List ℕ) → length (run program choices).activations ≤ 1 + length choices
unfolding run opening
few program choices = few-from program (opening program) choices

-- and one process at most
few-processes-from : (program : Units) (s : State) (ps : List ℕ) → length (run_from program s ps).processes ≤ length s.processes + length ps
unfolding run_from
few-processes-from program s [] = omega arith
few-processes-from program s (p ∷ ps) =
    let rest = few-processes-from program (state_after_turn program p s) ps in
    elim (processes_after program p s) [
      | inl same ↦ omega (arith, same, rest)
      | inr more ↦ omega (arith, more, rest)
    ]

pub few-processes : (program : Units) (choices : List ℕ) → length (run program choices).processes ≤ 1 + length choices
unfolding run opening
few-processes program choices = few-processes-from program (opening program) choices

-- ---- a layout all frames of which are kept

filter-all : (keep : ℕ → Bool) (fs : Layout) → ((a : ℕ) → is_some (frame_among a fs) ≡ true → keep a ≡ true) → filter (λ (f : Frame). keep f.activation) fs ≡ fs
filter-all keep [] h = refl
filter-all keep (f ∷ fs) h =
    let first : keep f.activation ≡ true = h f.activation (rw (eq-eqb f.activation f.activation refl)) in
    let rest = filter-all keep fs (λ a there. h a (elim (cases_Bool (nat_eq f.activation a)) [ inl own ↦ rw own | inr other ↦ rw other there ])) in
    rw first (ap (λ gs. f ∷ gs) rest)

-- where just these activations have frames, their frames are the layout
pub frames-all : (out : ℕ → Bool) (layout : Layout) → ((a : ℕ) → is_some (frame_among a layout) ≡ out a) → frames_of out layout ≡ layout
frames-all out layout h = filter-all out layout (λ a there. sym (h a) ∙ there)

-- ---- numbered elements

-- an element in its own place
pub set-same : {A : Type 0} (xs : List A) (p : ℕ) (x : A) → numbered xs p ≡ Some x → xs ≡ with_numbered xs p x
set-same xs zero x e = absurd (none-some x e)
set-same {A} xs (suc i) x e = let same : suc i - 1 ≡ i = omega arith in rw same (at xs i e) where
  at : (ys : List A) (j : ℕ) → slice_get ys j ≡ Some x → ys ≡ slice_set ys j x
  at [] j e = refl
  at (y ∷ ys) zero e = ap (λ z. z ∷ ys) (same_Some y x e)
  at (y ∷ ys) (suc j) e = ap (λ zs. y ∷ zs) (at ys j e)

-- and one in the place of another
pub set-again : {A : Type 0} (xs : List A) (i : ℕ) (x y : A) → slice_set (slice_set xs i x) i y ≡ slice_set xs i y
set-again [] i x y = refl
set-again (z ∷ zs) zero x y = refl
set-again (z ∷ zs) (suc i) x y = ap (λ ws. z ∷ ws) (set-again zs i x y)

-- ---- numbered elements, with one more

last-or-before : {A : Type 0} (xs : List A) (y z : A) (j : ℕ) → slice_get (xs ++ y ∷ []) j ≡ Some z → (slice_get xs j ≡ Some z) ⊎ ((j ≡ length xs) × (y ≡ z))
last-or-before [] y z zero e = inr (refl, same_Some y z e)
last-or-before [] y z (suc j) e = absurd (none-some z e)
last-or-before (x ∷ xs) y z zero e = inl e
last-or-before (x ∷ xs) y z (suc j) e = elim (last-or-before xs y z j e) [ inl before ↦ inl before | inr last ↦ inr (omega (arith, last.0), last.1) ]

numbered-last : {A : Type 0} (xs : List A) (y z : A) (j : ℕ) → numbered (xs ++ y ∷ []) j ≡ Some z → (numbered xs j ≡ Some z) ⊎ ((j ≡ suc (length xs)) × (y ≡ z))
numbered-last xs y z zero e = absurd (none-some z e)
numbered-last xs y z (suc j) e = elim (last-or-before xs y z j e) [ inl before ↦ inl before | inr last ↦ inr (omega (arith, last.0), last.1) ]

-- ---- a turn

-- its process
pub there : {t : TurnOf} → IsTurning t → numbered (state_before t).processes t.process ≡ Some (t.top.0 ∷ t.top.1)
there {t} h = top-numbered (state_before t) t.process t.top h.lives

-- what is so in it is so in the turn of that process
pub in-turn : {t : TurnOf} → IsTurning t → (IsSo : TurnOf → Type 0) → IsSo t → HoldsInTurn t.program t.cells t.choices t.process t.machine IsSo
in-turn {t} h IsSo so = record { levels = record { level = t.level; below = t.below; operands = t.operands; pending = t.pending; kept = h.kept }; top = t.top; holds = so }

-- where its step leads to a state
module _ (t : TurnOf) (later : State) (made : step t.program t.process (state_before t) ≡ Some later) where
  pub next : run t.program (t.choices ++ t.process ∷ []) ≡ later
  next = turned t.program t.choices t.process later made

  on-after : (n : ℕ) (q : Process) → numbered later.processes n ≡ Some q → AreOn later q
  on-after n q = subst (λ (s : State). numbered s.processes n ≡ Some q → AreOn s q) next (are-on t.program (t.choices ++ t.process ∷ []) n q)

  module _ (layout : Layout) (out : ℕ → Bool) (arena : Space) (nodes : Nodes) (keeps : Keeps (frames_in t.program later out layout) arena nodes) where
    pub held-after : (a : ℕ) → out a ≡ is_held later a
    held-after a =
        subst (λ (s : State). IsAtRest s out nodes → out a ≡ is_held s a) next (rest-held t.program (t.choices ++ t.process ∷ []) out nodes a) (record { tree = keeps.tree; needed = keeps.rest })

    keeps-after : Keeps (frames_in t.program later (is_held later) layout) arena nodes
    keeps-after = subst (λ test. Keeps (frames_in t.program later test layout) arena nodes) (λ i a. held-after a i) keeps

    pub remaining-after : (before : Layout) → frames_of out before ≡ remaining_layout is_held later before
    remaining-after before = ap (λ (test : ℕ → Bool). filter (λ (f : Frame). test f.activation) before) (λ i a. held-after a i)

    -- nothing leaves the layout
    pub all-remain : Some (remaining_layout is_held later layout) ≡ Some layout
    all-remain = ap (λ (fs : Layout). Some fs) (sym (remaining-after layout) ∙ frames-all out layout keeps.frames_are)

  -- ---- the state is shown, and a step was made

  module _ (new : Snapshot) (layout : Layout) (out : ℕ → Bool) (keeps : Keeps (frames_in t.program later out layout) new.arena new.nodes)
      (kept : (a : ℕ) → is_stacked later a ≡ true → AreKept t.program later layout a) (count : length new.processes ≡ length later.processes)
      (standing : (n : ℕ) (k : Stack) (q : Process) → numbered new.processes n ≡ Some k → numbered later.processes n ≡ Some q → AreOn later q → AreStanding t.program later new.nodes k.operands k.pending k.levels q) where
    stacks : (n : ℕ) (k : Stack) (q : Process) → numbered new.processes n ≡ Some k → numbered later.processes n ≡ Some q → IsStack t.program later new.arena.contents new.nodes k q
    stacks n k q there here =
        let on = on-after n q here in
        stack-again t.program later new.nodes new.arena.contents layout keeps.described keeps.framed k q (standing n k q there here on) on

    pub stepped-after : layout_of t.program t.cells is_held (t.choices ++ t.process ∷ []) ≡ Some layout → length new.arena.contents ≡ t.cells
        → new.activations ≡ length later.activations → new.records ≡ later.records → new.faults ≡ later.faults → new.halted ≡ later.halted → HasMadeTurn t new
    stepped-after laid size activations records faults halted =
        let shows : Shows t.program later layout new =
        record {
          keeps = keeps-after layout out new.arena new.nodes keeps;
          kept = kept;
          processes = count;
          stacks = stacks;
          activations = activations;
          records = records;
          faults = faults;
          halted = halted;
        } in
        record {
          stepped = λ none. none-some later (sym none ∙ made);
          after = record { layout = layout; laid = laid; size = size; shows = subst (λ (s : State). Shows t.program s layout new) (sym next) shows };
        }

-- ---- its process has another stack

module _ {t : TurnOf} (h : IsTurning t) (later : State) (nodes : Nodes) (k : Stack) (q : Process) (made : AreMade (state_before t) later)
    (stay : (key : ℕ) (n : FrameNode) → t.machine.nodes key ≡ Some n → is_stacked later n.activation ≡ true → (l : FrameNode) × (nodes key ≡ Some l) × (l.activation ≡ n.activation))
    (top : AreOn later q → AreStanding t.program later nodes k.operands k.pending k.levels q) where
  abbrev stacks-before : List Stack
  stacks-before = t.machine.processes

  abbrev processes-before : List Process
  processes-before = (state_before t).processes

  pub standing-changed : (n : ℕ) (j : Stack) (r : Process) → numbered (with_numbered t.machine.processes t.process k) n ≡ Some j → numbered (with_numbered (state_before t).processes t.process q) n ≡ Some r → AreOn later r
      → AreStanding t.program later nodes j.operands j.pending j.levels r
  standing-changed n j r here on-it on = by_number (nat_eq t.process n) refl where
    by_number : (b : Bool) → nat_eq t.process n ≡ b → AreStanding t.program later nodes j.operands j.pending j.levels r
    by_number true e =
        let number = eqb-true t.process n e in
        let stack : k ≡ j = same_Some k j (sym (set-numbered stacks-before t.process _ k h.kept) ∙ ap (numbered (with_numbered stacks-before t.process k)) number ∙ here) in
        let process : q ≡ r = same_Some q r (sym (set-numbered processes-before t.process _ q (there h)) ∙ ap (numbered (with_numbered processes-before t.process q)) number ∙ on-it) in
        subst (λ (x : Stack). AreStanding t.program later nodes x.operands x.pending x.levels r) stack (subst (λ z. AreStanding t.program later nodes k.operands k.pending k.levels z) process (top (subst (AreOn later) (sym process) on)))
    by_number false e =
        let other = eqb-false t.process n e in
        let one = from-one processes-before t.process _ (there h) in
        let kept-here = sym (other_numbered stacks-before t.process n k one other) ∙ here in
        let kept-there = sym (other_numbered processes-before t.process n q one other) ∙ on-it in
        standing-still t.program (state_before t) later t.machine.nodes nodes made stay j.operands j.pending j.levels r (stack-standing t.program (state_before t) t.machine.nodes t.machine.arena.contents j r (h.after.shows.stacks n j r kept-here kept-there)) on

  -- and there is one process more
  pub standing-more : (last : Stack) (newest : Process) → length (with_numbered t.machine.processes t.process k) ≡ length (with_numbered (state_before t).processes t.process q) → (AreOn later newest → AreStanding t.program later nodes last.operands last.pending last.levels newest)
      → (n : ℕ) (j : Stack) (r : Process) → numbered (with_numbered t.machine.processes t.process k ++ last ∷ []) n ≡ Some j → numbered (with_numbered (state_before t).processes t.process q ++ newest ∷ []) n ≡ Some r → AreOn later r
      → AreStanding t.program later nodes j.operands j.pending j.levels r
  standing-more last newest count new n j r here on-it on =
      by_places (numbered-last (with_numbered stacks-before t.process k) last j n here) (numbered-last (with_numbered processes-before t.process q) newest r n on-it) where
        by_places : (numbered (with_numbered stacks-before t.process k) n ≡ Some j) ⊎ ((n ≡ suc (length (with_numbered stacks-before t.process k))) × (last ≡ j)) → (numbered (with_numbered processes-before t.process q) n ≡ Some r) ⊎ ((n ≡ suc (length (with_numbered processes-before t.process q))) × (newest ≡ r))
            → AreStanding t.program later nodes j.operands j.pending j.levels r
        by_places (inl f) (inl g) = standing-changed n j r f g on
        by_places (inl f) (inr g) = absurd (omega (arith, within-number (with_numbered stacks-before t.process k) n j f, g.0, count))
        by_places (inr f) (inl g) = absurd (omega (arith, within-number (with_numbered processes-before t.process q) n r g, f.0, count))
        by_places (inr f) (inr g) = subst (λ (z : Stack). AreStanding t.program later nodes z.operands z.pending z.levels r) f.1 (subst (λ z. AreStanding t.program later nodes last.operands last.pending last.levels z) g.1 (new (subst (AreOn later) (sym g.1) on)))
