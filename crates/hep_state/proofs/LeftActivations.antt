-- Once activations of a process have ended: what is on stacks, what is wanted of frames, and that what dummy arguments stand for is kept.
use Rattle.std.proofs.Common.{◌≡◌, inl, inr, ℕ, ◌-◌, ◌≤◌, Bool, true, false, List, [], ◌∷◌, Option, Some, None, refl, sym, ap, ◌∙◌, subst, arith, length, ◌++◌, append_assoc, append-nil, ◌||◌, if◌then◌else◌, nat_eq}
use Rattle.std.proofs.lemmas.Option.{none-some}
use Rattle.hep_machine.specs.Words.{Units, unit_at, level_after_statement, Layout, activations_on, is_held, with_frame, is_number_among, numbered, unit_of, with_numbered, activation_of, run, Level, Process, State, Activation, Dummy, Location, common, local, stack_after_return, stack_after_value, Value, dummy_at, further, is_owned}
use Rattle.hep_machine.specs.declared.slot.Slot.{Slot}
use Rattle.hep_code.proofs.CodePositions.{after_statement_keeps}
use Rattle.hep_layout.specs.Words.{level_of, slot_on_level, slot_of_loop, loop_among, descriptor_slots, FramePart, header, argument, variable, iteration, bounds, times, but, IsLaid, frame_from, RunsFrom}
use Rattle.hep_layout.proofs.Descriptors.{wanted-same}
use Rattle.hep_layout.proofs.Stacks.{once, all_levels}
use Rattle.hep_step.specs.Simulation.{unit_addressed}
use Rattle.hep_proc.specs.FrameTable.{all_but, frames_of}
use Rattle.hep_binding.proofs.FoundShapes.{IsAmong, among-numbered, among-parts, among-set, find-among, found, times-all}
use Rattle.std.proofs.lemmas.Bool.{cases_Bool, eqb-true}
use Rattle.hep_arena.specs.Gaps.{frame_among}
use Rattle.hep_layout.proofs.Addresses.{address-alike}
use Rattle.hep_layout.proofs.Memory.{activation-kept, address-same, same-activation}
use Rattle.hep_layout.proofs.References.{references-held}
use Rattle.hep_layout.proofs.Runs.{runs-entered, owned-further}
use Rattle.hep_image.specs.BoundActivations.{AreKept}

-- ---- stacks that leave

-- each level of a stack is one of another stack, at another statement
abbrev pub IsOf : Level → Level → Type 0
IsOf x y = (y.activation ≡ x.activation) × (y.loops ≡ x.loops)

abbrev pub AreOf : Process → Process → Type 0
AreOf q before = (x : Level) → IsAmong x q → (y : Level) × IsAmong y before × IsOf x y

-- a process that has ended
pub none-of : (before : Process) → AreOf [] before
none-of before x h = absurd h

-- an activation that is the only one of a process
pub alone-of : (program : Units) (s : State) (level : Level) (levels : Process) → AreOf (level_after_statement (unit_at program (unit_of s level.activation)) level ∷ []) (level ∷ levels)
alone-of program s level levels x (inl same) =
    let keeps = after_statement_keeps (unit_addressed program (unit_of s level.activation)) level in
    (level, inl refl, (sym keeps.1 ∙ ap (λ (z : Level). z.activation) same, sym keeps.0 ∙ ap (λ (z : Level). z.loops) same))
alone-of program s level levels x (inr more) = absurd more

-- the caller of an activation that has ended
pub caller-of : (program : Units) (s : State) (level : Level) (levels : Process) → AreOf (stack_after_return program s levels) (level ∷ levels)
caller-of program s level [] x h = absurd h
caller-of program s level (l ∷ ls) x (inl same) =
    let addressed = unit_addressed program (unit_of s l.activation) in
    let keeps = after_statement_keeps addressed l in
    (l, inr (inl refl), (sym keeps.1 ∙ ap (λ (z : Level). z.activation) same, sym keeps.0 ∙ ap (λ (z : Level). z.loops) same))
caller-of program s level (l ∷ ls) x (inr more) = (x, inr (inr more), (refl, refl))

-- the one below an activation of a function that has ended
pub answered-of : (program : Units) (s : State) (v : Value) (level : Level) (levels : Process) → AreOf (stack_after_value program s v levels) (level ∷ levels)
answered-of program s v level [] x h = absurd h
answered-of program s v level (l ∷ ls) x (inl same) = (l, inr (inl refl), (ap (λ (z : Level). z.activation) same, ap (λ (z : Level). z.loops) same))
answered-of program s v level (l ∷ ls) x (inr more) = (x, inr (inr more), (refl, refl))

levels-append : (xs ys : List Process) → all_levels (xs ++ ys) ≡ all_levels xs ++ all_levels ys
levels-append [] ys = refl
levels-append (x ∷ xs) ys = ap (λ ls. x ++ ls) (levels-append xs ys) ∙ sym (append_assoc x (all_levels xs) (all_levels ys))

no-iteration : (part : FramePart) (d i j : ℕ) → (part ≡ iteration d → ⊥) → ◌≡◌ {A = FramePart × ℕ} (part, i) (iteration d, j) → ⊥
no-iteration part d i j other e = other (ap (λ (c : FramePart × ℕ). c.0) e)

-- no more is wanted of the cells of frames, where each level was there, with the same DOs
module _ (program : Units) (s t : State) (layout : Layout) (same : t.activations ≡ s.activations) (before : (a : ℕ) (x : Level) → level_of t a ≡ Some x → (y : Level) × (level_of s a ≡ Some y) × (y.loops ≡ x.loops)) where
  pub no-more-of : (a : ℕ) (c : FramePart × ℕ) (v : Slot) → descriptor_slots program t layout a c ≡ Some v → descriptor_slots program s layout a c ≡ Some v
  no-more-of a (header, i) v w = absurd (none-some v w)
  no-more-of a (variable x, i) v w = absurd (none-some v w)
  no-more-of a (argument x, i) v w = sym (wanted-same program s t layout a (argument x, i) same (λ d j e. absurd (no-iteration (argument x) d i j (λ same. cc) e))) ∙ w
  no-more-of a (bounds x, i) v w = sym (wanted-same program s t layout a (bounds x, i) same (λ d j e. absurd (no-iteration (bounds x) d i j (λ same. cc) e))) ∙ w
  no-more-of a (iteration d, i) v w = by_level (level_of t a) refl w where
    by_level : (o : Option Level) → level_of t a ≡ o → slot_on_level o d i ≡ Some v → slot_on_level (level_of s a) d i ≡ Some v
    by_level None e w = absurd (none-some v w)
    by_level (Some x) e w =
        let was = before a x e in
        ap (λ o. slot_on_level o d i) was.1 ∙ (ap (λ ls. slot_of_loop (loop_among d ls) i) was.2 ∙ w)

-- where a process has another stack, of these levels, and there is a process more, whose level is one of them too
module _ (program : Units) (choices : List ℕ) (t : State) (layout : Layout) (p : ℕ) (before q : Process) (there : numbered (run program choices).processes p ≡ Some before) (same : t.activations ≡ (run program choices).activations) (of : AreOf q before) where
  abbrev s : State
  s = run program choices

  -- that of another stack was one of its own
  own-before : (a : ℕ) (x : Level) → (x.activation ≡ a) → (was : (y : Level) × IsAmong y before × IsOf x y) → (y : Level) × (level_of s a ≡ Some y) × (y.loops ≡ x.loops)
  own-before a x e was =
      let few : times a (activations_on (all_levels s.processes)) ≤ 1 = omega (arith, times-all a s.processes, (once program choices a).0) in
      (was.0, found a (all_levels s.processes) was.0 few (among-numbered was.0 s.processes p before there was.1) (was.2.0 ∙ e), was.2.1)

  set-before : (a : ℕ) (x : Level) → (x.activation ≡ a) → IsAmong x (all_levels (with_numbered s.processes p q)) → (y : Level) × (level_of s a ≡ Some y) × (y.loops ≡ x.loops)
  set-before a x e among =
      let few : times a (activations_on (all_levels s.processes)) ≤ 1 = omega (arith, times-all a s.processes, (once program choices a).0) in
      elim (among-set x s.processes (p - 1) q among) [
        | inl own ↦ own-before a x e (of x own)
        | inr other ↦ (x, found a (all_levels s.processes) x few other e, refl)
      ]

  pub no-more : t.processes ≡ with_numbered (run program choices).processes p q → (a : ℕ) (c : FramePart × ℕ) (v : Slot) → descriptor_slots program t layout a c ≡ Some v → descriptor_slots program s layout a c ≡ Some v
  no-more set = no-more-of program s t layout same (λ a x e.
      let new = find-among a (all_levels t.processes) x e in
      set-before a x new.1 (subst (λ qs. IsAmong x (all_levels qs)) set new.0))

  pub no-more-parted : (r : Process) → AreOf r before → t.processes ≡ with_numbered (run program choices).processes p q ++ r ∷ [] → (a : ℕ) (c : FramePart × ℕ) (v : Slot) → descriptor_slots program t layout a c ≡ Some v → descriptor_slots program s layout a c ≡ Some v
  no-more-parted r alone set = no-more-of program s t layout same (λ a x e.
      let new = find-among a (all_levels t.processes) x e in
      elim (among-parts x (all_levels (with_numbered s.processes p q)) (all_levels (r ∷ [])) (subst (λ ls. IsAmong x ls) (levels-append (with_numbered s.processes p q) (r ∷ [])) (subst (λ qs. IsAmong x (all_levels qs)) set new.0))) [
        | inl there ↦ set-before a x new.1 there
        | inr last ↦ own-before a x new.1 (alone x (subst (λ ls. IsAmong x ls) (append-nil r) last))
      ])

-- ---- activations that leave one after the other

pub all_but-is : (ends : List ℕ) (test : ℕ → Bool) (a : ℕ) → all_but ends test a ≡ (if is_number_among a ends then false else test a)
all_but-is [] test a = refl
all_but-is (b ∷ bs) test a = all_but-is bs (but b test) a ∙ by_tests (nat_eq a b) (is_number_among a bs) where
  by_tests : (c d : Bool) → (if d then false else (if c then false else test a)) ≡ (if c || d then false else test a)
  by_tests true true = refl
  by_tests true false = refl
  by_tests false true = refl
  by_tests false false = refl

-- ---- what is of fewer activations

else-true : (c d : Bool) → (if c then false else d) ≡ true → d ≡ true
else-true true d e = absurd cc
else-true false d e = e

pub but-fewer : (b a : ℕ) (test : ℕ → Bool) → but b test a ≡ true → test a ≡ true
but-fewer b a test = else-true (nat_eq a b) (test a)

pub all-fewer : (ends : List ℕ) (a : ℕ) (test : ℕ → Bool) → all_but ends test a ≡ true → test a ≡ true
all-fewer ends a test on = else-true (is_number_among a ends) (test a) (sym (all_but-is ends test a) ∙ on)

-- ---- none

module _ (program : Units) (s : State) (layout : Layout) (a : ℕ) where
  -- each of these dummy arguments is kept
  abbrev AreKeptBy : List Dummy → Type 0
  AreKeptBy dummies = (k : ℕ) → is_owned a (dummy_at dummies k).start ≡ false → (base : ℕ) × RunsFrom program s layout (dummy_at dummies k).start (dummy_at dummies k).rest base

  pub none-kept : (activation_of s a).dummies ≡ [] → AreKept program s layout a
  none-kept none = subst AreKeptBy (sym none) (λ k other. (0, λ i less. absurd (omega (arith, less))))

-- ---- frames that stay

frame-left : (still : ℕ → Bool) (a : ℕ) (fs : Layout) → still a ≡ true → frame_among a (frames_of still fs) ≡ frame_among a fs
frame-left still a [] on = refl
frame-left still a (g ∷ gs) on =
    elim (cases_Bool (nat_eq g.activation a)) [
      | inl own ↦ let stays : still g.activation ≡ true = ap still (eqb-true g.activation a own) ∙ on in rw (stays, own)
      | inr other ↦ elim (cases_Bool (still g.activation)) [ inl stays ↦ rw (stays, other) (frame-left still a gs on) | inr left ↦ rw (left, other) (frame-left still a gs on) ]
    ]

module _ (program : Units) (s t : State) (layout : Layout) (same : t.activations ≡ s.activations) where
  -- where the frames are the same
  pub kept-same : (a : ℕ) → AreKept program s layout a → AreKept program t layout a
  kept-same a kept =
      subst (λ (z : Activation). AreKeptBy program t layout a z.dummies) (sym (same-activation s t a same)) (λ k other.
      let runs = kept k other in (runs.0, λ i less. address-same program s t layout (further (dummy_at (activation_of s a).dummies k).start i) same ∙ runs.1 i less))

  -- where some are left, and with each one those of what its dummy arguments stand for
  module _ (still : ℕ → Bool) (above : (a k o : ℕ) → still a ≡ true → is_owned o (dummy_at (activation_of t a).dummies k).start ≡ true → still o ≡ true) where
    pub kept-left : (a : ℕ) → still a ≡ true → AreKept program s layout a → AreKept program t (frames_of still layout) a
    kept-left a on kept =
        let one = same-activation s t a same in
        subst (λ (z : Activation). AreKeptBy program t (frames_of still layout) a z.dummies) (sym one) (λ k other.
        let runs = kept k other in
        let start = (dummy_at (activation_of s a).dummies k).start in (
          runs.0,
          λ i less.
              address-alike program s t layout (frames_of still layout) (further start i) (λ o owned.
              let owner = ap (λ (z : Activation). is_owned o (dummy_at z.dummies k).start) one ∙ (sym (owned-further o start i) ∙ owned) in
              (same-activation s t o same, frame-left still o layout (above a k o on owner)))
              ∙ runs.1 i less,
        ))

-- where one is new
pub kept-entered : (program : Units) (s t : State) (x : Activation) (layout : Layout) (cells first a : ℕ) → IsLaid program s cells layout → t.activations ≡ s.activations ++ x ∷ [] → a ≤ length s.activations
    → AreKept program s layout a → AreKept program t (with_frame layout (frame_from program t (length t.activations) first)) a
kept-entered program s t x layout cells first a laid more le kept =
    subst (λ (z : Activation). AreKeptBy program t (with_frame layout (frame_from program t (length t.activations) first)) a z.dummies) (sym (activation-kept s t x a more le)) (λ k other.
    let runs = kept k other in
    let d = dummy_at (activation_of s a).dummies k in (runs.0, runs-entered program s t x layout first cells d.start d.rest runs.0 laid more runs.1))

-- what those of a run stand for is held where they are
held-above : (program : Units) (choices : List ℕ) (a k o : ℕ) → is_held (run program choices) a ≡ true → is_owned o (dummy_at (activation_of (run program choices) a).dummies k).start ≡ true → is_held (run program choices) o ≡ true
held-above program choices a k o on owned = by_start (dummy_at (activation_of (run program choices) a).dummies k).start refl owned where
  by_start : (at : Location) → (dummy_at (activation_of (run program choices) a).dummies k).start ≡ at → is_owned o at ≡ true → is_held (run program choices) o ≡ true
  by_start (common b i) e h = absurd cc
  by_start (local b x i) e h = ap (is_held (run program choices)) (eqb-true o b h) ∙ references-held program choices a k b x i on e

pub still-above : (program : Units) (choices : List ℕ) (t : State) (still : ℕ → Bool) → run program choices ≡ t → ((a : ℕ) → still a ≡ is_held t a)
    → (a k o : ℕ) → still a ≡ true → is_owned o (dummy_at (activation_of t a).dummies k).start ≡ true → still o ≡ true
still-above program choices t still is held a k o on owned =
    held o ∙ subst (λ (z : State). is_held z a ≡ true → is_owned o (dummy_at (activation_of z a).dummies k).start ≡ true → is_held z o ≡ true) is (held-above program choices a k o) (sym (held a) ∙ on) owned
