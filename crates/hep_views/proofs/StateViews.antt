-- What is seen of a machine is what is seen of the state that it keeps, also what its processes wait for.
use Rattle.std.proofs.Common.{◌≡◌, inl, inr, ℕ, zero, suc, ◌≤◌, true, List, [], ◌∷◌, ◌++◌, length, Some, Result, Ok, Err, refl, sym, ap, ◌∙◌, subst, arith, ◌+◌, map, drop, Option, None, append_assoc, get_or, if◌then◌else◌, slice_get}
use Rattle.std.specs.Option.{option_map, unwrap_or}
use Rattle.std.proofs.lemmas.Bool.{cases_Bool}
use Rattle.std.proofs.lemmas.Option.{none-some, same_Some, slice_get-get_or}
use Rattle.std.specs.List.{flat_map}
use Rattle.hep_machine.specs.Words.{Name, Statement, index_among, same_name, Units, dummies_of, main_unit, unit_at, line_at, Binding, binding_for, binding_with_shapes, dummies_for, dummy_before, dummy_for, with_actuals, with_shape, with_shapes, with_store, no_activation, Actual, Next, evaluating, referring, wants, does, next_of, Scope}
use Rattle.hep_machine.specs.Words.{opening, activation_of, unit_of, run, run_from, Activation, Dummy, State, Store, Process, Work, binding_of, next_activation, result_after_next, scope_of, step, Top, wanted_by, Value, Layout, is_held, process_view_of, process_views_from, view_of}
use Rattle.hep_source.proofs.NameTests.{equal_names, same_name-self}
use Rattle.hep_machine.specs.declared.event.Kind.{Kind}
use Rattle.hep_machine.proofs.Changes.{Makes, by_step, next_on, top_in}
use Rattle.hep_conditions.specs.Words.{IsAccepted}
use Rattle.hep_accepted_laws.proofs.NameMeanings.{dummies_once}
use Rattle.hep_layout.proofs.References.{each-state}
use Rattle.hep_image.proofs.AddedNames.{Adds, Binds, added-next}
use Rattle.hep_image.specs.BoundActivations.{CallsAgree, IsBound, NextAgrees}
use Rattle.hep_views.specs.StoredContents.{HasDummies, frame_read, frame_read_in, frames_read}
use Rattle.hep_arena.specs.Gaps.{frame_among}
use Rattle.hep_code.specs.declared.instruction.Instruction.{Instruction}
use Rattle.hep_code.specs.declared.instruction.Instruction.TheVariants.{Push}
use Rattle.hep_code.specs.Words.{operands_of_action, operands_of_actual, operands_of_redex, line_ahead, Stands, work_code, AddressedUnit, code_of}
use Rattle.hep_code.proofs.ControlFlow.{NextIs, work_is}
use Rattle.hep_layout.specs.Words.{FrameNode}
use Rattle.hep_views.proofs.ReadContents.{common-is-read, frames-are-read}
use Rattle.hep_proc.specs.declared.process.Local.{Local}
use Rattle.hep_proc.specs.Stacks.{Stack}
use Rattle.hep_state.specs.Words.{Snapshot, IsAfter}
use Rattle.hep_state.proofs.SettledPositions.{AreStanding, stack-standing}
use Rattle.hep_step.specs.Simulation.{unit_addressed, unit_code}
use Rattle.hep_views.specs.Nodes.{node_of}
use Rattle.hep_views.specs.MachineViews.{frame_seen, frames_seen, machine_view, process_seen, processes_seen}
use Rattle.hep_views.specs.SeenWaits.{wanted_by_levels, wanted_by_stack, wanted_seen}
use Rattle.hep_views.proofs.Nodes.{framed-at, unheld, unit-at}
use Rattle.hep_source.proofs.Tests.{none-from-not}

-- ---- how many are bound

abbrev HasCount : ℕ → Result (List Dummy) Kind → Type 0
HasCount n (Err k) = Unit {0}
HasCount n (Ok ds) = length ds ≡ n

count-before : (n : ℕ) (d : Result Dummy Kind) (ds : Result (List Dummy) Kind) → HasCount n ds → HasCount (suc n) (dummy_before d ds)
count-before n (Err k) ds h = tt
count-before n (Ok d) (Err k) h = tt
count-before n (Ok d) (Ok ds) h = ap suc h

count-passed : (scope : Scope) (a : ℕ) (xs : List Name) (ys : List Actual) → length ys ≡ length xs → HasCount (length xs) (dummies_for scope a xs ys)
count-passed scope a [] ys e = refl
count-passed scope a (x ∷ xs) [] e = absurd (omega (arith, e))
count-passed scope a (x ∷ xs) (y ∷ ys) e = count-before (length xs) (dummy_for scope a x y) (dummies_for scope a xs ys) (count-passed scope a xs ys (omega (arith, e)))

count-shaped : (new : Scope) (store : Store) (xs : List Name) (ds : List Dummy) → length ds ≡ length xs → HasCount (length xs) (with_shapes new store xs ds)
count-shaped new store [] ds e = refl
count-shaped new store (x ∷ xs) [] e = absurd (omega (arith, e))
count-shaped new store (x ∷ xs) (d ∷ ds) e = count-before (length xs) (with_shape new store x d) (with_shapes new store xs ds) (count-shaped new store xs ds (omega (arith, e)))

abbrev BindsCount : List Statement → Result Binding Kind → Type 0
BindsCount unit (Err k) = Unit {0}
BindsCount unit (Ok b) = length b.dummies ≡ length (dummies_of unit)

count-bound : (scope : Scope) (store : Store) (unit : List Statement) (a : ℕ) (ys : List Actual) → length ys ≡ length (dummies_of unit) → BindsCount unit (binding_for scope store unit a ys)
count-bound scope store unit a ys e =
    by_dummies (with_actuals store a (dummies_of unit) ys) (dummies_for scope a (dummies_of unit) ys) (count-passed scope a (dummies_of unit) ys e)
  where
    by_shapes : (new : Store) (ds : Result (List Dummy) Kind) → HasCount (length (dummies_of unit)) ds → BindsCount unit (with_store new ds)
    by_shapes new (Err k) h = tt
    by_shapes new (Ok ds) h = h

    by_dummies : (new : Store) (ds : Result (List Dummy) Kind) → HasCount (length (dummies_of unit)) ds → BindsCount unit (binding_with_shapes unit a new ds)
    by_dummies new (Err k) h = tt
    by_dummies new (Ok ds) h =
        let inner : Scope = record { unit = unit; number = a; dummies = ds } in
        by_shapes new (with_shapes inner new (dummies_of unit) ds) (count-shaped inner new (dummies_of unit) ds h)

-- ---- a step

abbrev IsCounted : Units → Activation → Type 0
IsCounted program x = length x.dummies ≡ length (dummies_of (unit_at program x.unit))

counted-next : (program : Units) (t : Top) → (m : Next) → NextAgrees program m → Makes (Adds program t (IsCounted program)) (result_after_next program t m)
counted-next program t = added-next program t (IsCounted program) binds where
  as-counted : (u : ℕ) (b : Result Binding Kind) → BindsCount (unit_at program u) b → Binds program t (IsCounted program) u b
  as-counted u (Err k) h = tt
  as-counted u (Ok b) h = h

  binds : (u : ℕ) (ys : List Actual) → length ys ≡ length (dummies_of (unit_at program u)) → Binds program t (IsCounted program) u (binding_of program t u ys)
  binds u ys e =
      as-counted u (binding_of program t u ys) (
      count-bound (scope_of program t.state t.level.activation) t.state.store (unit_at program u) (next_activation t.state) ys e)

-- ---- runs

abbrev AreCounted : Units → List Activation → Type 0
AreCounted program xs = (i : ℕ) (x : Activation) → slice_get xs i ≡ Some x → IsCounted program x

counted-more : (program : Units) (xs : List Activation) (x : Activation) → AreCounted program xs → IsCounted program x → AreCounted program (xs ++ x ∷ [])
counted-more program [] x h k zero y e = subst (IsCounted program) (same_Some x y e) k
counted-more program [] x h k (suc i) y e = absurd (none-some y e)
counted-more program (z ∷ xs) x h k zero y e = h 0 y e
counted-more program (z ∷ xs) x h k (suc i) y e = counted-more program xs x (λ j w f. h (suc j) w f) k i y e

counted-turn : (program : Units) → CallsAgree program → (ps : List ℕ) (p : ℕ) (t : State) → step program p (run program ps) ≡ Some t → AreCounted program (run program ps).activations → AreCounted program t.activations
counted-turn program agree ps p t e h =
    let found = by_step (λ top. Adds program top (IsCounted program)) program p (run program ps) t (λ top lives. counted-next program (top_in (run program ps) p top) (next_on program (run program ps) top) (agree ps p top lives)) e in
    elim found.2 [
      | inl same ↦ subst (AreCounted program) (sym same) h
      | inr new ↦ subst (AreCounted program) (sym new.1) (counted-more program (run program ps).activations new.0 h new.2)
    ]

counted-opening : (program : Units) → dummies_of (unit_at program (main_unit program)) ≡ [] → AreCounted program (run program []).activations
unfolding run run_from opening
counted-opening program none zero x e = subst (IsCounted program) (same_Some _ x e) (sym (ap length none))
counted-opening program none (suc i) x e = absurd (none-some x e)

counted : (program : Units) → dummies_of (unit_at program (main_unit program)) ≡ [] → CallsAgree program → (ps : List ℕ) → AreCounted program (run program ps).activations
counted program none agree = each-state program (λ s. AreCounted program s.activations) (λ qs p t e last h. counted-turn program agree qs p t e h) (counted-opening program none)

-- ---- names that are given once

index-once : (xs : List Name) (x : Name) (k : ℕ) → ((i j : ℕ) (y : Name) → slice_get xs i ≡ Some y → slice_get xs j ≡ Some y → i ≡ j) → slice_get xs k ≡ Some x → index_among x xs ≡ Some k
index-once [] x k once e = absurd (none-some x e)
index-once (y ∷ ys) x zero once e = ap (λ b. if b then Some 0 else option_map suc (index_among x ys)) (ap (same_name x) (same_Some y x e) ∙ same_name-self x)
index-once (y ∷ ys) x (suc k) once e = elim (cases_Bool (same_name x y)) [
  | inl t ↦
      let both : 0 ≡ suc k = once 0 (suc k) x (ap (λ z. Some z) (sym (equal_names x y t))) e in
      absurd (omega (arith, both))
  | inr t ↦ rw t (ap (option_map suc) (index-once ys x k (λ i j z f g. omega (arith, once (suc i) (suc j) z f g)) e))
]

-- ---- all that is known of them

pub has-dummies : (program : Units) (choices : List ℕ) (a : ℕ) → IsAccepted program → dummies_of (unit_at program (main_unit program)) ≡ [] → CallsAgree program
    → slice_get program (unit_of (run program choices) a) ≡ Some (unit_at program (unit_of (run program choices) a)) → IsBound program (run program choices) a → (1 ≤ a) × (a ≤ length (run program choices).activations) → HasDummies program (run program choices) a
has-dummies program choices zero accepted none agree there bound made = absurd (omega (arith, made.0))
has-dummies program choices (suc i) accepted none agree there bound made =
    let s = run program choices in
    let is : slice_get s.activations i ≡ Some (get_or s.activations i no_activation) = slice_get-get_or s.activations i no_activation (omega (arith, made.1)) in
    record {
      count = counted program none agree choices i (activation_of s (suc i)) (is ∙ ap (λ x. Some x) (sym (ap (λ o. unwrap_or o no_activation) is)));
      once = λ k x e. index-once (dummies_of (unit_at program (unit_of s (suc i)))) x k (λ m n y f g. dummies_once program (unit_of s (suc i)) m n (unit_at program (unit_of s (suc i))) y accepted there f g) e;
      bound = bound;
    }

-- ---- the line of the operation ahead

pub line-after : (vs : List Value) (is : List Instruction) → line_ahead (map Push vs ++ is) ≡ line_ahead is
line-after [] is = refl
line-after (v ∷ vs) is = line-after vs is

module _ (addressed : AddressedUnit) (k : ℕ) (work : Work) where
  line-of-next : (n : Next) (after : Value → List Instruction) (rest : List Instruction) → NextIs addressed (line_at addressed.unit k) k n (work_code addressed k work) after → line_ahead (work_code addressed k work ++ rest) ≡ line_at addressed.unit k
  line-of-next (wants (referring x actuals)) after rest h =
      ap (λ c. line_ahead (c ++ rest)) h.is ∙ ap line_ahead (append_assoc (map Push (h.before ++ flat_map operands_of_actual actuals)) _ rest) ∙ line-after (h.before ++ flat_map operands_of_actual actuals) _
  line-of-next (wants (evaluating r)) after rest h = ap (λ c. line_ahead (c ++ rest)) h.is ∙ ap line_ahead (append_assoc (map Push (h.before ++ operands_of_redex r)) _ rest) ∙ line-after (h.before ++ operands_of_redex r) _
  line-of-next (does a) after rest h = ap (λ c. line_ahead (c ++ rest)) h.1 ∙ ap line_ahead (append_assoc (map Push (operands_of_action a)) _ rest) ∙ line-after (operands_of_action a) _

  pub line-is : (operands : List Value) (index : ℕ) → Stands addressed k work operands index → line_ahead (drop index (code_of addressed)) ≡ line_at addressed.unit k
  line-is operands index stands =
      sym (line-after operands (drop index (code_of addressed))) ∙ ap line_ahead (sym stands.same) ∙ line-of-next (next_of addressed.unit work) _ stands.rest (work_is addressed k work)

-- ---- what is seen

module _ (program : Units) (cells : ℕ) (choices : List ℕ) (m : Snapshot) (after : IsAfter program cells choices m) where
  abbrev s : State
  s = run program choices

  abbrev layout : Layout
  layout = after.layout

  -- ---- processes

  -- where it is seen to wait as the source machine's process does
  process-is : (p : ℕ) (ls : List Local) (q : Process) (operands pending : List Value) → wanted_by program p s ≡ wanted_by_levels program m ls operands → AreStanding program s m.nodes operands pending ls q → process_seen program m p ls operands ≡ process_view_of program s p q
  process-is p [] [] operands pending waits h = refl
  process-is p (l ∷ ls) (level ∷ levels) operands pending waits h =
      let unit = h.0.here.unit in
      let line : line_ahead (drop l.index (unit_code program l.unit)) ≡ line_at (unit_at program (unit_of s level.activation)) level.statement =
      line-is (unit_addressed program l.unit) level.statement level.work operands l.index h.0.stands ∙ ap (λ u. line_at (unit_at program u) level.statement) (sym unit) in
      λ i. record { process = p; unit = sym unit i; line = line i; wanted = sym waits i } ∷ []
  process-is p [] (level ∷ levels) operands pending waits h = absurd h
  process-is p (l ∷ ls) [] operands pending waits h = absurd h

  processes-from : (p : ℕ) (ks : List Stack) (qs : List Process) → length ks ≡ length qs → ((i : ℕ) (k : Stack) → slice_get ks i ≡ Some k → wanted_by program (p + i) s ≡ wanted_by_stack program m (Some k))
      → ((i : ℕ) (k : Stack) (q : Process) → slice_get ks i ≡ Some k → slice_get qs i ≡ Some q → AreStanding program s m.nodes k.operands k.pending k.levels q) → processes_seen program m p ks ≡ process_views_from program s p qs
  processes-from p [] [] long waits h = refl
  processes-from p (k ∷ ks) (q ∷ qs) long waits h =
      let first = process-is p k.levels q k.operands k.pending (ap (λ n. wanted_by program n s) (let none : p ≡ p + 0 = omega arith in none) ∙ waits 0 k refl) (h 0 k q refl refl) in
      let rest = processes-from (suc p) ks qs (omega (arith, long)) (λ i j e. ap (λ n. wanted_by program n s) (let next : suc p + i ≡ p + suc i = omega arith in next) ∙ waits (suc i) j e) (λ i j r e f. h (suc i) j r e f) in
      λ i. first i ++ rest i
  processes-from p [] (q ∷ qs) long waits h = absurd (omega (arith, long))
  processes-from p (k ∷ ks) [] long waits h = absurd (omega (arith, long))

  processes-are : ((p : ℕ) → wanted_by program p s ≡ wanted_seen program m p) → processes_seen program m 1 m.processes ≡ process_views_from program s 1 s.processes
  processes-are waits =
      processes-from 1 m.processes s.processes after.shows.processes
      (λ i k e. ap (λ n. wanted_by program n s) (let next : 1 + i ≡ suc i = omega arith in next) ∙ waits (suc i) ∙ ap (wanted_by_stack program m) e)
      (λ i k q e f. stack-standing program s m.nodes m.arena.contents k q (after.shows.stacks (suc i) k q e f))

  -- ---- frames

  frame-is : (a : ℕ) (x : Activation) → activation_of s a ≡ x → frame_seen program m.arena.contents a (node_of m a) ≡ frame_read_in program m.arena.contents a x (frame_among a layout)
  frame-is a x is = by_node (node_of m a) refl where
    by_node : (o : Option FrameNode) → node_of m a ≡ o → frame_seen program m.arena.contents a o ≡ frame_read_in program m.arena.contents a x (frame_among a layout)
    by_node None e = sym (ap (frame_read_in program m.arena.contents a x) (none-from-not (frame_among a layout) (after.shows.keeps.frames_are a ∙ unheld program cells choices m after a e)))
    by_node (Some n) e =
        let unit : n.unit ≡ x.unit = unit-at program cells choices m after a n e ∙ ap (λ (y : Activation). y.unit) is in
        ap (λ u. frame_read m.arena.contents a (unit_at program u) n.first) unit ∙ sym (ap (frame_read_in program m.arena.contents a x) (framed-at program cells choices m after a n e))

  frames-from : (a : ℕ) (xs : List Activation) → ((i : ℕ) (x : Activation) → slice_get xs i ≡ Some x → activation_of s (a + i) ≡ x) → frames_seen program m a (length xs) ≡ frames_read program m.arena.contents layout a xs
  frames-from a [] h = refl
  frames-from a (x ∷ xs) h =
      let first = frame-is a x (ap (activation_of s) (let none : a ≡ a + 0 = omega arith in none) ∙ h 0 x refl) in
      let rest = frames-from (suc a) xs (λ i y e. ap (activation_of s) (let next : suc a + i ≡ a + suc i = omega arith in next) ∙ h (suc i) y e) in
      λ i. first i ++ rest i

  module _ (dummies : (a : ℕ) → is_held s a ≡ true → HasDummies program s a) (waits : (p : ℕ) → wanted_by program p s ≡ wanted_seen program m p) where
    frames-are : frames_seen program m 1 m.activations ≡ (view_of program is_held s).cells
    frames-are =
        ap (frames_seen program m 1) after.shows.activations
        ∙ frames-from 1 s.activations (λ i x e. ap (activation_of s) (let next : 1 + i ≡ suc i = omega arith in next) ∙ ap (λ o. unwrap_or o no_activation) e)
        ∙ frames-are-read program s layout m.arena.contents after.shows.keeps.memory.holds after.shows.keeps.described (is_held s) after.shows.keeps.frames_are is_held (λ a. refl) dummies

    pub view-of-many : machine_view program m ≡ view_of program is_held s
    view-of-many =
        let shows = after.shows in
        λ i. record {
          records = shows.records i;
          faults = shows.faults i;
          halted = shows.halted i;
          processes = processes-are waits i;
          common_contents = common-is-read program s layout m.arena.contents shows.keeps.memory.holds i;
          cells = frames-are i;
        }
