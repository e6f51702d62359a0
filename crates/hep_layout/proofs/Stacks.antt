-- No activation is twice on stacks, and so its level is found.
use Rattle.std.proofs.lemmas.Bool.Decides.{nat_tests}
use Rattle.std.proofs.Common.{◌≡◌, ℕ, zero, suc, ◌+◌, ◌-◌, ◌<◌, ◌≤◌, Bool, false, List, [], ◌∷◌, ◌++◌, length, Option, Some, None, refl, sym, ap, ◌∙◌, arith, inl, inr, ◌⊎◌, if◌then◌else◌, nat_eq, slice_get, slice_set, length-append}
use Rattle.std.specs.List.{find, flat_map}
use Rattle.std.specs.Option.{option_or}
use Rattle.std.proofs.lemmas.Bool.{eqb-true, eq-eqb, cases_Bool}
use Rattle.std.proofs.lemmas.Option.{same_Some, none-some}
use Rattle.hep_machine.specs.Words.{Units, activations_on, opening, living, numbered, top_of, with_numbered, state_after_turn, run_from, run, Level, Process, State, Activation, Top, next_activation}
use Rattle.hep_machine.proofs.Changes.{Change, moves, leaves, faults, calls, creates, resumes, stops, HasSame, HasStack, stack, step_changes, top_in, HasOneMore}
use Rattle.hep_machine.proofs.Others.{each_turn}
use Rattle.hep_layout.specs.Words.{level_of, times, times_on}

-- ---- a process with its top

pub top-numbered : (s : State) (p : ℕ) (top : Level × Process) → living s p ≡ Some top → numbered s.processes p ≡ Some (top.0 ∷ top.1)
top-numbered s p top e = by_process (numbered s.processes p) e where
  by_process : (o : Option Process) → top_of o ≡ Some top → o ≡ Some (top.0 ∷ top.1)
  by_process None e = absurd (none-some top e)
  by_process (Some []) e = absurd (none-some top e)
  by_process (Some (level ∷ levels)) e = ap (λ (t : Level × Process). Some (t.0 ∷ t.1)) (same_Some (level, levels) top e)

numbered-get : {A : Type 0} (xs : List A) (p : ℕ) (x : A) → numbered xs p ≡ Some x → slice_get xs (p - 1) ≡ Some x
numbered-get xs zero x e = absurd (none-some x e)
numbered-get xs (suc i) x e = let same : suc i - 1 ≡ i = omega arith in rw same e

-- ---- how often

pub times-append : (a : ℕ) (xs ys : List ℕ) → times a (xs ++ ys) ≡ times a xs + times a ys
times-append a [] ys = omega arith
times-append a (x ∷ xs) ys = omega (arith, times-append a xs ys)

times_on-cons : (a : ℕ) (q : Process) (qs : List Process) → times_on a (q ∷ qs) ≡ times a (activations_on q) + times_on a qs
times_on-cons a q qs = times-append a (activations_on q) (flat_map activations_on qs)

pub times_on-last : (a : ℕ) (qs : List Process) (q : Process) → times_on a (qs ++ q ∷ []) ≡ times_on a qs + times a (activations_on q)
times_on-last a [] q = times_on-cons a q [] ∙ omega arith
times_on-last a (r ∷ rs) q = omega (arith, times_on-cons a r (rs ++ q ∷ []), times_on-cons a r rs, times_on-last a rs q)

-- another stack in the place of one
times_on-set : (a : ℕ) (qs : List Process) (i : ℕ) (old q : Process) → slice_get qs i ≡ Some old → times_on a (slice_set qs i q) + times a (activations_on old) ≡ times_on a qs + times a (activations_on q)
times_on-set a [] i old q e = absurd (none-some old e)
times_on-set a (r ∷ rs) zero old q e = rw (sym (same_Some r old e)) (omega (arith, times_on-cons a q rs, times_on-cons a r rs))
times_on-set a (r ∷ rs) (suc i) old q e = omega (arith, times_on-cons a r (slice_set rs i q), times_on-cons a r rs, times_on-set a rs i old q e)

pub times_on-numbered : (a : ℕ) (qs : List Process) (p : ℕ) (old q : Process) → numbered qs p ≡ Some old → times_on a (with_numbered qs p q) + times a (activations_on old) ≡ times_on a qs + times a (activations_on q)
times_on-numbered a qs p old q e = times_on-set a qs (p - 1) old q (numbered-get qs p old e)

-- ---- a step

-- each activation is on stacks once at most, and one that wasn't made is on none
abbrev pub IsOnceAtMost : State → ℕ → Type 0
IsOnceAtMost s a = (times_on a s.processes ≤ 1) × (length s.activations < a → times_on a s.processes ≡ 0)

-- no activation is on stacks more often than before, but for one that the step makes
pub times-change : (t : Top) (s : State) (a : ℕ) → numbered t.state.processes t.process ≡ Some (stack t) → Change t s
    → (times_on a s.processes ≤ times_on a t.state.processes) ⊎ ((a ≡ next_activation t.state) × (times_on a s.processes ≤ suc (times_on a t.state.processes)) × (a ≤ length s.activations))
times-change t s a there c = by_change c where
  set : (q : Process) → HasStack t s q → times_on a s.processes + times a (activations_on (stack t)) ≡ times_on a t.state.processes + times a (activations_on q)
  set q k = rw k (times_on-numbered a t.state.processes t.process (stack t) q there)

  more : (x : Activation) → HasOneMore t s x → times_on a s.processes ≡ times_on a t.state.processes + times a (next_activation t.state ∷ [])
      → (times_on a s.processes ≤ times_on a t.state.processes) ⊎ ((a ≡ next_activation t.state) × (times_on a s.processes ≤ suc (times_on a t.state.processes)) × (a ≤ length s.activations))
  more x l e = elim (cases_Bool (nat_eq a (next_activation t.state))) [
    | inl n ↦ let same = eqb-true a (next_activation t.state) n in inr (same, omega (arith, rw n at e), omega (arith, same, simp length-append at (ap length l.0)))
    | inr n ↦ inl (omega (arith, rw n at e))
  ]

  by_change : Change t s → (times_on a s.processes ≤ times_on a t.state.processes) ⊎ ((a ≡ next_activation t.state) × (times_on a s.processes ≤ suc (times_on a t.state.processes)) × (a ≤ length s.activations))
  by_change (moves q e k l) = inl (omega (arith, set q k, ap (times a) e))
  by_change (leaves q e k l) = inl (omega (arith, set q k, ap (times a) e))
  by_change (faults k l) = inl (omega (arith, set [] k))
  by_change (calls q x e k l) = more x l (omega (arith, set q k, ap (times a) e))
  by_change (creates q r x e f k l) =
      let creator = times_on-numbered a t.state.processes t.process (stack t) q there in
      more x l (omega (arith, creator, ap (times a) e, ap (times a) f, ap (times_on a) k, times_on-last a (with_numbered t.state.processes t.process q) r))
  by_change (resumes q r e f k l) =
      let caller = times_on-numbered a t.state.processes t.process (stack t) q there in
      inl (omega (arith, caller, ap (times a) e, ap (times a) f, ap (times_on a) k, times_on-last a (with_numbered t.state.processes t.process q) r))
  by_change (stops k l) = inl (omega (arith, ap (times_on a) k))

-- the activations of a step are the same, or there is one more, a child of the one on top
pub news : (t : Top) (s : State) → Change t s → HasSame t s ⊎ ((x : Activation) × HasOneMore t s x)
news t s (moves q e k l) = inl l
news t s (leaves q e k l) = inl l
news t s (faults k l) = inl l
news t s (calls q x e k l) = inr (x, l)
news t s (creates q r x e f k l) = inr (x, l)
news t s (resumes q r e f k l) = inl l
news t s (stops k l) = inl l

pub no-fewer : (t : Top) (s : State) → Change t s → length t.state.activations ≤ length s.activations
no-fewer t s c = elim (news t s c) [
  | inl l ↦ omega (arith, ap length l)
  | inr more ↦ omega (arith, simp length-append at (ap length more.1.0))
]

once-change : (t : Top) (s : State) (a : ℕ) → numbered t.state.processes t.process ≡ Some (stack t) → IsOnceAtMost t.state a → Change t s → IsOnceAtMost s a
once-change t s a there h c =
    let risen = no-fewer t s c in
    elim (times-change t s a there c) [
      | inl few ↦ (omega (arith, h.0), λ less. omega (arith, h.1 (omega arith)))
      | inr new ↦ (omega (arith, h.1 (omega (arith, new.0))), λ less. absurd (omega (arith, new.2)))
    ]

once-turn : (program : Units) (p : ℕ) (s : State) (a : ℕ) → IsOnceAtMost s a → IsOnceAtMost (state_after_turn program p s) a
once-turn program p s a h = each_turn (λ t. IsOnceAtMost t a) program p s h (λ t e.
    let stepped = step_changes program p s t e in
    once-change (top_in s p stepped.top) t a (top-numbered s p stepped.top stepped.lives) h stepped.change)

once-run : (program : Units) (s : State) (a : ℕ) (ps : List ℕ) → IsOnceAtMost s a → IsOnceAtMost (run_from program s ps) a
unfolding run_from
once-run program s a [] h = h
once-run program s a (p ∷ ps) h = once-run program (state_after_turn program p s) a ps (once-turn program p s a h)

once-opening : (program : Units) (a : ℕ) → IsOnceAtMost (opening program) a
unfolding opening
once-opening program a = grind (arith, nat_tests)

pub once : (program : Units) (ps : List ℕ) (a : ℕ) → IsOnceAtMost (run program ps) a
unfolding run
once program ps a = once-run program (opening program) a ps (once-opening program a)

-- ---- levels

find-append : {A : Type 0} (test : A → Bool) (xs ys : List A) → find test (xs ++ ys) ≡ option_or (find test xs) (find test ys)
find-append test [] ys = refl
find-append test (x ∷ xs) ys = grind (arith, find-append test xs ys)

-- whether a level is of an activation
abbrev pub is_of : ℕ → Level → Bool
is_of a level = nat_eq level.activation a

-- the levels of all processes
abbrev pub all_levels : List Process → List Level
all_levels qs = flat_map (λ (q : Process). q) qs

-- an activation that isn't on a stack has no level there
none-found : (a : ℕ) (q : Process) → times a (activations_on q) ≡ 0 → find (is_of a) q ≡ None
none-found a [] h = refl
none-found a (level ∷ levels) h = grind (arith, nat_tests, none-found a levels)

top-counted : (a : ℕ) (qs : List Process) (i : ℕ) (level : Level) (below : Process) → slice_get qs i ≡ Some (level ∷ below) → level.activation ≡ a → 1 ≤ times_on a qs
top-counted a [] i level below e same = absurd (none-some (level ∷ below) e)
top-counted a (q ∷ qs) zero level below e same =
    let one : ◌≡◌ {A = ℕ} (if nat_eq a level.activation then 1 else 0) 1 = ap (λ z. if z then 1 else 0) (eq-eqb a level.activation (sym same)) in
    let first : times a (activations_on q) ≡ times a (activations_on (level ∷ below)) = ap (λ (z : Process). times a (activations_on z)) (same_Some q (level ∷ below) e) in
    omega (arith, times_on-cons a q qs, first, one)
top-counted a (q ∷ qs) (suc i) level below e same = omega (arith, times_on-cons a q qs, top-counted a qs i level below e same)

found-top : (a : ℕ) (qs : List Process) (i : ℕ) (level : Level) (below : Process) → times_on a qs ≤ 1 → slice_get qs i ≡ Some (level ∷ below) → level.activation ≡ a → find (is_of a) (all_levels qs) ≡ Some level
found-top a [] i level below few e same = absurd (none-some (level ∷ below) e)
found-top a (q ∷ qs) zero level below few e same =
    ap (λ (z : Process). find (is_of a) (z ++ all_levels qs)) (same_Some q (level ∷ below) e) ∙ ap (λ b. if b then Some level else find (is_of a) (below ++ all_levels qs)) (eq-eqb level.activation a same)
found-top a (q ∷ qs) (suc i) level below few e same =
    let here = top-counted a qs i level below e same in
    let none = none-found a q (omega (arith, few, times_on-cons a q qs, here)) in
    find-append (is_of a) q (all_levels qs) ∙ (ap (λ o. option_or o (find (is_of a) (all_levels qs))) none ∙ found-top a qs i level below (omega (arith, few, times_on-cons a q qs)) e same)

-- the level of the activation on top of a process is found by the activation
pub level-found : (program : Units) (ps : List ℕ) (p : ℕ) (top : Level × Process) → living (run program ps) p ≡ Some top → level_of (run program ps) top.0.activation ≡ Some top.0
level-found program ps p top e =
    found-top top.0.activation (run program ps).processes (p - 1) top.0 top.1 (once program ps top.0.activation).0 (numbered-get (run program ps).processes p (top.0 ∷ top.1) (top-numbered (run program ps) p top e)) refl

others-found : (b : ℕ) (qs : List Process) (i : ℕ) (level after : Level) (below : Process) → slice_get qs i ≡ Some (level ∷ below) → nat_eq level.activation b ≡ false → nat_eq after.activation b ≡ false → find (is_of b) (all_levels (slice_set qs i (after ∷ below))) ≡ find (is_of b) (all_levels qs)
others-found b [] i level after below e one two = refl
others-found b (q ∷ qs) zero level after below e one two =
    rw two (sym (ap (λ (z : Process). find (is_of b) (z ++ all_levels qs)) (same_Some q (level ∷ below) e) ∙ ap (λ c. if c then Some level else find (is_of b) (below ++ all_levels qs)) one))
others-found b (q ∷ qs) (suc i) level after below e one two =
    find-append (is_of b) q (all_levels (slice_set qs i (after ∷ below))) ∙ (ap (option_or (find (is_of b) q)) (others-found b qs i level after below e one two) ∙ sym (find-append (is_of b) q (all_levels qs)))

-- another level on top of a process leaves those of the other activations
pub levels-stay : (s t : State) (p : ℕ) (top : Level × Process) (after : Level) (b : ℕ) → living s p ≡ Some top → t.processes ≡ with_numbered s.processes p (after ∷ top.1) → after.activation ≡ top.0.activation → nat_eq top.0.activation b ≡ false → level_of t b ≡ level_of s b
levels-stay s t p top after b e k same other =
    ap (λ qs. find (is_of b) (all_levels qs)) k
    ∙ others-found b s.processes (p - 1) top.0 after top.1 (numbered-get s.processes p (top.0 ∷ top.1) (top-numbered s p top e)) other (ap (λ c. nat_eq c b) same ∙ other)
