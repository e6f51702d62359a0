-- The parent of an activation is older, and each activation on a stack was made.
use Rattle.std.proofs.Common.{◌≡◌, ℕ, zero, suc, ◌+◌, ◌-◌, ◌<◌, ◌≤◌, Bool, true, false, List, [], ◌∷◌, ◌++◌, length, Option, Some, None, refl, sym, ap, ◌∙◌, subst, arith, ◌||◌, slice_get, slice_set, nat_eq, eqb-true, length-append}
use Rattle.std.specs.Option.{unwrap_or}
use Rattle.std.proofs.lemmas.Option.{none-some, same_Some, slice_get_within}
use Rattle.hep_machine.specs.Words.{IsOnStack, activations_on, opening, state_after_turn, run_from, run, Activation, Level, Process, State, Top, next_activation, Units, top_of, numbered, with_numbered, parent_of, is_number_among, no_activation}
use Rattle.hep_machine.proofs.Changes.{stack, HasStack, HasSame, Change, moves, leaves, faults, calls, creates, resumes, stops, top_in, step_changes}
use Rattle.hep_machine.proofs.Others.{each_turn}

-- ---- what holds in each state of a run

-- numbers from 1 up to n
abbrev pub AreMade : ℕ → List ℕ → Type 0
AreMade n [] = Unit {0}
AreMade n (a ∷ ns) = (1 ≤ a) × (a ≤ n) × AreMade n ns

abbrev pub AreMadeOnAll : ℕ → List Process → Type 0
AreMadeOnAll n [] = Unit {0}
AreMadeOnAll n (q ∷ qs) = AreMade n (activations_on q) × AreMadeOnAll n qs

abbrev pub IsOlder : ℕ → Option ℕ → Type 0
IsOlder a None = Unit {0}
IsOlder a (Some b) = (1 ≤ b) × (b < a)

-- activations by number from a on, each after its parent
abbrev pub HaveOlder : ℕ → List Activation → Type 0
HaveOlder a [] = Unit {0}
HaveOlder a (x ∷ xs) = IsOlder a x.parent × HaveOlder (suc a) xs

pub record IsAged (s : State) : Type 0 where
  pub made : AreMadeOnAll (length s.activations) s.processes
  pub older : HaveOlder 1 s.activations

-- ---- lists

made_still : (m n : ℕ) (ns : List ℕ) → m ≤ n → AreMade m ns → AreMade n ns
made_still m n [] le h = tt
made_still m n (a ∷ ns) le h = (h.0, omega arith, made_still m n ns le h.2)

all_made_still : (m n : ℕ) (qs : List Process) → m ≤ n → AreMadeOnAll m qs → AreMadeOnAll n qs
all_made_still m n [] le h = tt
all_made_still m n (q ∷ qs) le h = (made_still m n (activations_on q) le h.0, all_made_still m n qs le h.1)

all_made-set : (n : ℕ) (qs : List Process) (i : ℕ) (q : Process) → AreMadeOnAll n qs → AreMade n (activations_on q) → AreMadeOnAll n (slice_set qs i q)
all_made-set n [] i q h k = tt
all_made-set n (r ∷ rs) zero q h k = (k, h.1)
all_made-set n (r ∷ rs) (suc i) q h k = (h.0, all_made-set n rs i q h.1 k)

all_made-last : (n : ℕ) (qs : List Process) (q : Process) → AreMadeOnAll n qs → AreMade n (activations_on q) → AreMadeOnAll n (qs ++ q ∷ [])
all_made-last n [] q h k = (k, tt)
all_made-last n (r ∷ rs) q h k = (h.0, all_made-last n rs q h.1 k)

made-slice_get : (n : ℕ) (qs : List Process) (i : ℕ) (q : Process) → AreMadeOnAll n qs → slice_get qs i ≡ Some q → AreMade n (activations_on q)
made-slice_get n [] i q h e = absurd (none-some q e)
made-slice_get n (r ∷ rs) zero q h e = subst (λ p. AreMade n (activations_on p)) (same_Some r q e) h.0
made-slice_get n (r ∷ rs) (suc i) q h e = made-slice_get n rs i q h.1 e

made-numbered : (n : ℕ) (qs : List Process) (p : ℕ) (q : Process) → AreMadeOnAll n qs → numbered qs p ≡ Some q → AreMade n (activations_on q)
made-numbered n qs zero q h e = absurd (none-some q e)
made-numbered n qs (suc i) q h e = made-slice_get n qs i q h e

made_among : (n a : ℕ) (ns : List ℕ) → AreMade n ns → is_number_among a ns ≡ true → (1 ≤ a) × (a ≤ n)
made_among n a [] h e = absurd cc
made_among n a (b ∷ ns) h e = by_test (made_among n a ns h.2) (nat_eq a b) refl e where
  by_test : (is_number_among a ns ≡ true → (1 ≤ a) × (a ≤ n)) → (same : Bool) → nat_eq a b ≡ same → (same || is_number_among a ns) ≡ true → (1 ≤ a) × (a ≤ n)
  by_test more true same f = let equal = eqb-true a b same in (omega arith, omega arith)
  by_test more false same f = more f

older-last : (a : ℕ) (xs : List Activation) (x : Activation) → HaveOlder a xs → IsOlder (a + length xs) x.parent → HaveOlder a (xs ++ x ∷ [])
older-last a [] x h k =
    let same : a + 0 ≡ a = omega arith in
    (subst (λ b. IsOlder b x.parent) same k, tt)
older-last a (y ∷ ys) x h k =
    let same : suc a + length ys ≡ a + suc (length ys) = omega arith in
    (h.0, older-last (suc a) ys x h.1 (subst (λ b. IsOlder b x.parent) (sym same) k))

older-slice_get : (a : ℕ) (xs : List Activation) (i : ℕ) (x : Activation) → HaveOlder a xs → slice_get xs i ≡ Some x → IsOlder (a + i) x.parent
older-slice_get a [] i x h e = absurd (none-some x e)
older-slice_get a (y ∷ ys) zero x h e =
    let same : a ≡ a + 0 = omega arith in
    subst (λ b. IsOlder b x.parent) same (subst (λ (z : Activation). IsOlder a z.parent) (same_Some y x e) h.0)
older-slice_get a (y ∷ ys) (suc i) x h e =
    let same : suc a + i ≡ a + suc i = omega arith in
    subst (λ b. IsOlder b x.parent) same (older-slice_get (suc a) ys i x h.1 e)

-- ---- a step

top_is : (o : Option Process) (top : Level × Process) → top_of o ≡ Some top → o ≡ Some (top.0 ∷ top.1)
top_is None top e = absurd (none-some top e)
top_is (Some []) top e = absurd (none-some top e)
top_is (Some (level ∷ levels)) top e = ap (λ (t : Level × Process). Some (t.0 ∷ t.1)) (same_Some (level, levels) top e)

aged_same : (s t : State) → t.activations ≡ s.activations → AreMadeOnAll (length s.activations) t.processes → HaveOlder 1 s.activations → IsAged t
aged_same s t e h k = record {
  made = subst (λ (xs : List Activation). AreMadeOnAll (length xs) t.processes) (sym e) h;
  older = subst (HaveOlder 1) (sym e) k;
}

aged_more : (s t : State) (x : Activation) → t.activations ≡ s.activations ++ x ∷ [] → AreMadeOnAll (length s.activations + 1) t.processes → HaveOlder 1 s.activations → IsOlder (1 + length s.activations) x.parent → IsAged t
aged_more s t x e h k o =
    let more : length t.activations ≡ length s.activations + 1 = ap length e ∙ simp length-append in
    record { made = subst (λ n. AreMadeOnAll n t.processes) (sym more) h; older = subst (HaveOlder 1) (sym e) (older-last 1 s.activations x k o) }

aged_step : (t : Top) (s : State) → IsAged t.state → AreMade (length t.state.activations) (activations_on (stack t)) → Change t s → IsAged s
aged_step t s aged top c = by_change c where
  n : ℕ
  n = length t.state.activations

  below : AreMade n (activations_on t.below)
  below = top.2

  stacked : (m : ℕ) (q : Process) → n ≤ m → AreMade m (activations_on q) → AreMadeOnAll m (with_numbered t.state.processes t.process q)
  stacked m q le h = all_made-set m t.state.processes (t.process - 1) q (all_made_still n m t.state.processes le aged.made) h

  same : (q : Process) (ns : List ℕ) → activations_on q ≡ ns → AreMade n ns → HasStack t s q → HasSame t s → IsAged s
  same q ns e h k same_activations =
      aged_same t.state s same_activations (subst (AreMadeOnAll n) (sym k) (stacked n q (omega arith) (subst (AreMade n) (sym e) h))) aged.older

  parent : (x : Activation) → x.parent ≡ Some t.level.activation → IsOlder (1 + n) x.parent
  parent x e = subst (IsOlder (1 + n)) (sym e) (top.0, omega (arith, top.1))

  newest : (ns : List ℕ) → AreMade n ns → AreMade (n + 1) (next_activation t.state ∷ ns)
  newest ns h = (omega arith, omega arith, made_still n (n + 1) ns (omega arith) h)

  by_change : Change t s → IsAged s
  by_change (moves q e k a) = same q (activations_on (stack t)) e top k a
  by_change (leaves q e k a) = same q (activations_on t.below) e below k a
  by_change (faults k a) = same [] [] refl tt k a
  by_change (calls q x e k a) =
      aged_more t.state s x a.0 (subst (AreMadeOnAll (n + 1)) (sym k) (stacked (n + 1) q (omega arith) (subst (AreMade (n + 1)) (sym e) (newest (activations_on (stack t)) top)))) aged.older (parent x a.1)
  by_change (creates q r x e f k a) =
      let creator = stacked (n + 1) q (omega arith) (subst (AreMade (n + 1)) (sym e) (made_still n (n + 1) (activations_on (stack t)) (omega arith) top)) in
      let all = all_made-last (n + 1) (with_numbered t.state.processes t.process q) r creator (subst (AreMade (n + 1)) (sym f) (newest [] tt)) in
      aged_more t.state s x a.0 (subst (AreMadeOnAll (n + 1)) (sym k) all) aged.older (parent x a.1)
  by_change (resumes q r e f k a) =
      let caller = stacked n q (omega arith) (subst (AreMade n) (sym e) below) in
      let all = all_made-last n (with_numbered t.state.processes t.process q) r caller (subst (AreMade n) (sym f) (top.0, top.1, tt)) in
      aged_same t.state s a (subst (AreMadeOnAll n) (sym k) all) aged.older
  by_change (stops k a) = aged_same t.state s a (subst (AreMadeOnAll n) (sym k) aged.made) aged.older

aged_turn : (program : Units) (p : ℕ) (s : State) → IsAged s → IsAged (state_after_turn program p s)
aged_turn program p s h = each_turn IsAged program p s h (λ t e.
    let stepped = step_changes program p s t e in
    let lives = top_is (numbered s.processes p) stepped.top stepped.lives in
    aged_step (top_in s p stepped.top) t h (made-numbered (length s.activations) s.processes p (stepped.top.0 ∷ stepped.top.1) h.made lives) stepped.change)

-- ---- a run

aged_run : (program : Units) (s : State) (ps : List ℕ) → IsAged s → IsAged (run_from program s ps)
unfolding run_from
aged_run program s [] h = h
aged_run program s (p ∷ ps) h = aged_run program (state_after_turn program p s) ps (aged_turn program p s h)

aged_opening : (program : Units) → IsAged (opening program)
unfolding opening
aged_opening program = record { made = ((omega arith, omega arith, tt), tt); older = (tt, tt) }

pub aged : (program : Units) (ps : List ℕ) → IsAged (run program ps)
unfolding run
aged program ps = aged_run program (opening program) ps (aged_opening program)

pub older_parent : (s : State) (a b : ℕ) → IsAged s → parent_of s a ≡ Some b → (1 ≤ b) × (b < a) × (a ≤ length s.activations)
older_parent s zero b h e = absurd (none-some b e)
older_parent s (suc i) b h e = by_activation (slice_get s.activations i) refl e where
  by_activation : (o : Option Activation) → slice_get s.activations i ≡ o → (unwrap_or o no_activation).parent ≡ Some b → (1 ≤ b) × (b < suc i) × (suc i ≤ length s.activations)
  by_activation None is f = absurd (none-some b f)
  by_activation (Some x) is f =
      let older : (1 ≤ b) × (b < 1 + i) = subst (IsOlder (1 + i)) f (older-slice_get 1 s.activations i x h.older is) in
      let within = slice_get_within s.activations i x is in
      (older.0, omega arith, omega arith)

pub on_stack_made : (s : State) (a : ℕ) → IsAged s → IsOnStack s a → (1 ≤ a) × (a ≤ length s.activations)
on_stack_made s a h on =
    made_among (length s.activations) a (activations_on on.1) (made-numbered (length s.activations) s.processes on.0 on.1 h.made on.2) on.3

pub run_older : (program : Units) (ps : List ℕ) (a b : ℕ) → parent_of (run program ps) a ≡ Some b → (1 ≤ b) × (b < a)
run_older program ps a b e = let h = older_parent (run program ps) a b (aged program ps) e in (h.0, h.1)
