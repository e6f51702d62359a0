-- A process of a machine: its stack, what the machine shows once it has another one, and that there is still room for operands.
use Rattle.std.proofs.Common.{◌≡◌, ◌⊎◌, inl, inr, ℕ, zero, suc, ◌+◌, ◌<◌, ◌≤◌, true, false, true≢false, List, [], ◌∷◌, ◌++◌, length, length-append, get_or, reverse, Some, None, refl, sym, ap, ◌∙◌, subst, arith, slice_get, slice_set, vec_capacity, vec_len}
use Rattle.std.proofs.lemmas.Bool.{cases_Bool, cases_lt}
use Rattle.std.proofs.lemmas.List.{reverse-append}
use Rattle.std.proofs.lemmas.Option.{same_Some, none-some, slice_get-get_or, slice_get-map}
use Rattle.std.specs.Option.{option_map}
use Rattle.hep_machine.specs.Words.{Value, Units, is_number_among, numbered, with_numbered}
use Rattle.hep_binding.proofs.Calls.{set-numbered}
use Rattle.hep_blocked.specs.Numbers.{AreRising}
use Rattle.hep_code.specs.Words.{deepest}
use Rattle.hep_step.specs.Simulation.{unit_code}
use Rattle.hep_proc.specs.declared.process.Local.{Local}
use Rattle.hep_proc.specs.declared.process.Process.{Process}
use Rattle.hep_proc.specs.Stacks.{Stack, no_stack, stack_of, stack_with}
use Rattle.hep_proc.proofs.Levels.{has-levels, last-index, last-there, levels-are, some-levels}
use Rattle.hep_state.specs.declared.core_state.CoreState.{CoreState}
use Rattle.hep_state.specs.Words.{AreNumbered, HasLevels, HasRoom, IsPlaceOf, numbers_of, snapshot_of, stacks_of, with_contents, with_stack}
use Rattle.hep_state.proofs.ProcessNumbers.{number-within, numbered-past, numbered-stack, numbered-there, numbers-set, one-place, set-stacks, stack-absent, stack-found}
use Rattle.hep_source.proofs.Tests.{at-front}
use Rattle.hep_proc.specs.Nodes.{nodes_of}
use Rattle.hep_proc.specs.declared.frames.Frames.{Frames}
use Rattle.std.specs.Vec.{with_item}

-- ---- the process of a number

-- a process that stands at a place and has a stack
pub record IsAt (qs : List Process) (p at : ℕ) (k : Stack) (q : Process) : Type 0 where
  pub inside : at < length qs
  pub there : slice_get qs at ≡ Some q
  pub number : q.number ≡ p
  pub stack : stack_of q ≡ k

-- the one at the place of p, where p has a stack
pub process-at : (m : CoreState) (p : ℕ) {at : ℕ} {k : Stack} {q : Process} → AreNumbered m → IsPlaceOf m.processes.items p at → numbered (snapshot_of m).processes p ≡ Some k → q ≡ get_or m.processes.items at q → IsAt m.processes.items p at k q
process-at m p {at} {k} {q} numbers place kept is =
    let qs = m.processes.items in
    let there : slice_get qs at ≡ Some q = slice_get-get_or qs at q place.inside ∙ ap (λ z. Some z) (sym is) in
    let own : q.number ≡ p = same_Some q.number p (sym (slice_get-map (λ (z : Process). z.number) qs at ∙ ap (option_map (λ (z : Process). z.number)) there) ∙ place.number) in
    record {
      inside = place.inside;
      there = there;
      number = own;
      stack = sym (stack-found p 1 m.made qs at q numbers there own) ∙ (numbered-there qs m.made p k kept).2;
    }

-- its levels, where it has some
pub some-levels-at : {qs : List Process} {p at : ℕ} {l : Local} {ls : List Local} {operands pending : List Value} {q : Process} → IsAt qs p at (stack_with l ls operands pending) q → 0 < vec_len q.levels
some-levels-at {qs} {p} {at} {l} {ls} {operands} {pending} {q} it = some-levels q l ls operands pending it.stack

-- in a machine with the same processes
pub numbers-still : (old new : CoreState) → new.processes.items ≡ old.processes.items → new.made ≡ old.made → AreNumbered old → AreNumbered new
numbers-still old new same made numbers = subst (λ n. AreRising 1 n (numbers_of new.processes.items)) (sym made) (subst (λ qs. AreRising 1 old.made (numbers_of qs)) (sym same) numbers)

pub process-still : (old new : CoreState) (p : ℕ) {at : ℕ} {k : Stack} {q : Process} → new.processes.items ≡ old.processes.items → new.made ≡ old.made → AreNumbered old → IsPlaceOf old.processes.items p at → numbered (snapshot_of old).processes p ≡ Some k
    → q ≡ get_or new.processes.items at q → IsAt new.processes.items p at k q
process-still old new p {at} same made numbers place kept is =
    process-at new p (numbers-still old new same made numbers) (subst (λ qs. IsPlaceOf qs p at) (sym same) place) ((λ i. numbered (stacks_of (same i) (made i)) p) ∙ kept) is

-- where one has another stack, and the same number
pub stacks-set : (m : CoreState) (p : ℕ) {at : ℕ} {before : Stack} {q : Process} (r : Process) (k : Stack) → AreNumbered m → IsAt m.processes.items p at before q → r.number ≡ q.number → stack_of r ≡ k
    → stacks_of (slice_set m.processes.items at r) m.made ≡ with_numbered (snapshot_of m).processes p k
stacks-set m p {at} {before} {q} r k numbers it same is = set-stacks m.processes.items m.made p at q r k numbers it.there it.number (same ∙ it.number) is

-- and so it has that one
pub kept-set : (m : CoreState) (p : ℕ) {at : ℕ} {before : Stack} {q : Process} (r : Process) (k : Stack) → AreNumbered m → IsAt m.processes.items p at before q → numbered (snapshot_of m).processes p ≡ Some before → r.number ≡ q.number → stack_of r ≡ k
    → numbered (stacks_of (slice_set m.processes.items at r) m.made) p ≡ Some k
kept-set m p {at} {before} r k numbers it kept same is = ap (λ ks. numbered ks p) (stacks-set m p r k numbers it same is) ∙ set-numbered (snapshot_of m).processes p before k kept

pub numbered-set : (m : CoreState) (p : ℕ) {at : ℕ} {before : Stack} {q : Process} (r : Process) → AreNumbered m → IsAt m.processes.items p at before q → r.number ≡ q.number → AreRising 1 m.made (numbers_of (slice_set m.processes.items at r))
numbered-set m p {at} {before} {q} r numbers it same = subst (AreRising 1 m.made) (sym (numbers-set m.processes.items at q r it.there same)) numbers

-- ---- which processes have levels

-- one that is kept
pub numbered-at : (m : CoreState) (p at : ℕ) (q : Process) → AreNumbered m → slice_get m.processes.items at ≡ Some q → q.number ≡ p → numbered (snapshot_of m).processes p ≡ Some (stack_of q)
numbered-at m p at q numbers there own =
    let within = number-within 1 m.made m.processes.items at q numbers there in
    numbered-stack m.processes.items m.made p (omega (arith, within.0, own)) (omega (arith, within.1, own))
    ∙ ap (λ k. Some k) (stack-found p 1 m.made m.processes.items at q numbers there own)

-- the one at the place of p
pub numbered-of : (m : CoreState) (p : ℕ) {at : ℕ} {q : Process} → AreNumbered m → IsPlaceOf m.processes.items p at → q ≡ get_or m.processes.items at q → numbered (snapshot_of m).processes p ≡ Some (stack_of q)
numbered-of m p {at} {q} numbers place is =
    let qs = m.processes.items in
    let there : slice_get qs at ≡ Some q = slice_get-get_or qs at q place.inside ∙ ap (λ z. Some z) (sym is) in
    let own : q.number ≡ p = same_Some q.number p (sym (slice_get-map (λ (z : Process). z.number) qs at ∙ ap (option_map (λ (z : Process). z.number)) there) ∙ place.number) in
    numbered-at m p at q numbers there own

-- one that isn't
pub numbered-absent : (m : CoreState) (p : ℕ) → is_number_among p (numbers_of m.processes.items) ≡ false → (numbered (snapshot_of m).processes p ≡ None) ⊎ (numbered (snapshot_of m).processes p ≡ Some no_stack)
numbered-absent m zero none = inl refl
numbered-absent m (suc i) none = elim (cases_lt m.made (suc i)) [
  | inl past ↦ inl (numbered-past m.processes.items m.made (suc i) past)
  | inr within ↦ inr (numbered-stack m.processes.items m.made (suc i) (omega arith) within ∙ ap (λ k. Some k) (stack-absent (suc i) m.processes.items none))
]

pub some-levels-of : (ks : List Stack) (p : ℕ) (q : Process) → numbered ks p ≡ Some (stack_of q) → has-levels (reverse q.levels.items) ≡ true
    → (l : Local) × (ls : List Local) × (numbered ks p ≡ Some (stack_with l ls q.operands.items q.pending.items))
some-levels-of ks p q there some = by_levels (reverse q.levels.items) refl some where
  by_levels : (ls : List Local) → reverse q.levels.items ≡ ls → has-levels ls ≡ true → (l : Local) × (ms : List Local) × (numbered ks p ≡ Some (stack_with l ms q.operands.items q.pending.items))
  by_levels [] e h = absurd cc
  by_levels (l ∷ ls) e h = (l, ls, there ∙ (λ i. Some (record { levels = e i; operands = q.operands.items; pending = q.pending.items })))

-- one that has levels is kept
pub levels-kept : (m : CoreState) (p : ℕ) → HasLevels (snapshot_of m) p → is_number_among p (numbers_of m.processes.items) ≡ true
levels-kept m p levels = elim (cases_Bool (is_number_among p (numbers_of m.processes.items))) [
  | inl among ↦ among
  | inr none ↦ absurd (no-levels levels.level levels.below (ap (λ (k : Stack). k.levels) (sym (stack-absent p m.processes.items none) ∙ (numbered-there m.processes.items m.made p (stack_with levels.level levels.below levels.operands levels.pending) levels.kept).2)))
] where
  no-levels : (l : Local) (ls : List Local) → [] ≡ l ∷ ls → ⊥
  no-levels l ls e = true≢false (sym (ap has-levels e))

-- ---- how many levels a process has

-- those of its stack
pub counted : (q : Process) (l : Local) (ls : List Local) (operands pending : List Value) → stack_of q ≡ stack_with l ls operands pending → (n : ℕ) → n ≡ vec_len q.levels → n ≡ length (reverse ls) + 1
counted q l ls operands pending is n e = omega (arith, e, last-index q l ls operands pending is, some-levels q l ls operands pending is)

-- levels that are none, and others
pub none-by : (ls : List Local) (n : ℕ) → n ≡ length (reverse ls) + 1 → n ≡ 1 → ls ≡ []
none-by [] n e one = refl
none-by (l ∷ ls) n e one = absurd (omega (arith, e, one, ap length (reverse-append {A = Local} (l ∷ []) ls), length-append (reverse ls) (l ∷ [])))

pub some-by : (ls : List Local) (n : ℕ) → n ≡ length (reverse ls) + 1 → (n ≡ 1 → ⊥) → (l : Local) × (ks : List Local) × (ls ≡ l ∷ ks)
some-by [] n e other = absurd (other (omega (arith, e)))
some-by (l ∷ ls) n e other = (l, ls, refl)

-- ---- room for operands

-- what holds of all processes holds of all once one has another in its place, of which it holds too
pub all-set : (P : Process → Type 0) (qs : List Process) (j : ℕ) (r : Process) → ((i : ℕ) (q : Process) → slice_get qs i ≡ Some q → P q) → P r → (i : ℕ) (q : Process) → slice_get (slice_set qs j r) i ≡ Some q → P q
all-set P [] j r each here i q e = absurd (none-some q e)
all-set P (x ∷ xs) zero r each here zero q e = subst P (same_Some r q e) here
all-set P (x ∷ xs) zero r each here (suc i) q e = each (suc i) q e
all-set P (x ∷ xs) (suc j) r each here zero q e = each zero q e
all-set P (x ∷ xs) (suc j) r each here (suc i) q e = all-set P xs j r (λ k z d. each (suc k) z d) here i q e

-- a process with fewer levels
pub room-fewer : (program : Units) (q r : Process) (l : Local) → q.levels.items ≡ r.levels.items ++ l ∷ [] → vec_capacity q.operands ≤ vec_capacity r.operands → HasRoom program q → HasRoom program r
room-fewer program q r l fewer more room i m e =
    let here = room i m (subst (λ (xs : List Local). slice_get xs i ≡ Some m) (sym fewer) (at-front r.levels.items (l ∷ []) i m e)) in
    omega (arith, here, more)

-- that below the top one has room for its unit too
last-of : (xs : List Local) (l : Local) → slice_get (xs ++ l ∷ []) (length xs) ≡ Some l
last-of [] l = refl
last-of (x ∷ xs) l = last-of xs l

pub room-below : (program : Units) (q : Process) (l m : Local) (ms : List Local) (operands pending : List Value) → stack_of q ≡ stack_with l (m ∷ ms) operands pending → HasRoom program q → deepest (unit_code program m.unit) ≤ vec_capacity q.operands
room-below program q l m ms operands pending is room =
    let here = subst (λ (xs : List Local). slice_get xs (length (reverse ms)) ≡ Some m) (sym (reverse-append (m ∷ []) ms)) (last-of (reverse ms) m) in
    room (length (reverse ms)) m (subst (λ (xs : List Local). slice_get xs (length (reverse ms)) ≡ Some m) (sym (levels-are q l (m ∷ ms) operands pending is)) (at-front (reverse (m ∷ ms)) (l ∷ []) (length (reverse ms)) m here))

pub room-none : (program : Units) (r : Process) → r.levels.items ≡ [] → HasRoom program r
room-none program r none i m e = absurd (none-some m (subst (λ (xs : List Local). slice_get xs i ≡ Some m) none e))

-- what holds of all elements and of one more holds of all of them together
pub all-more : {A : Type 0} (P : A → Type 0) (xs : List A) (y : A) → ((i : ℕ) (m : A) → slice_get xs i ≡ Some m → P m) → P y → (i : ℕ) (m : A) → slice_get (xs ++ y ∷ []) i ≡ Some m → P m
all-more P [] y each one zero m e = subst P (same_Some y m e) one
all-more P [] y each one (suc i) m e = absurd (none-some m e)
all-more P (x ∷ xs) y each one zero m e = each zero m e
all-more P (x ∷ xs) y each one (suc i) m e = all-more P xs y (λ j k f. each (suc j) k f) one i m e

-- the operands of a process have room for its levels, with another top one of the same unit
moved-enough : (program : Units) (q : Process) (l later : Local) (ls : List Local) (was pending : List Value) → later.unit ≡ l.unit → stack_of q ≡ stack_with l ls was pending → HasRoom program q
    → (i : ℕ) (m : Local) → slice_get (reverse ls ++ later ∷ []) i ≡ Some m → deepest (unit_code program m.unit) ≤ vec_capacity q.operands
moved-enough program q l later ls was pending same before room =
    all-more (λ (k : Local). deepest (unit_code program k.unit) ≤ vec_capacity q.operands) (reverse ls) later
    (λ j k e. room j k (subst (λ (xs : List Local). slice_get xs j ≡ Some k) (sym (levels-are q l ls was pending before)) (at-front (reverse ls) (l ∷ []) j k e)))
    (subst (λ u. deepest (unit_code program u) ≤ vec_capacity q.operands) (sym same) (room (length (reverse ls)) l (last-there q l ls was pending before)))

-- a process whose top level is at another index
pub room-moved : (program : Units) (q r : Process) (l : Local) (next : ℕ) (ls : List Local) (was left pending : List Value) → stack_of q ≡ stack_with l ls was pending → stack_of r ≡ stack_with (record l { index = next }) ls left pending
    → vec_capacity q.operands ≤ vec_capacity r.operands → HasRoom program q → HasRoom program r
room-moved program q r l next ls was left pending before after more room i m e =
    let later : Local = record l { index = next } in
    let here = moved-enough program q l later ls was pending refl before room i m (subst (λ (xs : List Local). slice_get xs i ≡ Some m) (levels-are r later ls left pending after) e) in
    omega (arith, here, more)

-- and one with one level more above that
pub room-more : (program : Units) (q r : Process) (l later new : Local) (ls : List Local) (was left pending waiting : List Value) → later.unit ≡ l.unit → stack_of q ≡ stack_with l ls was pending → stack_of r ≡ stack_with new (later ∷ ls) left waiting
    → vec_capacity q.operands ≤ vec_capacity r.operands → deepest (unit_code program new.unit) ≤ vec_capacity r.operands → HasRoom program q → HasRoom program r
room-more program q r l later new ls was left pending waiting same before after more enough room i m e =
    let levels = levels-are r new (later ∷ ls) left waiting after ∙ ap (λ (xs : List Local). xs ++ new ∷ []) (reverse-append (later ∷ []) ls) in
    all-more (λ (k : Local). deepest (unit_code program k.unit) ≤ vec_capacity r.operands) (reverse ls ++ later ∷ []) new (λ j k f. let here = moved-enough program q l later ls was pending same before room j k f in omega (arith, here, more)) enough i m
    (subst (λ (xs : List Local). slice_get xs i ≡ Some m) levels e)

-- the only element
pub the-only : {A : Type 0} (x y : A) (i : ℕ) → slice_get (x ∷ []) i ≡ Some y → x ≡ y
the-only x y zero e = same_Some x y e
the-only x y (suc i) e = absurd (none-some y e)

pub numbered-only : {A : Type 0} (x y : A) (p : ℕ) → numbered (x ∷ []) p ≡ Some y → x ≡ y
numbered-only x y zero e = absurd (none-some y e)
numbered-only x y (suc i) e = the-only x y i e

-- one that has one level has room for the unit of that
pub room-alone : (program : Units) (q : Process) (level : Local) → q.levels.items ≡ level ∷ [] → deepest (unit_code program level.unit) ≤ vec_capacity q.operands → HasRoom program q
room-alone program q level alone enough i l e =
    subst (λ (x : Local). deepest (unit_code program x.unit) ≤ vec_capacity q.operands) (the-only level l i (ap (λ (ls : List Local). slice_get ls i) (sym alone) ∙ e)) enough

-- ---- a process gets room for more levels and operands, and is the same but for that

-- what was put in a place is there
slice_set_there : {A : Type 0} (xs : List A) (i : ℕ) (x : A) → i < length xs → slice_get (slice_set xs i x) i ≡ Some x
slice_set_there [] i x h = absurd (omega (arith, h))
slice_set_there (z ∷ zs) zero x h = refl
slice_set_there (z ∷ zs) (suc i) x h = slice_set_there zs i x (omega (arith, h))

-- it is the one process of its number
pub is-there : (m : CoreState) (p : ℕ) {at : ℕ} {before : Stack} {q : Process} (r : Process) → AreNumbered m → IsAt m.processes.items p at before q → r.number ≡ q.number
    → (i : ℕ) (z : Process) → slice_get (slice_set m.processes.items at r) i ≡ Some z → z.number ≡ p → r ≡ z
is-there m p {at} r numbers it same i z e own =
    let rs = slice_set m.processes.items at r in
    let rise = numbered-set m p r numbers it same in
    let there = slice_set_there m.processes.items at r it.inside in
    let place : i ≡ at = one-place 1 m.made rs i at z r rise e there (own ∙ sym (same ∙ it.number)) in
    same_Some r z (sym there ∙ (ap (slice_get rs) (sym place) ∙ e))

pub room-reserved : (program : Units) (q r : Process) → r.levels.items ≡ q.levels.items → vec_capacity q.operands ≤ vec_capacity r.operands → HasRoom program q → HasRoom program r
room-reserved program q r levels more room i l e =
    let here = room i l (subst (λ (ls : List Local). slice_get ls i ≡ Some l) levels e) in
    omega (arith, here, more)

-- what the machine shows, where a process has another stack and cells of the arena have changed
pub shown-now : (m : CoreState) (p : ℕ) {at : ℕ} {before : Stack} {q : Process} (r : Process) (frames : Frames) (l : Local) (ls : List Local)
    (left pending : List Value) (next : ℕ)
    → AreNumbered m → IsAt m.processes.items p at before q → r.number ≡ q.number
    → stack_of r ≡ stack_with (record l { index = next }) ls left pending → frames.arena.holes ≡ m.frames.arena.holes
    → frames.nodes ≡ m.frames.nodes
    → snapshot_of (record m { frames = frames; processes = with_item m.processes at r })
    ≡ with_stack (with_contents (snapshot_of m) frames.arena.contents) p (record l { index = next } ∷ ls) left pending
shown-now m p r frames l ls left pending next numbers it same stack holes nodes =
    let stacks = stacks-set m p r (stack_with (record l { index = next }) ls left pending) numbers it same stack in
    λ i. record (with_stack (with_contents (snapshot_of m) frames.arena.contents) p (record l { index = next } ∷ ls) left pending) {
      arena = record { contents = frames.arena.contents; holes = holes i };
      nodes = nodes_of (nodes i);
      processes = stacks i;
    }
