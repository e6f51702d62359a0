-- The levels of a process, the top one last, as the stack that they are.
use Rattle.std.proofs.Common.{◌≡◌, ℕ, ◌-◌, ◌<◌, Bool, true, false, not, nat_eq, List, [], ◌∷◌, ◌++◌, length, get_or, reverse, Some, refl, sym, ap, ◌∙◌, arith, slice_get, slice_set, vec_len}
use Rattle.std.proofs.lemmas.Bool.Decides.{nat_tests}
use Rattle.std.proofs.lemmas.List.{reverse-append, length-append, reverse-reverse}
use Rattle.std.proofs.Math.Seq.{get_or-append_seam, set-append_seam}
use Rattle.hep_machine.specs.Words.{Value}
use Rattle.hep_proc.specs.declared.process.Local.{Local}
use Rattle.hep_proc.specs.declared.process.Process.{Process}
use Rattle.hep_proc.specs.Stacks.{Stack, stack_of, stack_with}

module _ (q : Process) (l : Local) (ls : List Local) (operands pending : List Value) (is : stack_of q ≡ stack_with l ls operands pending) where
  abbrev front : List Local
  front = reverse ls

  pub levels-are : q.levels.items ≡ front ++ l ∷ []
  levels-are = sym (reverse-reverse q.levels.items) ∙ (ap (λ (k : Stack). reverse k.levels) is ∙ reverse-append (l ∷ []) ls)

  pub operands-are : q.operands.items ≡ operands
  operands-are = ap (λ (k : Stack). k.operands) is

  pub pending-are : q.pending.items ≡ pending
  pending-are = ap (λ (k : Stack). k.pending) is

  pub last-index : vec_len q.levels - 1 ≡ length front
  last-index = omega (arith, q.levels.ok.0, ap length levels-are, length-append front (l ∷ []))

  pub some-levels : 0 < vec_len q.levels
  some-levels = omega (arith, q.levels.ok.0, ap length levels-are, length-append front (l ∷ []))

  -- the top level
  pub last-is : (d : Local) → get_or q.levels.items (vec_len q.levels - 1) d ≡ l
  last-is d = ap (λ n. get_or q.levels.items n d) last-index ∙ (ap (λ xs. get_or xs (length front) d) levels-are ∙ get_or-append_seam front l [] d)

  -- another one in its place
  pub last-set : (m : Local) → reverse (slice_set q.levels.items (vec_len q.levels - 1) m) ≡ m ∷ ls
  last-set m =
      ap (λ n. reverse (slice_set q.levels.items n m)) last-index
      ∙ (ap (λ xs. reverse (slice_set xs (length front) m)) levels-are
      ∙ (ap reverse (set-append_seam front l [] m) ∙ (reverse-append front (m ∷ []) ∙ ap (λ ms. m ∷ ms) (reverse-reverse ls))))

  pub last-there : slice_get q.levels.items (length front) ≡ Some l
  last-there = ap (λ xs. slice_get xs (length front)) levels-are ∙ at_seam front where
    at_seam : (xs : List Local) → slice_get (xs ++ l ∷ []) (length xs) ≡ Some l
    at_seam [] = refl
    at_seam (x ∷ xs) = at_seam xs

-- ---- which have a top one

-- a process has levels
abbrev pub has-levels : List Local → Bool
has-levels [] = false
has-levels (l ∷ ls) = true

levels-append : (xs : List Local) (l : Local) → has-levels (xs ++ l ∷ []) ≡ true
levels-append [] l = refl
levels-append (x ∷ xs) l = refl

pub levels-by : (xs : List Local) (n : ℕ) → n ≡ length xs → has-levels (reverse xs) ≡ not (nat_eq n 0)
levels-by [] n e = ap (λ k. not (nat_eq k 0)) (sym e)
levels-by (x ∷ xs) n e =
    let some : nat_eq n 0 ≡ false = grind (arith, nat_tests, e) in
    ap has-levels (reverse-append (x ∷ []) xs) ∙ (levels-append (reverse xs) x ∙ ap not (sym some))
