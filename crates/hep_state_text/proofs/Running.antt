-- The levels of a process, as a machine keeps them.
use Rattle.std.proofs.Common.{◌≡◌, ℕ, ◌-◌, ◌≤◌, List, [], ◌∷◌, ◌++◌, codes, length, reverse, take, get_or, sym, ap, ◌∙◌, append_assoc, arith}
use Rattle.std.specs.Fmt.{decimal}
use Rattle.std.proofs.lemmas.List.{length-append, reverse-reverse}
use Rattle.std.proofs.Math.Seq.{get_or-append_seam, take-append_seam}
use Rattle.hep_machine.specs.Words.{Value, Units, run}
use Rattle.hep_proc.specs.Nodes.{nodes_of}
use Rattle.hep_proc.specs.declared.process.Local.{Local}
use Rattle.hep_state.specs.declared.core_state.CoreState.{CoreState}
use Rattle.hep_proc.specs.declared.process.Process.{Process}
use Rattle.hep_proc.specs.Stacks.{stack_of, stack_with}
use Rattle.hep_state.specs.Words.{AreThere, HasLevels, IsMachineAfter, snapshot_of}
use Rattle.hep_proc.proofs.Levels.{levels-are}
use Rattle.hep_state_text.specs.Lines as lines
use Rattle.hep_state_text.specs.Lines.{LevelText}
use Rattle.hep_state.proofs.TopActivations.{numbered-there}

-- ---- the top one and those below it

module _ (q : Process) (l : Local) (ls : List Local) (operands pending : List Value) (is : stack_of q ≡ stack_with l ls operands pending) (levels : List Local) (same : levels ≡ q.levels.items) where
  items-are : levels ≡ reverse ls ++ l ∷ []
  items-are = same ∙ levels-are q l ls operands pending is

  pub last : length levels - 1 ≡ length (reverse ls)
  last = omega (arith, ap length items-are, length-append (reverse ls) (l ∷ []))

  pub some : 1 ≤ length levels
  some = omega (arith, ap length items-are, length-append (reverse ls) (l ∷ []))

  pub top-is : (d : Local) → get_or levels (length levels - 1) d ≡ l
  top-is d = ap (λ n. get_or levels n d) last ∙ ap (λ (xs : List Local). get_or xs (length (reverse ls)) d) items-are ∙ get_or-append_seam (reverse ls) l [] d

  pub below-are : reverse (take (length levels - 1) levels) ≡ ls
  below-are =
      ap (λ n. reverse (take n levels)) last
      ∙ ap (λ (xs : List Local). reverse (take (length (reverse ls)) xs)) items-are
      ∙ ap reverse (take-append_seam (reverse ls) (l ∷ []))
      ∙ reverse-reverse ls

-- ---- they are there

pub are-there : (program : Units) (cells : ℕ) (choices : List ℕ) (m : CoreState) (p : ℕ) (levels : HasLevels (snapshot_of m) p) → IsMachineAfter program cells choices m
    → AreThere program (nodes_of m.frames.nodes) (levels.level ∷ levels.below)
are-there program cells choices m p levels h =
    let shows = h.after.shows in
    let k = stack_with levels.level levels.below levels.operands levels.pending in
    let q = numbered-there (snapshot_of m).processes (run program choices).processes p k shows.processes levels.kept in
    (shows.stacks p k q.0 levels.kept q.1).there

-- ---- the lines

pub joined : (old : List ℕ) (level : LevelText) (waiting backs : List ℕ) (p : ℕ)
    → (((old ++ (codes "PROCESS " ++ decimal p ++ codes " " ++ level.place)) ++ (waiting ++ codes "\n")) ++ level.statement) ++ backs ≡ old ++ (lines.process_text p level waiting ++ backs)
joined old level waiting backs p =
    let front : List ℕ = codes "PROCESS " ++ decimal p ++ codes " " ++ level.place in
    let end : List ℕ = waiting ++ codes "\n" in
    let behind : List ℕ = level.statement in
    ap (λ xs. (xs ++ behind) ++ backs) (append_assoc old front end)
    ∙ ap (λ xs. xs ++ backs) (append_assoc old (front ++ end) behind)
    ∙ append_assoc old ((front ++ end) ++ behind) backs
    ∙ ap (λ xs. old ++ (((codes "PROCESS " ++ xs) ++ behind) ++ backs)) (sym (append_assoc (decimal p ++ codes " " ++ level.place) waiting (codes "\n")))
