-- Where the levels of a process are seen is where they go on in the source machine.
use Rattle.std.proofs.Common.{◌≡◌, ℕ, ◌+◌, ◌-◌, List, [], ◌∷◌, ◌++◌, drop, length, take, Option, Some, None, refl, sym, ap, ◌∙◌, subst, arith, ◌<◌, get_or, reverse}
use Rattle.std.specs.Option.{unwrap_or}
use Rattle.std.proofs.lemmas.List.{drop_more, get_or-reverse, length-reverse}
use Rattle.hep_machine.specs.Words.{Name, Value, Truth, Units, function_name, line_at, level_after_statement, plug_work, unit_at, unit_name, unit_of, Process, State, Level as SourceLevel}
use Rattle.std.specs.Prelude.{true}
use Rattle.hep_code.specs.Words.{Awaits, Stands, line_ahead}
use Rattle.hep_code.proofs.CodePositions.{StandsAt, after_statement_keeps, after_statement_stands}
use Rattle.hep_layout.specs.Words.{FrameNode, Nodes}
use Rattle.hep_step.specs.Simulation.{unit_addressed, unit_code}
use Rattle.hep_proc.specs.declared.process.Local.{Local}
use Rattle.hep_state.specs.Words.{node_under}
use Rattle.hep_state.proofs.SettledPositions.{AreStanding, AreStandingBelow, IsHere, StandsBelow, StandsOnTop}
use Rattle.hep_views.proofs.StateViews.{line-is}
use Rattle.hep_state_text.specs.Lines as lines
use Rattle.hep_state_text.specs.States as words
use Rattle.hep_state_text.specs.States.{level_behind}
use Rattle.hep_state_text.specs.ProcessLines.{backs_seen, level_seen, stack_seen}

module _ (program : Units) (s : State) (nodes : Nodes) (shown : ℕ → List ℕ) where
  node-is : (l : Local) (n : FrameNode) → nodes l.key ≡ Some n → node_under nodes l.key ≡ n
  node-is l n e = ap (λ o. unwrap_or o (node_under (λ k. None) 0)) e

  -- a level of an activation, at a statement
  seen-at : (l : Local) (a k : ℕ) → IsHere program s nodes l a → line_ahead (drop l.index (unit_code program l.unit)) ≡ line_at (unit_at program l.unit) k
      → level_seen program nodes shown l ≡ lines.level_text shown (unit_name (unit_at program (unit_of s a))) (line_at (unit_at program (unit_of s a)) k) a
  seen-at l a k here line =
      let unit = here.unit in
      let activation : (node_under nodes l.key).activation ≡ a = ap (λ (n : FrameNode). n.activation) (node-is l here.node here.there) ∙ sym here.activation in
      let at : line_ahead (drop l.index (unit_code program l.unit)) ≡ line_at (unit_at program (unit_of s a)) k = line ∙ ap (λ u. line_at (unit_at program u) k) (sym unit) in
      λ i. lines.level_text shown (unit_name (unit_at program (sym unit i))) (at i) (activation i)

  -- the top one
  top-seen : (vs : List Value) (l : Local) (level : SourceLevel) → StandsOnTop program s nodes vs l level → level_seen program nodes shown l ≡ words.level_text program s shown level
  top-seen vs l level h = seen-at l level.activation level.statement h.here (line-is (unit_addressed program l.unit) level.statement level.work vs l.index h.stands)

  -- one below another
  back-seen : (above : ℕ) (vs : List Value) (l : Local) (level : SourceLevel) → StandsBelow program s nodes above vs l level
      → level_seen program nodes shown l ≡ words.level_text program s shown (level_behind (unit_at program (unit_of s level.activation)) (function_name (unit_at program above)) level)
  back-seen above vs l level h = by_result (function_name (unit_at program above)) h.awaits where
    by_result : (o : Option Name) → Awaits o (unit_addressed program l.unit) level vs l.index
        → level_seen program nodes shown l ≡ words.level_text program s shown (level_behind (unit_at program (unit_of s level.activation)) o level)
    by_result None awaits =
        let addressed = unit_addressed program l.unit in
        let after : SourceLevel = level_after_statement (unit_at program l.unit) level in
        let stands : Stands addressed after.statement after.work [] l.index = subst (StandsAt addressed after) (sym awaits.0) (after_statement_stands addressed level) in
        seen-at l level.activation after.statement h.here (line-is addressed after.statement after.work [] l.index stands)
        ∙ ap (λ a. lines.level_text shown (unit_name (unit_at program (unit_of s a))) (line_at (unit_at program (unit_of s a)) after.statement) a) (sym (after_statement_keeps addressed level).1)
        ∙ ap (λ u. words.level_text program s shown (level_after_statement (unit_at program u) level)) (sym h.here.unit)
    by_result (Some x) awaits =
        let addressed = unit_addressed program l.unit in
        let v : Value = Truth true in
        seen-at l level.activation level.statement h.here (line-is addressed level.statement (plug_work addressed.unit level.work v) (vs ++ v ∷ []) l.index (awaits v))

  backs-seen : (above : ℕ) (pending : List Value) (ls : List Local) (levels : Process) → AreStandingBelow program s nodes above pending ls levels
      → backs_seen program nodes shown ls ≡ words.levels_text program s shown (unit_at program above) levels
  backs-seen above pending [] [] h = refl
  backs-seen above pending (l ∷ ls) (level ∷ levels) h =
      let first = back-seen above (drop (length pending - l.kept) pending) l level h.0 in
      let rest = backs-seen l.unit (take (length pending - l.kept) pending) ls levels h.1 ∙ ap (λ u. words.levels_text program s shown (unit_at program u) levels) (sym h.0.here.unit) in
      λ i. lines.back_text (first i) ++ rest i
  backs-seen above pending [] (level ∷ levels) h = absurd h
  backs-seen above pending (l ∷ ls) [] h = absurd h

  pub stack-seen : (p : ℕ) (waiting : List ℕ) (vs pending : List Value) (ls : List Local) (levels : Process) → AreStanding program s nodes vs pending ls levels
      → stack_seen program nodes shown p waiting ls ≡ words.stack_text program s shown p waiting levels
  stack-seen p waiting vs pending [] [] h = refl
  stack-seen p waiting vs pending (l ∷ ls) (level ∷ levels) h =
      let first = top-seen vs l level h.0 in
      let rest = backs-seen l.unit pending ls levels h.1 ∙ ap (λ u. words.levels_text program s shown (unit_at program u) levels) (sym h.0.here.unit) in
      λ i. lines.process_text p (first i) waiting ++ rest i
  stack-seen p waiting vs pending [] (level ∷ levels) h = absurd h
  stack-seen p waiting vs pending (l ∷ ls) [] h = absurd h

-- the next one, where they stand with the upper one last
pub backs-turn : (levels : List Local) (i : ℕ) (d : Local) → i < length levels → drop i (reverse levels) ≡ get_or levels (length levels - 1 - i) d ∷ drop (i + 1) (reverse levels)
backs-turn levels i d less =
    drop_more (reverse levels) i d (omega (arith, less, length-reverse levels))
    ∙ ap (λ l. l ∷ drop (i + 1) (reverse levels)) (get_or-reverse levels i d less)
