-- A machine that is alike another one keeps the states that this keeps.
use Rattle.std.proofs.Common.{◌≡◌, ℕ, ◌+◌, ◌-◌, Bool, List, [], ◌∷◌, length, map, take, Option, Some, None}
use Rattle.std.proofs.Common.{refl, sym, ap, ◌∙◌, subst, arith}
use Rattle.std.specs.Option.{option_map}
use Rattle.std.proofs.lemmas.Option.{none-some, same_Some}
use Rattle.std.proofs.lemmas.List.{length-map}
use Rattle.hep_machine.specs.Words.{Layout, Process, State, Units, Value, common_cells, is_held, numbered, parent_of, run}
use Rattle.hep_arena.specs.Gaps.{frame_among, gaps}
use Rattle.hep_arena.specs.Holes.{IsOut}
use Rattle.hep_arena.specs.Space.{Space}
use Rattle.hep_layout.specs.Words.{AreFramed, Describes, FrameNode, IsFrameNode, IsFrameTree, IsLaid, IsMemory, Nodes, activation_under}
use Rattle.hep_layout.proofs.Addresses.{address-out, framed}
use Rattle.hep_layout.proofs.Memory.{frame-is-out}
use Rattle.hep_proc.specs.FrameTable.{FramesOf, Keeps, frames_in}
use Rattle.hep_proc.specs.declared.process.Local.{Local}
use Rattle.hep_proc.specs.Stacks.{Stack}
use Rattle.hep_state.specs.AlikeMachines.{AreAlike, AreRenamed, IsSameOutside, level_renamed, node_renamed, stack_renamed}
use Rattle.hep_state.specs.Words.{IsAfter, IsStack, Snapshot, kept_by}
use Rattle.hep_state.proofs.ProcessNumbers.{numbered-mapped}
use Rattle.hep_state.proofs.SettledPositions.{AreStanding, AreStandingBelow, IsHere, are-on, stack-again, stack-standing}

-- ---- the arena

module _ (f : FramesOf) (old new : Space) (same : IsSameOutside old new) where
  abbrev program : Units
  program = f.program

  abbrev s : State
  s = f.state

  memory-outside : IsMemory program s f.layout old.contents old.holes → IsMemory program s f.layout new.contents new.holes
  memory-outside h =
      record {
        laid = subst (λ n. IsLaid program s n f.layout) (sym same.size) h.laid;
        holds = λ at p e.
            let out = address-out program s (length old.contents) f.layout at p h.laid e in
            same.cells p out.0 (subst (IsOut p) (sym h.holes_are) out.1) ∙ h.holds at p e;
        holes_are = same.holes ∙ h.holes_are ∙ ap (λ n. gaps n (common_cells program) f.layout) (sym same.size);
      }

  described-outside : IsMemory program s f.layout old.contents old.holes → Describes program s f.layout f.wanted old.contents
      → Describes program s f.layout f.wanted new.contents
  described-outside memory h a c p slot is at wants =
      let there = framed program s (length old.contents) f.layout a c p memory.laid at in
      let out = frame-is-out program s f.layout old.contents old.holes a p there.frame memory there.framed there.low there.high in
      same.cells p (omega (arith, there.high, there.inside)) out ∙ h a c p slot is at wants

-- ---- the nodes

module _ (rename : ℕ → ℕ) (old new : Nodes) (renamed : AreRenamed rename old new) where
  -- which node it was under which key
  module _ (key : ℕ) (m : FrameNode) (there : new key ≡ Some m) where
    abbrev was : ℕ
    was = (renamed.no_more key m there).0

    abbrev node : FrameNode
    node = (renamed.no_more key m there).1

    was-there : old was ≡ Some node
    was-there = (renamed.no_more key m there).2

    is-node : m ≡ node_renamed rename node
    is-node =
        let again = ap new (sym (renamed.no_more key m there).3) ∙ renamed.kept was node was-there in
        same_Some m (node_renamed rename node) (sym there ∙ again)

  -- the activation of a node, if there is one
  abbrev number : Option FrameNode → Option (Option ℕ)
  number = option_map (λ (n : FrameNode). Some n.activation)

  under-renamed : (parent a : Option ℕ) → activation_under old parent ≡ Some a
      → activation_under new (option_map rename parent) ≡ Some a
  under-renamed None a e = e
  under-renamed (Some key) a e = by_node (old key) refl where
    by_node : (o : Option FrameNode) → old key ≡ o → activation_under new (Some (rename key)) ≡ Some a
    by_node (Some n) is = ap number (renamed.kept key n is) ∙ (sym (ap number is) ∙ e)
    by_node None is = absurd (none-some a (sym (ap number is) ∙ e))

  node-renamed : (s : State) (on out : ℕ → Bool) (n : FrameNode) → IsFrameNode s on out old n
      → IsFrameNode s on out new (node_renamed rename n)
  node-renamed s on out n h =
      record {
        out_is = h.out_is;
        unit_is = h.unit_is;
        parent_is = under-renamed n.parent (parent_of s n.activation) h.parent_is;
        children_are = h.children_are;
        finished_is = h.finished_is;
      }

  tree-renamed : (s : State) (on out : ℕ → Bool) → IsFrameTree s on out old → IsFrameTree s on out new
  tree-renamed s on out h =
      record {
        shown = λ key m there.
            let before = h.shown (was key m there) (node key m there) (was-there key m there) in
            subst (IsFrameNode s on out new) (sym (is-node key m there)) (node-renamed s on out (node key m there) before);
        found = λ a is.
            let before = h.found a is in
            (rename before.0, node_renamed rename before.1, renamed.kept before.0 before.1 before.2, before.3);
        single = λ k l m n here there same.
            let first = sym (ap (λ (x : FrameNode). x.activation) (is-node k m here)) in
            let both = first ∙ same ∙ ap (λ (x : FrameNode). x.activation) (is-node l n there) in
            let one =
            h.single (was k m here) (was l n there) (node k m here) (node l n there) (was-there k m here) (was-there l n there) both in
            sym (renamed.no_more k m here).3 ∙ ap rename one ∙ (renamed.no_more l n there).3;
        stacked = h.stacked;
        made = h.made;
      }

  framed-renamed : (layout : Layout) → AreFramed layout old → AreFramed layout new
  framed-renamed layout h key m there =
      subst
      (λ (x : FrameNode).
      frame_among x.activation layout ≡ Some (record { activation = x.activation; first = x.first; cells = x.cells }))
      (sym (is-node key m there)) (h (was key m there) (node key m there) (was-there key m there))

  -- ---- the levels of processes

  module _ (program : Units) (s : State) where
    here-renamed : (l : Local) (a : ℕ) → IsHere program s old l a → IsHere program s new (level_renamed rename l) a
    here-renamed l a h =
        record {
          inside = h.inside;
          node = node_renamed rename h.node;
          there = renamed.kept l.key h.node h.there;
          activation = h.activation;
          made = h.made;
          unit = h.unit;
        }

    kept-renamed : (ls : List Local) → kept_by (map (level_renamed rename) ls) ≡ kept_by ls
    kept-renamed [] = refl
    kept-renamed (l ∷ ls) = ap (λ n. l.kept + n) (kept-renamed ls)

    below-renamed : (above : ℕ) (pending : List Value) (ls : List Local) (levels : Process)
        → AreStandingBelow program s old above pending ls levels
        → AreStandingBelow program s new above pending (map (level_renamed rename) ls) levels
    below-renamed above pending [] [] h = tt
    below-renamed above pending (l ∷ ls) (level ∷ levels) h = (
      record { here = here-renamed l level.activation h.0.here; awaits = h.0.awaits },
      below-renamed l.unit (take (length pending - l.kept) pending) ls levels h.1,
    )
    below-renamed above pending _ _ h = absurd h

    standing-renamed : (vs pending : List Value) (ls : List Local) (levels : Process) → AreStanding program s old vs pending ls levels
        → AreStanding program s new vs pending (map (level_renamed rename) ls) levels
    standing-renamed vs pending [] [] h = h
    standing-renamed vs pending (l ∷ ls) (level ∷ levels) h = (
      record { here = here-renamed l level.activation h.0.here; stands = h.0.stands },
      below-renamed l.unit pending ls levels h.1,
      h.2 ∙ sym (kept-renamed ls),
    )
    standing-renamed vs pending _ _ h = absurd h

-- ---- what is kept

-- of each state the frames
keeps-alike : (f : FramesOf) (old new : Snapshot) → AreAlike old new → Keeps f old.arena old.nodes → Keeps f new.arena new.nodes
keeps-alike f old new alike h =
    record {
      memory = memory-outside f old.arena new.arena alike.arena h.memory;
      tree = tree-renamed alike.rename old.nodes new.nodes alike.nodes f.state f.on f.out h.tree;
      rest = h.rest;
      framed = framed-renamed alike.rename old.nodes new.nodes alike.nodes f.layout h.framed;
      frames_are = h.frames_are;
      described = described-outside f old.arena new.arena alike.arena h.memory h.described;
    }

module _ {program : Units} {cells : ℕ} {choices : List ℕ} {old new : Snapshot} (alike : AreAlike old new)
    (h : IsAfter program cells choices old) where
  abbrev after : State
  after = run program choices

  keeps : Keeps (frames_in program after (is_held after) h.layout) new.arena new.nodes
  keeps = keeps-alike (frames_in program after (is_held after) h.layout) old new alike h.shows.keeps

  stacks : (p : ℕ) (k : Stack) (q : Process) → numbered new.processes p ≡ Some k → numbered after.processes p ≡ Some q
      → IsStack program after new.arena.contents new.nodes k q
  stacks p k q here there =
      let rename = alike.rename in
      let before = ap (λ (ks : List Stack). numbered ks p) (sym alike.processes) ∙ here in
      let was = numbered-mapped (stack_renamed rename) old.processes p k before in
      let stood = stack-standing program after old.nodes old.arena.contents was.0 q (h.shows.stacks p was.0 q was.1 there) in
      let stands =
      standing-renamed rename old.nodes new.nodes alike.nodes program after was.0.operands was.0.pending was.0.levels q stood in
      subst (λ (k : Stack). IsStack program after new.arena.contents new.nodes k q) was.2 (
      stack-again program after new.nodes new.arena.contents h.layout keeps.described keeps.framed (stack_renamed rename was.0) q stands (
      are-on program choices p q there))

  -- it keeps the same states
  pub alike-after : IsAfter program cells choices new
  alike-after =
      record {
        layout = h.layout;
        laid = h.laid;
        size = alike.arena.size ∙ h.size;
        shows = record {
          keeps = keeps;
          kept = h.shows.kept;
          processes = ap length alike.processes ∙ (length-map old.processes (stack_renamed alike.rename) ∙ h.shows.processes);
          stacks = stacks;
          activations = ap (λ (m : Snapshot). m.activations) alike.rest ∙ h.shows.activations;
          records = ap (λ (m : Snapshot). m.records) alike.rest ∙ h.shows.records;
          faults = ap (λ (m : Snapshot). m.faults) alike.rest ∙ h.shows.faults;
          halted = ap (λ (m : Snapshot). m.halted) alike.rest ∙ h.shows.halted;
        };
      }
