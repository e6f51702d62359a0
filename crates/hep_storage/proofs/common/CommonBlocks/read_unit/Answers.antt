use Rattle.std.proofs.Common.{◌≡◌, ◌≤◌, ◌+◌, ◌∙◌, Some, None, [], refl, ap, sym, drop, get_or, max, length, arith, if◌then◌else◌}
use Rattle.std.proofs.lemmas.Bool.Decides.{nat_tests}
use Rattle.std.proofs.lemmas.List.{drop_all, drop_more}
use Rattle.std.specs.Option.{option_eq}
use Rattle.indexmap.specs.IndexMap.{get}
use Rattle.hep_machine.specs.Words.{name_eq, BlockName, same_block}
use Rattle.hep_storage.specs.Lengths.{cells_in_block, greatest_length, lengthened, with_blocks_of}
use Rattle.hep_storage.proofs.Entries.{unit-blocks, unit-cells}
use Rattle.hep_storage.proofs.LengthTables.{lengthened-at, blocks-entry, cells-next, longest-next, unread-next, bounded-next, start-longest, start-few, end-blocks, end-cells}
use Rattle.hep_storage.proofs.common.CommonBlocks.read_unit.Goals as goal
use Rattle.hep_storage.proofs.Beginnings.{from-zero}

pub loop-entry-init : goal.loop-entry-init
loop-entry-init c =
    record {
      blocks = refl;
      cells = λ b. from-zero _ _ (c.requires.unread b c.args.unit (omega arith));
      longest = λ b. start-longest _ _ (c.requires.unread b c.args.unit (omega arith));
      kept = c.requires.kept;
      unread = λ b v lt. c.requires.unread b v (omega (arith, lt));
      bounded = λ b. start-few _ (c.requires.unread b c.args.unit (omega arith));
    }

pub lengthen-requires-clause-few : goal.lengthen-requires-clause-few
lengthen-requires-clause-few c =
    let i = c.loop-entry.entry-index in
    let few = c.loop-entry.invariant.bounded (get_or c.args.entries.now i (record { block = None; name = None })).block in
    omega (arith, few, c.loop-entry-test.true)

pub loop-entry-preserved : goal.loop-entry-preserved
loop-entry-preserved c =
    let es = c.args.entries.now in
    let i = c.loop-entry.entry-index in
    let n = c.in_ok-count.count in
    let e = get_or es i (record { block = None; name = None }) in
    let old = get (option_eq name_eq) c.loop-entry.self.lengths in
    let new = get (option_eq name_eq) c.lengthen.new.self.lengths in
    let turned : (b : BlockName) → new b ≡ (if same_block e.block b then Some (lengthened (old b) c.args.unit n) else old b) = λ b. lengthened-at c.args.unit n _ b old new (c.in_ok-lengthen.ensures.lengths b) in
    let ahead = drop_more es i (record { block = None; name = None }) c.loop-entry-test.true in
    record {
      blocks = blocks-entry _ _ _ _ (drop i es) (drop (i + 1) es) c.loop-entry.invariant.blocks ahead c.in_ok-lengthen.ensures.blocks;
      cells = λ b. cells-next c.args.symbols.now c.args.unit n b _ (drop i es) (drop (i + 1) es) (old b) (new b) _ (c.loop-entry.invariant.cells b) ahead c.in_ok-count.ensures (turned b);
      longest = λ b. longest-next c.args.unit n _ _ (old b) (new b) (c.loop-entry.invariant.longest b) (turned b);
      kept = c.in_ok-lengthen.ensures.kept;
      unread = λ b v lt. unread-next c.args.unit n v _ (old b) (new b) lt (c.loop-entry.invariant.unread b v lt) (turned b);
      bounded = λ b. bounded-next c.args.unit n i _ (old b) (new b) (c.loop-entry.invariant.bounded b) (omega arith) (turned b);
    }

pub returns-clause-blocks : goal.returns-clause-blocks
returns-clause-blocks c =
    let es = c.args.entries.now in
    let keys = c.args.self.now.blocks.keys in
    let k : length es ≤ c.loop-entry.entry-index = omega arith in
    end-blocks c.loop-entry.self.blocks.keys _ c.loop-entry.entry-index es k c.loop-entry.invariant.blocks
    ∙ (ap (with_blocks_of keys) c.requires.entries ∙ unit-blocks keys c.args.symbols.now)

pub returns-clause-lengths : goal.returns-clause-lengths
returns-clause-lengths c = λ b.
    let es = c.args.entries.now in
    let unit = c.args.symbols.now in
    let k : length es ≤ c.loop-entry.entry-index = omega arith in
    let counted = end-cells unit b _ c.loop-entry.entry-index es k (c.loop-entry.invariant.cells b) in
    c.loop-entry.invariant.longest b
    ∙ ap (max (greatest_length (get (option_eq name_eq) c.args.self.now.lengths b))) (counted ∙ (ap (cells_in_block unit b) c.requires.entries ∙ unit-cells unit b))

pub returns-then-is_empty-clause-blocks : goal.returns-then-is_empty-clause-blocks
returns-then-is_empty-clause-blocks c =
    let es = c.args.entries.now in
    let keys = c.args.self.now.blocks.keys in
    let none : es ≡ [] = drop_all 0 es (grind (arith, nat_tests, sym c.is_empty.ensures ∙ c.if-is_empty.true)) in
    ap (with_blocks_of keys) (sym none ∙ c.requires.entries) ∙ unit-blocks keys c.args.symbols.now

pub returns-then-is_empty-clause-lengths : goal.returns-then-is_empty-clause-lengths
returns-then-is_empty-clause-lengths c = λ b.
    let es = c.args.entries.now in
    let unit = c.args.symbols.now in
    let none : es ≡ [] = drop_all 0 es (grind (arith, nat_tests, sym c.is_empty.ensures ∙ c.if-is_empty.true)) in
    start-longest _ _ (sym (ap (cells_in_block unit b) (sym none ∙ c.requires.entries) ∙ unit-cells unit b))
