use Rattle.std.proofs.Common.{◌≡◌, drop, map}
use Rattle.std.specs.Option.{option_or}
use Rattle.indexmap.specs.IndexMap.{get}
use Rattle.hep_machine.specs.Words.{Name, name_eq}
use Rattle.hep_places.specs.StorageStarts.{behind, start_among}
use Rattle.hep_places.proofs.frame_starts.FrameStarts.add_all.Given as goal

abbrev pub invariant-loop-item : goal.invariant-loop-item
invariant-loop-item g l =
    record {
      table : (x : Name) → option_or (get name_eq l.self.table x) (start_among l.self.next (map (λ y. (g.T.FrameItem.name_of y, g.T.FrameItem.cells_of l.symbols y)) (drop l.item-index l.items)) x) ≡ option_or (get name_eq l.initial.self.table x) (start_among l.initial.self.next (map (λ y. (g.T.FrameItem.name_of y, g.T.FrameItem.cells_of l.symbols y)) l.items) x);
      next : behind l.self.next (map (λ y. (g.T.FrameItem.name_of y, g.T.FrameItem.cells_of l.symbols y)) (drop l.item-index l.items)) ≡ behind l.initial.self.next (map (λ y. (g.T.FrameItem.name_of y, g.T.FrameItem.cells_of l.symbols y)) l.items);
    }
