use Rattle.std.proofs.Common.{[], refl}
use Rattle.hep_layout.proofs.StackChanges.{stacks-begun, stacks-created, stacks-emptied, stacks-ended, stacks-same}
use Rattle.hep_layout.proofs.laws.stacks_change.Goals as goal

pub returns : goal.returns
returns c = record {
  same = λ s t p a top q lives set e. stacks-same s t p top q lives set a e;
  ended = λ s t p a top q lives set few e. stacks-ended s t p top q lives set a few e;
  emptied = λ s t p a top lives set few. stacks-emptied s t p top [] lives set a few refl;
  begun = λ s t p a n top q lives set e. stacks-begun s t p top q lives set a n e;
  created = stacks-created;
}
