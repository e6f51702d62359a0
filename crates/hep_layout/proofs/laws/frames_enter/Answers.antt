use Rattle.hep_layout.proofs.Memory.{memory-fits, memory-entered, address-entered}
use Rattle.hep_layout.proofs.laws.frames_enter.Goals as goal

pub returns : goal.returns
returns c = record {
  fits = memory-fits;
  memory = λ program s t x layout first old new holes h more f fresh fits same kept cleared. memory-entered program s t x layout first more old new holes h f fresh fits same kept cleared;
  addresses = λ program s t x layout first cells p at laid more e. address-entered program s t x layout first more cells at p laid e;
}
