use Rattle.hep_views.proofs.ReadContents.{common-is-read}
use Rattle.hep_views.proofs.frame_laws.common_is_read.Goals as goal

pub returns : goal.returns
returns c f arena nodes keeps = common-is-read f.program f.state f.layout arena.contents keeps.memory.holds
