use Rattle.std.proofs.Common.{refl}
use Rattle.hep_machine.specs.Words.{is_held}
use Rattle.hep_views.proofs.ReadContents.{frame-is-read, frames-are-read}
use Rattle.hep_views.proofs.frame_laws.frames_are_read.Goals as goal

pub returns : goal.returns
returns c = record {
  one = λ f arena nodes a frame keeps framed has. frame-is-read f.program f.state f.layout arena.contents keeps.memory.holds keeps.described a frame framed has;
  all = λ f arena nodes keeps dummies. frames-are-read f.program f.state f.layout arena.contents keeps.memory.holds keeps.described (is_held f.state) keeps.frames_are is_held (λ a. refl) dummies;
}
