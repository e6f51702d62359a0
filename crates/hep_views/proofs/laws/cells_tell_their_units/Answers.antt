use Rattle.hep_views.proofs.Cells.{common-told, frame-told, kept-told}
use Rattle.hep_views.proofs.laws.cells_tell_their_units.Goals as goal

pub returns : goal.returns
returns c = record {
  common = λ program s layout b i cell e. common-told program s layout b i cell e;
  frame = λ program s layout a i cell x e. frame-told program s layout a i cell x e;
  kept = λ program cells choices m at cell after e. kept-told program cells choices m after at cell e;
}
