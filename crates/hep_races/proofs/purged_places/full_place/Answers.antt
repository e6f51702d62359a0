use Rattle.std.proofs.Common.{◌∙◌, ◌∷◌, [], ap, if◌then◌else◌, map, sym}
use Rattle.hep_machine.specs.Words.{is_held, run}
use Rattle.hep_proc.specs.FrameTable.{frames_in}
use Rattle.hep_machine.specs.declared.slot.Slot.{Slot}
use Rattle.hep_races.proofs.PurgedUnits.{sought-out}
use Rattle.hep_races.proofs.purged_places.full_place.Goals as goal
use Rattle.hep_views.specs.ListedProcesses.{place_of}
use Rattle.hep_views.specs.declared.place.Place.{Place}

pub get-requires-clause-inside : goal.get-requires-clause-inside
get-requires-clause-inside c = (sought-out c.args.image.now c.requires.0 c.requires.1 c.args.machine.now c.args.key c.args.cell
    c.requires.2 c.requires.3).0

pub get-requires-clause-out : goal.get-requires-clause-out
get-requires-clause-out c = (sought-out c.args.image.now c.requires.0 c.requires.1 c.args.machine.now c.args.key c.args.cell c.requires.2
    c.requires.3).1

pub returns-then-get : goal.returns-then-get
returns-then-get c cells choices at h =
    let program = c.args.image.now in
    let s = run program choices in
    let slot = c.get.ensures.unit (frames_in program s (is_held s) h.after.layout) at h.after.shows.keeps h.kept in
    ap (λ (v : Place). v ∷ []) (c.place_at.ensures cells choices at h)
    ∙ ap (λ b. map (place_of program s) (if b then at ∷ [] else [])) (sym c.if-get.true ∙ ap (λ (z : Slot). z.full) slot)
