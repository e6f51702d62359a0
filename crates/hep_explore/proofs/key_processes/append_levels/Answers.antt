use Rattle.std.proofs.Common.{◌+◌, ◌-◌, ◌<◌, drop, length, map, reverse, arith, get_or}
use Rattle.std.proofs.lemmas.Option.{slice_get-get_or}
use Rattle.hep_proc.specs.Nodes.{nodes_of}
use Rattle.hep_proc.specs.declared.process.Local.{Local}
use Rattle.hep_explore.specs.Contents.{level_of}
use Rattle.hep_explore.specs.Keys.{level_words}
use Rattle.hep_explore.proofs.KeyLists.{appended, level-next}
use Rattle.hep_explore.proofs.key_processes.append_levels.Goals as goal

pub append_level-requires : goal.append_level-requires
append_level-requires c =
    let levels = c.args.levels.now in
    let i = length levels - 1 - c.loop-index.index in
    let none : Local = record { key = 0; unit = 0; kept = 0; index = 0 } in
    let less : i < length levels = omega (arith, c.loop-index-test.true) in
    c.requires i (get_or levels i none) (slice_get-get_or levels i none less)

pub loop-index-preserved : goal.loop-index-preserved
loop-index-preserved c =
    let levels = c.args.levels.now in
    let at = c.loop-index.index in
    let i = length levels - 1 - at in
    let none : Local = record { key = 0; unit = 0; kept = 0; index = 0 } in
    let less : i < length levels = omega (arith, c.loop-index-test.true) in
    let f = level_of (nodes_of c.args.frames.now.nodes) in
    let next = level-next f levels at (get_or levels i none) c.loop-index-test.true (slice_get-get_or levels i none less) in
    appended level_words _ c.loop-index.words.items c.append_level.new.words.items (map f (reverse levels))
    (map f (drop at (reverse levels))) (map f (drop (at + 1) (reverse levels))) (f (get_or levels i none)) next c.loop-index.invariant
    c.in_ok-append_level.ensures
