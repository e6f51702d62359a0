use Rattle.std.proofs.Common.{◌∙◌, sym}
use Rattle.hep_machine.specs.Words.{common_cells}
use Rattle.hep_explore.specs.Contents.{contents_of}
use Rattle.hep_explore.proofs.AlikeContents.{after-alike}
use Rattle.hep_explore.specs.Keys.{words_of}
use Rattle.hep_explore.proofs.ByteGroups.{bytes-same}
use Rattle.hep_explore.proofs.Codes.{contents-same}
use Rattle.hep_explore.proofs.key_laws.machines_with_equal_keys_keep_the_same_states.Goals as goal

pub returns : goal.returns
returns c program cells before turns key a b x y h k =
    let m = contents_of a (common_cells program) x.0 in
    let n = contents_of b (common_cells program) y.0 in
    let words = bytes-same (words_of m) (words_of n) (sym x.2 ∙ y.2) in
    after-alike
    (record { choices = before; after = h; keys = x.0; held = x.1 })
    (record { choices = turns; after = k; keys = y.0; held = y.1 }) (
    contents-same m n words)
