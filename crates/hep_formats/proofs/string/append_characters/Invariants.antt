use Rattle.std.proofs.Common.{◌≡◌, ◌++◌, drop}
use Rattle.std.specs.List.{flat_map}
use Rattle.hep_formats.specs.Strings.{json_character}
use Rattle.hep_formats.proofs.string.append_characters.Given as goal

abbrev pub invariant-loop-byte : goal.invariant-loop-byte
invariant-loop-byte l =
    l.text.items ++ flat_map json_character (drop l.byte-index l.bytes) ≡ l.fn.text.items ++ flat_map json_character l.bytes
