use Rattle.std.proofs.Common.{◌≡◌, ◌++◌, drop, ◌∷◌, []}
use Rattle.std.specs.List.{flat_map}
use Rattle.hep_explore.proofs.key_parts.append_text.Given as goal

abbrev pub invariant-loop-character : goal.invariant-loop-character
invariant-loop-character l =
    l.words.items ++ flat_map (λ c. c ∷ []) (drop l.character-index l.characters)
    ≡ l.initial.words.items ++ flat_map (λ c. c ∷ []) l.characters
