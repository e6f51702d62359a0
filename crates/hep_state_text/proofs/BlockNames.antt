-- The names in a block, list by list.
use Rattle.std.proofs.Common.{◌≡◌, ◌++◌, List, [], ◌∷◌, Bool, true, false, if◌then◌else◌, refl, sym, ap, ◌∙◌, append_assoc}
use Rattle.std.specs.List.{flat_map}
use Rattle.std.proofs.lemmas.List.{map-append}
use Rattle.hep_machine.specs.Declarations.{block_of, blocks_in, entries_under, names_declared}
use Rattle.hep_machine.specs.Words.{BlockName, CommonBlock, Declarator, Statement, names_in_block, same_block}
use Rattle.hep_state_text.specs.BlockNames.{names_in_list, names_in_statement}

under-append : (b : BlockName) (cs ds : List CommonBlock) → names_declared (entries_under b (cs ++ ds)) ≡ names_declared (entries_under b cs) ++ names_declared (entries_under b ds)
under-append b [] ds = refl
under-append b (c ∷ cs) ds = by_test (under-append b cs ds) (same_block (block_of c) b) where
  by_test : names_declared (entries_under b (cs ++ ds)) ≡ names_declared (entries_under b cs) ++ names_declared (entries_under b ds)
      → (t : Bool) → names_declared (if t then c.entries ++ entries_under b (cs ++ ds) else entries_under b (cs ++ ds))
      ≡ names_declared (if t then c.entries ++ entries_under b cs else entries_under b cs) ++ names_declared (entries_under b ds)
  by_test rest true =
      map-append (λ (d : Declarator). d.occurrence.name) c.entries (entries_under b (cs ++ ds))
      ∙ ap (λ xs. names_declared c.entries ++ xs) rest
      ∙ sym (append_assoc (names_declared c.entries) (names_declared (entries_under b cs)) (names_declared (entries_under b ds)))
      ∙ ap (λ xs. xs ++ names_declared (entries_under b ds)) (sym (map-append (λ (d : Declarator). d.occurrence.name) c.entries (entries_under b cs)))
  by_test rest false = rest

in-lists : (b : BlockName) (cs : List CommonBlock) → flat_map (names_in_list b) cs ≡ names_declared (entries_under b cs)
in-lists b [] = refl
in-lists b (c ∷ cs) = by_test (in-lists b cs) (same_block (block_of c) b) where
  by_test : flat_map (names_in_list b) cs ≡ names_declared (entries_under b cs) → (t : Bool) → (if t then names_declared c.entries else []) ++ flat_map (names_in_list b) cs ≡ names_declared (if t then c.entries ++ entries_under b cs else entries_under b cs)
  by_test rest true = ap (λ xs. names_declared c.entries ++ xs) rest ∙ sym (map-append (λ (d : Declarator). d.occurrence.name) c.entries (entries_under b cs))
  by_test rest false = rest

pub in-unit : (b : BlockName) (unit : List Statement) → flat_map (names_in_statement b) unit ≡ names_in_block unit b
in-unit b [] = refl
in-unit b (s ∷ ss) =
    (λ i. in-lists b (blocks_in s.form) i ++ in-unit b ss i)
    ∙ sym (under-append b (blocks_in s.form) (flat_map (λ (s : Statement). blocks_in s.form) ss))
