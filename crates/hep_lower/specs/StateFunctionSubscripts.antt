-- The subscripts of the argument of FULL, EMPTY, VALUE, SETE or WAITF: docs/LANGUAGE.md, 8.
use Rattle.hep_machine.specs.Words.{Trees, with_list, no_trees, trees, Meaning, element}
use Rattle.hep_code.specs.Words.{NameTable}

abbrev pub subscripts_asked_listed : Meaning → Trees → Trees
subscripts_asked_listed element ts = ts
subscripts_asked_listed _ ts = no_trees

abbrev pub subscripts_asked : NameTable → Trees → Trees
subscripts_asked names (trees (with_list p ts) no_trees) = subscripts_asked_listed (names.meanings p.name) ts
subscripts_asked names _ = no_trees
