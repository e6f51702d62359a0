-- Names with lists, as contracts see them.
use Rattle.hep_machine.specs.Words.{trees_of}
use Rattle.hep_conditions.specs.Words.{NameWithList}
use Rattle.hep_names.specs.declared.lists.NameWithList.{NameWithList as Reference}

-- the view of a reference to a name with a list
abbrev pub listed : Reference → NameWithList
listed r = record { occurrence = r.occurrence; arguments = trees_of r.arguments.now }
