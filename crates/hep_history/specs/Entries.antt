-- A history as its callers see it.
use Rattle.std.specs.Prelude.{ℕ, List}
use Rattle.hep_machine.specs.declared.event.Entry.{Entry}

-- the entries in order, and the number of further ones that there is room for, so that they take no memory
pub record EntriesLeft : Type 0 where
  pub items : List Entry
  pub room : ℕ
