-- Where memory may be asked for: docs/MACHINE.md, "The program".
use Rattle.std.specs.Prelude.{◌≡◌, ◌⊎◌, ℕ, Bool, true, IsSome}
use Rattle.hep_machine.specs.Words.{Units, opening_layout}

-- for an accepted program: notes are asked for, or COMMON and the main program's frame fit an arena of `cells` cells,
-- which is found first
abbrev pub MayOpen : Bool → Units → ℕ → Type 0
MayOpen long program cells = (long ≡ true) ⊎ IsSome (opening_layout program cells)
