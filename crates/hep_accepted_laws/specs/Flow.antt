-- The flow of an accepted program's statements, and the nesting of its DOs and block IFs: X3.9-1978, section 11.
use Rattle.std.specs.Prelude.{◌≡◌, ◌⊎◌, ◌<◌, ◌≤◌, ℕ, true, false, List, Some, slice_get}
use Rattle.hep_machine.specs.Words.{DoControl, Statement, same_name, is_executable, index_labelled, role_of}
use Rattle.hep_conditions.specs.Words.{BlockIf, DoRange, Region, is_division, is_in, is_wrong_terminal, regions_of}

-- from index k to index j no DO range and no block of a block IF is entered: 11.6.3, 11.7.2, 11.8.2 and 11.10.8
abbrev pub EntersNone : List Statement → ℕ → ℕ → Type 0
EntersNone unit k j = (i : ℕ) (r : Region) → slice_get (regions_of unit) i ≡ Some r → is_in r j ≡ true → is_in r k ≡ true

-- a jump at index k leads to the executable statement with a label, which is no ELSE IF or ELSE: 11.1, 11.2, 11.4, 11.7.2 and 11.8.2
abbrev pub Leads : List Statement → ℕ → ℕ → Type 0
Leads unit k l =
    (j : ℕ) × (target : Statement)
    × (index_labelled unit l ≡ Some j)
    × (slice_get unit j ≡ Some target)
    × (is_executable target.form ≡ true)
    × (target.label ≡ Some l)
    × (is_division (role_of target) ≡ false)
    × EntersNone unit k j

-- the terminal statement of a DO at index k is after it, and may end a range: 11.10
abbrev pub HasTerminal : List Statement → ℕ → DoControl → Type 0
HasTerminal unit k c =
    (t : ℕ) × (last : Statement)
    × (index_labelled unit c.terminal ≡ Some t)
    × (slice_get unit t ≡ Some last)
    × (is_executable last.form ≡ true)
    × (k < t)
    × (is_wrong_terminal last ≡ false)

-- where the second DO begins in the range of the first, it ends there too, and has another variable: 11.10 and 11.10.1
abbrev pub AreNested : DoRange → DoRange → Type 0
AreNested a b = a.start < b.start → b.start ≤ a.terminal → (b.terminal ≤ a.terminal) × (same_name a.variable b.variable ≡ false)

-- the statement at this index is not within a range, nor its terminal statement
abbrev pub IsOutside : DoRange → ℕ → Type 0
IsOutside r k = (k ≤ r.start) ⊎ (r.terminal < k)

-- a block IF that begins in the range of a DO ends in it: 11.10.1
abbrev pub EndsWithin : DoRange → BlockIf → Type 0
EndsWithin r b = (e : ℕ) → b.end ≡ Some e → r.start < b.start → b.start ≤ r.terminal → e ≤ r.terminal

-- where a block IF begins before a DO, none of its ELSE IF, ELSE and END IF statements is in the range of the DO: 11.10.1
abbrev pub HoldsWhole : DoRange → BlockIf → Type 0
HoldsWhole r b =
    b.start < r.start → ((i m : ℕ) → slice_get b.divisions i ≡ Some m → IsOutside r m) × ((e : ℕ) → b.end ≡ Some e → IsOutside r e)
