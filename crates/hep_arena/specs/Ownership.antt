-- Ownership of the memory of a region.
use Rattle.std.specs.Prelude.{ℕ, ◌*◌, ◌^◌, List}
use Rattle.std.specs.Mem.{type_size}
use base.Fml.{Fml, fsep, flt}
use base.Fraction.{full_share}
use denote.Array.{Array}
use denote.RattleType.{RattleType}
use denote.RawPtr.{Ptr, lies_at}

-- A region owns n values at p, which take fewer than 2 ^ 63 bytes.
abbrev pub region_owns : (R : RattleType) → Ptr → ℕ → List R.Denot → Fml
region_owns R p n xs = fsep (flt (n * type_size R) (2 ^ 63)) (lies_at (Array R n) full_share p xs)
