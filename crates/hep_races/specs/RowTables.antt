-- The rows of races under their sites: docs/MACHINE.md, "The order of steps".
use mathlib.Core.Bool.{Bool}
use Rattle.std.specs.Prelude.{◌≡◌, ℕ, ◌+◌, ◌*◌, ◌&&◌, if◌then◌else◌, nat_eq, min, max, List, Option, Some, None}
use Rattle.std.specs.List.{AllByRecursion}
use Rattle.hep_races.specs.declared.event.Access.{Access}
use Rattle.hep_races.specs.declared.event.StepAccess.{StepAccess}
use Rattle.hep_races.specs.declared.rows.Row.{Row}
use Rattle.hep_races.specs.declared.rows.SitePair.{SitePair}

-- a site as one number: twice that of its place, and one more where it stores
abbrev pub site_code : Access → ℕ
site_code a = if a.stores then 2 * a.site + 1 else 2 * a.site

-- the sites of two accesses, the lower number first
abbrev pub pair_of : StepAccess → StepAccess → SitePair
pair_of d y =
    record { lower = min (site_code d.access) (site_code y.access); upper = max (site_code d.access) (site_code y.access) }

-- the test of `==`, by which rows are looked up
abbrev pub pair_eq : SitePair → SitePair → Bool
pair_eq p q = nat_eq p.lower q.lower && nat_eq p.upper q.upper

-- each row is under its sites
abbrev pub AreUnderSites : List (SitePair × Row) → Type 0
AreUnderSites es = AllByRecursion (λ (e : SitePair × Row). e.0 ≡ pair_of e.1.first e.1.second) es

-- the row of two accesses that race: one more in the row of their sites, or the first one
abbrev pub next_row : Option Row → StepAccess → StepAccess → Row
next_row None d y = record { first = d; second = y; times = 1 }
next_row (Some r) d y = record r { times = r.times + 1 }
