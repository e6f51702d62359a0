-- A `&` to a region reaches its slots. Assumes `Logic`.
use Rattle.std.proofs.Common.{◌*◌, ◌^◌}
use Rattle.std.specs.Mem.{type_size}
use Rattle.std_alloc.proofs.SharedLaws.{lent_shr_laws}
use Rattle.hep_arena.specs.contracts.cell.Cell.{the_row as S}
use Rattle.hep_arena.proofs.cell.Cell.TheLaws as cell_laws
use Rattle.hep_arena.specs.contracts.region.Region as region
use Rattle.hep_arena.proofs.region.Region.TheLaw.Statement.{statement}
use base.Fml.{flt}
use base.Fraction.{full_share}
use denote.Array.{Array}
use denote.Param.Shared.{copy_shared}
use denote.RawPtr.{lies_at}
use denote.Shares.{Shares-Array}
use denote.Sharing.{said}
use denote.Struct.Field.{RawPtr-field, usize-field}
use denote.Struct.Laws.{RawPtr-copy, usize-copy}
use denote.Struct.Lending.{lent_at, Lends-lies, Lends-said, Lends-both, of_Lends}

pub shares : statement
shares = of_Lends region.struct region.the_codes region.the_heap region.the_lent (λ d p. lent_shr_laws S cell_laws.the_row_laws.shr_laws d.memory d.cells d.cells d.slots)
    (copy_shared RawPtr-field RawPtr-copy, (copy_shared usize-field usize-copy, tt))
    (λ M 𝓤 𝓛 d p.
    let l = region.the_row.lives in
    let small = flt (d.cells * type_size S) (2 ^ 63) in
    Lends-both 𝓛 small (lies_at (Array S d.cells) full_share d.memory d.slots) (said small) (lent_at (Array S d.cells) d.memory d.slots) l (Lends-said 𝓛 small tt l)
    (Lends-lies 𝓛 (Array S d.cells) l d.memory d.slots (Shares-Array 𝓛 S tt d.cells l (cell_laws.the_row_laws.shares 𝓛) d.slots)))
