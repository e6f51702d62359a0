-- `rejoined` makes the vector of a region and its lease again. Assumes `Logic`.
use Rattle.std.proofs.Common.{◌≡◌, ℕ, ◌-◌, ◌*◌, ◌^◌, ◌<◌, List, [], ◌∷◌, ◌++◌, length, refl, sym, ap, ◌∙◌, arith, w64, not, Bool, ne_eqb}
use Rattle.std.specs.Mem.{type_size}
use Rattle.std.specs.contracts.alloc.Global as heap
use Rattle.std.specs.contracts.impls.GlobalAllocator.TheImpl.{ghosts}
use Rattle.std.specs.contracts.vec.Vec as vector
use Rattle.std.proofs.raw_atomic.Walks.{proved_at, leaves}
use Rattle.std_alloc.specs.Vec.Ownership.{owns_if}
use Rattle.core.specs.Allocator.{block_with_items, array_of}
use base.Fml.{Fml, ftrue, fsep, feq}
use base.Fraction.{full_share}
use base.Logic.{SProp, emp, never, id⊢}
use contract.Monad.{fact, fact_i}
use contract.Running.{tables}
use mir.Syntax.{Fn}
use mir.Val.{WT, vunit, Val, vint, vstruct, vcons, vnil, of_list}
use prog.Memory.{size}
use prog.Wp.{WpFn}
use types.ByLocal.{alloc_all, pass_all, free_all, look_at, get, get_in, sets}
use types.Kit.{‵, raw, ◌⊛◌, prop, ◌$◌, ◌∵◌, !, qed, by, move, keep, drop, use0, use1, split, rewrite, regoal, fsplit, fjoin, feq_i, feq_l, flt_l, flt_i, fpick}
use types.Part.{whole, sub}
use types.Run.{stop, fld, of_opd, returns, enter}
use denote.Array.{Array}
use denote.ArrayMemory.{Array-apart, Array-whole}
use denote.Exit.{yes}
use denote.Index.{row}
use denote.Laws.{shows}
use denote.Memory.{lone, part_at}
use denote.RattleType.{RattleType, owns}
use denote.RawPtr.{lies_at, room_for, ◌+ₚ◌, Ptr, block_ptr, ptr_val, in_a_block, in_block}
use denote.Signature.{types_at, plain}
use denote.Steps.{nothing, heard, peeks}
use denote.Struct.Owning.{shape}
use denote.Struct.Struct.{Struct}
use denote.Triple.Walked.{Stays, stay_dropped, walk_of, Goes-dropped}
use Rattle.hep_arena.specs.contracts.cell.Cell.{the_row as S}
use Rattle.hep_arena.specs.Leases.{vec_type}
use Rattle.hep_arena.specs.contracts.region.Region.{the_row as R}
use Rattle.hep_arena.specs.contracts.region.Lease.{the_row as L}
use Rattle.hep_arena.specs.contracts.region.rejoined as f
use Rattle.hep_arena.proofs.region.rejoined.Statement.{statement}
use Rattle.hep_arena.proofs.region.rejoined.Code as code

abbrev V : RattleType
V = vector.the_row S heap.the_row ghosts

abbrev region_val : Ptr → ℕ → Val
region_val p n = vstruct (vcons (ptr_val p) (vcons (vint w64 n) vnil))

abbrev stayed : Stays f.ended.signature.params f.ended.kept
stayed = (stay_dropped (plain (λ _. R)) yes, (stay_dropped (plain (λ _. L)) yes, tt))

pub rejoined_spec : {M : Type 1} → statement M
rejoined_spec 𝓤 𝓛 𝓜 𝓡 wired =
    let H = 𝓛.H in let c = f.clauses 𝓛 𝓜.mem 𝓡.returns in let fn : Fn = code.function in let 𝓣 = tables 𝓤 H 𝓜 𝓡 𝓡.env in
    proved_at 𝓛 f.ended stayed c 𝓜 𝓡 (Goes-dropped 𝓛 0 (plain (λ _. R)) yes (λ κs x w. refl), (Goes-dropped 𝓛 0 (plain (λ _. L)) yes (λ κs x w. refl), tt))
    f.Key.name fn (code.unfolded 𝓤 H 𝓜 𝓡 wired) (λ z are.
    let Post : Val → SProp 𝓤 = (walk_of 𝓛 f.ended stayed c).post z in
    let a = z.0.3 in let vss = z.0.4 in let mem' = a.0.memory in let rl = a.0.cells in let rs = a.0.slots in let x = a.1.0 in let n = x.len in let cap = x.cap in
    let Asked : Type 0 = (mem' ≡ x.ptr) × (rl ≡ n) × (0 < cap) in
    let Fields : RattleType = Struct (shape vec_type) in
    let rest_after : Ptr → Fml = λ r. fsep (room_for (array_of S (cap - n)) (r +ₚ n * size (lone S.mir))) (ghosts.dealloc_token x.alloc (array_of S cap) r) in
    let block : Ptr → Fml = λ r. block_with_items (ghosts.dealloc_token x.alloc) S r n cap rs in
    qed 𝓛 ((‵ ftrue ⊛ ‵ (owns (types_at f.ended.signature.params z.0.0) a vss)) ∷ raw (fact 𝓤 Asked) ∷ []) ∵
    move ! (1 ∷ []) $ heard ! Asked (λ asked. split ! $ move ! (1 ∷ []) $ fsplit ! $ fsplit ! $ move ! (1 ∷ []) $ fsplit ! $ drop ! $ let some = asked.2 in
    in_a_block ! mem' (λ r. lies_at (Array S rl) full_share r rs) (id⊢ 𝓤 (never 𝓤)) (λ b o at0. let p : Ptr = block_ptr b o in let at : x.ptr ≡ p = sym asked.0 ∙ at0 in
    use1 𝓛 (‵ (fsep (feq ℕ (length rs) rl) (row S full_share rs b o))) (Array-apart 𝓛 S full_share tt rl rs b o) $ fsplit ! $ feq_l ! (λ count.
    feq_i ! ℕ (length rs) n (count ∙ asked.1) $ fjoin ! $ use1 𝓛 (‵ (part_at (Array S n) full_share rs b o)) (Array-whole 𝓛 S full_share n rs b o) $
    move ! (2 ∷ []) $ fsplit ! $ fsplit ! $ drop ! $ fpick ! (λ us. fsplit ! $ feq_l ! (λ e. fsplit ! $ move ! (1 ∷ []) $ fsplit ! $ flt_l ! (λ small. move ! (1 ∷ []) $
    peeks ! Fields _ (shows 𝓛 Fields) (x.ptr, (n, (cap, (x.alloc, tt)))) us (λ is.
    let words = is.1.1 in let fn' = words.1.0.1 in let fc = words.1.1.0.1 in let h = words.1.1.1.0 in let m = h.1.1.0 in
    let handle : Val = vstruct (vcons (vstruct (vcons vunit vnil)) vnil) in
    let held = h.1.0 ∙ (λ i. vstruct (of_list ((m.1.0 ∙ (λ j. vstruct (of_list (m.1.1.0 j ++ [])) ∷ [])) i ++ [])) ∷ []) in
    let laid : Ptr → Val = λ r. vstruct (vcons (ptr_val r) (vcons (vint w64 n) (vcons (vint w64 cap) (vcons handle vnil)))) in
    let reported : us ≡ laid p ∷ [] = is.1.0 ∙ (λ i. vstruct (of_list (words.0 i ++ (words.1.0.0 i ++ (words.1.1.0.0 i ++ (held i ++ []))))) ∷ []) ∙ ap (λ (r : Ptr). laid r ∷ []) at in
    let lease : Val = vstruct (vcons (laid p) vnil) in
    let of_vec : WT (laid p) = (tt, (record { fits = fn' }, (record { fits = fc }, (((tt, tt), tt), tt)))) in
    let first : vss.0 ≡ region_val p rl ∷ [] = are.0.0.1.0 ∙ (λ i. vstruct (of_list (are.0.0.1.1.0 i ++ (are.0.0.1.1.1.0.0 i ++ []))) ∷ []) ∙ ap (λ (r : Ptr). region_val r rl ∷ []) at0 in
    let second : vss.1.0 ≡ lease ∷ [] = e ∙ (λ i. vstruct (of_list (reported i)) ∷ []) in
    rewrite ! 0 (λ (us : List Val). ‵ (Fields.own_val (x.ptr, (n, (cap, (x.alloc, tt)))) us)) reported refl $
    rewrite ! 1 (λ (r : Ptr). ‵ (rest_after r)) at refl $ keep ! (0 ∷ 1 ∷ 3 ∷ []) $
    regoal ! (λ (us : List Val). prop (WpFn 𝓤 H 𝓣.C 𝓣.Λ fn us Post)) (λ i. first i ++ (second i ++ [])) refl $
    enter ! 𝓣.C 𝓣.Λ fn (region_val p rl ∷ lease ∷ []) Post $
    alloc_all ! (λ l. pass_all ! refl ((tt, (tt, (record { fits = are.0.0.1.1.1.0.1 }, tt))), ((tt, (of_vec, tt)), tt)) $
    sets ! (of_opd ! (get_in ! (fld ! refl (stop !)) (sub ! 0 refl (whole !)))) refl (tt, of_vec) $
    sets ! (of_opd ! (get ! refl)) refl (tt, of_vec) $
    returns ! (look_at ! 0 refl) $ free_all ! refl $
    let d : V.Denot = record x { items = rs; ok = (sym asked.1 ∙ sym count, x.ok.1) } in
    -- [the fields; what follows the items; the items]
    move ! (2 ∷ 1 ∷ []) $ fjoin ! $ rewrite ! 0 (λ (r : Ptr). ‵ (in_block r (block r))) (sym at) refl $
    rewrite ! 0 (λ (t : Bool). ‵ (in_block x.ptr (owns_if (not t) (block x.ptr)))) (sym (ne_eqb cap 0 (λ none. omega arith))) refl $
    flt_i ! (cap * type_size S) (2 ^ 63) small $ fjoin ! $ move ! (1 ∷ 0 ∷ []) $ fjoin ! $
    use0 𝓛 (raw (fact 𝓤 (rs ≡ rs))) (fact_i 𝓤 (rs ≡ rs) (emp 𝓤) refl) $ nothing ! $ nothing ! $ fjoin ! $ nothing ! $ fjoin ! $ nothing ! $ move ! (0 ∷ 1 ∷ 3 ∷ 2 ∷ []) $
    by ! (leaves 𝓛 f.ended stayed c z (laid p) d (tt, (tt, tt)) (tt, (tt, tt))))))))))))
