-- `parted` takes a vector apart: its items are a region, and the rest a lease. Assumes `Logic`.
use Rattle.std.proofs.Common.{◌≡◌, ℕ, ◌-◌, ◌*◌, ◌^◌, ◌<◌, List, [], ◌∷◌, ◌++◌, refl, sym, ap, ◌∙◌, arith, w64, not, Bool, ne_eqb}
use Rattle.std.specs.Mem.{type_size}
use Rattle.std.specs.contracts.alloc.Global as heap
use Rattle.std.specs.contracts.impls.GlobalAllocator.TheImpl.{ghosts}
use Rattle.std.specs.contracts.vec.Vec as vector
use Rattle.std.proofs.raw_atomic.Walks.{proved_at, leaves}
use Rattle.std_alloc.specs.Vec.Ownership.{owns_if}
use Rattle.std_alloc.proofs.Pairs.{pair_of, pair_val}
use Rattle.core.specs.Allocator.{block_with_items, array_of}
use Rattle.core.proofs.ptr.Rows.{times_below}
use seplogic.Ra.Ura.{Ura}
use base.Fml.{Fml, ftrue, fsep, feq, flt}
use base.Logic.{ent, SProp, emp, never, id⊢}
use contract.Monad.{fact, fact_i}
use contract.Running.{tables}
use mir.Syntax.{Fn}
use mir.Val.{WT, vunit, Val, vint, vptr, vstruct, vcons, vnil, of_list}
use prog.Memory.{size}
use prog.Wp.{WpFn}
use types.ByLocal.{alloc_all, pass_all, free_all, look_at, get, sets}
use types.Kit.{‵, raw, ◌⊛◌, prop, ◌$◌, ◌∵◌, !, qed, by, move, keep, use0, use2, split, rewrite, regoal, fsplit, fsplit3, fjoin, fpack, feq_i, flt_l, flt_i}
use types.Logic.{Logic, sem}
use types.Part.{agg}
use types.Run.{of_opd, no_more, and_then, returns, enter}
use denote.Builtin.{usize}
use denote.Exit.{yes}
use denote.Laws.{Typed}
use denote.Memory.{lone}
use denote.RattleType.{RattleType, owns}
use denote.RawPtr.{room_for, ◌+ₚ◌, Ptr, RawPtr, block_ptr, ptr_val, in_a_block, in_block}
use denote.Shadow.{makes_shadow}
use denote.Signature.{types_at, plain}
use denote.Steps.{nothing, heard}
use denote.Struct.Owning.{shape}
use denote.Struct.Struct.{Struct}
use denote.Struct.Tuple.{Tuple}
use denote.Triple.Walked.{Stays, stay_dropped, walk_of, Goes-dropped}
use Rattle.hep_arena.specs.contracts.cell.Cell.{the_row as S}
use Rattle.hep_arena.specs.Leases.{vec_type}
use Rattle.hep_arena.specs.contracts.region.Region.{the_row as R, the_type}
use Rattle.hep_arena.specs.contracts.region.Lease.{the_row as L}
use Rattle.hep_arena.specs.contracts.region.parted as f
use Rattle.hep_arena.proofs.region.parted.Statement.{statement}
use Rattle.hep_arena.proofs.region.parted.Code as code

abbrev V : RattleType
V = vector.the_row S heap.the_row ghosts

-- a region's fields
abbrev region_val : Ptr → ℕ → Val
region_val p n = vstruct (vcons (ptr_val p) (vcons (vint w64 n) vnil))

abbrev region_fields : Ptr → ℕ → List Val → Fml
region_fields p n = (Struct (shape the_type)).own_val (p, (n, tt))

fields_made : {M : Type 1} {𝓤 : Ura M} (𝓛 : Logic 𝓤) (p : Ptr) (n : ℕ) → n < 2 ^ 64 → ent 𝓤 (emp 𝓤) (sem 𝓛 (region_fields p n (region_val p n ∷ [])))
fields_made 𝓛 p n fits = makes_shadow 𝓛 (region_fields p n (region_val p n ∷ [])) (λ _. (tt, (tt, ((tt, tt), tt)))) ((ptr_val p ∷ [], (vint w64 n ∷ [], tt)), (refl, (refl, ((refl, fits), tt))))

abbrev stayed : Stays f.ended.signature.params f.ended.kept
stayed = (stay_dropped (plain (λ _. V)) yes, (stay_dropped (plain (λ _. RawPtr)) yes, (stay_dropped (plain (λ _. usize)) yes, tt)))

pub parted_spec : {M : Type 1} → statement M
parted_spec 𝓤 𝓛 𝓜 𝓡 wired =
    let H = 𝓛.H in let c = f.clauses 𝓛 𝓜.mem 𝓡.returns in let fn : Fn = code.function in let 𝓣 = tables 𝓤 H 𝓜 𝓡 𝓡.env in
    proved_at 𝓛 f.ended stayed c 𝓜 𝓡 (Goes-dropped 𝓛 0 (plain (λ _. V)) yes (λ κs x w. refl), (Goes-dropped 𝓛 0 (plain (λ _. RawPtr)) yes (λ κs x w. refl), (Goes-dropped 𝓛 0 (plain (λ _. usize)) yes (λ κs x w. refl), tt)))
    f.Key.name fn (code.unfolded 𝓤 H 𝓜 𝓡 wired) (λ z are.
    let Post : Val → SProp 𝓤 = (walk_of 𝓛 f.ended stayed c).post z in
    let a = z.0.3 in let vss = z.0.4 in let x = a.0 in let n = x.len in let cap = x.cap in let xs = x.items in
    let Asked : Type 0 = (a.1.0 ≡ x.ptr) × (a.1.1.0 ≡ n) × (0 < cap) in
    let block : Ptr → Fml = λ r. block_with_items (ghosts.dealloc_token x.alloc) S r n cap xs in
    let Fields : RattleType = Struct (shape vec_type) in
    let rest_after : Ptr → Fml = λ r. fsep (room_for (array_of S (cap - n)) (r +ₚ n * size (lone S.mir))) (ghosts.dealloc_token x.alloc (array_of S cap) r) in
    qed 𝓛 ((‵ ftrue ⊛ ‵ (owns (types_at f.ended.signature.params z.0.0) a vss)) ∷ raw (fact 𝓤 Asked) ∷ []) ∵
    move ! (1 ∷ []) $ heard ! Asked (λ asked. split ! $ move ! (1 ∷ []) $ fsplit3 ! $ fsplit ! $ move ! (1 ∷ []) $ fsplit ! $ flt_l ! (λ small. let some = asked.2 in
    rewrite ! 0 (λ (t : Bool). ‵ (in_block x.ptr (owns_if (not t) (block x.ptr)))) (ne_eqb cap 0 (λ none. omega arith)) refl $
    in_a_block ! x.ptr (λ r. in_block r (block r)) (id⊢ 𝓤 (never 𝓤)) (λ b o at. let p : Ptr = block_ptr b o in
    let words = are.0.0.1.1 in let fn' = words.1.0.1 in let fc = words.1.1.0.1 in let h = words.1.1.1.0 in let m = h.1.1.0 in
    let handle : Val = vstruct (vcons (vstruct (vcons vunit vnil)) vnil) in
    let held = h.1.0 ∙ (λ i. vstruct (of_list ((m.1.0 ∙ (λ j. vstruct (of_list (m.1.1.0 j ++ [])) ∷ [])) i ++ [])) ∷ []) in
    let laid : Ptr → Val = λ r. vstruct (vcons (ptr_val r) (vcons (vint w64 n) (vcons (vint w64 cap) (vcons handle vnil)))) in
    let reported : vss.0 ≡ laid p ∷ [] = are.0.0.1.0 ∙ (λ i. vstruct (of_list (words.0 i ++ (words.1.0.0 i ++ (words.1.1.0.0 i ++ (held i ++ []))))) ∷ []) ∙ ap (λ (r : Ptr). laid r ∷ []) at in
    fsplit ! $ move ! (1 ∷ []) $ rewrite ! 0 (λ (r : Ptr). ‵ (rest_after r)) (sym at) refl $
    rewrite ! 2 (λ (us : List Val). ‵ (Fields.own_val (x.ptr, (n, (cap, (x.alloc, tt)))) us)) reported refl $ keep ! (0 ∷ 1 ∷ 2 ∷ []) $
    regoal ! (λ (us : List Val). prop (WpFn 𝓤 H 𝓣.C 𝓣.Λ fn us Post)) (λ i. reported i ++ ((are.1.0 ∙ ap (λ (r : Ptr). ptr_val r ∷ []) (asked.0 ∙ at)) i ++ ((are.1.1.0.0 ∙ ap (λ (j : ℕ). vint w64 j ∷ []) asked.1) i ++ []))) refl $
    enter ! 𝓣.C 𝓣.Λ fn (laid p ∷ vptr b o ∷ vint w64 n ∷ []) Post $
    alloc_all ! (λ l. pass_all ! refl ((tt, (tt, (record { fits = fn' }, (record { fits = fc }, (((tt, tt), tt), tt))))), ((tt, tt), ((tt, record { fits = fn' }), tt))) $
    let of_vec : WT (laid p) = (tt, (record { fits = fn' }, (record { fits = fc }, (((tt, tt), tt), tt)))) in let of_region : WT (region_val p n) = (tt, (record { fits = fn' }, tt)) in
    sets ! (agg ! (and_then ! (get ! refl) (and_then ! (get ! refl) (no_more !)))) refl (tt, of_region) $
    sets ! (of_opd ! (get ! refl)) refl (tt, of_vec) $
    sets ! (agg ! (and_then ! (get ! refl) (no_more !))) refl (tt, (of_vec, tt)) $
    sets ! (agg ! (and_then ! (get ! refl) (and_then ! (get ! refl) (no_more !)))) refl (tt, (of_region, ((of_vec, tt), tt))) $
    returns ! (look_at ! 0 refl) $ free_all ! refl $
    let Reported : Type 0 = (xs ≡ xs) × (p ≡ x.ptr) × (n ≡ n) × (x ≡ x) in let lease : Val = vstruct (vcons (laid p) vnil) in let v : Val = pair_val (region_val p n) lease in
    let d : R.Denot = record { memory = p; cells = n; slots = xs } in
    -- [what follows the items; the items; the vector's fields]
    flt_i ! (cap * type_size S) (2 ^ 63) small $ fjoin ! $ move ! (2 ∷ 0 ∷ []) $ fjoin ! $ feq_i ! (List Val) (lease ∷ []) (vstruct (of_list (laid p ∷ [])) ∷ []) refl $ fjoin ! $
    fpack ! (List Val) (λ us. fsep (feq (List Val) (lease ∷ []) (vstruct (of_list us) ∷ [])) (fsep (Fields.own_val (x.ptr, (n, (cap, (x.alloc, tt)))) us) (fsep (flt (cap * type_size S) (2 ^ 63)) (rest_after x.ptr)))) (laid p ∷ []) $
    nothing ! $ fpack ! (Typed L.mir (lease ∷ [])) (λ _. ftrue) ((tt, (of_vec, tt)), tt) $ fjoin ! $
    move ! (1 ∷ []) $ flt_i ! (n * type_size S) (2 ^ 63) (times_below n cap (type_size S) (2 ^ 63) (x.ok.1) small) $ fjoin ! $
    use0 𝓛 (‵ (region_fields p n (region_val p n ∷ []))) (fields_made 𝓛 p n fn') $ fjoin ! $
    use2 𝓛 (‵ ((Tuple (R ∷ L ∷ [])).own_val (d, x) (v ∷ []))) (pair_of 𝓛 R L d x (region_val p n) lease) $
    use0 𝓛 (raw (fact 𝓤 Reported)) (fact_i 𝓤 Reported (emp 𝓤) (refl, sym at, refl, refl)) $ nothing ! $ nothing ! $ fjoin ! $ nothing ! $ fjoin ! $ nothing ! $ fjoin ! $ nothing ! $ move ! (0 ∷ 1 ∷ 3 ∷ 2 ∷ []) $
    by ! (leaves 𝓛 f.ended stayed c z v (d, x) (tt, (tt, (tt, tt))) (tt, (tt, (tt, tt)))))))))
