-- `slots_mut` lends all slots. Assumes `Logic`.
use Rattle.std.proofs.Common.{◌≡◌, ℕ, ◌*◌, ◌<◌, ◌^◌, List, [], ◌∷◌, length, refl, sym, ap, subst, ◌∙◌, MutBor}
use Rattle.std.specs.Mem.{type_size}
use Rattle.std.proofs.raw_atomic.Walks.{proved}
use Rattle.std.proofs.VecSteps.Shapes.{after}
use seplogic.Ra.Ura.{Ura}
use base.Fml.{Fml, GName, ftrue, flft, feq, fsep}
use base.Fraction.{full_share}
use base.Logic.{ent, sep, id⊢}
use contract.Running.{tables}
use mir.Syntax.{named}
use mir.Val.{Val}
use types.ByLocal.{alloc_all, pass_all, free_all, look_at, get, through, sets, sets_last, env}
use types.Kit.{‵, raw, ◌⊛◌, some, later, at_ret, ◌$◌, ◌∵◌, !, qed, done, move, keep, use1, split, join, fsplit, fsplit3, fjoin, flt_l, flt_i, feq_i, feq_l, fpack, pick, await, rewrite, suffices, frame, group}
use types.Logic.{Logic, sem}
use types.Part.{whole, sub, look_in, agg}
use types.Run.{of_opd, load, stop, fld, enter, and_then, no_more, first, blocks, exec, returns, well_typed}
use types.SemTy.{cells}
use denote.Array.{Array}
use denote.ArrayMemory.{Array-apart, Array-whole}
use denote.Exit.{no}
use denote.Follow.{follows}
use denote.FollowSlice.{Elements, lends_Elements}
use denote.Index.{row, whole_in, whole_out}
use denote.Laws.{shows}
use denote.Memory.{mem, part_at, part_of, cell_at}
use denote.RattleType.{RattleType}
use denote.RawPtr.{Ptr, block_ptr, in_a_block, lies_at}
use denote.Ref.{MutRef, mut_vals, mut_Tells}
use denote.Signature.{plain, mut_ref_to}
use denote.Slice.{MutSlice, slice_val}
use denote.Steps.{nothing, opens, peeks}
use denote.Struct.Owning.{shape}
use denote.Struct.Struct.{Struct}
use denote.Triple.Walked.{Stays, walk_of, says, stay_dropped, ends_at, Goes-spent_ref}
use Rattle.hep_machine.specs.declared.slot.Slot.{Slot}
use Rattle.hep_arena.specs.contracts.cell.Cell.{the_row as S}
use Rattle.hep_arena.specs.declared.region.Region.{Region}
use Rattle.hep_arena.specs.Lending.{with_slots}
use Rattle.hep_arena.specs.contracts.region.Region.{the_type, the_row as R}
use Rattle.hep_arena.specs.contracts.region.Region.slots_mut as f
use Rattle.hep_arena.proofs.region.Region.TheLaws.{lowers}
use Rattle.hep_arena.proofs.region.Region.slots_mut.Statement.{statement}
use Rattle.hep_arena.proofs.region.Region.slots_mut.Code as code

abbrev stayed : Stays f.ended.signature.params f.ended.kept
stayed = (stay_dropped (mut_ref_to (0 ∷ []) tt (plain (λ _. R))) no, tt)

abbrev Fields : RattleType
Fields = Struct (shape the_type)

module _ {M : Type 1} {𝓤 : Ura M} (𝓛 : Logic 𝓤) (h : Region) (rb ro b o : ℕ) (e : h.memory ≡ block_ptr b o) (us : List Val) where
  -- the region without its slots
  abbrev Rest : Fml
  Rest = fsep (Fields.own_val (h.memory, (h.cells, tt)) us) (cell_at full_share R.mir us rb ro)

  ended : h.cells * type_size S < 2 ^ 63 → length h.slots ≡ h.cells → (ws : List Slot) → length ws ≡ length h.slots
      → ent 𝓤 (sep 𝓤 (sem 𝓛 (cells (mem S) ws b o)) (sem 𝓛 Rest)) (sem 𝓛 ((mem R).own_at (with_slots h ws) rb ro))
  unfolding part_of
  ended small count ws l =
      qed 𝓛 (‵ (cells (mem S) ws b o) ∷ ‵ Rest ∷ []) ∵ use1 𝓛 (‵ (row S full_share ws b o)) (whole_out 𝓛 S ws b o) $
      feq_i ! ℕ (length ws) h.cells (l ∙ count) $ fjoin ! $ use1 𝓛 (‵ (part_at (Array S h.cells) full_share ws b o)) (Array-whole 𝓛 S full_share h.cells ws b o) $
      rewrite ! 0 (λ (p : Ptr). ‵ (lies_at (Array S h.cells) full_share p ws)) (sym e) refl $
      flt_i ! (h.cells * type_size S) (2 ^ 63) small $ fjoin ! $ move ! (1 ∷ []) $ fsplit ! $ move ! (0 ∷ 2 ∷ 1 ∷ []) $ fjoin ! $ move ! (1 ∷ 0 ∷ []) $ fjoin ! $
      fpack ! (List Val) (λ vs. fsep (cell_at full_share R.mir vs rb ro) (R.own_val (with_slots h ws) vs)) us $ done !

pub slots_mut_spec : {M : Type 1} → statement M
slots_mut_spec 𝓤 𝓛 𝓜 𝓡 wired =
    let c = f.clauses 𝓛 𝓜.mem 𝓡.returns in let W = walk_of 𝓛 f.ended stayed c in let 𝓣 = tables 𝓤 𝓛.H 𝓜 𝓡 𝓡.env in
    proved 𝓛 f.ended stayed c 𝓜 𝓡 (Goes-spent_ref 𝓛 1 (0 ∷ []) tt (plain (λ _. R)), tt)
    f.Key.name code.function (code.unfolded 𝓤 𝓛.H 𝓜 𝓡 wired)
    (λ κs. (mut_vals, tt)) (λ κs. (mut_Tells (named 0) κs.0 R, tt)) (λ κs qs bounds a _ are.
    let κ = κs.0 in let q = qs.0 in let γ = a.0.ghost_name in
    let rb = a.0.ref_ptr.0 in let ro = a.0.ref_ptr.1 in let h = a.0.now in let vs = mut_vals a.0 in
    let y : W.Ghost = ((κs, qs, bounds, a, (vs, tt)), tt) in
    qed 𝓛 (((‵ (flft κ q) ⊛ ‵ ftrue) ⊛ ‵ ((MutRef (named 0) κ R).own_val a.0 vs) ⊛ ‵ ftrue) ∷ ‵ ftrue ∷ []) ∵
    split ! $ split ! $ move ! (2 ∷ []) $ split ! $ keep ! (0 ∷ 2 ∷ []) $
    enter ! _ _ _ _ _ $ alloc_all ! (λ l. pass_all ! refl ((tt, tt), tt) $
    fsplit3 ! $ move ! (1 ∷ 2 ∷ 3 ∷ []) $ opens ! tt R rb ro (λ us.
    move ! (1 ∷ []) $ peeks ! R _ (shows 𝓛 R) h us (λ is. fsplit ! $ move ! (1 ∷ []) $ fsplit ! $ flt_l ! (λ small.
    in_a_block ! h.memory (λ p. lies_at (Array S h.cells) full_share p h.slots) (id⊢ 𝓤 _) (λ b o e.
    use1 𝓛 (‵ (fsep (feq ℕ (length h.slots) h.cells) (row S full_share h.slots b o))) (Array-apart 𝓛 S full_share tt h.cells h.slots b o) $ fsplit ! $ feq_l ! (λ count.
    use1 𝓛 (‵ (cells (mem S) h.slots b o)) (whole_in 𝓛 S h.slots b o) $
    let word = lowers.val_is h us is ∙ ap (λ (p : Ptr). lowers.lowered (record h { memory = p }) ∷ []) e in
    let Cell = λ (ws : List Val). ‵ (cell_at full_share R.mir ws rb ro) in
    -- [the slots; what the fields own; the region's cell; the open borrow, in three entries]
    rewrite ! 2 Cell word refl $ move ! (2 ∷ []) $ well_typed ! (λ ok. move ! (1 ∷ 2 ∷ 0 ∷ []) $
    let fn = ok.1.1.0 in let few = fn.fits in let bytes = subst (λ (k : ℕ). k * type_size S < 2 ^ 63) (sym count) small in
    let fits = subst (λ (k : ℕ). k < 2 ^ 64) (sym count) few in
    first ! $ blocks ! $
    sets ! (of_opd ! (load ! (through ! refl (fld ! refl (stop !))) (look_in ! 2 (sub ! 0 refl (whole !))))) refl (tt, tt) $
    sets ! (of_opd ! (load ! (through ! refl (fld ! refl (stop !))) (look_in ! 2 (sub ! 1 refl (whole !))))) refl (tt, fn) $
    sets_last ! (agg ! (and_then ! (get ! refl) (and_then ! (get ! refl) (no_more !)))) refl (tt, (tt, (fn, tt))) $
    exec ! 𝓣.C 𝓣.Λ (env code.Mir.locals l) (after 1 (code.function).body) (at_ret _ (W.post y)) $
    sets ! (of_opd ! (get ! refl)) refl (tt, (tt, (fn, tt))) $
    rewrite ! 2 Cell (sym word) refl $ move ! (1 ∷ 2 ∷ []) $ fjoin ! $ move ! (2 ∷ 3 ∷ 4 ∷ 1 ∷ 0 ∷ []) $ group ! 5 $
    use1 𝓛 (later (some (λ (δ : GName). raw (Elements 𝓛 R S (with_slots h) (named 0) κ q rb ro b o γ h.slots (fits, bytes) (sem 𝓛 (Rest 𝓛 h rb ro b o e us)) (ended 𝓛 h rb ro b o e us small count) δ))))
    (lends_Elements 𝓛 R S (with_slots h) (named 0) κ q rb ro b o γ h.slots (fits, bytes) (sem 𝓛 (Rest 𝓛 h rb ro b o e us)) (ended 𝓛 h rb ro b o e us small count) (R.coded.code h) (R.coded.code h)) $ await ! tt $ pick ! (λ δ.
    returns ! (look_at ! 0 refl) $ free_all ! refl $ keep ! (0 ∷ []) $
    let loan : MutBor (List Slot) = record { ref_ptr = (b, o); ghost_name = δ; now = h.slots } in
    use1 𝓛 (‵ ((MutSlice (named 0) κ S).own_val loan (slice_val (b, o) (length h.slots) ∷ [])) ⊛ ‵ (flft κ q) ⊛ ‵ (follows R (Array S 0) γ δ (with_slots h))) (id⊢ 𝓤 _) $ split ! $ move ! (1 ∷ []) $ split ! $ move ! (2 ∷ 0 ∷ 1 ∷ []) $
    rewrite ! 0 (λ (j : ℕ). ‵ ((MutSlice (named 0) κ S).own_val loan (slice_val (b, o) j ∷ []))) count refl $
    suffices ! _ (ends_at 𝓛 f.ended stayed c y (slice_val (b, o) h.cells) loan (tt, tt) (tt, tt)) $
    nothing ! $ nothing ! $ fjoin ! $ join ! $ nothing ! $ move ! (2 ∷ 0 ∷ []) $ join ! $ join ! $ frame ! $ says ! refl $ done !)))))))))
