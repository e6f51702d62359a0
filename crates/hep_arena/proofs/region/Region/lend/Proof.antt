-- `lend` lends a run of the slots. Assumes `Logic`.
use Rattle.std.proofs.Common.{w64, ◌≡◌, ℕ, ◌+◌, ◌-◌, ◌*◌, ◌<◌, ◌≤◌, ◌^◌, List, [], ◌∷◌, ◌++◌, length, take, drop as drop_l, refl, sym, ap, subst, ◌∙◌, arith, MutBor}
use Rattle.std.proofs.raw_atomic.Walks.{proved}
use Rattle.std.proofs.VecSteps.Shapes.{after}
use seplogic.Ra.Ura.{Ura}
use base.Fml.{Fml, GName, ftrue, flft, feq, fsep}
use base.Fraction.{full_share}
use base.Logic.{ent, sep, id⊢}
use contract.Monad.{fact}
use contract.Running.{tables}
use mir.Syntax.{named}
use mir.Val.{Val}
use types.ByLocal.{alloc_all, pass_all, free_all, look_at, get, through, sets, sets_last, env}
use types.Kit.{‵, raw, ◌⊛◌, some, later, at_ret, ◌$◌, ◌∵◌, !, qed, done, move, keep, use1, use3, split, join, fsplit, fsplit3, fjoin, flt_l, flt_i, feq_i, feq_l, fpack, pick, await, rewrite, suffices, frame, group}
use types.Logic.{Logic, sem}
use types.Part.{whole, sub, look_in, agg}
use types.Run.{of_opd, lit, bin, load, stop, fld, enter, and_then, no_more, first, blocks, exec, returns}
use types.SemTy.{cells}
use denote.Array.{Array}
use denote.ArrayMemory.{Array-apart, Array-whole}
use denote.Builtin.{usize}
use denote.Exit.{yes, no}
use denote.Follow.{follows}
use denote.FollowSlice.{Elements, lends_Elements}
use denote.Index.{row, whole_in, whole_out}
use denote.Laws.{shows}
use denote.Memory.{mem, part_at, part_of, cell_at}
use denote.Plain.{uint_vals, uint_Tells}
use denote.RattleType.{RattleType}
use denote.RawPtr.{Ptr, block_ptr, in_a_block, lies_at}
use denote.Ref.{MutRef, mut_vals, mut_Tells}
use denote.Signature.{plain, mut_ref_to}
use denote.Slice.{MutSlice, Room, slice_val}
use denote.Steps.{nothing, heard, opens, peeks}
use denote.Struct.Owning.{shape}
use denote.Struct.Struct.{Struct}
use denote.Triple.Walked.{Stays, walk_of, says, stay_dropped, Goes-dropped, ends_at, Goes-spent_ref}
use Rattle.hep_machine.specs.declared.slot.Slot.{Slot}
use Rattle.hep_arena.specs.contracts.cell.Cell.{the_row as S}
use Rattle.hep_arena.specs.declared.region.Region.{Region}
use Rattle.hep_arena.specs.Lending.{with_run, with_slots_run}
use Rattle.hep_arena.specs.contracts.region.Region.{the_type, the_row as R}
use Rattle.hep_arena.specs.contracts.region.Region.lend as f
use Rattle.hep_arena.proofs.Rows.{size, begins, front, run, back, ends, length-run, length-replaced, taken_out, put_back, with_run-is}
use Rattle.hep_arena.proofs.region.Region.TheLaws.{lowers}
use Rattle.hep_arena.proofs.region.Region.lend.Statement.{statement}
use Rattle.hep_arena.proofs.region.Region.lend.Code as code

abbrev stayed : Stays f.ended.signature.params f.ended.kept
stayed = let number = stay_dropped (plain (λ _. usize)) yes in (stay_dropped (mut_ref_to (0 ∷ []) tt (plain (λ _. R))) no, (number, (number, tt)))

abbrev Fields : RattleType
Fields = Struct (shape the_type)

module _ {M : Type 1} {𝓤 : Ura M} (𝓛 : Logic 𝓤) (h : Region) (rb ro b o : ℕ) (e : h.memory ≡ block_ptr b o) (us : List Val) (i m : ℕ) (inside : i + m ≤ length h.slots) where
  abbrev xs : List Slot
  xs = h.slots

  abbrev Lent : List Slot
  Lent = run xs o i m

  abbrev p : ℕ
  p = begins xs o i m

  -- the region without the run
  abbrev Rest : Fml
  Rest = fsep (row S full_share (front xs o i m) b o) (fsep (row S full_share (back xs o i m) b (ends xs o i m)) (fsep (Fields.own_val (h.memory, (h.cells, tt)) us) (cell_at full_share R.mir us rb ro)))

  ended : h.cells * size < 2 ^ 63 → length xs ≡ h.cells → (ws : List Slot) → length ws ≡ length Lent
      → ent 𝓤 (sep 𝓤 (sem 𝓛 (cells (mem S) ws b p)) (sem 𝓛 Rest)) (sem 𝓛 ((mem R).own_at (with_slots_run h i m ws) rb ro))
  unfolding part_of
  ended small count ws l =
      let ys : List Slot = front xs o i m ++ (ws ++ back xs o i m) in
      let long : length ws ≡ m = l ∙ length-run xs o i m inside in
      qed 𝓛 (‵ (cells (mem S) ws b p) ∷ ‵ Rest ∷ []) ∵ use1 𝓛 (‵ (row S full_share ws b p)) (whole_out 𝓛 S ws b p) $ move ! (1 ∷ []) $ fsplit3 ! $
      -- [the front; the back; the fields with the cell; the run]
      move ! (3 ∷ 0 ∷ 1 ∷ []) $ use3 𝓛 (‵ (row S full_share ys b o)) (put_back xs o i m inside 𝓛 b ws long) $
      feq_i ! ℕ (length ys) h.cells (length-replaced xs o i m inside ws long ∙ count) $ fjoin ! $ use1 𝓛 (‵ (part_at (Array S h.cells) full_share ys b o)) (Array-whole 𝓛 S full_share h.cells ys b o) $
      rewrite ! 0 (λ (l : List Slot). ‵ (part_at (Array S h.cells) full_share l b o)) (sym (with_run-is xs i m ws l)) refl $
      rewrite ! 0 (λ (q : Ptr). ‵ (lies_at (Array S h.cells) full_share q (with_run xs i m ws))) (sym e) refl $
      flt_i ! (h.cells * size) (2 ^ 63) small $ fjoin ! $ move ! (1 ∷ []) $ fsplit ! $ move ! (0 ∷ 2 ∷ 1 ∷ []) $ fjoin ! $ move ! (1 ∷ 0 ∷ []) $ fjoin ! $
      fpack ! (List Val) (λ vs. fsep (cell_at full_share R.mir vs rb ro) (R.own_val (with_slots_run h i m ws) vs)) us $ done !

pub lend_spec : {M : Type 1} → statement M
lend_spec 𝓤 𝓛 𝓜 𝓡 wired =
    let c = f.clauses 𝓛 𝓜.mem 𝓡.returns in let W = walk_of 𝓛 f.ended stayed c in let 𝓣 = tables 𝓤 𝓛.H 𝓜 𝓡 𝓡.env in
    let number = Goes-dropped 𝓛 1 (plain (λ _. usize)) yes (λ κs x w. refl) in
    proved 𝓛 f.ended stayed c 𝓜 𝓡 (Goes-spent_ref 𝓛 1 (0 ∷ []) tt (plain (λ _. R)), (number, (number, tt)))
    f.Key.name code.function (code.unfolded 𝓤 𝓛.H 𝓜 𝓡 wired)
    (λ κs. (mut_vals, (uint_vals w64, (uint_vals w64, tt)))) (λ κs. (mut_Tells (named 0) κs.0 R, (uint_Tells w64, (uint_Tells w64, tt)))) (λ κs qs bounds a _ are.
    let κ = κs.0 in let q = qs.0 in let γ = a.0.ghost_name in
    let rb = a.0.ref_ptr.0 in let ro = a.0.ref_ptr.1 in let h = a.0.now in let vs = mut_vals a.0 in
    let i = a.1.0 in let m = a.1.1.0 in
    let y : W.Ghost = ((κs, qs, bounds, a, (vs, (uint_vals w64 i, (uint_vals w64 m, tt)))), tt) in
    let fi = are.1.0.1 in let fm = are.1.1.0.1 in
    let Inside : Type 0 = i + m ≤ length h.slots in
    qed 𝓛 (((‵ (flft κ q) ⊛ ‵ ftrue) ⊛ ‵ ((MutRef (named 0) κ R).own_val a.0 vs) ⊛ ‵ (usize.own_val i (uint_vals w64 i)) ⊛ ‵ (usize.own_val m (uint_vals w64 m)) ⊛ ‵ ftrue) ∷ raw (fact 𝓤 Inside) ∷ []) ∵
    move ! (1 ∷ []) $ heard ! Inside (λ inside.
    split ! $ split ! $ move ! (2 ∷ []) $ split ! $ keep ! (0 ∷ 2 ∷ []) $
    enter ! _ _ _ _ _ $ alloc_all ! (λ l. pass_all ! refl ((tt, tt), ((tt, record { fits = fi }), ((tt, record { fits = fm }), tt))) $
    fsplit3 ! $ move ! (1 ∷ 2 ∷ 3 ∷ []) $ opens ! tt R rb ro (λ us.
    move ! (1 ∷ []) $ peeks ! R _ (shows 𝓛 R) h us (λ is. fsplit ! $ move ! (1 ∷ []) $ fsplit ! $ flt_l ! (λ small.
    in_a_block ! h.memory (λ p. lies_at (Array S h.cells) full_share p h.slots) (id⊢ 𝓤 _) (λ b o e.
    use1 𝓛 (‵ (fsep (feq ℕ (length h.slots) h.cells) (row S full_share h.slots b o))) (Array-apart 𝓛 S full_share tt h.cells h.slots b o) $ fsplit ! $ feq_l ! (λ count.
    let xs = h.slots in let at = begins xs o i m in let ys = run xs o i m in
    let word = lowers.val_is h us is ∙ ap (λ (p : Ptr). lowers.lowered (record h { memory = p }) ∷ []) e in
    let Cell = λ (ws : List Val). ‵ (cell_at full_share R.mir ws rb ro) in
    let bytes : h.cells * 16 < 2 ^ 63 = small in
    let offset : i * 16 < 2 ^ 64 = omega arith in
    let here = length-run xs o i m inside in
    let room : Room S (length ys) = (subst (λ (k : ℕ). k < 2 ^ 64) (sym here) fm, subst (λ (k : ℕ). k * size < 2 ^ 63) (sym here) (let t : m * 16 < 2 ^ 63 = omega arith in t)) in
    let left = sem 𝓛 (Rest 𝓛 h rb ro b o e us i m inside) in let over = ended 𝓛 h rb ro b o e us i m inside small count in
    -- [the slots; what the fields own; the region's cell; the open borrow, in three entries]
    rewrite ! 2 Cell word refl $
    first ! $ blocks ! $
    sets ! (of_opd ! (load ! (through ! refl (fld ! refl (stop !))) (look_in ! 2 (sub ! 0 refl (whole !))))) refl (tt, tt) $
    sets ! (bin ! (get ! refl) (lit ! tt) (record { fits = offset })) refl (tt, record { fits = offset }) $
    sets ! (bin ! (get ! refl) (get ! refl) tt) refl (tt, tt) $
    sets_last ! (agg ! (and_then ! (get ! refl) (and_then ! (get ! refl) (no_more !)))) refl (tt, (tt, (record { fits = fm }, tt))) $
    exec ! 𝓣.C 𝓣.Λ (env code.Mir.locals l) (after 1 (code.function).body) (at_ret _ (W.post y)) $
    sets ! (of_opd ! (get ! refl)) refl (tt, (tt, (record { fits = fm }, tt))) $
    rewrite ! 2 Cell (sym word) refl $
    use1 𝓛 (‵ (row S full_share ys b at) ⊛ ‵ (row S full_share (front xs o i m) b o) ⊛ ‵ (row S full_share (back xs o i m) b (ends xs o i m))) (taken_out xs o i m inside 𝓛 b) $ split ! $
    use1 𝓛 (‵ (cells (mem S) ys b at)) (whole_in 𝓛 S ys b at) $ move ! (1 ∷ []) $ split ! $
    -- [the front; the back; the run; the fields; the cell; ..]
    move ! (3 ∷ 4 ∷ []) $ fjoin ! $ move ! (2 ∷ 0 ∷ []) $ fjoin ! $ move ! (1 ∷ 0 ∷ []) $ fjoin ! $ move ! (2 ∷ 3 ∷ 4 ∷ 1 ∷ 0 ∷ []) $ group ! 5 $
    use1 𝓛 (later (some (λ (δ : GName). raw (Elements 𝓛 R S (with_slots_run h i m) (named 0) κ q rb ro b at γ ys room left over δ))))
    (lends_Elements 𝓛 R S (with_slots_run h i m) (named 0) κ q rb ro b at γ ys room left over (R.coded.code h) (R.coded.code h)) $ await ! tt $ pick ! (λ δ.
    returns ! (look_at ! 0 refl) $ free_all ! refl $ keep ! (0 ∷ []) $
    let loan : MutBor (List Slot) = record { ref_ptr = (b, at); ghost_name = δ; now = ys } in
    use1 𝓛 (‵ ((MutSlice (named 0) κ S).own_val loan (slice_val (b, at) (length ys) ∷ [])) ⊛ ‵ (flft κ q) ⊛ ‵ (follows R (Array S 0) γ δ (with_slots_run h i m))) (id⊢ 𝓤 _) $ split ! $ move ! (1 ∷ []) $ split ! $ move ! (2 ∷ 0 ∷ 1 ∷ []) $
    rewrite ! 0 (λ (j : ℕ). ‵ ((MutSlice (named 0) κ S).own_val loan (slice_val (b, at) j ∷ []))) here refl $
    suffices ! _ (ends_at 𝓛 f.ended stayed c y (slice_val (b, at) m) loan (tt, (tt, (tt, tt))) (tt, (tt, (tt, tt)))) $
    nothing ! $ nothing ! $ fjoin ! $ nothing ! $ fjoin ! $ nothing ! $ fjoin ! $ join ! $ nothing ! $ move ! (2 ∷ 0 ∷ []) $ join ! $ join ! $ frame ! $ says ! (ap (λ (k : ℕ). take k (drop_l i xs)) (let t : m ≡ i + m - i = omega arith in t)) $ done !)))))))))
