-- `lend_two` lends one run to be read and another to be written. Assumes `Logic`.
use Rattle.std.proofs.Common.{w64, ◌≡◌, ℕ, ◌+◌, ◌-◌, ◌*◌, ◌<◌, ◌≤◌, ◌^◌, ◌⊎◌, List, [], ◌∷◌, ◌++◌, length, take, drop as drop_l, refl, sym, ap, subst, ◌∙◌, arith, MutBor}
use Rattle.std.proofs.raw_atomic.Walks.{proved}
use Rattle.std.proofs.VecSteps.Shapes.{after}
use Rattle.std_alloc.proofs.Pairs.{pair_val, pair_of}
use seplogic.Ra.Ura.{Ura}
use base.Fml.{Lft, Share, Fml, GName, Incl-refl, ftrue, flft, feq, fsep, fseps, fbor, fobor, fobs, fauth}
use base.Fraction.{full_share}
use base.Logic.{ent, sep, ex, SProp, id⊢}
use contract.Monad.{fact}
use contract.Running.{tables}
use mir.Syntax.{named}
use mir.Val.{Val}
use types.ByLocal.{alloc_all, pass_all, free_all, look_at, get, through, sets, sets_last, env}
use types.Follow.{takes_beside}
use types.Kit.{‵, raw, ◌⊛◌, some, later, at_ret, ◌$◌, ◌∵◌, !, qed, done, move, keep, drop, use1, use2, use3, split, split3, join, fsplit, fsplit3, fjoin, flt_l, flt_i, feq_i, feq_l, fpack, pick, await, rewrite, suffices, frame, group, show, updating, now as at_once}
use types.Logic.{Logic, sem}
use types.Part.{whole, sub, look_in, agg}
use types.Run.{of_opd, lit, bin, load, stop, fld, enter, and_then, no_more, first, blocks, exec, returns}
use types.SemTy.{Arr, cells, Body as Borrowed}
use denote.Array.{Array}
use denote.ArrayMemory.{Array-apart, Array-whole}
use denote.Builtin.{usize}
use denote.Exit.{yes, no}
use denote.Follow.{follows}
use denote.FollowSlice.{slice_of}
use denote.Index.{row, whole_in, whole_out}
use denote.Laws.{shows}
use denote.Memory.{mem, part_at, part_of, cell_at, shared_of}
use denote.Opens.{hide}
use denote.Plain.{uint_vals, uint_Tells}
use denote.RattleType.{RattleType}
use denote.RawPtr.{Ptr, block_ptr, in_a_block, lies_at}
use denote.Ref.{Bor, MutRef, mut_vals, mut_Tells}
use denote.Shares.{Shares-Array}
use denote.Signature.{plain, mut_ref_to}
use denote.Slice.{MutSlice, ShrSlice, Room, slice_val, elements_shared}
use denote.Steps.{nothing, heard, opens, peeks}
use denote.Struct.Owning.{shape}
use denote.Struct.Struct.{Struct}
use denote.Struct.Tuple.{Tuple}
use denote.Triple.Walked.{Stays, walk_of, says, stay_dropped, Goes-dropped, ends_at, Goes-spent_ref}
use Rattle.hep_machine.specs.declared.slot.Slot.{Slot}
use Rattle.hep_arena.specs.contracts.cell.Cell.{the_row as S}
use Rattle.hep_arena.proofs.cell.Cell.TheLaws as cell_laws
use Rattle.hep_arena.specs.declared.region.Region.{Region}
use Rattle.hep_arena.specs.Lending.{with_run, with_slots_run}
use Rattle.hep_arena.specs.contracts.region.Region.{the_type, the_row as R}
use Rattle.hep_arena.specs.contracts.region.Region.lend_two as f
use Rattle.hep_arena.proofs.Apart.{AreApart, apart}
use Rattle.hep_arena.proofs.Rows.{size, begins, front, run, back, length-run, length-replaced, with_run-is}
use Rattle.hep_arena.proofs.region.Region.TheLaws.{lowers}
use Rattle.hep_arena.proofs.region.Region.lend_two.Statement.{statement}
use Rattle.hep_arena.proofs.region.Region.lend_two.Code as code

abbrev stayed : Stays f.ended.signature.params f.ended.kept
stayed = let n = stay_dropped (plain (λ _. usize)) yes in (stay_dropped (mut_ref_to (0 ∷ []) tt (plain (λ _. R))) no, (n, (n, (n, (n, tt)))))

abbrev Fields : RattleType
Fields = Struct (shape the_type)

module _ {M : Type 1} {𝓤 : Ura M} (𝓛 : Logic 𝓤) (κ : Lft) (q : Share) (γ : GName) (h : Region) (rb ro b o : ℕ) (e : h.memory ≡ block_ptr b o) (us : List Val) (i m j n : ℕ)
    (small : h.cells * size < 2 ^ 63) (count : length h.slots ≡ h.cells) (inside : i + m ≤ length h.slots) (inside' : j + n ≤ length h.slots) (two : AreApart 𝓛 h.slots b o i m j n) where
  open 𝓛 use {H}

  abbrev xs : List Slot
  xs = h.slots

  -- the slots that are read, and those that are written
  abbrev Read : List Slot
  Read = run xs o i m

  abbrev Written : List Slot
  Written = run xs o j n

  abbrev read_at : ℕ
  read_at = begins xs o i m

  abbrev written_at : ℕ
  written_at = begins xs o j n

  abbrev Lies : Fml
  Lies = part_at (Array S m) full_share Read b read_at

  abbrev Rest : Fml
  Rest = fsep two.others (fsep (Fields.own_val (h.memory, (h.cells, tt)) us) (cell_at full_share R.mir us rb ro))

  ended : (ws : List Slot) → ent 𝓤 (sep 𝓤 (sem 𝓛 ((Arr (mem S) (length Written)).own_at ws b written_at)) (sep 𝓤 (sem 𝓛 (fseps (Lies ∷ []))) (sem 𝓛 Rest))) (sem 𝓛 ((mem R).own_at (with_slots_run h j n ws) rb ro))
  unfolding fseps part_of
  ended ws =
      qed 𝓛 (‵ ((Arr (mem S) (length Written)).own_at ws b written_at) ∷ (‵ Lies ⊛ ‵ ftrue) ∷ ‵ Rest ∷ []) ∵ fsplit ! $ feq_l ! (λ l.
      let long : length ws ≡ n = l ∙ length-run xs o j n inside' in
      let ys : List Slot = front xs o j n ++ (ws ++ back xs o j n) in
      use1 𝓛 (‵ (row S full_share ws b written_at)) (whole_out 𝓛 S ws b written_at) $ move ! (1 ∷ []) $ split ! $
      use1 𝓛 (‵ (fsep (feq ℕ (length Read) m) (row S full_share Read b read_at))) (Array-apart 𝓛 S full_share tt m Read b read_at) $ fsplit ! $ drop ! $ move ! (3 ∷ []) $ fsplit3 ! $
      -- [the others; the fields; the cell; what is read; nothing; what was written]
      move ! (3 ∷ 5 ∷ 0 ∷ []) $ use3 𝓛 (‵ (row S full_share ys b o)) (two.in_again ws long) $
      feq_i ! ℕ (length ys) h.cells (length-replaced xs o j n inside' ws long ∙ count) $ fjoin ! $ use1 𝓛 (‵ (part_at (Array S h.cells) full_share ys b o)) (Array-whole 𝓛 S full_share h.cells ys b o) $
      rewrite ! 0 (λ (l : List Slot). ‵ (part_at (Array S h.cells) full_share l b o)) (sym (with_run-is xs j n ws l)) refl $
      rewrite ! 0 (λ (p : Ptr). ‵ (lies_at (Array S h.cells) full_share p (with_run xs j n ws))) (sym e) refl $
      flt_i ! (h.cells * size) (2 ^ 63) small $ fjoin ! $ move ! (1 ∷ 0 ∷ []) $ fjoin ! $ move ! (1 ∷ 0 ∷ []) $ fjoin ! $
      fpack ! (List Val) (λ vs. fsep (cell_at full_share R.mir vs rb ro) (R.own_val (with_slots_run h j n ws) vs)) us $ keep ! (0 ∷ []) $ done !)

  abbrev Got : GName → SProp 𝓤
  Got δ = sep 𝓤 (sem 𝓛 ((MutSlice (named 0) κ S).own_val (record { ref_ptr = (b, written_at); ghost_name = δ; now = Written }) (slice_val (b, written_at) (length Written) ∷ [])))
      (sep 𝓤 (sem 𝓛 (shared_of (Array S m) Read b read_at κ)) (sep 𝓤 (sem 𝓛 (flft κ q)) (sem 𝓛 (follows R (Array S 0) γ δ (with_slots_run h j n)))))

  lends : Room S (length Written) → ent 𝓤 (sep 𝓤 (sem 𝓛 (fobor κ q (Borrowed (mem R) rb ro γ))) (sep 𝓤 (sem 𝓛 (fobs γ (R.coded.code h))) (sep 𝓤 (sem 𝓛 (fauth γ (R.coded.code h)))
      (sep 𝓤 (sem 𝓛 (row S full_share Read b read_at)) (sep 𝓤 (sem 𝓛 (row S full_share Written b written_at)) (sem 𝓛 Rest)))))) (H.⇛ (ex 𝓤 Got))
  unfolding fseps
  lends room =
      let Items = Arr (mem S) (length Written) in
      qed 𝓛 (‵ (fobor κ q (Borrowed (mem R) rb ro γ)) ∷ ‵ (fobs γ (R.coded.code h)) ∷ ‵ (fauth γ (R.coded.code h)) ∷ ‵ (row S full_share Read b read_at) ∷ ‵ (row S full_share Written b written_at) ∷ ‵ Rest ∷ []) ∵ updating ! $
      move ! (3 ∷ []) $ feq_i ! ℕ (length Read) m (length-run xs o i m inside) $ fjoin ! $ use1 𝓛 (‵ Lies) (Array-whole 𝓛 S full_share m Read b read_at) $ nothing ! $ move ! (1 ∷ 0 ∷ []) $ fjoin ! $
      move ! (4 ∷ []) $ use1 𝓛 (‵ (cells (mem S) Written b written_at)) (whole_in 𝓛 S Written b written_at) $ feq_i ! ℕ (length Written) (length Written) refl $ fjoin ! $
      -- [what is written; what is read; the open borrow, in three entries; the rest]
      move ! (2 ∷ 3 ∷ 4 ∷ 0 ∷ 1 ∷ 5 ∷ []) $ group ! 6 $
      use1 𝓛 (later (some (λ (δ : GName). ‵ (fobs δ (Items.coded.code Written)) ⊛ ‵ (fbor κ (Borrowed Items b written_at δ)) ⊛ ‵ (flft κ q) ⊛ ‵ (follows R (Array S 0) γ δ (with_slots_run h j n)) ⊛ ‵ (fbor κ Lies) ⊛ ‵ ftrue)))
      (takes_beside 𝓛 (mem R) Items (with_slots_run h j n) κ q rb ro b written_at γ (Lies ∷ []) (sem 𝓛 Rest) ended (R.coded.code h) (R.coded.code h) Written) $ await ! tt $ pick ! (λ δ. split3 ! $
      use2 𝓛 (‵ ((MutSlice (named 0) κ S).own_val (record { ref_ptr = (b, written_at); ghost_name = δ; now = Written }) (slice_val (b, written_at) (length Written) ∷ []))) (slice_of 𝓛 S (named 0) κ b written_at δ Written room) $
      move ! (1 ∷ []) $ split3 ! $ move ! (2 ∷ []) $ split ! $ move ! (0 ∷ 2 ∷ []) $
      use2 𝓛 (later (‵ (shared_of (Array S m) Read b read_at κ) ⊛ ‵ (flft κ q))) (Shares-Array 𝓛 S tt m S.lives (cell_laws.the_row_laws.shares 𝓛) Read κ ((κ, q) ∷ []) b read_at (cell_laws.the_within κ) (Incl-refl κ)) $ await ! tt $ split ! $
      at_once ! $ show ! Got δ $ keep ! (4 ∷ 0 ∷ 1 ∷ 3 ∷ []) $ done !)

pub lend_two_spec : {M : Type 1} → statement M
lend_two_spec 𝓤 𝓛 𝓜 𝓡 wired =
    let c = f.clauses 𝓛 𝓜.mem 𝓡.returns in let W = walk_of 𝓛 f.ended stayed c in let 𝓣 = tables 𝓤 𝓛.H 𝓜 𝓡 𝓡.env in
    let number = Goes-dropped 𝓛 1 (plain (λ _. usize)) yes (λ κs x w. refl) in
    proved 𝓛 f.ended stayed c 𝓜 𝓡 (Goes-spent_ref 𝓛 1 (0 ∷ []) tt (plain (λ _. R)), (number, (number, (number, (number, tt)))))
    f.Key.name code.function (code.unfolded 𝓤 𝓛.H 𝓜 𝓡 wired)
    (λ κs. (mut_vals, (uint_vals w64, (uint_vals w64, (uint_vals w64, (uint_vals w64, tt)))))) (λ κs. (mut_Tells (named 0) κs.0 R, (uint_Tells w64, (uint_Tells w64, (uint_Tells w64, (uint_Tells w64, tt)))))) (λ κs qs bounds a _ are.
    let κ = κs.0 in let q = qs.0 in let γ = a.0.ghost_name in
    let rb = a.0.ref_ptr.0 in let ro = a.0.ref_ptr.1 in let h = a.0.now in let vs = mut_vals a.0 in
    let i = a.1.0 in let m = a.1.1.0 in let j = a.1.1.1.0 in let n = a.1.1.1.1.0 in
    let y : W.Ghost = ((κs, qs, bounds, a, (vs, (uint_vals w64 i, (uint_vals w64 m, (uint_vals w64 j, (uint_vals w64 n, tt)))))), tt) in
    let fi = are.1.0.1 in let fm = are.1.1.0.1 in let fj = are.1.1.1.0.1 in let fn = are.1.1.1.1.0.1 in
    let P₀ : Type 0 = i + m ≤ length h.slots in let P₁ : Type 0 = j + n ≤ length h.slots in let P₂ : Type 0 = (i + m ≤ j) ⊎ (j + n ≤ i) in
    qed 𝓛 (((‵ (flft κ q) ⊛ ‵ ftrue) ⊛ ‵ ((MutRef (named 0) κ R).own_val a.0 vs) ⊛ ‵ (usize.own_val i (uint_vals w64 i)) ⊛ ‵ (usize.own_val m (uint_vals w64 m)) ⊛ ‵ (usize.own_val j (uint_vals w64 j)) ⊛ ‵ (usize.own_val n (uint_vals w64 n)) ⊛ ‵ ftrue)
    ∷ (raw (fact 𝓤 P₀) ⊛ raw (fact 𝓤 P₁) ⊛ raw (fact 𝓤 P₂)) ∷ []) ∵
    move ! (1 ∷ []) $ split ! $ heard ! P₀ (λ inside. split ! $ heard ! P₁ (λ inside'. heard ! P₂ (λ gap.
    split ! $ split ! $ move ! (2 ∷ []) $ split ! $ keep ! (0 ∷ 2 ∷ []) $
    enter ! _ _ _ _ _ $ alloc_all ! (λ l. pass_all ! refl ((tt, tt), ((tt, record { fits = fi }), ((tt, record { fits = fm }), ((tt, record { fits = fj }), ((tt, record { fits = fn }), tt))))) $
    fsplit3 ! $ move ! (1 ∷ 2 ∷ 3 ∷ []) $ opens ! tt R rb ro (λ us.
    move ! (1 ∷ []) $ peeks ! R _ (shows 𝓛 R) h us (λ is. fsplit ! $ move ! (1 ∷ []) $ fsplit ! $ flt_l ! (λ small.
    in_a_block ! h.memory (λ p. lies_at (Array S h.cells) full_share p h.slots) (id⊢ 𝓤 _) (λ b o e.
    use1 𝓛 (‵ (fsep (feq ℕ (length h.slots) h.cells) (row S full_share h.slots b o))) (Array-apart 𝓛 S full_share tt h.cells h.slots b o) $ fsplit ! $ feq_l ! (λ count.
    let two : AreApart 𝓛 h.slots b o i m j n = apart 𝓛 h.slots b o i m j n inside inside' gap in
    let word = lowers.val_is h us is ∙ ap (λ (p : Ptr). lowers.lowered (record h { memory = p }) ∷ []) e in
    let Cell = λ (ws : List Val). ‵ (cell_at full_share R.mir ws rb ro) in
    let bytes : h.cells * 16 < 2 ^ 63 = small in
    let offset : i * 16 < 2 ^ 64 = omega arith in let offset' : j * 16 < 2 ^ 64 = omega arith in
    let xs = h.slots in let Rd = run xs o i m in let Wr = run xs o j n in let pr = begins xs o i m in let pw = begins xs o j n in
    let lr : length Rd ≡ m = length-run xs o i m inside in let lw : length Wr ≡ n = length-run xs o j n inside' in
    let room : Room S (length Wr) = (subst (λ (k : ℕ). k < 2 ^ 64) (sym lw) fn, subst (λ (k : ℕ). k * size < 2 ^ 63) (sym lw) (let t : n * 16 < 2 ^ 63 = omega arith in t)) in
    -- [the slots; what the fields own; the region's cell; the open borrow, in three entries]
    rewrite ! 2 Cell word refl $
    first ! $ blocks ! $
    sets ! (of_opd ! (load ! (through ! refl (fld ! refl (stop !))) (look_in ! 2 (sub ! 0 refl (whole !))))) refl (tt, tt) $
    sets ! (bin ! (get ! refl) (lit ! tt) (record { fits = offset })) refl (tt, record { fits = offset }) $
    sets ! (bin ! (get ! refl) (get ! refl) tt) refl (tt, tt) $
    sets ! (agg ! (and_then ! (get ! refl) (and_then ! (get ! refl) (no_more !)))) refl (tt, (tt, (record { fits = fm }, tt))) $
    sets ! (of_opd ! (load ! (through ! refl (fld ! refl (stop !))) (look_in ! 2 (sub ! 0 refl (whole !))))) refl (tt, tt) $
    sets ! (bin ! (get ! refl) (lit ! tt) (record { fits = offset' })) refl (tt, record { fits = offset' }) $
    sets ! (bin ! (get ! refl) (get ! refl) tt) refl (tt, tt) $
    sets ! (agg ! (and_then ! (get ! refl) (and_then ! (get ! refl) (no_more !)))) refl (tt, (tt, (record { fits = fn }, tt))) $
    sets_last ! (agg ! (and_then ! (get ! refl) (and_then ! (get ! refl) (no_more !)))) refl (tt, ((tt, (record { fits = fm }, tt)), ((tt, (record { fits = fn }, tt)), tt))) $
    exec ! 𝓣.C 𝓣.Λ (env code.Mir.locals l) (after 1 (code.function).body) (at_ret _ (W.post y)) $
    sets ! (of_opd ! (get ! refl)) refl (tt, ((tt, (record { fits = fm }, tt)), ((tt, (record { fits = fn }, tt)), tt))) $
    rewrite ! 2 Cell (sym word) refl $
    use1 𝓛 (‵ (row S full_share Rd b pr) ⊛ ‵ (row S full_share Wr b pw) ⊛ ‵ (two.others)) two.out $ split ! $ move ! (1 ∷ []) $ split ! $
    -- [what is written; the others; what is read; the fields; the cell; ..]
    move ! (3 ∷ 4 ∷ []) $ fjoin ! $ move ! (2 ∷ 0 ∷ []) $ fjoin ! $ move ! (3 ∷ 4 ∷ 5 ∷ 2 ∷ 1 ∷ 0 ∷ []) $ group ! 6 $
    use1 𝓛 (later (some (λ (δ : GName). raw (Got 𝓛 κ q γ h rb ro b o e us i m j n small count inside inside' two δ))))
    (lends 𝓛 κ q γ h rb ro b o e us i m j n small count inside inside' two room) $ await ! tt $ pick ! (λ δ.
    returns ! (look_at ! 0 refl) $ free_all ! refl $ keep ! (0 ∷ []) $
    let from : Bor (List Slot) = record { ref_ptr = (b, pr); now = Rd } in
    let to : MutBor (List Slot) = record { ref_ptr = (b, pw); ghost_name = δ; now = Wr } in
    let uf : Val = slice_val (b, pr) m in let ut : Val = slice_val (b, pw) n in
    use1 𝓛 (‵ ((MutSlice (named 0) κ S).own_val to (slice_val (b, pw) (length Wr) ∷ [])) ⊛ ‵ (fsep (feq ℕ (length Rd) m) (elements_shared S Rd b pr κ)) ⊛ ‵ (flft κ q) ⊛ ‵ (follows R (Array S 0) γ δ (with_slots_run h j n))) (id⊢ 𝓤 _) $
    split ! $ move ! (1 ∷ []) $ split ! $ move ! (1 ∷ []) $ split ! $ move ! (3 ∷ []) $
    -- [the slots that are written; the token; follows; those that are read]
    rewrite ! 0 (λ (k : ℕ). ‵ ((MutSlice (named 0) κ S).own_val to (slice_val (b, pw) k ∷ []))) lw refl $ move ! (3 ∷ []) $ fsplit ! $ drop ! $ hide ! $
    flt_i ! (length Rd * size) (2 ^ 63) (subst (λ (k : ℕ). k * size < 2 ^ 63) (sym lr) (let t : m * 16 < 2 ^ 63 = omega arith in t)) $ flt_i ! (length Rd) (2 ^ 64) (subst (λ (k : ℕ). k < 2 ^ 64) (sym lr) fm) $ fjoin ! $
    feq_i ! (List Val) (uf ∷ []) (slice_val (b, pr) (length Rd) ∷ []) (ap (λ (k : ℕ). slice_val (b, pr) k ∷ []) (sym lr)) $ fjoin ! $ fjoin ! $ move ! (0 ∷ 1 ∷ []) $
    use2 𝓛 (‵ ((Tuple (ShrSlice (named 0) κ S ∷ MutSlice (named 0) κ S ∷ [])).own_val (from, to) (pair_val uf ut ∷ []))) (pair_of 𝓛 (ShrSlice (named 0) κ S) (MutSlice (named 0) κ S) from to uf ut) $
    suffices ! _ (ends_at 𝓛 f.ended stayed c y (pair_val uf ut) (from, to) (tt, (tt, (tt, (tt, (tt, tt))))) (tt, (tt, (tt, (tt, (tt, tt)))))) $
    nothing ! $ nothing ! $ fjoin ! $ nothing ! $ fjoin ! $ nothing ! $ fjoin ! $ nothing ! $ fjoin ! $ nothing ! $ fjoin ! $ join ! $ nothing ! $ move ! (2 ∷ 0 ∷ []) $ join ! $ join ! $ frame ! $
    says ! (ap (λ (k : ℕ). take k (drop_l i xs)) (let t : m ≡ i + m - i = omega arith in t), ap (λ (k : ℕ). take k (drop_l j xs)) (let t : n ≡ j + n - j = omega arith in t)) $ done !)))))))))))
