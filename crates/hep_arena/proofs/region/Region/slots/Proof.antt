-- `slots` reads all slots through a `&`. Assumes `Logic`.
use Rattle.std.proofs.Common.{◌≡◌, ℕ, zero, suc, ◌+◌, ◌*◌, ◌<◌, ◌^◌, List, [], ◌∷◌, length, refl, sym, ap, subst, w64}
use Rattle.std_alloc.proofs.Words.{word_in, word_out, pointer_in, pointer_out}
use seplogic.Ra.Ura.{Ura}
use base.Fml.{Lft, Share, Fml, ftrue, fhide, flft}
use base.Logic.{SProp, ent, sep, emp, via, fst∗}
use contract.Monad.{Fun, fact}
use contract.Running.{tables, tables_of}
use mir.Syntax.{Body, named, place, copy, assign, rv_opd, seq, return}
use mir.Val.{Val, vptr}
use prog.Memory.{Memory}
use prog.Routine.{Routine}
use prog.Wp.{Calls, Loops, WpFn, Tables}
use sound.WpLaws.{WpFn-mono}
use types.ByLocal.{env}
use types.Kit.{at_ret, ‵, ◌⊛◌, ◌$◌, ◌∵◌, !, qed, by, move, keep, use1, drop, split, join, fsplit, fjoin, feq_i, feq_l, flt_i, flt_l, raw, suffices, frame, done}
use types.Logic.{Logic, sem}
use types.Part.{agg}
use types.Run.{look, init, forget, stop, hop, fld, from, load, no_more, and_then, of_opd, assigns, assigns_last, first, blocks, exec, returns, enter, alloc1, alloc0, params1, pass1, pass0, free1, free0}
use denote.Builtin.{usize}
use denote.Exit.{yes}
use denote.Memory.{mem, hidden_shr}
use denote.Opens.{shr_dup, unhide, hide}
use denote.Plain.{uint_row_laws}
use denote.RattleType.{RattleType, RowLaws, owns}
use denote.RawPtr.{RawPtr, block_of, count_of, InBlock, ptr_row_laws}
use denote.Ref.{Bor, ShrRef, shr_vals, shr_Tells}
use denote.Signature.{plain}
use denote.Slice.{slice_val, elements_shared}
use denote.Steps.{heard, nothing}
use denote.Struct.Lending.{in_block_says, lent_out}
use denote.Struct.Owning.{shape}
use denote.Struct.Struct.{Struct, Struct-row_laws}
use denote.Triple.Entry.{on_entry}
use denote.Triple.Spec.{Meets, triple_of}
use denote.Triple.Table.{entered}
use denote.Triple.Walked.{says, Stays, stay_none_ref, walk_of, ends_at, walked, Goes-none_ref, walk_Meets}
use Rattle.hep_arena.specs.contracts.cell.Cell.{the_row as S}
use Rattle.hep_arena.specs.contracts.region.Region as region
use Rattle.hep_arena.specs.contracts.region.Region.{the_row as R}
use Rattle.hep_arena.specs.contracts.region.Region.slots as f
use Rattle.hep_arena.proofs.region.Region.TheLaws as region_laws
use Rattle.hep_arena.proofs.region.Region.slots.Statement as stated
use Rattle.hep_arena.proofs.region.Region.slots.Code as code

abbrev stayed : Stays f.ended.signature.params f.ended.kept
stayed = (stay_none_ref (0 ∷ []) tt (plain (λ _. R)) yes, tt)

-- what follows the call of `from_raw_parts`
abbrev rest : Body
rest = seq (assign (place 0 []) (rv_opd (copy (place 2 [])))) return

abbrev Fields : RattleType
Fields = Struct (shape region.the_type)

fields_laws : RowLaws Fields
fields_laws = Struct-row_laws (shape region.the_type) (ptr_row_laws, (uint_row_laws w64, tt))

module _ {M : Type 1} {𝓤 : Ura M} (𝓛 : Logic 𝓤) (at_mem : Memory → SProp 𝓤) (returns_of : Routine → Fun 𝓤) where
  open 𝓛 use {H, A}

  module _ (κ : Lft) (q : Share) (b o : ℕ) (d : R.Denot) where
    abbrev self : Bor R.Denot
    self = record { ref_ptr = (b, o); now = d }

    abbrev bound : (walk_of 𝓛 f.ended stayed (f.clauses 𝓛 at_mem returns_of)).Ghost
    bound = (((κ, tt), (q, tt), tt, (self, tt), (vptr b o ∷ [], tt)), tt)

    abbrev Post : Val → SProp 𝓤
    Post = (walk_of 𝓛 f.ended stayed (f.clauses 𝓛 at_mem returns_of)).post bound

    abbrev at : ℕ × ℕ
    at = (block_of d.memory, count_of d.memory)

    abbrev fields : Fields.Denot
    fields = (d.memory, (d.cells, tt))

    abbrev Shown : Fml
    Shown = hidden_shr Fields κ fields b o

    shows_memory : ent 𝓤 (sem 𝓛 Shown) (sep 𝓤 (sem 𝓛 (hidden_shr RawPtr κ d.memory b (o + 0))) (sem 𝓛 Shown))
    shows_memory = qed 𝓛 (‵ Shown ∷ []) ∵ shr_dup ! Fields fields_laws fields b o κ $ unhide ! $ fsplit ! $ fsplit ! $ hide ! $ keep ! (0 ∷ 3 ∷ []) $ done !

    shows_cells : ent 𝓤 (sem 𝓛 Shown) (sep 𝓤 (sem 𝓛 (hidden_shr usize κ d.cells b (o + 8))) (sem 𝓛 Shown))
    shows_cells = qed 𝓛 (‵ Shown ∷ []) ∵ shr_dup ! Fields fields_laws fields b o κ $ unhide ! $ fsplit ! $ fsplit ! $ drop ! $ fsplit ! $ hide ! $ keep ! (0 ∷ 3 ∷ []) $ done !

    exits : d.cells < 2 ^ 64 → d.cells * (mem S).size < 2 ^ 63 → length d.slots ≡ d.cells
        → ent 𝓤 (sep 𝓤 (A.lft κ q) (sep 𝓤 (sem 𝓛 (hidden_shr R κ d b o)) (sem 𝓛 (fhide (elements_shared S d.slots at.0 at.1 κ))))) (Post (slice_val at d.cells))
    exits few small count =
        qed 𝓛 (‵ (flft κ q) ∷ ‵ (hidden_shr R κ d b o) ∷ ‵ (fhide (elements_shared S d.slots at.0 at.1 κ)) ∷ []) ∵
        suffices ! _ (ends_at 𝓛 f.ended stayed (f.clauses 𝓛 at_mem returns_of) bound (slice_val at d.cells) (record { ref_ptr = at; now = d.slots }) (tt, tt) (tt, tt)) $ says ! refl $
        nothing ! $ move ! (1 ∷ 0 ∷ []) $ join ! $ frame ! $ feq_i ! (List Val) (vptr b o ∷ []) (vptr b o ∷ []) refl $ fjoin ! $ nothing ! $ move ! (1 ∷ 0 ∷ []) $ fjoin ! $ frame ! $
        flt_i ! (length d.slots * (mem S).size) (2 ^ 63) (subst (λ (k : ℕ). k * (mem S).size < 2 ^ 63) (sym count) small) $ flt_i ! (length d.slots) (2 ^ 64) (subst (λ (k : ℕ). k < 2 ^ 64) (sym count) few) $ fjoin ! $
        feq_i ! (List Val) (slice_val at d.cells ∷ []) (slice_val at (length d.slots) ∷ []) (ap (λ (k : ℕ). slice_val at k ∷ []) (sym count)) $ fjoin ! $ fjoin ! $ done !

    module _ (C : Calls 𝓤 H) (Λ : Loops 𝓤 H) where
      walk : ent 𝓤 (on_entry 𝓛 f.signature (κ, tt) (q, tt) (self, tt) (vptr b o ∷ [], tt)) (WpFn 𝓤 H C Λ code.function (vptr b o ∷ []) Post)
      walk =
          qed 𝓛 ((‵ (flft κ q) ⊛ ‵ ftrue) ∷ ‵ (owns (ShrRef (named 0) κ R ∷ []) (self, tt) (vptr b o ∷ [], tt)) ∷ []) ∵ enter ! C Λ code.function (vptr b o ∷ []) _ $
          alloc1 ! (λ l₀. alloc1 ! (λ l₁. alloc1 ! (λ l₂. alloc1 ! (λ l₃. alloc1 ! (λ l₄. alloc0 ! $ params1 ! $ pass1 ! (init ! 6 refl (tt, tt)) $ pass0 ! $
          let En = env code.function.locals (λ i. elim i [ zero ↦ l₀ | suc j ↦ elim j [ zero ↦ l₁ | suc k ↦ elim k [ zero ↦ l₂ | suc m ↦ elim m [ zero ↦ l₃ | suc _ ↦ l₄ ] ] ] ]) in
          move ! (11 ∷ []) $
          fsplit ! $ fsplit ! $ drop ! $ shr_dup ! R region_laws.the_row_laws.shr_laws d b o κ $
          use1 𝓛 (‵ (hidden_shr Fields κ fields b o) ⊛ ‵ (fhide (region.the_lent d d.memory κ))) (lent_out 𝓛 region.struct region.the_codes region.the_heap region.the_lent κ d b o) $ split ! $
          move ! (1 ∷ []) $
          unhide ! $ fsplit ! $ flt_l ! (λ small. fsplit ! $ use1 𝓛 (raw (fact 𝓤 (InBlock d.memory))) (in_block_says 𝓛 d.memory) $ heard ! (InBlock d.memory) (λ inb. fsplit ! $ feq_l ! (λ count. hide ! $
          move ! (14 ∷ []) $
          split ! $
          move ! (3 ∷ 0 ∷ []) $
          first ! $ blocks ! $
          pointer_in ! tt d.memory inb b (o + 0) shows_memory (λ q0.
          assigns ! (of_opd ! (load ! (from ! (hop ! (look ! 14 refl) (fld ! refl (stop !)))) (look ! 1 refl))) (from ! (stop !)) (init ! 10 refl (tt, tt)) $
          pointer_out ! tt d.memory inb b (o + 0) $ move ! (1 ∷ 0 ∷ []) $
          word_in ! tt d.cells b (o + 8) shows_cells (λ q1 few.
          assigns ! (of_opd ! (load ! (from ! (hop ! (look ! 14 refl) (fld ! refl (stop !)))) (look ! 1 refl))) (from ! (stop !)) (init ! 8 refl (tt, record { fits = few })) $
          word_out ! tt d.cells b (o + 8) few $ move ! (1 ∷ 0 ∷ []) $
          assigns_last ! (agg ! (and_then ! (load ! (from ! (stop !)) (look ! 8 refl)) (and_then ! (load ! (from ! (stop !)) (look ! 6 refl)) (no_more !)))) (from ! (stop !)) (init ! 10 refl (tt, (tt, (record { fits = few }, tt)))) $
          exec ! C Λ En rest (at_ret En Post) $
          move ! (1 ∷ 0 ∷ []) $
          assigns ! (of_opd ! (load ! (from ! (stop !)) (look ! 10 refl))) (from ! (stop !)) (init ! 14 refl (tt, (tt, (record { fits = few }, tt)))) $
          returns ! (look ! 14 refl) $
          forget ! 6 refl $ forget ! 8 refl $ forget ! 10 refl $ forget ! 12 refl $ forget ! 14 refl $ move ! (14 ∷ 15 ∷ []) $ free1 ! $ move ! (12 ∷ 13 ∷ []) $ free1 ! $ move ! (10 ∷ 11 ∷ []) $ free1 ! $ move ! (8 ∷ 9 ∷ []) $ free1 ! $ move ! (6 ∷ 7 ∷ []) $ free1 ! $ free0 ! $
          keep ! (0 ∷ 4 ∷ 3 ∷ []) $
          by ! (exits few small count)))))))))))

  meets : (𝓣 : Tables 𝓤 H) → Meets 𝓛 f.signature (WpFn 𝓤 H 𝓣.C 𝓣.Λ code.function) (f.spec 𝓛 at_mem returns_of)
  meets 𝓣 =
      walk_Meets 𝓛 f.ended stayed (Goes-none_ref 𝓛 1 (0 ∷ []) tt (plain (λ _. R)) yes, tt) (f.clauses 𝓛 at_mem returns_of) (WpFn 𝓤 H 𝓣.C 𝓣.Λ code.function) (WpFn-mono 𝓤 H 𝓛.laws 𝓣 code.function)
      (walked 𝓛 f.ended stayed (f.clauses 𝓛 at_mem returns_of) (WpFn 𝓤 H 𝓣.C 𝓣.Λ code.function) (λ κs. (shr_vals, tt)) (λ κs. (shr_Tells (named 0) κs.0 R, tt))
      (λ κs qs bounds a g are. via 𝓤 _ (fst∗ 𝓤 _ (emp 𝓤)) (walk κs.0 qs.0 a.0.ref_ptr.0 a.0.ref_ptr.1 a.0.now 𝓣.C 𝓣.Λ)))

pub slots_spec : {M : Type 1} → stated.statement M
unfolding tables_of
slots_spec 𝓤 𝓛 𝓜 𝓡 wired =
    let 𝓣 : Tables 𝓤 𝓛.H = tables_of 𝓤 𝓛.H 𝓜 (tables 𝓤 𝓛.H 𝓜 𝓡 𝓡.env) in
    entered 𝓤 𝓛.H (triple_of 𝓛 f.signature (f.spec 𝓛 𝓜.mem 𝓡.returns)) 𝓣.C 𝓣.Λ f.Key.name code.function (code.unfolded 𝓤 𝓛.H 𝓜 𝓡 wired) (meets 𝓛 𝓜.mem 𝓡.returns 𝓣)
