-- A run of a row of slots: it is taken out, and slots are put in its place. Assumes `Logic`.
use Rattle.std.proofs.Common.{◌≡◌, ℕ, zero, suc, ◌+◌, ◌*◌, ◌≤◌, List, [], ◌∷◌, ◌++◌, length, take, drop as drop_l, refl, sym, ap, ◌∙◌, arith, append_assoc, length-drop, length-append, take-append-drop}
use seplogic.Ra.Ura.{Ura}
use base.Fraction.{full_share}
use base.Logic.{SProp, ent, sep, emp, emp∗, snd∗, via, mono_r, assoc', assoc∗}
use types.Kit.{‵, ◌⊛◌, ◌$◌, ◌∵◌, !, qed, by, move, use1, use2, split, rewrite, done}
use types.Logic.{Logic, sem}
use denote.Index.{row, place, place_is}
use denote.Memory.{part_at, mem}
use Rattle.hep_machine.specs.declared.slot.Slot.{Slot}
use Rattle.hep_arena.specs.contracts.cell.Cell.{the_row as S}
use Rattle.hep_arena.specs.Lending.{covered, with_run}

-- the bytes of a slot
abbrev pub size : ℕ
size = (mem S).size

-- ---- two rows after one another

module _ {M : Type 1} {𝓤 : Ura M} (𝓛 : Logic 𝓤) where
  abbrev Lies : List Slot → ℕ → ℕ → SProp 𝓤
  Lies xs b o = sem 𝓛 (row S full_share xs b o)

  pub divided : (xs ys : List Slot) (b o : ℕ) → ent 𝓤 (Lies (xs ++ ys) b o) (sep 𝓤 (Lies xs b o) (Lies ys b (place size o (length xs))))
  divided [] ys b o = emp∗ 𝓤 (Lies ys b o)
  divided (x ∷ xs) ys b o =
      let one = sem 𝓛 (part_at S full_share x b o) in
      via 𝓤 (sep 𝓤 one (sep 𝓤 (Lies xs b (o + size)) (Lies ys b (place size (o + size) (length xs))))) (mono_r 𝓤 one (divided xs ys b (o + size)))
      (assoc' 𝓤 one (Lies xs b (o + size)) (Lies ys b (place size (o + size) (length xs))))

  pub united : (xs ys : List Slot) (b o : ℕ) → ent 𝓤 (sep 𝓤 (Lies xs b o) (Lies ys b (place size o (length xs)))) (Lies (xs ++ ys) b o)
  united [] ys b o = snd∗ 𝓤 (emp 𝓤) (Lies ys b o)
  united (x ∷ xs) ys b o =
      let one = sem 𝓛 (part_at S full_share x b o) in
      via 𝓤 (sep 𝓤 one (sep 𝓤 (Lies xs b (o + size)) (Lies ys b (place size (o + size) (length xs)))))
      (assoc∗ 𝓤 one (Lies xs b (o + size)) (Lies ys b (place size (o + size) (length xs)))) (mono_r 𝓤 one (united xs ys b (o + size)))

-- ---- lists

covered-same : (xs ys : List Slot) → length ys ≡ length xs → covered xs ys ≡ ys
covered-same [] [] e = refl
covered-same [] (y ∷ ys) e = absurd (omega (arith, e))
covered-same (x ∷ xs) [] e = absurd (omega (arith, e))
covered-same (x ∷ xs) (y ∷ ys) e = ap (λ (l : List Slot). y ∷ l) (covered-same xs ys (omega (arith, e)))

-- where as many slots come back as were lent
pub with_run-is : (xs : List Slot) (i m : ℕ) (ws : List Slot) → length ws ≡ length (take m (drop_l i xs)) → with_run xs i m ws ≡ take i xs ++ (ws ++ drop_l m (drop_l i xs))
with_run-is xs i m ws e = ap (λ (l : List Slot). take i xs ++ l ++ drop_l m (drop_l i xs)) (covered-same (take m (drop_l i xs)) ws e) ∙ append_assoc (take i xs) ws (drop_l m (drop_l i xs))

pub length-front : (i : ℕ) (xs : List Slot) → i ≤ length xs → length (take i xs) ≡ i
length-front zero xs le = refl
length-front (suc i) [] le = absurd (omega arith)
length-front (suc i) (x ∷ xs) le = ap suc (length-front i xs (omega arith))

-- ---- the run of m slots from i on, of the slots ys at o

module _ (ys : List Slot) (o i m : ℕ) where
  abbrev pub begins : ℕ
  begins = i * size + o

  abbrev pub front : List Slot
  front = take i ys

  abbrev pub run : List Slot
  run = take m (drop_l i ys)

  abbrev pub back : List Slot
  back = drop_l m (drop_l i ys)

  -- where the slots after the run lie
  abbrev pub ends : ℕ
  ends = place size begins m

  module _ (inside : i + m ≤ length ys) where
    run-begins : place size o (length front) ≡ begins
    run-begins = ap (place size o) (length-front i ys (omega arith)) ∙ place_is size o i

    pub length-run : length run ≡ m
    length-run = let d = length-drop i ys in length-front m (drop_l i ys) (omega arith)

    pub as_parts : front ++ (run ++ back) ≡ ys
    as_parts = ap (λ (l : List Slot). front ++ l) (take-append-drop m (drop_l i ys)) ∙ take-append-drop i ys

    pub length-replaced : (ws : List Slot) → length ws ≡ m → length (front ++ (ws ++ back)) ≡ length ys
    length-replaced ws l =
        let f = length-front i ys (omega arith) in let d = length-drop i ys in let d' = length-drop m (drop_l i ys) in
        length-append front (ws ++ back) ∙ ap (λ (k : ℕ). length front + k) (length-append ws back) ∙ omega arith

    module _ {M : Type 1} {𝓤 : Ura M} (𝓛 : Logic 𝓤) (b : ℕ) where
      pub taken_out : ent 𝓤 (sem 𝓛 (row S full_share ys b o)) (sep 𝓤 (sem 𝓛 (row S full_share run b begins)) (sep 𝓤 (sem 𝓛 (row S full_share front b o)) (sem 𝓛 (row S full_share back b ends))))
      taken_out =
          qed 𝓛 (‵ (row S full_share ys b o) ∷ []) ∵ rewrite ! 0 (λ (l : List Slot). ‵ (row S full_share l b o)) (sym (take-append-drop i ys)) refl $
          use1 𝓛 (‵ (row S full_share front b o) ⊛ ‵ (row S full_share (drop_l i ys) b (place size o (length front)))) (divided 𝓛 front (drop_l i ys) b o) $ split ! $ move ! (1 ∷ []) $
          rewrite ! 0 (λ (k : ℕ). ‵ (row S full_share (drop_l i ys) b k)) run-begins refl $ rewrite ! 0 (λ (l : List Slot). ‵ (row S full_share l b begins)) (sym (take-append-drop m (drop_l i ys))) refl $
          use1 𝓛 (‵ (row S full_share run b begins) ⊛ ‵ (row S full_share back b (place size begins (length run)))) (divided 𝓛 run back b begins) $ split ! $
          rewrite ! 1 (λ (k : ℕ). ‵ (row S full_share back b (place size begins k))) length-run refl $ move ! (0 ∷ 2 ∷ 1 ∷ []) $ done !

      pub put_back : (ws : List Slot) → length ws ≡ m → ent 𝓤 (sep 𝓤 (sem 𝓛 (row S full_share ws b begins)) (sep 𝓤 (sem 𝓛 (row S full_share front b o)) (sem 𝓛 (row S full_share back b ends)))) (sem 𝓛 (row S full_share (front ++ (ws ++ back)) b o))
      put_back ws l =
          qed 𝓛 (‵ (row S full_share ws b begins) ∷ ‵ (row S full_share front b o) ∷ ‵ (row S full_share back b ends) ∷ []) ∵
          rewrite ! 2 (λ (k : ℕ). ‵ (row S full_share back b (place size begins k))) (sym l) refl $ move ! (0 ∷ 2 ∷ []) $
          use2 𝓛 (‵ (row S full_share (ws ++ back) b begins)) (united 𝓛 ws back b begins) $ rewrite ! 0 (λ (k : ℕ). ‵ (row S full_share (ws ++ back) b k)) (sym run-begins) refl $ move ! (1 ∷ 0 ∷ []) $
          by ! (united 𝓛 front (ws ++ back) b o)
