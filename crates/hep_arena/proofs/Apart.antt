-- Two runs of a row without a common slot: both are taken out, and put back with other slots in place of the second.
-- Assumes `Logic`.
use Rattle.std.proofs.Common.{◌≡◌, ℕ, zero, suc, ◌+◌, ◌-◌, ◌*◌, ◌≤◌, List, [], ◌∷◌, ◌++◌, length, take, drop as drop_l, refl, sym, ap, ◌∙◌, arith, length-drop, ◌⊎◌, inl, inr}
use seplogic.Ra.Ura.{Ura}
use base.Fraction.{full_share}
use base.Fml.{Fml, fsep}
use base.Logic.{ent, sep}
use types.Kit.{‵, ◌⊛◌, ◌$◌, ◌∵◌, !, qed, by, move, use1, use3, split, fsplit3, fjoin, rewrite, done}
use types.Logic.{Logic, sem}
use denote.Index.{row, place_is}
use Rattle.hep_machine.specs.declared.slot.Slot.{Slot}
use Rattle.hep_arena.specs.contracts.cell.Cell.{the_row as S}
use Rattle.hep_arena.proofs.Rows.{size, begins, front, run, back, ends, length-run, length-front, as_parts, taken_out, put_back}

-- ---- runs of parts of a list

take-less : (m k : ℕ) (l : List Slot) → m ≤ k → take m (take k l) ≡ take m l
take-less zero k l le = refl
take-less (suc m) zero l le = absurd (omega arith)
take-less (suc m) (suc k) [] le = refl
take-less (suc m) (suc k) (x ∷ l) le = ap (λ (r : List Slot). x ∷ r) (take-less m k l (omega arith))

-- a run that ends by k is one of the first k
run-before : (i m k : ℕ) (l : List Slot) → i + m ≤ k → take m (drop_l i (take k l)) ≡ take m (drop_l i l)
run-before zero m k l le = take-less m k l (omega arith)
run-before (suc i) m zero l le = absurd (omega arith)
run-before (suc i) m (suc k) [] le = refl
run-before (suc i) m (suc k) (x ∷ l) le = run-before i m k l (omega arith)

drop-nothing : (i : ℕ) → ◌≡◌ {A = List Slot} (drop_l i []) []
drop-nothing zero = refl
drop-nothing (suc i) = refl

drop-both : (i j : ℕ) (l : List Slot) → drop_l j (drop_l i l) ≡ drop_l (i + j) l
drop-both zero j l = ap (λ (k : ℕ). drop_l k l) (omega arith)
drop-both (suc i) j [] = drop-nothing j ∙ sym (drop-nothing (suc i + j))
drop-both (suc i) j (x ∷ l) = drop-both i j l ∙ ap (λ (k : ℕ). drop_l k (x ∷ l)) (let t : suc (i + j) ≡ suc i + j = omega arith in t)

-- ---- the run from i on is read, and that from j on is written

pub record AreApart {M : Type 1} {𝓤 : Ura M} (𝓛 : Logic 𝓤) (xs : List Slot) (b o i m j n : ℕ) : Type 1 where
  pub others : Fml
  pub out : ent 𝓤 (sem 𝓛 (row S full_share xs b o)) (sep 𝓤 (sem 𝓛 (row S full_share (run xs o i m) b (begins xs o i m))) (sep 𝓤 (sem 𝓛 (row S full_share (run xs o j n) b (begins xs o j n))) (sem 𝓛 others)))
  pub in_again : (ws : List Slot) → length ws ≡ n → ent 𝓤 (sep 𝓤 (sem 𝓛 (row S full_share (run xs o i m) b (begins xs o i m))) (sep 𝓤 (sem 𝓛 (row S full_share ws b (begins xs o j n))) (sem 𝓛 others))) (sem 𝓛 (row S full_share (front xs o j n ++ (ws ++ back xs o j n)) b o))

module _ {M : Type 1} {𝓤 : Ura M} (𝓛 : Logic 𝓤) (xs : List Slot) (b o i m j n : ℕ) (inside : i + m ≤ length xs) (inside' : j + n ≤ length xs) where
  read_first : i + m ≤ j → AreApart 𝓛 xs b o i m j n
  read_first le =
      let f = front xs o j n in
      let fits : i + m ≤ length f = let u = length-front j xs (omega arith) in omega arith in
      let e : run f o i m ≡ run xs o i m = run-before i m j xs le in
      let others = fsep (row S full_share (front f o i m) b o) (fsep (row S full_share (back f o i m) b (ends f o i m)) (row S full_share (back xs o j n) b (ends xs o j n))) in
      record {
        others = others;
        out = qed 𝓛 (‵ (row S full_share xs b o) ∷ []) ∵
            use1 𝓛 (‵ (row S full_share (run xs o j n) b (begins xs o j n)) ⊛ ‵ (row S full_share f b o) ⊛ ‵ (row S full_share (back xs o j n) b (ends xs o j n))) (taken_out xs o j n inside' 𝓛 b) $ split ! $ move ! (1 ∷ []) $ split ! $
            use1 𝓛 (‵ (row S full_share (run f o i m) b (begins f o i m)) ⊛ ‵ (row S full_share (front f o i m) b o) ⊛ ‵ (row S full_share (back f o i m) b (ends f o i m))) (taken_out f o i m fits 𝓛 b) $ split ! $ move ! (1 ∷ []) $ split ! $
            -- [the front's front and back, its run; the back of all; the run from j on]
            move ! (1 ∷ 3 ∷ []) $ fjoin ! $ move ! (1 ∷ 0 ∷ []) $ fjoin ! $ move ! (1 ∷ 2 ∷ 0 ∷ []) $ rewrite ! 0 (λ (l : List Slot). ‵ (row S full_share l b (begins xs o i m))) e refl $ done !;
        in_again = λ ws l. qed 𝓛 (‵ (row S full_share (run xs o i m) b (begins xs o i m)) ∷ ‵ (row S full_share ws b (begins xs o j n)) ∷ ‵ others ∷ []) ∵
            move ! (2 ∷ []) $ fsplit3 ! $ move ! (3 ∷ []) $ rewrite ! 0 (λ (l : List Slot). ‵ (row S full_share l b (begins f o i m))) (sym e) refl $
            use3 𝓛 (‵ (row S full_share (front f o i m ++ (run f o i m ++ back f o i m)) b o)) (put_back f o i m fits 𝓛 b (run f o i m) (length-run f o i m fits)) $
            rewrite ! 0 (λ (l : List Slot). ‵ (row S full_share l b o)) (as_parts f o i m fits) refl $ move ! (2 ∷ 0 ∷ 1 ∷ []) $ by ! (put_back xs o j n inside' 𝓛 b ws l);
      }

  written_first : j + n ≤ i → AreApart 𝓛 xs b o i m j n
  written_first le =
      let f = back xs o j n in let o' = ends xs o j n in let k = i - (j + n) in
      let fits : k + m ≤ length f = let u = length-drop j xs in let v = length-drop n (drop_l j xs) in omega arith in
      let e : run f o' k m ≡ run xs o i m = ap (λ (l : List Slot). take m l) (ap (drop_l k) (drop-both j n xs) ∙ drop-both (j + n) k xs ∙ ap (λ (h : ℕ). drop_l h xs) (omega arith)) in
      let p : begins f o' k m ≡ begins xs o i m = let u : o' ≡ n * 16 + (j * 16 + o) = place_is size (begins xs o j n) n in let w : k * 16 + o' ≡ i * 16 + o = omega arith in w in
      let others = fsep (row S full_share (front f o' k m) b o') (fsep (row S full_share (back f o' k m) b (ends f o' k m)) (row S full_share (front xs o j n) b o)) in
      record {
        others = others;
        out = qed 𝓛 (‵ (row S full_share xs b o) ∷ []) ∵
            use1 𝓛 (‵ (row S full_share (run xs o j n) b (begins xs o j n)) ⊛ ‵ (row S full_share (front xs o j n) b o) ⊛ ‵ (row S full_share f b o')) (taken_out xs o j n inside' 𝓛 b) $ split ! $ move ! (1 ∷ []) $ split ! $ move ! (1 ∷ []) $
            use1 𝓛 (‵ (row S full_share (run f o' k m) b (begins f o' k m)) ⊛ ‵ (row S full_share (front f o' k m) b o') ⊛ ‵ (row S full_share (back f o' k m) b (ends f o' k m))) (taken_out f o' k m fits 𝓛 b) $ split ! $ move ! (1 ∷ []) $ split ! $
            move ! (1 ∷ 3 ∷ []) $ fjoin ! $ move ! (1 ∷ 0 ∷ []) $ fjoin ! $ move ! (1 ∷ 2 ∷ 0 ∷ []) $ rewrite ! 0 (λ (u : List Slot × ℕ). ‵ (row S full_share u.0 b u.1)) (λ h. (e h, p h)) refl $ done !;
        in_again = λ ws l. qed 𝓛 (‵ (row S full_share (run xs o i m) b (begins xs o i m)) ∷ ‵ (row S full_share ws b (begins xs o j n)) ∷ ‵ others ∷ []) ∵
            move ! (2 ∷ []) $ fsplit3 ! $ move ! (3 ∷ []) $ rewrite ! 0 (λ (u : List Slot × ℕ). ‵ (row S full_share u.0 b u.1)) (λ h. (sym e h, sym p h)) refl $
            use3 𝓛 (‵ (row S full_share (front f o' k m ++ (run f o' k m ++ back f o' k m)) b o')) (put_back f o' k m fits 𝓛 b (run f o' k m) (length-run f o' k m fits)) $
            rewrite ! 0 (λ (l : List Slot). ‵ (row S full_share l b o')) (as_parts f o' k m fits) refl $ move ! (2 ∷ 1 ∷ 0 ∷ []) $ by ! (put_back xs o j n inside' 𝓛 b ws l);
      }

  pub apart : (i + m ≤ j) ⊎ (j + n ≤ i) → AreApart 𝓛 xs b o i m j n
  apart (inl le) = read_first le
  apart (inr le) = written_first le
