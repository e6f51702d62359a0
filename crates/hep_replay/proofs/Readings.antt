-- A text of lines has one reading at most.
use Rattle.std.proofs.Common.{◌≡◌, ◌≢◌, inl, inr, ℕ, ◌+◌, ◌^◌, ◌<◌, ◌≤◌, ◌-◌, zero, suc, add-one, replicate, take, List, [], ◌∷◌, ◌++◌, length, refl, sym, ap, ◌∙◌, arith, append_assoc, append-nil, length-append}
use Rattle.std.specs.List.{AllByRecursion, flat_map}
use Rattle.std.proofs.Math.Seq.{take-append_seam}
use Rattle.std.proofs.lemmas.List.{length-replicate}
use Rattle.std.proofs.lemmas.Grind.{flat_map-append}
use Rattle.hep_replay.specs.Lines.{AreApart, AreLines, IsFirstBad, IsRefusedText, most_bytes, repeated}

-- ---- a line that stands several times in a row

again_first : (n : ℕ) (line rest : List ℕ) → repeated n line ++ (line ++ rest) ≡ line ++ (repeated n line ++ rest)
again_first zero line rest = refl
again_first (suc n) line rest =
    append_assoc line (repeated n line) (line ++ rest)
    ∙ ap (λ l. line ++ l) (again_first n line rest ∙ sym (append_assoc line (repeated n line) rest))

pub repeated_more : (n : ℕ) (line rest : List ℕ) → repeated n line ++ (line ++ rest) ≡ repeated (n + 1) line ++ rest
repeated_more n line rest = rw add-one (again_first n line rest ∙ sym (append_assoc line (repeated n line) rest))

lines_repeated : {A : Type 0} (line : A → List ℕ) (x : A) (n : ℕ) → flat_map line (replicate n x) ≡ repeated n (line x)
lines_repeated line x zero = refl
lines_repeated line x (suc n) = ap (λ l. line x ++ l) (lines_repeated line x n)

each_more : {A : Type 0} (Allows : A → Type 0) (xs : List A) (x : A) (n : ℕ) → AllByRecursion Allows xs → Allows x → AllByRecursion Allows (xs ++ replicate n x)
each_more Allows [] x zero each here = tt
each_more Allows [] x (suc n) each here = (here, each_more Allows [] x n tt here)
each_more Allows (y ∷ xs) x n each here = (each.0, each_more Allows xs x n each.1 here)

-- ---- readings

-- nothing is left after the lines
nothing_left : (text front rest : List ℕ) → text ≡ front ++ rest → length rest ≡ 0 → text ≡ front
nothing_left text front [] e h = e ∙ append-nil front
nothing_left text front (c ∷ rest) e h = absurd (omega arith)

-- of a text that isn't too long, these lines were read, and this rest is left
pub record IsReadTo {A : Type 0} (line : A → List ℕ) (Allows : A → Type 0) (text rest : List ℕ) (xs : List A) : Type 0 where
  pub size : length text ≤ most_bytes
  pub split : text ≡ flat_map line xs ++ rest
  pub each : AllByRecursion Allows xs

module _ {A : Type 0} (line : A → List ℕ) (Allows : A → Type 0) (lines : AreApart line Allows) where
  -- no line stands at the front
  abbrev Stops : List ℕ → Type 0
  Stops rest = (x : A) (more : List ℕ) → Allows x → rest ≢ line x ++ more

  nothing_stops : Stops []
  nothing_stops x more h e = omega (arith, lines.filled x, length-append (line x) more, ap length e)

  same_lines : (xs ys : List A) (rest more : List ℕ) → AllByRecursion Allows xs → AllByRecursion Allows ys → Stops rest → Stops more
      → flat_map line xs ++ rest ≡ flat_map line ys ++ more → (xs ≡ ys) × (rest ≡ more)
  same_lines [] [] rest more p q s t e = (refl, e)
  same_lines [] (y ∷ ys) rest more p q s t e = absurd (s y (flat_map line ys ++ more) q.0 (e ∙ append_assoc (line y) (flat_map line ys) more))
  same_lines (x ∷ xs) [] rest more p q s t e = absurd (t x (flat_map line xs ++ rest) p.0 (sym e ∙ append_assoc (line x) (flat_map line xs) rest))
  same_lines (x ∷ xs) (y ∷ ys) rest more p q s t e =
      let front = lines.apart x y (flat_map line xs ++ rest) (flat_map line ys ++ more) p.0 q.0 (
      sym (append_assoc (line x) (flat_map line xs) rest) ∙ e ∙ append_assoc (line y) (flat_map line ys) more) in
      let rest_after = same_lines xs ys rest more p.1 q.1 s t front.1 in
      let same : x ∷ xs ≡ y ∷ ys = cc (front.0, rest_after.0) in
      (same, rest_after.1)

  -- there are no more lines than bytes
  count_within : (xs : List A) → length xs ≤ length (flat_map line xs)
  count_within [] = omega arith
  count_within (x ∷ xs) = omega (arith, lines.filled x, count_within xs, length-append (line x) (flat_map line xs))

  one_reading : (text : List ℕ) (xs ys : List A) → AreLines line Allows text xs → AreLines line Allows text ys → xs ≡ ys
  one_reading text xs ys p q =
      (same_lines xs ys [] [] p.each q.each nothing_stops nothing_stops (append-nil (flat_map line xs) ∙ sym p.whole ∙ q.whole ∙ sym (append-nil (flat_map line ys)))).0

  -- a text that is refused is that of nothing
  not_both : (text : List ℕ) (k : ℕ) (ys : List A) → IsRefusedText line Allows text k → AreLines line Allows text ys → ⊥
  not_both text k ys (inl p) q = omega (arith, p.1, q.size)
  not_both text k ys (inr p) q =
      p.1.some (same_lines p.1.before ys p.1.rest [] p.1.each q.each p.1.none nothing_stops (sym p.1.whole ∙ q.whole ∙ sym (append-nil (flat_map line ys)))).1

  -- a text has one first bad line only
  one_bad : (text : List ℕ) (j k : ℕ) → IsFirstBad line Allows text j → IsFirstBad line Allows text k → j ≡ k
  one_bad text j k p q =
      let same = (same_lines p.before q.before p.rest q.rest p.each q.each p.none q.none (sym p.whole ∙ q.whole)).0 in
      p.place ∙ ap (λ (xs : List A). length xs + 1) same ∙ sym q.place

  -- the number of the next line fits
  pub count_fits : {text rest : List ℕ} {xs : List A} → IsReadTo line Allows text rest xs → length xs + 1 < 2 ^ 32
  count_fits {text} {rest} {xs} read = omega (arith, read.size, count_within xs, ap length read.split, length-append (flat_map line xs) rest)

  -- nothing is left, and whatever the text is the lines of is what was read
  pub read_whole : {text rest : List ℕ} {xs : List A} → IsReadTo line Allows text rest xs → length rest ≡ 0 → (ys : List A) → AreLines line Allows text ys → xs ≡ ys
  read_whole {text} {rest} {xs} read none ys h =
      one_reading text xs ys (record { size = read.size; whole = nothing_left text (flat_map line xs) rest read.split none; each = read.each }) h

  -- no line stands in front of what is left, and the text is the lines of nothing
  pub read_short : {text rest : List ℕ} {xs : List A} → IsReadTo line Allows text rest xs → rest ≢ [] → Stops rest → (ys : List A) → AreLines line Allows text ys → ⊥
  read_short {text} {rest} {xs} read some none ys h =
      not_both text (length xs + 1) ys (inr (read.size, record { before = xs; rest = rest; place = refl; whole = read.split; each = read.each; some = some; none = none })) h

  -- the line in front of what is left after it
  pub front_is : (x : A) (rest more : List ℕ) → rest ≡ line x ++ more → take (length rest - length more) rest ≡ line x
  front_is x rest more e =
      let count : length rest - length more ≡ length (line x) = omega (arith, ap length e, length-append (line x) more) in
      ap (λ k. take k rest) count ∙ ap (take (length (line x))) e ∙ take-append_seam (line x) more

  -- this line, and so many more that are the same
  pub read_on : {text rest more last : List ℕ} {xs : List A} → IsReadTo line Allows text rest xs → (x : A) (n : ℕ) → Allows x → rest ≡ line x ++ more
      → more ≡ repeated n (take (length rest - length more) rest) ++ last → IsReadTo line Allows text last (xs ++ replicate (n + 1) x)
  read_on {text} {rest} {more} {last} {xs} read x n here front again =
      let same : more ≡ repeated n (line x) ++ last = again ∙ ap (λ l. repeated n l ++ last) (front_is x rest more front) in
      record {
        size = read.size;
        split = read.split
            ∙ ap (λ l. flat_map line xs ++ l) (front ∙ ap (λ l. line x ++ l) same ∙ sym (append_assoc (line x) (repeated n (line x)) last))
            ∙ sym (append_assoc (flat_map line xs) (repeated (suc n) (line x)) last)
            ∙ ap (λ l. (flat_map line xs ++ l) ++ last) (sym (lines_repeated line x (suc n)))
            ∙ ap (λ l. l ++ last) (sym (flat_map-append line xs (replicate (suc n) x)))
            ∙ ap (λ k. flat_map line (xs ++ replicate k x) ++ last) (sym (add-one n));
        each = each_more Allows xs x (n + 1) read.each here;
      }

  -- they are so many
  pub count_on : (xs : List A) (x : A) (n : ℕ) → length (xs ++ replicate (n + 1) x) ≡ length xs + (n + 1)
  count_on xs x n = length-append xs (replicate (n + 1) x) ∙ ap (λ k. length xs + k) (length-replicate (n + 1) x)

  -- and so few that their number fits
  pub count_on_fits : (last : List ℕ) {text rest more : List ℕ} {xs : List A} → IsReadTo line Allows text rest xs → (x : A) (n : ℕ) → Allows x → rest ≡ line x ++ more
      → more ≡ repeated n (take (length rest - length more) rest) ++ last → length xs + (n + 1) < 2 ^ 32
  count_on_fits last {text} {rest} {more} {xs} read x n here front again = omega (arith, count_fits (read_on read x n here front again), count_on xs x n)

  pub one_refusal : (text : List ℕ) (j k : ℕ) → IsRefusedText line Allows text j → IsRefusedText line Allows text k → j ≡ k
  one_refusal text j k (inl p) (inl q) = p.0 ∙ sym q.0
  one_refusal text j k (inl p) (inr q) = absurd (omega (arith, p.1, q.0))
  one_refusal text j k (inr p) (inl q) = absurd (omega (arith, q.1, p.0))
  one_refusal text j k (inr p) (inr q) = one_bad text j k p.1 q.1

  pub same_texts : (xs ys : List A) → AllByRecursion Allows xs → AllByRecursion Allows ys → flat_map line xs ≡ flat_map line ys → xs ≡ ys
  same_texts xs ys p q e = (same_lines xs ys [] [] p q nothing_stops nothing_stops (append-nil (flat_map line xs) ∙ e ∙ sym (append-nil (flat_map line ys)))).0

-- ---- one line more

pub lines_more : {A B : Type 0} (line : A → List B) (xs : List A) (x : A) → flat_map line (xs ++ x ∷ []) ≡ flat_map line xs ++ line x
lines_more line [] x = append-nil (line x)
lines_more line (y ∷ xs) x = ap (λ l. line y ++ l) (lines_more line xs x) ∙ sym (append_assoc (line y) (flat_map line xs) (line x))
