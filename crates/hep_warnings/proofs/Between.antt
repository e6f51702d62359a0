-- Warnings whose lines rise, and lie between two lines.
use Rattle.std.proofs.Common.{◌≡◌, ℕ, suc, ◌+◌, ◌≤◌, ◌<◌, Bool, true, false, nat_le, nat_lt, ⊎_elim, List, [], ◌∷◌, ◌++◌, length, drop, take, refl, sym, subst, arith, Some, None, if◌then◌else◌}
use Rattle.std.proofs.lemmas.Bool.{cases_lt, le-ltb, leb-false, leb-true, lt-ltb}
use Rattle.std.specs.List.{flat_map}
use Rattle.std.specs.Option.{unwrap_or}
use Rattle.hep_machine.specs.Words.{Statement, Units}
use Rattle.hep_warnings.specs.declared.warning.Warning.{Warning}
use Rattle.hep_warnings.specs.Lines.{Warnings}
use Rattle.hep_warnings.specs.Merge.{count_before, merged}
use Rattle.hep_warnings.specs.Order.{lines_in, lines_of_program, lines_of_warnings, Rise}

-- these lines rise from one to another
abbrev pub RiseTo : ℕ → ℕ → List ℕ → Type 0
RiseTo m e [] = m ≤ e
RiseTo m e (n ∷ ns) = (m ≤ n) × RiseTo n e ns

abbrev pub Between : ℕ → ℕ → Warnings → Type 0
Between m e [] = m ≤ e
Between m e (w ∷ ws) = (m ≤ w.line) × Between w.line e ws

-- all of these are of a line
abbrev pub AreOf : ℕ → Warnings → Type 0
AreOf n [] = Unit {0}
AreOf n (w ∷ ws) = (w.line ≡ n) × AreOf n ws

pub spans : (m e : ℕ) (ws : Warnings) → Between m e ws → m ≤ e
spans m e [] h = h
spans m e (w ∷ ws) h = let r = spans w.line e ws h.1 in omega (arith, h.0, r)

pub spans_lines : (m e : ℕ) (ns : List ℕ) → RiseTo m e ns → m ≤ e
spans_lines m e [] h = h
spans_lines m e (n ∷ ns) h = let r = spans_lines n e ns h.1 in omega (arith, h.0, r)

pub from_below : (k m e : ℕ) (ws : Warnings) → k ≤ m → Between m e ws → Between k e ws
from_below k m e [] b h = omega (arith, b, h)
from_below k m e (w ∷ ws) b h = (omega (arith, b, h.0), h.1)

pub both : (m k e : ℕ) (us ws : Warnings) → Between m k us → Between k e ws → Between m e (us ++ ws)
both m k e [] ws a b = from_below m k e ws a b
both m k e (u ∷ us) ws a b = (a.0, both u.line k e us ws a.1 b)

pub at_line : (m n : ℕ) (ws : Warnings) → m ≤ n → AreOf n ws → Between m n ws
at_line m n [] b h = b
at_line m n (w ∷ ws) b h = let e : w.line ≡ n = h.0 in let here : w.line ≤ n = omega (arith, e) in (omega (arith, b, e), at_line w.line n ws here h.1)

pub of_both : (n : ℕ) (us ws : Warnings) → AreOf n us → AreOf n ws → AreOf n (us ++ ws)
of_both n [] ws a b = b
of_both n (u ∷ us) ws a b = (a.0, of_both n us ws a.1 b)

pub of_all : {A : Type 0} (n : ℕ) (f : A → Warnings) → ((x : A) → AreOf n (f x)) → (xs : List A) → AreOf n (flat_map f xs)
of_all n f h [] = tt
of_all n f h (x ∷ xs) = of_both n (f x) (flat_map f xs) (h x) (of_all n f h xs)

-- ---- warnings of statements, each at the line of its statement, and of units

pub of_statements : (f : Statement → Warnings) → ((s : Statement) → AreOf s.line (f s)) → (m e : ℕ) (ss : List Statement)
    → RiseTo m e (lines_in ss) → Between m e (flat_map f ss)
of_statements f h m e [] r = r
of_statements f h m e (s ∷ ss) r = both m s.line e (f s) (flat_map f ss) (at_line m s.line (f s) r.0 (h s)) (of_statements f h s.line e ss r.1)

-- the units of a program, each with the lines from which and to which it goes
abbrev pub UnitsRise : ℕ → ℕ → Units → Type 0
UnitsRise m e [] = m ≤ e
UnitsRise m e (u ∷ us) = (k : ℕ) × RiseTo m k (lines_in u) × UnitsRise k e us

pub of_units : (g : List Statement → Warnings) → ((m e : ℕ) (u : List Statement) → RiseTo m e (lines_in u) → Between m e (g u))
    → (m e : ℕ) (p : Units) → UnitsRise m e p → Between m e (flat_map g p)
of_units g h m e [] r = r
of_units g h m e (u ∷ us) r = both m r.0 e (g u) (flat_map g us) (h m r.0 u r.1) (of_units g h r.0 e us r.2)

parted : (m : ℕ) (xs ys : List ℕ) → Rise m (xs ++ ys) → (k : ℕ) × RiseTo m k xs × Rise k ys
parted m [] ys h = let e : m ≤ m = omega arith in (m, e, h)
parted m (x ∷ xs) ys h = let r = parted x xs ys h.1 in (r.0, (h.0, r.1), r.2)

pub units_rise : (m : ℕ) (p : Units) → Rise m (lines_of_program p) → (e : ℕ) × UnitsRise m e p
units_rise m [] h = let e : m ≤ m = omega arith in (m, e)
units_rise m (u ∷ us) h =
    let r = parted m (lines_in u) (lines_of_program us) h in
    let q = units_rise r.0 us r.2 in
    (q.0, (r.0, r.1, q.1))

pub units_to : (m e k : ℕ) (p : Units) → e ≤ k → UnitsRise m e p → UnitsRise m k p
units_to m e k [] b h = omega (arith, b, h)
units_to m e k (u ∷ us) b h = (h.0, h.1, units_to h.0 e k us b h.2)

-- ---- two lists by their lines

-- how far the first that passes is, behind one more that doesn't
one_further : (p len : ℕ) → unwrap_or (if nat_lt (1 + p) (suc len) then Some (1 + p) else None) (suc len) ≡ suc (unwrap_or (if nat_lt p len then Some p else None) len)
one_further p len = ⊎_elim
    (λ h. let k : 1 + p < suc len = omega (arith, h) in let e : 1 + p ≡ suc p = omega arith in rw (lt-ltb (1 + p) (suc len) k, lt-ltb p len h) e)
    (λ h. let k : suc len ≤ 1 + p = omega (arith, h) in rw (le-ltb (1 + p) (suc len) k, le-ltb p len h) refl)
    (cases_lt p len)

first_passes : (len : ℕ) → unwrap_or (if nat_lt 0 (suc len) then Some 0 else None) (suc len) ≡ 0
first_passes len = let k : 0 < suc len = omega arith in rw (lt-ltb 0 (suc len) k) refl

module _ (n : ℕ) where
  shifted : (test : Bool) (ws : Warnings) (w : Warning) → nat_le n w.line ≡ test → count_before n (w ∷ ws) ≡ (if test then 0 else suc (count_before n ws))
  shifted true ws w t = rw t (first_passes (length ws))
  shifted false ws w t = rw t (one_further _ (length ws))

  -- those before a line, and the others
  pub before : (m e : ℕ) (ws : Warnings) → m ≤ n → n ≤ e → Between m e ws → Between m n (take (count_before n ws) ws) × Between n e (drop (count_before n ws) ws)
  before m e [] a b h = (a, b)
  before m e (w ∷ ws) a b h = by (nat_le n w.line) refl (λ lt. before w.line e ws lt b h.1)
    where
      by : (test : Bool) → nat_le n w.line ≡ test → (w.line ≤ n → Between w.line n (take (count_before n ws) ws) × Between n e (drop (count_before n ws) ws))
          → Between m n (take (count_before n (w ∷ ws)) (w ∷ ws)) × Between n e (drop (count_before n (w ∷ ws)) (w ∷ ws))
      by true t behind =
          let le : n ≤ w.line = leb-true n w.line t in
          subst (λ k. Between m n (take k (w ∷ ws)) × Between n e (drop k (w ∷ ws))) (sym (shifted true ws w t)) (a, (le, h.1))
      by false t behind =
          let lt : w.line < n = leb-false n w.line t in
          let r = behind (omega (arith, lt)) in
          subst (λ k. Between m n (take k (w ∷ ws)) × Between n e (drop k (w ∷ ws))) (sym (shifted false ws w t)) ((h.0, r.0), r.1)

pub merging : (m e : ℕ) (vs ws : Warnings) → Between m e vs → Between m e ws → Between m e (merged vs ws)
merging m e [] ws a b = b
merging m e (v ∷ vs) ws a b =
    let k = count_before v.line ws in
    let r = before v.line m e ws a.0 (spans v.line e vs a.1) b in
    both m v.line e (take k ws) (v ∷ merged vs (drop k ws)) r.0
    (let same : v.line ≤ v.line = omega arith in (same, merging v.line e vs (drop k ws) a.1 r.1))

pub rising : (m e : ℕ) (ws : Warnings) → Between m e ws → Rise m (lines_of_warnings ws)
rising m e [] h = tt
rising m e (w ∷ ws) h = (h.0, rising w.line e ws h.1)
