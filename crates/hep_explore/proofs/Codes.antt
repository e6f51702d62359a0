-- The words of a machine's contents tell them apart: each part is a prefix code, so that the next one begins where it ends.
use Rattle.std.proofs.Common.{◌≡◌, ℕ, ◌+◌, ◌-◌, ◌≤◌, Bool, true, false, if◌then◌else◌, nat_eq, nat_lt, List, [], ◌∷◌, ◌++◌, length, Option}
use Rattle.std.proofs.Common.{Some, None, neg_ℤ, pos, negsuc, inl, inr, refl, sym, ap, ◌∙◌, append_assoc, append-nil, arith}
use Rattle.std.specs.Option.{unwrap_or}
use Rattle.std.proofs.lemmas.Bool.{cases_Bool}
use borrow.Author.Tests.{ltb-true}
use Rattle.std.specs.List.{flat_map}
use Rattle.hep_source.specs.declared.value.Value.{Value}
use Rattle.hep_source.specs.declared.value.Value.TheVariants.{Int, Truth}
use Rattle.hep_machine.specs.declared.event.Kind.{Kind}
use Rattle.hep_machine.specs.declared.event.Kind.TheVariants as kind
use Rattle.hep_machine.specs.declared.record.Item.TheVariants as item
use Rattle.hep_machine.specs.declared.slot.Slot.{Slot}
use Rattle.hep_explore.specs.Contents.{Contents}
use Rattle.hep_explore.specs.Keys.{counted, fault_words, frame_words, halted_word, held_kind, held_number, item_words, kind_word}
use Rattle.hep_explore.specs.Keys.{level_words, slot_words, stack_words, value_kind, value_number, value_words, words_of}

-- two words begin in the same way only if they are the same
abbrev IsPrefixCode : {A : Type 0} → (A → List ℕ) → Type 0
IsPrefixCode {A = A} words = (x y : A) (r s : List ℕ) → words x ++ r ≡ words y ++ s → (x ≡ y) × (r ≡ s)

-- ---- lists

-- lists with as many elements
lists-apart : {A : Type 0} (words : A → List ℕ) → IsPrefixCode words → (xs ys : List A) (r s : List ℕ) → length xs ≡ length ys
    → flat_map words xs ++ r ≡ flat_map words ys ++ s → (xs ≡ ys) × (r ≡ s)
lists-apart words code [] [] r s long same = (refl, same)
lists-apart words code [] (y ∷ ys) r s long same = absurd (omega (arith, long))
lists-apart words code (x ∷ xs) [] r s long same = absurd (omega (arith, long))
lists-apart words code (x ∷ xs) (y ∷ ys) r s long same =
    let whole = sym (append_assoc (words x) (flat_map words xs) r) ∙ same ∙ append_assoc (words y) (flat_map words ys) s in
    let first = code x y (flat_map words xs ++ r) (flat_map words ys ++ s) whole in
    let rest = lists-apart words code xs ys r s (omega (arith, long)) first.1 in
    (λ i. first.0 i ∷ rest.0 i, rest.1)

-- lists with their lengths before them
counted-code : {A : Type 0} (words : A → List ℕ) → IsPrefixCode words → IsPrefixCode (counted words)
counted-code words code xs ys r s same =
    let long : length xs ≡ length ys = cc in
    let rest : flat_map words xs ++ r ≡ flat_map words ys ++ s = cc in
    lists-apart words code xs ys r s long rest

-- single words
number-code : IsPrefixCode (λ (c : ℕ). c ∷ [])
number-code x y r s same = (cc, cc)

-- ---- values and cells

-- the value of a kind and a number
abbrev value_read : ℕ → ℕ → Option Value
value_read k n =
    if nat_eq k 1 then Some (Int (pos n)) else
    (if nat_eq k 2 then Some (Int (neg_ℤ (pos n))) else
    (if nat_eq k 3 then Some (Truth false) else
    (if nat_eq k 4 then Some (Truth true) else None)))

-- an integer from 0 on
from-zero : (n : ℕ) → value_kind (Int (pos n)) ≡ 1
from-zero n = elim (cases_Bool (nat_lt n 0)) [
  | inl less ↦ absurd (omega (arith, ltb-true n 0 less))
  | inr more ↦ ap (λ b. if b then 2 else 1) more
]

-- a value is read again
value-read : (v : Value) → value_read (value_kind v) (value_number v) ≡ Some v
value-read (Int (pos n)) = ap (λ k. value_read k n) (from-zero n)
value-read (Int (negsuc n)) = refl
value-read (Truth false) = refl
value-read (Truth true) = refl

-- the kinds of values
kind-few : (v : Value) → value_kind v ≤ 4
kind-few (Int (pos n)) = omega (arith, from-zero n)
kind-few (Int (negsuc n)) = omega arith
kind-few (Truth false) = omega arith
kind-few (Truth true) = omega arith

-- values of the same kind and number are the same
values-same : (v w : Value) → value_kind v ≡ value_kind w → value_number v ≡ value_number w → v ≡ w
values-same v w k n =
    ap (λ o. unwrap_or o v) (sym (value-read v) ∙ (λ i. value_read (k i) (n i)) ∙ value-read w)

-- values
value-code : IsPrefixCode value_words
value-code v w r s same =
    let k : value_kind v ≡ value_kind w = cc in
    let n : value_number v ≡ value_number w = cc in
    (values-same v w k n, cc)

abbrev slot_read : ℕ → ℕ → Slot
slot_read k n =
    if nat_lt k 5 then record { value = value_read k n; full = false } else record { value = value_read (k - 5) n; full = true }

abbrev slot_kind : Slot → ℕ
slot_kind s = if s.full then held_kind s.value + 5 else held_kind s.value

-- a cell is read again
slot-read : (value : Option Value) (full : Bool) → let s : Slot = record { value = value; full = full } in
    slot_read (slot_kind s) (held_number value) ≡ s
slot-read None false = refl
slot-read None true = refl
slot-read (Some (Int (pos n))) false =
    ap (λ k. slot_read k n) (from-zero n)
slot-read (Some (Int (pos n))) true =
    ap (λ k. slot_read (k + 5) n) (from-zero n)
slot-read (Some (Int (negsuc n))) false = refl
slot-read (Some (Int (negsuc n))) true = refl
slot-read (Some (Truth false)) false = refl
slot-read (Some (Truth false)) true = refl
slot-read (Some (Truth true)) false = refl
slot-read (Some (Truth true)) true = refl

-- cells
slot-code : IsPrefixCode slot_words
slot-code x y r s same =
    let k : slot_kind x ≡ slot_kind y = cc in
    let n : held_number x.value ≡ held_number y.value = cc in
    (sym (slot-read x.value x.full) ∙ (λ i. slot_read (k i) (n i)) ∙ slot-read y.value y.full, cc)

-- ---- frames and stacks

-- frames
frame-code : IsPrefixCode frame_words
frame-code x y r s same =
    let tail : counted slot_words x.cells ++ r ≡ counted slot_words y.cells ++ s = cc in
    let cells = counted-code slot_words slot-code x.cells y.cells r s tail in
    let a : x.activation ≡ y.activation = cc in
    let u : x.unit ≡ y.unit = cc in
    let f : x.first ≡ y.first = cc in
    let p : x.parent ≡ y.parent = cc in
    (λ i. record { activation = a i; unit = u i; first = f i; parent = p i; cells = cells.0 i }, cells.1)

-- levels
level-code : IsPrefixCode level_words
level-code x y r s same =
    let a : x.activation ≡ y.activation = cc in
    let u : x.unit ≡ y.unit = cc in
    let k : x.kept ≡ y.kept = cc in
    let n : x.index ≡ y.index = cc in
    (λ i. record { activation = a i; unit = u i; kept = k i; index = n i }, cc)

-- three parts in front of the rest
behind : (a b c r : List ℕ) → ((a ++ b) ++ c) ++ r ≡ a ++ (b ++ (c ++ r))
behind a b c r = append_assoc (a ++ b) c r ∙ append_assoc a b (c ++ r)

-- processes
stack-code : IsPrefixCode stack_words
stack-code x y r s same =
    let whole =
    sym (behind (counted level_words x.levels) (counted value_words x.operands) (counted value_words x.pending) r) ∙ same
    ∙ behind (counted level_words y.levels) (counted value_words y.operands) (counted value_words y.pending) s
    in
    let levels = counted-code level_words level-code x.levels y.levels _ _ whole in
    let operands = counted-code value_words value-code x.operands y.operands _ _ levels.1 in
    let pending = counted-code value_words value-code x.pending y.pending _ _ operands.1 in
    (λ i. record { levels = levels.0 i; operands = operands.0 i; pending = pending.0 i }, pending.1)

-- ---- what was written

-- a text, with its length before it
text-code : IsPrefixCode (counted (λ (c : ℕ). c ∷ []))
text-code = counted-code (λ c. c ∷ []) number-code

-- items of records
item-code : IsPrefixCode item_words
item-code (item.Int n) (item.Int m) r s same =
    let both = value-code (Int n) (Int m) r s same in
    let numbers : n ≡ m = (let e = both.0 in cc) in
    (ap item.Int numbers, both.1)
item-code (item.Truth b) (item.Truth c) r s same =
    let both = value-code (Truth b) (Truth c) r s same in
    let truths : b ≡ c = (let e = both.0 in cc) in
    (ap item.Truth truths, both.1)
item-code (item.Text cs) (item.Text ds) r s same =
    let tail : counted (λ c. c ∷ []) cs ++ r ≡ counted (λ c. c ∷ []) ds ++ s = cc in
    let both = text-code cs ds r s tail in
    (ap item.Text both.0, both.1)
item-code (item.Int n) (item.Truth c) r s same = let e = (value-code (Int n) (Truth c) r s same).0 in absurd cc
item-code (item.Truth b) (item.Int m) r s same = let e = (value-code (Truth b) (Int m) r s same).0 in absurd cc
item-code (item.Int n) (item.Text ds) r s same = let e : value_kind (Int n) ≡ 5 = cc in absurd (omega (arith, kind-few (Int n), e))
item-code (item.Truth b) (item.Text ds) r s same = let e : value_kind (Truth b) ≡ 5 = cc in absurd (omega (arith, kind-few (Truth b), e))
item-code (item.Text cs) (item.Int m) r s same = let e : 5 ≡ value_kind (Int m) = cc in absurd (omega (arith, kind-few (Int m), e))
item-code (item.Text cs) (item.Truth c) r s same = let e : 5 ≡ value_kind (Truth c) = cc in absurd (omega (arith, kind-few (Truth c), e))

abbrev kind_read : ℕ → Kind
kind_read n =
    if nat_eq n 0 then kind.Overflow else
    (if nat_eq n 1 then kind.Divide else
    (if nat_eq n 2 then kind.Range else
    (if nat_eq n 3 then kind.Undefined else
    (if nat_eq n 4 then kind.Shape else kind.Step))))

-- the kind of a fault is read again
kind-read : (k : Kind) → kind_read (kind_word k) ≡ k
kind-read kind.Overflow = refl
kind-read kind.Divide = refl
kind-read kind.Range = refl
kind-read kind.Undefined = refl
kind-read kind.Shape = refl
kind-read kind.Step = refl

-- faults
fault-code : IsPrefixCode fault_words
fault-code x y r s same =
    let p : x.process ≡ y.process = cc in
    let u : x.unit ≡ y.unit = cc in
    let l : x.line ≡ y.line = cc in
    let n : kind_word x.kind ≡ kind_word y.kind = cc in
    let k : x.kind ≡ y.kind = sym (kind-read x.kind) ∙ ap kind_read n ∙ kind-read y.kind in
    (λ i. record { process = p i; unit = u i; line = l i; kind = k i }, cc)

-- ---- machines

-- whether a STOP was made is read again
halted-same : (a b : Bool) → halted_word a ≡ halted_word b → a ≡ b
halted-same true true same = refl
halted-same false false same = refl
halted-same true false same = absurd (omega (arith, same))
halted-same false true same = absurd (omega (arith, same))

abbrev parts : Contents → List ℕ
parts c =
    (((counted slot_words c.common ++ counted frame_words c.frames) ++ counted stack_words c.processes)
    ++ counted (counted item_words) c.records) ++ counted fault_words c.faults

abbrev parts_right : Contents → List ℕ
parts_right c =
    counted slot_words c.common ++ (counted frame_words c.frames ++ (counted stack_words c.processes
    ++ (counted (counted item_words) c.records ++ counted fault_words c.faults)))

-- the parts as they follow one another
in-order : (c : Contents) → parts c ≡ parts_right c
in-order c = simp append_assoc

-- machines with the same words keep the same
pub contents-same : (x y : Contents) → words_of x ≡ words_of y → x ≡ y
contents-same x y same =
    let activations : x.activations ≡ y.activations = cc in
    let stop : halted_word x.halted ≡ halted_word y.halted = cc in
    let halted = halted-same x.halted y.halted stop in
    let tail : parts x ≡ parts y = cc in
    let rest = sym (in-order x) ∙ tail ∙ in-order y in
    let common = counted-code slot_words slot-code x.common y.common _ _ rest in
    let frames = counted-code frame_words frame-code x.frames y.frames _ _ common.1 in
    let processes = counted-code stack_words stack-code x.processes y.processes _ _ frames.1 in
    let records = counted-code (counted item_words) (counted-code item_words item-code) x.records y.records _ _ processes.1 in
    let faults = counted-code fault_words fault-code x.faults y.faults [] [] (
    append-nil (counted fault_words x.faults) ∙ records.1 ∙ sym (append-nil (counted fault_words y.faults)))
    in
    λ i. record {
      activations = activations i;
      halted = halted i;
      common = common.0 i;
      frames = frames.0 i;
      processes = processes.0 i;
      records = records.0 i;
      faults = faults.0 i;
    }
