-- Private steps in two parts: the second part is private from where the first one leads, whatever the first one stored in.
use Rattle.std.proofs.Common.{◌≡◌, ℕ, zero, suc, ◌+◌, ◌-◌, ◌≤◌, ◌<◌, ◌&&◌, true, false, nat_le, List, [], ◌∷◌, ◌++◌, drop, length, Option, Some, is_some, option_and_then, refl, sym, ap, ◌∙◌, subst, arith}
use Rattle.std.specs.Option.{option_map}
use Rattle.std.proofs.lemmas.Option.{none-some}
use Rattle.hep_machine.specs.Words.{Value, Units, unit_at}
use Rattle.hep_code.specs.declared.instruction.Evaluation.{Evaluation}
use Rattle.hep_code.specs.declared.instruction.Evaluation.TheVariants.{Load, Sign, Not, Combine, Apply, Test}
use Rattle.hep_code.specs.declared.instruction.Instruction.{Instruction}
use Rattle.hep_code.specs.declared.instruction.Instruction.TheVariants.{Step}
use Rattle.hep_code.specs.declared.instruction.Operation.{Operation}
use Rattle.hep_code.specs.declared.instruction.Operation.TheVariants.{Jump, Choose, BySign, Condition, Branch, EnterLoop, EndLoop}
use Rattle.hep_code.specs.declared.variable.Variable.TheVariants.{Local}
use Rattle.hep_code.specs.Words.{IsPastPushes, first_operand, left_to_do, most_operands}
use Rattle.hep_image.specs.Private.{private_cells}
use Rattle.hep_step.specs.Simulation.{unit_code}
use Rattle.hep_private.specs.declared.record.Record.{Record}
use Rattle.hep_private.specs.declared.record.Record.TheVariants.{Stores}
use Rattle.hep_private.specs.OwnState.{OwnState, begun, settled, stores_of, with_stores, written_after}
use Rattle.hep_private.specs.StepRecords.{MadeStep, has_room, if_room, made_ahead, made_by, made_of_choice, made_of_end, made_of_entry, made_of_value, next_made, note_of, own_after, recorded}
use Rattle.hep_private.proofs.StepRows.{before-others, first-of, made-ahead, made-next}
use Rattle.hep_private.proofs.StepCases.{HoldOf, so-by}
use Rattle.hep_commit.proofs.Runs.{left-same, past-here}
use Rattle.hep_private.specs.Segments.{Start}
use Rattle.hep_private.proofs.OperandRoom.{index-there, operands-there}
use Rattle.hep_commit.specs.TurnsInPlace.{are_private}
use Rattle.hep_source.proofs.Tests.{some_of}

with-front : {A : Type 0} (x : A) (all rest front more : List A) → x ∷ rest ≡ all → rest ≡ front ++ more → all ≡ (x ∷ front) ++ more
with-front x all rest front more is are = sym is ∙ ap (λ xs. x ∷ xs) are

module _ (cells : List ℕ) (code : List Instruction) where
  -- ---- two parts

  -- the first part leads to a place, and the second one goes on from there
  pub record AreParted (a b : ℕ) (own : OwnState) (records : List Record) (end : OwnState) : Type 0 where
    pub front : List Record
    pub mid : OwnState
    pub made : recorded cells code a own ≡ Some (front, mid)
    pub many : length front ≡ a
    pub rest : List Record
    pub later : recorded cells code b mid ≡ Some (rest, end)
    pub are : records ≡ front ++ rest

  pub parted : (a b : ℕ) (own : OwnState) (records : List Record) (end : OwnState) → recorded cells code (a + b) own ≡ Some (records, end) → AreParted a b own records end
  parted zero b own records end is =
      let count : 0 + b ≡ b = omega arith in
      record { front = []; mid = own; made = refl; many = refl; rest = records; later = subst (λ n. recorded cells code n own ≡ Some (records, end)) count is; are = refl }
  parted (suc a) b own records end is =
      let count : suc a + b ≡ suc (a + b) = omega arith in
      let one = first-of cells code (a + b) own records end (subst (λ n. recorded cells code n own ≡ Some (records, end)) count is) in
      let more = parted a b (own_after cells code own one.m) one.rest end one.later in
      record {
        front = one.m.noted ∷ more.front;
        mid = more.mid;
        made = before-others cells code a own one.m more.front more.mid one.next more.made;
        many = ap suc more.many;
        rest = more.rest;
        later = more.later;
        are = with-front one.m.noted records one.rest more.front more.rest one.are more.are;
      }

  -- ---- in which cells steps have stored is nothing for those that come next

  -- a step that leaves what another one leaves
  record IsLike (m k : MadeStep) : Type 0 where
    operands : k.operands ≡ m.operands
    index : k.index ≡ m.index
    stores : stores_of k.noted ≡ stores_of m.noted

  module _ (own : OwnState) (written : List ℕ) where
    abbrev other : OwnState
    other = record own { written = written }

    abbrev HasLike : List Instruction → Operation → MadeStep → Type 0
    HasLike entries o m = (k : MadeStep) × (made_by cells other o entries ≡ Some k) × IsLike m k

    none-stored : (e : Evaluation) (v : Value) → stores_of (note_of other e v) ≡ stores_of (note_of own e v)
    none-stored (Load (Local asynchronous c) n) v = refl
    none-stored (Load x n) v = refl
    none-stored (Sign s) v = refl
    none-stored Not v = refl
    none-stored (Combine o) v = refl
    none-stored (Apply f n) v = refl
    none-stored (Test f x n) v = refl

    abbrev same-left : (m : MadeStep) → IsLike m m
    same-left m = record { operands = refl; index = refl; stores = refl }

    all-like : (entries : List Instruction) → HoldOf cells own entries (HasLike entries)
    all-like entries =
        record {
          values = λ e v value. (made_of_value other e v, ap (option_map (made_of_value other e)) value, record { operands = refl; index = refl; stores = none-stored e v });
          stores = λ c n next among there. (record { noted = Stores c own.index (first_operand own.operands); operands = []; index = next }, rw (there, among) refl, same-left _);
          enters = λ c d inside behind n among count. (made_of_entry other (EnterLoop (Local false c) d inside behind) c d n, rw (among, count) refl, same-left _);
          ends = λ c d inside behind v among value test. (
            made_of_end other (EndLoop (Local false c) d inside behind) c d v,
            rw (among, value, test) refl,
            record { operands = refl; index = refl; stores = refl },
          );
          jumps = λ next. (made_of_choice other (Jump next) entries, refl, same-left _);
          choices = λ count next. (made_of_choice other (Choose count next) entries, refl, same-left _);
          signs = λ negative equal positive. (made_of_choice other (BySign negative equal positive) entries, refl, same-left _);
          conditions = λ otherwise. (made_of_choice other (Condition otherwise) entries, refl, same-left _);
          branches = λ inside otherwise. (made_of_choice other (Branch inside otherwise) entries, refl, same-left _);
        }

    ahead-like : (is : List Instruction) (m : MadeStep) → made_ahead cells own is ≡ Some m → (k : MadeStep) × (made_ahead cells other is ≡ Some k) × IsLike m k
    ahead-like (Step line o ∷ entries) m made = so-by cells own entries (HasLike entries) (all-like entries) m o made
    ahead-like _ m made = absurd (none-some m made)

  next-like : (own : OwnState) (written : List ℕ) (m : MadeStep) → next_made cells code own ≡ Some m → (k : MadeStep) × (next_made cells code (record own { written = written }) ≡ Some k) × IsLike m k
  next-like own written m next =
      let made = made-ahead cells code own m next in
      let put = settled code own in
      let like = ahead-like put written (drop put.index code) m made.0 in
      let room : has_room cells put like.0 ≡ true =
      subst (λ (vs : List Value). (nat_le (length put.operands) most_operands && nat_le (length vs) most_operands) ≡ true) (sym like.2.operands) made.1 in (
        like.0,
        made-next cells code (record own { written = written }) like.0 like.1 room,
        like.2,
      )

  -- so they are private whatever was stored before them
  anew : (n : ℕ) (own : OwnState) (written : List ℕ) (records : List Record) (end : OwnState) → recorded cells code n own ≡ Some (records, end)
      → (r : List Record × OwnState) × (recorded cells code n (record own { written = written }) ≡ Some r)
  anew zero own written records end is = (([], record own { written = written }), refl)
  anew (suc n) own written records end is =
      let first = first-of cells code n own records end is in
      let like = next-like own written first.m first.next in
      let there : OwnState = record own { written = written } in
      let k = like.0 in
      let marked = written_after written k.noted in
      let later = anew n (own_after cells code own first.m) marked first.rest end first.later in
      let same : own_after cells code there k ≡ record (own_after cells code own first.m) { written = marked } =
      λ i. record { index = like.2.index i; operands = like.2.operands i; values = with_stores own.values (like.2.stores i); written = marked } in (
        (k.noted ∷ later.0.0, later.0.1),
        before-others cells code n there k later.0.0 later.0.1 like.1 (ap (recorded cells code n) same ∙ later.1),
      )

  -- ---- it is nothing, either, whether the constants ahead are operands yet

  inside-ahead : (own : OwnState) (m : MadeStep) (is : List Instruction) (i : ℕ) → made_ahead cells own (drop i is) ≡ Some m → i < length is
  inside-ahead own m [] zero made = absurd (none-some m made)
  inside-ahead own m [] (suc i) made = absurd (none-some m made)
  inside-ahead own m (x ∷ xs) zero made = omega arith
  inside-ahead own m (x ∷ xs) (suc i) made = let rest = inside-ahead own m xs i made in omega (arith, rest)

  -- there is an operation ahead
  ahead-of : (n : ℕ) (own : OwnState) (records : List Record) (end : OwnState) → recorded cells code (suc n) own ≡ Some (records, end) → (settled code own).index < length code
  ahead-of n own records end is =
      let first = first-of cells code n own records end is in
      let put = settled code own in
      inside-ahead put first.m code put.index (made-ahead cells code own first.m first.next).0

  -- where they are, none stands ahead
  settled-once : (own : OwnState) → (settled code own).index < length code → settled code (settled code own) ≡ settled code own
  settled-once own inside =
      let put = settled code own in
      let past = past-here code own.operands own.index in
      let index = index-there code put.operands put.operands put.index put.index refl past inside in
      let operands = operands-there code put.operands put.operands put.index put.index refl past in
      λ i. record { index = index i; operands = operands i; values = own.values; written = own.written }

  settled-first : (n : ℕ) (own : OwnState) → (settled code own).index < length code → recorded cells code (suc n) (settled code own) ≡ recorded cells code (suc n) own
  settled-first n own inside =
      ap (λ (put : OwnState).
      option_and_then {U = List Record × OwnState} (λ (m : MadeStep). option_map {U = List Record × OwnState} (λ (r : List Record × OwnState). (m.noted ∷ r.0, r.1)) (recorded cells code n (own_after cells code own m))) (
      if_room cells put (made_ahead cells put (drop put.index code)))) (settled-once own inside)

-- ---- starts

-- where private steps led
abbrev pub start_behind : Start → OwnState → Start
start_behind start mid = record { unit = start.unit; index = mid.index; operands = mid.operands; values = mid.values }

-- with the constants ahead as operands
abbrev pub start_ahead : Units → Start → Start
start_ahead program start =
    start_behind start (settled (unit_code program start.unit) (begun start.index start.operands start.values))

-- the private steps that come next at a start
abbrev pub recorded_at : Units → Start → ℕ → Option (List Record × OwnState)
recorded_at program start n =
    recorded (private_cells (unit_at program start.unit)) (unit_code program start.unit) n (begun start.index start.operands start.values)

-- the first n private steps lead to a place, from which so many come next
pub record IsParted (program : Units) (start : Start) (n m : ℕ) : Type 0 where
  pub records : List Record
  pub mid : OwnState
  pub made : recorded_at program start n ≡ Some (records, mid)
  pub many : length records ≡ n
  pub rest : are_private program (start_behind start mid) m ≡ true

-- once the constants ahead are operands, an operation is ahead, and the same is left to do, by the same private steps
pub record IsAhead (program : Units) (start : Start) : Type 0 where
  pub left :
      left_to_do (start_ahead program start).operands (start_ahead program start).index (unit_code program start.unit)
      ≡ left_to_do start.operands start.index (unit_code program start.unit)
  pub past : IsPastPushes (unit_code program start.unit) (start_ahead program start).index
  pub inside : (start_ahead program start).index < length (unit_code program start.unit)
  pub same : (n : ℕ) → recorded_at program (start_ahead program start) (suc n) ≡ recorded_at program start (suc n)

is-given : {A : Type 0} (o : Option A) (x : A) → o ≡ Some x → is_some o ≡ true
is-given o x is = ap (λ o. is_some o) is

module _ (program : Units) (start : Start) where
  abbrev cells : List ℕ
  cells = private_cells (unit_at program start.unit)

  abbrev code : List Instruction
  code = unit_code program start.unit

  abbrev own : OwnState
  own = begun start.index start.operands start.values

  -- fewer of them are private, too
  pub private-fewer : (a b : ℕ) → a ≤ b → are_private program start b ≡ true → are_private program start a ≡ true
  private-fewer a b few private =
      let whole : a + (b - a) ≡ b = omega (arith, few) in
      let all = some_of (recorded cells code (a + (b - a)) own) (subst (λ n. are_private program start n ≡ true) (sym whole) private) in
      let parts = parted cells code a (b - a) own all.0.0 all.0.1 all.1 in
      is-given (recorded cells code a own) (parts.front, parts.mid) parts.made

  -- those after the first n begin a start of their own
  pub next-start : (n m : ℕ) → are_private program start (n + m) ≡ true → IsParted program start n m
  next-start n m private =
      let all = some_of (recorded cells code (n + m) own) private in
      let parts = parted cells code n m own all.0.0 all.0.1 all.1 in
      let mid = parts.mid in
      let fresh = anew cells code m mid [] parts.rest all.0.1 parts.later in
      record {
        records = parts.front;
        mid = mid;
        made = parts.made;
        many = parts.many;
        rest = is-given (recorded cells code m (begun mid.index mid.operands mid.values)) fresh.0 fresh.1;
      }

  pub ahead-at : (n : ℕ) → are_private program start (suc n) ≡ true → IsAhead program start
  ahead-at n private =
      let all = some_of (recorded cells code (suc n) own) private in
      let inside = ahead-of cells code n own all.0.0 all.0.1 all.1 in
      record {
        left = left-same code start.operands start.index;
        past = past-here code start.operands start.index;
        inside = inside;
        same = λ k. settled-first cells code k own inside;
      }
