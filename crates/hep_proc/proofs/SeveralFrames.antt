-- Several activations end, one after the other.
use Rattle.std.proofs.Common.{◌≡◌, ℕ, suc, ◌+◌, ◌<◌, Bool, true, false, List, [], ◌∷◌, length, drop, get_or, Some, refl, sym, ap, ◌∙◌, subst, arith, drop-cons, if◌then◌else◌}
use Rattle.hep_machine.specs.Words.{Layout}
use Rattle.hep_arena.specs.Space.{Space}
use Rattle.hep_layout.specs.Words.{but, FrameNode, Nodes}
use Rattle.hep_proc.specs.FrameTable.{all_but, as_wanted, CanLeave, frames_left, frames_of, FramesOf, HasLeft, Keeps}
use Rattle.hep_proc.proofs.ReturnedFrames.{all-kept}

-- ---- one after the other

-- what is left of what is left
twice-kept : (few many : ℕ → Bool) (fs : Layout) → ((a : ℕ) → few a ≡ true → many a ≡ true) → frames_of few (frames_of many fs) ≡ frames_of few fs
twice-kept few many [] h = refl
twice-kept few many (f ∷ fs) h = by_tests (twice-kept few many fs h) (few f.activation) (many f.activation) refl refl where
  by_tests : frames_of few (frames_of many fs) ≡ frames_of few fs → (p q : Bool) → few f.activation ≡ p → many f.activation ≡ q
      → frames_of few (if q then f ∷ frames_of many fs else frames_of many fs) ≡ (if p then f ∷ frames_of few fs else frames_of few fs)
  by_tests rest true true d e = rw d (ap (λ (gs : Layout). f ∷ gs) rest)
  by_tests rest true false d e = absurd (clash (sym e ∙ h f.activation d)) where
    clash : false ≡ true → ⊥
    clash c = cc
  by_tests rest false true d e = rw d rest
  by_tests rest false false d e = rest

pub left-nothing : (f : FramesOf) (arena : Space) (nodes : Nodes) → Keeps (as_wanted f) arena nodes → HasLeft f arena arena nodes nodes
left-nothing f arena nodes h =
    record {
      still = f.out;
      keeps = subst (λ fs. Keeps (as_wanted (record f { layout = fs })) arena nodes) (all-kept f.out f.layout (λ a d. sym (h.frames_are a) ∙ d)) h;
      fewer = λ a o. o;
      were_out = λ p o. o;
      kept = λ p o. refl;
      keys_stay = λ key n e o. (n, e, refl, refl, refl, refl);
    }

pub left-twice : (f : FramesOf) (later : ℕ → Bool) (before mid after : Space) (old between new : Nodes) (first : HasLeft f before mid old between)
    → HasLeft (record (frames_left f first.still) { on = later }) mid after between new → HasLeft (record f { on = later }) before after old new
left-twice f later before mid after old between new first second =
    record {
      still = second.still;
      keeps = subst (λ fs. Keeps (as_wanted (record f { on = later; out = second.still; layout = fs })) after new) (twice-kept second.still first.still f.layout second.fewer) second.keeps;
      fewer = λ a o. first.fewer a (second.fewer a o);
      were_out = λ p o. first.were_out p (second.were_out p o);
      kept = λ p o. second.kept p o ∙ first.kept p (second.were_out p o);
      keys_stay = λ key n e o.
          let one = first.keys_stay key n e (second.fewer n.activation o) in
          let two = second.keys_stay key one.0 one.1 (ap second.still one.2 ∙ o) in
          (two.0, two.1, two.2 ∙ one.2, two.3 ∙ one.3, two.4 ∙ one.4, two.5 ∙ one.5);
    }

-- ---- the loop

-- these are left of the keys
pub record AreLeaving (f : FramesOf) (ends : List ℕ) (before : Space) (old : Nodes) (now : Space) (nodes : Nodes) (keys : List ℕ) : Type 0 where
  pub on_now : ℕ → Bool
  pub ends_now : List ℕ
  pub left : HasLeft (record f { on = on_now }) before now old nodes
  pub can : CanLeave old on_now keys ends_now
  pub same : all_but ends_now on_now ≡ all_but ends f.on

pub leaving-begins : (f : FramesOf) (ends : List ℕ) (arena : Space) (nodes : Nodes) (keys : List ℕ)
    → Keeps (as_wanted f) arena nodes → CanLeave nodes f.on keys ends → AreLeaving f ends arena nodes arena nodes keys
leaving-begins f ends arena nodes keys h can =
    record { on_now = f.on; ends_now = ends; left = left-nothing f arena nodes h; can = can; same = refl }

-- the activation of the next key
pub record IsNext (old : Nodes) (on : ℕ → Bool) (key : ℕ) (keys ends : List ℕ) (nodes : Nodes) : Type 0 where
  pub activation : ℕ
  pub later : List ℕ
  pub ends_are : activation ∷ later ≡ ends
  pub node : FrameNode
  pub there : nodes key ≡ Some node
  pub whose : node.activation ≡ activation
  pub can : CanLeave old (but activation on) keys later

pub leaving-next : (f : FramesOf) (ends : List ℕ) (before : Space) (old : Nodes) (now : Space) (nodes : Nodes) (key : ℕ) (keys : List ℕ)
    (g : AreLeaving f ends before old now nodes (key ∷ keys)) → IsNext old g.on_now key keys g.ends_now nodes
leaving-next f ends before old now nodes key keys g = by_ends g.ends_now g.can where
  by_ends : (bs : List ℕ) → CanLeave old g.on_now (key ∷ keys) bs → IsNext old g.on_now key keys bs nodes
  by_ends [] can = absurd can
  by_ends (a ∷ bs) can =
      let still = g.left.keeps.tree.stacked can.0.activation (ap g.on_now can.2 ∙ can.3) in
      let it = g.left.keys_stay key can.0 can.1 still in
      record { activation = a; later = bs; ends_are = refl; node = it.0; there = it.1; whose = it.2 ∙ can.2; can = can.4 }

pub leaving-goes_on : (f : FramesOf) (ends : List ℕ) (before : Space) (old : Nodes) (now : Space) (nodes : Nodes) (after : Space) (new : Nodes) (key : ℕ) (keys : List ℕ)
    (g : AreLeaving f ends before old now nodes (key ∷ keys)) (next : IsNext old g.on_now key keys g.ends_now nodes)
    → HasLeft (record (frames_left f g.left.still) { on = but next.node.activation g.on_now }) now after nodes new → AreLeaving f ends before old after new keys
leaving-goes_on f ends before old now nodes after new key keys g next left =
    record {
      on_now = but next.activation g.on_now;
      ends_now = next.later;
      left = left-twice (record f { on = g.on_now }) (but next.activation g.on_now) before now after old nodes new g.left (
          subst (λ a. HasLeft (record (frames_left f g.left.still) { on = but a g.on_now }) now after nodes new) next.whose left);
      can = next.can;
      same = ap (λ bs. all_but bs g.on_now) next.ends_are ∙ g.same;
    }

pub leaving-ends : (f : FramesOf) (ends : List ℕ) (before : Space) (old : Nodes) (now : Space) (nodes : Nodes)
    → AreLeaving f ends before old now nodes [] → HasLeft (record f { on = all_but ends f.on }) before now old nodes
leaving-ends f ends before old now nodes g =
    subst (λ test. HasLeft (record f { on = test }) before now old nodes) (ap (λ bs. all_but bs g.on_now) (none g.ends_now g.can) ∙ g.same) g.left
  where
    none : (bs : List ℕ) → CanLeave old g.on_now [] bs → [] ≡ bs
    none [] can = refl
    none (a ∷ bs) can = absurd can

-- the next key, and those behind it
pub next-key : (keys : List ℕ) (i : ℕ) → i < length keys → drop i keys ≡ get_or keys i 0 ∷ drop (i + 1) keys
next-key keys i h = let more : i + 1 ≡ suc i = omega arith in drop-cons keys i 0 h ∙ ap (λ n. get_or keys i 0 ∷ drop n keys) (sym more)
