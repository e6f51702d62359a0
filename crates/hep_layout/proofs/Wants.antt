-- What is wanted of an activation's cells stays where another frame enters or leaves.
use Rattle.std.proofs.lemmas.Bool.Decides.{nat_tests}
use Rattle.hep_layout.proofs.Descriptors.{wanted-alike}
use Rattle.std.proofs.Common.{◌≡◌, ℕ, ◌≤◌, true, false, [], ◌∷◌, ◌++◌, length, refl, ap, ◌∙◌, arith, nat_eq, ne_eqb, length-append}
use Rattle.hep_machine.specs.Words.{Units, Layout, with_frame, dummy_at, activation_of, Activation, Location, State, local, common, is_owned}
use Rattle.hep_arena.specs.Gaps.{without}
use Rattle.hep_layout.specs.Words.{IsLaid, frame_from, level_of, slot_on_level, descriptor_slots, IsMadeAt, FramePart}
use Rattle.hep_layout.proofs.Addresses.{address-alike}
use Rattle.hep_layout.proofs.Frames.{among-with_frame}
use Rattle.hep_layout.proofs.Memory.{activation-kept, address-left, unmade}

owner-made : (n b : ℕ) (at : Location) → IsMadeAt n at → is_owned b at ≡ true → b ≤ n
owner-made n b (local a x i) made owned = grind (arith, nat_tests)
owner-made n b (common c k) made owned = absurd cc

pub wanted-entered : (program : Units) (s t : State) (x : Activation) (layout : Layout) (first cells a : ℕ) (c : FramePart × ℕ) → IsLaid program s cells layout → t.activations ≡ s.activations ++ x ∷ [] → a ≤ length s.activations
    → ((k : ℕ) → IsMadeAt (length s.activations) (dummy_at (activation_of s a).dummies k).start) → level_of t a ≡ level_of s a
    → descriptor_slots program t (with_frame layout (frame_from program t (length t.activations) first)) a c ≡ descriptor_slots program s layout a c
wanted-entered program s t x layout first cells a c laid more le made levels =
    let new = frame_from program t (length t.activations) first in
    wanted-alike program s t layout (with_frame layout new) a c (activation-kept s t x a more le) (λ d i is. ap (λ o. slot_on_level o d i) levels) (λ k.
    address-alike program s t layout (with_frame layout new) (dummy_at (activation_of s a).dummies k).start (λ b owned.
    let within = owner-made (length s.activations) b (dummy_at (activation_of s a).dummies k).start (made k) owned in
    let other : nat_eq (length t.activations) b ≡ false = ne_eqb (length t.activations) b (λ same. omega (arith, within, simp length-append at (ap length more))) in
    (activation-kept s t x b more within, among-with_frame b layout new (unmade program s t x layout first more laid) ∙ rw other refl)))

pub wanted-left : (program : Units) (s : State) (a b cells : ℕ) (layout : Layout) (c : FramePart × ℕ) → IsLaid program s cells layout → ((k : ℕ) → is_owned b (dummy_at (activation_of s a).dummies k).start ≡ false)
    → descriptor_slots program s (without b layout) a c ≡ descriptor_slots program s layout a c
wanted-left program s a b cells layout c laid other =
    wanted-alike program s s layout (without b layout) a c refl (λ d i is. refl) (λ k. address-left program s b layout cells (dummy_at (activation_of s a).dummies k).start laid (other k))
