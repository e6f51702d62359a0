-- Texts to which parts are appended, one after another.
use Rattle.std.proofs.Common.{◌≡◌, ◌++◌, ◌∙◌, ℕ, List, ap, append_assoc}

-- two parts
pub two : (s a b : List ℕ) {t u : List ℕ} → t ≡ s ++ a → u ≡ t ++ b → u ≡ s ++ (a ++ b)
two s a b e f = f ∙ ap (λ (x : List ℕ). x ++ b) e ∙ append_assoc s a b

-- and three
pub three : (s a b c : List ℕ) {t u v : List ℕ} → t ≡ s ++ a → u ≡ t ++ b → v ≡ u ++ c → v ≡ s ++ (a ++ b ++ c)
three s a b c e f g = two s (a ++ b) c (two s a b e f) g
