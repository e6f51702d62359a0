-- Events that end what has begun.
use Rattle.std.proofs.Common.{◌≡◌, ◌∙◌, ℕ, zero, suc, ◌-◌, ◌<◌, ◌++◌, List, ap, append_assoc, arith, refl}
use Rattle.hep_formats.specs.TraceEvents.{end_event, ends}

-- of n events the first is one, and n - 1 are left
one-end : (p time n : ℕ) → 0 < n → end_event p time ++ ends p time (n - 1) ≡ ends p time n
one-end p time zero some = absurd (omega arith)
one-end p time (suc n) some =
    let left : suc n - 1 ≡ n = omega arith in
    rw left refl

-- after a text
pub one_more : (text : List ℕ) (p time n : ℕ) → 0 < n → (text ++ end_event p time) ++ ends p time (n - 1) ≡ text ++ ends p time n
one_more text p time n some =
    append_assoc text (end_event p time) (ends p time (n - 1)) ∙ ap (λ (t : List ℕ). text ++ t) (one-end p time n some)
