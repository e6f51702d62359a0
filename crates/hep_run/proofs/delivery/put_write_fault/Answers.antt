use Rattle.std.proofs.Common.{◌≡◌, ℕ, ◌++◌, ◌≤◌, List, length, take, subst, ap, arith, ◌∙◌, codes}
use Rattle.std.specs.Fmt.{decimal}
use Rattle.std.specs.Io.KnownBytes.{Appends}
use Rattle.std.proofs.KnownBytes.{Appends-trans}
use Rattle.hep_run.proofs.Messages.{of_first, of_later, of_some, if_err_anyway}
use Rattle.hep_run.proofs.delivery.put_write_fault.Goals as goal

pub returns-in_err-put_all-clause-some : goal.returns-in_err-put_all-clause-some
returns-in_err-put_all-clause-some g c =
    if_err_anyway c.from_residual.result (of_first _ _ (codes "WRITE FAULT AFTER ") (decimal c.args.written ++ codes "\n") c.in_err-put_all.field-0.0.written (omega (arith, c.in_err-put_all.ensures.fewer)) c.in_err-put_all.ensures.prefix)

pub returns-in_err-put_all-2-clause-some : goal.returns-in_err-put_all-2-clause-some
returns-in_err-put_all-2-clause-some g c =
    let number : c.as_bytes.result.now ≡ decimal c.args.written = c.as_bytes.ensures.value ∙ c.format.ensures.text in
    let within : c.in_err-put_all-2.field-0.0.written ≤ length (decimal c.args.written) = omega (arith, c.in_err-put_all-2.ensures.fewer, ap length number) in
    let prefix = subst (λ (l : List ℕ). Appends (g.E.Write.contents c.put_all.new.writer) (g.E.Write.contents c.put_all-2.new.writer) (take c.in_err-put_all-2.field-0.0.written l)) number c.in_err-put_all-2.ensures.prefix in
    if_err_anyway c.from_residual-in_err-put_all-2.result (of_later _ _ _ (codes "WRITE FAULT AFTER ") (decimal c.args.written ++ codes "\n") c.in_ok-put_all.ensures.all (of_first _ _ (decimal c.args.written) (codes "\n") c.in_err-put_all-2.field-0.0.written within prefix))

pub returns-in_err-put_all-3-clause-some : goal.returns-in_err-put_all-3-clause-some
returns-in_err-put_all-3-clause-some g c =
    let number : c.as_bytes.result.now ≡ decimal c.args.written = c.as_bytes.ensures.value ∙ c.format.ensures.text in
    let all = subst (Appends (g.E.Write.contents c.put_all.new.writer) (g.E.Write.contents c.put_all-2.new.writer)) number c.in_ok-put_all-2.ensures.all in
    if_err_anyway c.from_residual-in_err-put_all-3.result (of_later _ _ _ (codes "WRITE FAULT AFTER ") (decimal c.args.written ++ codes "\n") c.in_ok-put_all.ensures.all (of_later _ _ _ (decimal c.args.written) (codes "\n") all (of_some _ _ (codes "\n") c.in_err-put_all-3.field-0.0.written c.in_err-put_all-3.ensures.prefix)))

pub returns-clause-all : goal.returns-clause-all
returns-clause-all g c =
    let number : c.as_bytes.result.now ≡ decimal c.args.written = c.as_bytes.ensures.value ∙ c.format.ensures.text in
    let all = subst (Appends (g.E.Write.contents c.put_all.new.writer) (g.E.Write.contents c.put_all-2.new.writer)) number c.in_ok-put_all-2.ensures.all in
    let behind = Appends-trans _ _ _ (decimal c.args.written) (codes "\n") all c.in_ok-put_all-3.ensures.all in
    Appends-trans _ _ _ (codes "WRITE FAULT AFTER ") (decimal c.args.written ++ codes "\n") c.in_ok-put_all.ensures.all behind
