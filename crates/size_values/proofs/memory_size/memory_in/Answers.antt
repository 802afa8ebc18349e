use Rattle.std.proofs.Common.{◌∙◌, sym}
use Rattle.std.proofs.lemmas.Result.{err_from_is_err_and}
use Rattle.size_values.proofs.MemorySizes.{percent-fault, percent-value, size-fault, size-value}
use Rattle.size_values.proofs.memory_size.memory_in.Goals as goal

pub returns-in_err-percent : goal.returns-in_err-percent
returns-in_err-percent c =
    let p = err_from_is_err_and c.from_residual.result c.from_residual.ensures.1 in
    rw (p.1, p.2) (percent-fault c.args.text.now _ (sym c.ends_with.ensures.value ∙ c.if-ends_with.true) c.in_err-percent.ensures.count)

pub returns-then-ends_with : goal.returns-then-ends_with
returns-then-ends_with c = percent-value c.args.text.now _ (sym c.ends_with.ensures.value ∙ c.if-ends_with.true) c.in_ok-percent.ensures.count

pub returns-in_err-bytes : goal.returns-in_err-bytes
returns-in_err-bytes c =
    let p = err_from_is_err_and c.from_residual-in_err-bytes.result c.from_residual-in_err-bytes.ensures.1 in
    rw (p.1, p.2) (size-fault c.args.text.now _ (sym c.ends_with.ensures.value ∙ c.if-ends_with.false) c.in_err-bytes.ensures)

pub returns : goal.returns
returns c = size-value c.args.text.now _ (sym c.ends_with.ensures.value ∙ c.if-ends_with.false) c.in_ok-bytes.ensures
