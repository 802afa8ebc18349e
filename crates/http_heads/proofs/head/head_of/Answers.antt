use Rattle.std.proofs.Common.{IsUtf8, sym, ap, ◌∙◌, subst}
use Rattle.http_heads.specs.Fields.{framing}
use Rattle.http_heads.proofs.HeadLemmas.{HasFault-of_fields, IsUtf8-token}
use Rattle.http_heads.proofs.head.head_of.Goals as goal

pub returns-in-Err-clause-err : goal.returns-in-Err-clause-err
returns-in-Err-clause-err c =
    HasFault-of_fields c.in-Err.fault
    (record { head = c.requires.head; is = c.requires.is; framed = ap framing (sym c.requires.fields) ∙ sym c.in-Err.ensures.value })

pub str_of-requires : goal.str_of-requires
str_of-requires c =
    subst IsUtf8 (sym (c.of.ensures ∙ c.requires.method)) (IsUtf8-token c.requires.head.method c.requires.is.reads.0.method)
