use Rattle.std.proofs.Common.{sym, ap, ap₂, ◌∙◌}
use Rattle.std.specs.Prelude.{codes}
use Rattle.http_heads.specs.Fields.{expects_in, framing, leave_due, some_named}
use Rattle.http_heads.proofs.LeaveLemmas.{TellsExpects-fault, TellsExpects-framed}
use Rattle.http_heads.proofs.head.expects_of.Goals as goal

pub returns-in-Ok : goal.returns-in-Ok
returns-in-Ok c =
    TellsExpects-framed c.args.refuses_origin c.args.text.now c.requires.head c.in-Ok.body c.leave_due.result c.requires.is
    (ap framing (sym c.requires.fields) ∙ sym c.in-Ok.ensures.value)
    (c.leave_due.ensures
    ∙ ap₂ (leave_due c.args.refuses_origin)
    (c.some_named-origin.ensures ∙ ap (some_named (codes "origin")) c.requires.fields)
    (c.expects_in-expects.ensures ∙ ap₂ (expects_in c.in-Ok.body) c.requires.minor c.requires.fields))

pub returns-in-Err : goal.returns-in-Err
returns-in-Err c = TellsExpects-fault c.requires.is (ap framing (sym c.requires.fields) ∙ sym c.in-Err.ensures.value)
