use Rattle.std.proofs.Common.{◌∙◌, ap, ◌++◌, length, codes, decimal, arith}
use Rattle.workload.specs.Summary.{code_line}
use Rattle.workload.proofs.Growth.{lines-more, lines-all}
use Rattle.workload.proofs.summary.summary_by.Goals as goal

pub loop-code-preserved : goal.loop-code-preserved
loop-code-preserved c =
    c.in_ok-push_code_line.ensures ∙ ap (λ t. t ++ code_line c.args.codes.now c.loop-code.code) c.loop-code.invariant
    ∙ lines-more (codes "requests " ++ decimal (length c.args.codes.now) ++ codes "\n") c.args.codes.now c.loop-code.code c.loop-code.auto.code

pub returns : goal.returns
returns c = c.loop-code.invariant ∙ lines-all c.args.codes.now c.loop-code.code (omega arith)
