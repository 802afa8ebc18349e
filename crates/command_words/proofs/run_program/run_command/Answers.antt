use Rattle.std.proofs.Common.{codes}
use Rattle.std.proofs.lemmas.Result.{IfOk-weaker}
use Rattle.command_words.proofs.Making.{more, new_command}
use Rattle.command_words.proofs.run_program.run_command.Goals as goal

pub returns : goal.returns
returns c =
    let three = more _ _ _ _ (more _ _ _ _ (more _ _ _ _ (new_command (codes "run") _ c.new-command.ensures.app c.new-command.ensures.local) c.in_ok-command.ensures) c.in_ok-command-2.ensures) c.in_ok-command-3.ensures in
    let six = more _ _ _ _ (more _ _ _ _ (more _ _ _ _ three c.in_ok-command-4.ensures) c.in_ok-command-5.ensures) c.in_ok-command-6.ensures in
    let before = more _ _ _ _ six c.in_ok-command-7.ensures in
    IfOk-weaker c.with_option-8.result _ _ (λ made adds. more _ _ _ made before adds) c.with_option-8.ensures
