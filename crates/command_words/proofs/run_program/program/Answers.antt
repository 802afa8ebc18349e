use Rattle.std.proofs.lemmas.Result.{IfOk-weaker}
use Rattle.command_words.proofs.Making.{below, below_any}
use Rattle.command_words.proofs.RunGiven.{program_is}
use Rattle.command_words.proofs.run_program.program.Goals as goal

pub returns : goal.returns
returns c =
    let run = below _ _ _ _ _ c.in_ok-program.was c.run_command.ensures c.with_command.ensures in
    let make = below _ _ _ _ _ c.in_ok-program-2.was c.make_command.ensures c.with_command-2.ensures in
    let drill = below _ _ _ _ _ c.in_ok-program-3.was c.drill_command.ensures c.with_command-3.ensures in
    IfOk-weaker c.with_command-4.result _ _ (λ whole check. program_is _ _ _ _ whole c.bare_program-program.ensures run make drill check)
    (below_any _ _ _ _ c.check_command.ensures c.with_command-4.ensures)
