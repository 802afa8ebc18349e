use Rattle.std.proofs.lemmas.Result.{IfOk-weaker}
use Rattle.command_words.proofs.Making.{below, below_any}
use Rattle.client_words.proofs.Given.{instances_are}
use Rattle.client_words.proofs.program.with_instance_commands.Goals as goal

pub returns : goal.returns
returns c =
    let launch = below _ _ _ _ _ c.in_ok-program.was c.place_command.ensures c.with_command.ensures in
    let start = below _ _ _ _ _ c.in_ok-program-2.was c.place_command-2.ensures c.with_command-2.ensures in
    let stop = below _ _ _ _ _ c.in_ok-program-3.was c.place_command-3.ensures c.with_command-3.ensures in
    IfOk-weaker c.with_command-4.result _ _ (λ whole delete. instances_are _ _ _ _ whole launch start stop delete)
    (below_any _ _ _ _ c.place_command-4.ensures c.with_command-4.ensures)
