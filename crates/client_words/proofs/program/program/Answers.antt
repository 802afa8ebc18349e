use Rattle.std.proofs.lemmas.Result.{IfOk-weaker}
use Rattle.command_words.proofs.Making.{below, below_any}
use Rattle.client_words.proofs.Given.{program_is}
use Rattle.client_words.proofs.program.program.Goals as goal

pub returns : goal.returns
returns c =
    let list = below _ _ _ _ _ c.in_ok-program.was c.list_command.ensures c.with_command.ensures in
    let wait = below _ _ _ _ _ c.in_ok-program-3.was c.place_command.ensures c.with_command-2.ensures in
    let cancel = below _ _ _ _ _ c.in_ok-program-4.was c.place_command-2.ensures c.with_command-3.ensures in
    IfOk-weaker c.with_command-4.result _ _
    (λ whole limits. program_is _ _ _ _ _ whole c.bare_program-program.ensures list c.in_ok-program-2.ensures wait cancel limits)
    (below_any _ _ _ _ c.lone_command.ensures c.with_command-4.ensures)
