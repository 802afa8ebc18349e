use Rattle.std.proofs.Common.{codes}
use Rattle.std.proofs.lemmas.Result.{IfOk-weaker}
use Rattle.command_words.proofs.Making.{more, new_command}
use Rattle.client_words.proofs.program.list_command.Goals as goal

pub returns : goal.returns
returns c =
    let before = more _ _ _ _ (new_command (codes "list") _ c.new-command.ensures.app c.new-command.ensures.local) c.in_ok-command.ensures in
    IfOk-weaker c.with_options.result _ _ (λ made adds. adds _ before) c.with_options.ensures
