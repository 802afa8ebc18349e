use Rattle.std.proofs.lemmas.Result.{IfOk-weaker}
use Rattle.command_words.proofs.Making.{new_command}
use Rattle.client_words.proofs.program.lone_command.Goals as goal

pub returns : goal.returns
returns c =
    let before = new_command c.args.word.now _ c.new.ensures.app c.new.ensures.local in
    IfOk-weaker c.with_options.result _ _ (λ made adds. adds _ before) c.with_options.ensures
