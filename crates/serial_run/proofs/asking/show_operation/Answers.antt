use Rattle.rest_answers.proofs.ForClients.{at_once}
use Rattle.serial_run.proofs.asking.show_operation.Goals as goal

pub reply_of-requires : goal.reply_of-requires
reply_of-requires g c = at_once c.ask-told.ensures.turn
