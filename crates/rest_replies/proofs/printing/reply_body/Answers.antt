use Rattle.rest_replies.proofs.Chosen.{all_chosen}
use Rattle.rest_replies.proofs.printing.reply_body.Goals as goal

pub returns-in-Many : goal.returns-in-Many
returns-in-Many c =
    let told = rw (all_chosen c.args.terms c.in-Many.views) at c.many_body.ensures in
    rw c.in-Many.is told
