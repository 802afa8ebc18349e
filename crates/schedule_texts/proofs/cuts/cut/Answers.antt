use Rattle.schedule_texts.proofs.Texts.{IsCut, cut_is}
use Rattle.schedule_texts.proofs.cuts.cut.Goals as goal

known : (c : goal.After-split_once) → IsCut c.args.sign c.args.text.now c.split_once.result
known c = cut_is c.args.sign c.args.text.now c.split_once.result (c.split_once.ensures.byte c.requires (λ w o k. k))

pub returns-clause-there : goal.returns-clause-there
returns-clause-there c = (known c).there

pub returns-clause-front : goal.returns-clause-front
returns-clause-front c = (known c).front

pub returns-clause-back : goal.returns-clause-back
returns-clause-back c = (known c).back

pub returns-clause-split : goal.returns-clause-split
returns-clause-split c = (known c).split

pub returns-clause-none : goal.returns-clause-none
returns-clause-none c = (known c).none

pub returns-clause-whole : goal.returns-clause-whole
returns-clause-whole c = (known c).whole
