use Rattle.std.proofs.Common.{sym, ◌∙◌}
use Rattle.client_replies.proofs.HeadLemmas.{framed_by, framed_not}
use Rattle.client_replies.proofs.head.framed.Goals as goal

pub returns-then-spans-ne1-clause-front : goal.returns-then-spans-ne1-clause-front
returns-then-spans-ne1-clause-front c = record {
  head = c.requires.head;
  rest = c.requires.rest;
  has = c.requires.has;
  frame = framed_not c.requires.head (λ e. c.if-spans-ne1.true (c.requires.minor ∙ e));
}

pub returns-in-Some-clause-front : goal.returns-in-Some-clause-front
returns-in-Some-clause-front c = record {
  head = c.requires.head;
  rest = c.requires.rest;
  has = c.requires.has;
  code_is = c.requires.code;
  len_is = c.requires.len;
  frame = framed_by c.requires.head _ (sym c.requires.minor ∙ c.if-spans-ne1.false) c.requires.fields ∙ sym c.in-Some.ensures.value;
}

pub returns-in-None-clause-front : goal.returns-in-None-clause-front
returns-in-None-clause-front c = record {
  head = c.requires.head;
  rest = c.requires.rest;
  has = c.requires.has;
  frame = framed_by c.requires.head _ (sym c.requires.minor ∙ c.if-spans-ne1.false) c.requires.fields ∙ sym c.in-None.ensures.value;
}
