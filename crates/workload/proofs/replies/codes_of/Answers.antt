use Rattle.workload.specs.Summary.{codes_of}
use Rattle.workload.proofs.Codes.{codes_of-step, codes_of-end}
use Rattle.workload.proofs.replies.codes_of.Goals as goal

pub loop-reply-preserved : goal.loop-reply-preserved
loop-reply-preserved c =
    codes_of-step (codes_of c.args.bytes.now) c.loop-reply.codes.items c.push.new.self.items c.loop-reply.rest.now c.in-Some.reply.code c.in-Some.reply.end
    c.loop-reply.invariant c.in-Some.ensures.reply c.in_ok-push.ensures.items

pub returns : goal.returns
returns c = codes_of-end (codes_of c.args.bytes.now) c.loop-reply.codes.items c.loop-reply.rest.now c.loop-reply.invariant c.in_default.ensures.reply
