use Rattle.std.proofs.Common.{arith}
use Rattle.gates.proofs.Walking.{walk-none}
use Rattle.serve_loop.specs.Waits.{ServeBy}
use Rattle.serve_loop.proofs.Waiting.{round_ends, round_idles}
use Rattle.serve_loop.proofs.wait.wait_for.Goals as goal

pub loop-init : goal.loop-init
loop-init g c = (omega arith, λ command. walk-none (ServeBy command) _ _)

pub idle-requires : goal.idle-requires
idle-requires g c = record { few = c.loop.invariant.0 }

pub returns-then-not-look : goal.returns-then-not-look
returns-then-not-look g c = λ command. round_ends command (c.loop.invariant.1 command)
    (c.look.ensures command c.args.deadline c.loop.idles _) c.if-not-look.true

pub returns-in-None-idle : goal.returns-in-None-idle
returns-in-None-idle g c = λ command. round_idles command (c.loop.invariant.1 command)
    (c.look.ensures command c.args.deadline c.loop.idles _) c.if-not-look.false
    (c.in-None-idle.ensures.walks command c.args.number)

pub loop-preserved : goal.loop-preserved
loop-preserved g c = (
  c.in-Some-idle.ensures.few,
  λ command. round_idles command (c.loop.invariant.1 command)
      (c.look.ensures command c.args.deadline c.loop.idles _) c.if-not-look.false
      (c.in-Some-idle.ensures.walks command c.args.number),
)
