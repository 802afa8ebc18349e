use Rattle.std.proofs.Common.{SFits, rules, w64}
use Rattle.std.proofs.lemmas.Int.{to_z-of_z}
use Rattle.serve_loop.proofs.Waiting.{held_back}
use Rattle.serve_loop.proofs.wait.wait_and_show.Goals as goal

pub returns : goal.returns
returns g c = λ command is.
    let fits : SFits w64 c.args.wait.timeout = search rules in
    let ends = rw (to_z-of_z w64 c.args.wait.timeout fits) at c.deadline_of.ensures in
    held_back command c.args.wait c.args.number c.args.moment c.deadline_of.result is ends
    (c.wait_for.ensures command) (c.show.ensures command)
