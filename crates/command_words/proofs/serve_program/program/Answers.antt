use Rattle.std.proofs.lemmas.Result.{IfOk-weaker}
use Rattle.command_words.proofs.Making.{more}
use Rattle.command_words.proofs.ServeGiven.{program_is}
use Rattle.command_words.proofs.serve_program.program.Goals as goal

pub returns : goal.returns
returns c =
    let port = more _ _ _ _ c.bare_program-program.ensures c.in_ok-program.ensures in
    let doors = more _ _ _ _ port c.in_ok-program-2.ensures in
    let at_once = more _ _ _ _ (more _ _ _ _ doors c.in_ok-program-3.ensures) c.in_ok-program-4.ensures in
    let idle = more _ _ _ _ (more _ _ _ _ at_once c.in_ok-program-5.ensures) c.in_ok-program-6.ensures in
    let before = more _ _ _ _ idle c.in_ok-program-7.ensures in
    let files = more _ _ _ _ before c.in_ok-program-8.ensures in
    let stops = more _ _ _ _ files c.in_ok-program-9.ensures in
    IfOk-weaker c.with_flag-2.result _ _ (λ made adds. program_is made (more _ _ _ made stops adds))
    c.with_flag-2.ensures
