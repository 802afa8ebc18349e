use Rattle.std.proofs.Common.{ap, sym, ◌∙◌, List}
use Rattle.std.proofs.lemmas.Result.{IfOk-weaker}
use Rattle.std.specs.Option.{option_and_then, option_map, is_some}
use Rattle.clap.specs.Words.{Row, Text, found_of, rows_of}
use Rattle.command_words.proofs.RunGiven.{names_command, names_none}
use Rattle.client_words.specs.Words.{words_of_command}
use Rattle.client_words.proofs.words.words_of_matches.Goals as goal

pub returns-in-Some : goal.returns-in-Some
returns-in-Some c =
    IfOk-weaker c.words_of_command.result _ _
    (λ said is. is ∙ ap (option_and_then (λ (p : Text × List Row). words_of_command p.0 p.1))
    (names_command c.args.given.now c.in-Some.word.now (rows_of (found_of c.in-Some.values.now))
    (ap (option_map (λ p. p.0.now)) (sym c.in-Some.is) ∙ c.subcommand.ensures.name)
    (ap (option_map (λ p. rows_of (found_of p.1.now))) (sym c.in-Some.is) ∙ c.subcommand.ensures.rows)))
    c.words_of_command.ensures

pub returns-in-None : goal.returns-in-None
returns-in-None c =
    ap (option_and_then (λ (p : Text × List Row). words_of_command p.0 p.1))
    (names_none c.args.given.now (ap is_some (sym c.in-None.is) ∙ c.subcommand.ensures.variant))
