use Rattle.std.proofs.Common.{ap, sym, ◌∙◌, List}
use Rattle.std.specs.Option.{option_and_then, option_map, is_some}
use Rattle.clap.specs.Words.{Row, Text, found_of, rows_of}
use Rattle.command_words.specs.RunWords.{words_of_command}
use Rattle.command_words.proofs.RunGiven.{names_command, names_none}
use Rattle.command_words.proofs.run_words.command_words_of.Goals as goal

pub returns-in-Some-clause-says : goal.returns-in-Some-clause-says
returns-in-Some-clause-says c =
    c.words_of_command.ensures.says
    ∙ ap (option_and_then (λ (p : Text × List Row). words_of_command p.0 p.1))
    (names_command c.args.given.now c.in-Some.name.now (rows_of (found_of c.in-Some.values.now))
    (ap (option_map (λ p. p.0.now)) (sym c.in-Some.is) ∙ c.subcommand.ensures.name)
    (ap (option_map (λ p. rows_of (found_of p.1.now))) (sym c.in-Some.is) ∙ c.subcommand.ensures.rows))

pub returns-in-None-clause-says : goal.returns-in-None-clause-says
returns-in-None-clause-says c =
    ap (option_and_then (λ (p : Text × List Row). words_of_command p.0 p.1))
    (names_none c.args.given.now (ap is_some (sym c.in-None.is) ∙ c.subcommand.ensures.variant))
