use Rattle.std.proofs.Common.{map, string_bytes}
use Rattle.clap.specs.Words.{app_of}
use Rattle.command_words.proofs.Parsing.{parsed_given, parsed_none}
use Rattle.command_words.proofs.reading.parse_words.Goals as goal

pub returns-in-Ok-clause-given : goal.returns-in-Ok-clause-given
returns-in-Ok-clause-given c =
    parsed_given (app_of c.args.program) (map (λ w. string_bytes w) c.args.words.now) c.in-Ok.given c.requires
    c.in-Ok.ensures.matches

pub returns-in-Err-clause-taken : goal.returns-in-Err-clause-taken
returns-in-Err-clause-taken c =
    (parsed_none (app_of c.args.program) (map (λ w. string_bytes w) c.args.words.now) c.in-Err.error
    c.refusal_of.result (c.in-Err.ensures.kinds c.requires) c.refusal_of.ensures.none c.refusal_of.ensures.other).0
