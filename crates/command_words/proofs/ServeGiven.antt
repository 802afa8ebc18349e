-- The program, and what the words give to its options.
use Rattle.std.proofs.Common.{◌≡◌, ◌∙◌, ℕ, List, Bool, true, false, cond, refl, ap, Option, Some, None, is_some, IfSome, IfOk}
use Rattle.std.proofs.Common.{Result, Ok, Err}
use Rattle.std.specs.Option.{option_map}
use Rattle.clap.specs.Words.{App, Row, app_of, found_of, is_simple_and_free, matches_of, rows_of}
use Rattle.clap.specs.declared.builder.command.Command.{Command}
use Rattle.clap.specs.declared.parser.matches.ArgMatches.{ArgMatches}
use Rattle.clap.proofs.OnLiterals.{clap_on_literals}
use Rattle.size_values.specs.declared.memory.NoMemory.{NoMemory}
use Rattle.command_words.specs.Commands.{AreGiven, HasShape, are_taken}
use Rattle.command_words.specs.ServeWords.{bare_program, parsed_options, serve_options, serve_program}

-- no option of the program has a rule on another one
pub free : is_simple_and_free serve_program ≡ true
unfolding serve_program clap_on_literals
free = refl

-- what a parse gives is what the words give
given_is : (app : App) (words : List (List ℕ)) (given : Option ArgMatches) → is_some given ≡ are_taken app words
    → IfSome given (AreGiven app words)
    → option_map (λ m. rows_of (found_of m)) given ≡ cond (are_taken app words) (Some (matches_of app words)) None
given_is app words None taken are = ap (λ b. cond b (Some (matches_of app words)) None) taken
given_is app words (Some m) taken are = ap Some are.0 ∙ ap (λ b. cond b (Some (matches_of app words)) None) taken

-- the same of the program
pub serve_given : (app : App) (words : List (List ℕ)) (given : Option ArgMatches) → app ≡ serve_program
    → is_some given ≡ are_taken app words → IfSome given (AreGiven app words)
    → option_map (λ m. rows_of (found_of m)) given ≡ parsed_options words
unfolding parsed_options
serve_given app words given is taken are =
    given_is app words given taken are ∙ ap (λ (a : App). cond (are_taken a words) (Some (matches_of a words)) None) is

-- the same of a result
pub serve_given_any : (app : App) (words : List (List ℕ)) (result : Result (Option ArgMatches) NoMemory)
    → app ≡ serve_program → IfOk result (λ given. is_some given ≡ are_taken app words)
    → IfOk result (λ given. IfSome given (AreGiven app words))
    → IfOk result (λ given. option_map (λ m. rows_of (found_of m)) given ≡ parsed_options words)
serve_given_any app words (Ok given) is taken are = serve_given app words given is taken are
serve_given_any app words (Err m) is taken are = tt

-- the program with its options
pub program_is : (made : Command) → HasShape (record bare_program { rules = serve_options }) made
    → app_of made ≡ serve_program
unfolding serve_program
program_is made has = has.0
