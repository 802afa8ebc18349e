-- The program, and what the words give to its commands.
use Rattle.std.proofs.Common.{◌≡◌, ◌∙◌, ℕ, List, [], true, false, cond, refl, ap, ap₂, Option, Some, None, is_some, IfSome, IfOk}
use Rattle.std.proofs.Common.{Result, Ok, Err}
use Rattle.std.specs.Option.{option_and_then, option_map, unwrap_or}
use Rattle.clap.specs.Words.{App, Row, Text, app_of, is_simple_and_free, subcommand_of, subcommand_rows_of}
use Rattle.clap.specs.Words.{has_subcommand, subcommand_name_of, with_subcommand}
use Rattle.clap.specs.declared.builder.command.Command.{Command}
use Rattle.clap.specs.declared.parser.matches.ArgMatches.{ArgMatches}
use Rattle.clap.specs.declared.parser.matches.ArgMatches.TheViews.{out-ArgMatches}
use Rattle.clap.proofs.OnLiterals.{clap_on_literals}
use Rattle.size_values.specs.declared.memory.NoMemory.{NoMemory}
use Rattle.command_words.specs.Commands.{AreGiven, HasShape, are_taken}
use Rattle.command_words.specs.RunWords.{bare_program, check_command, drill_command, parsed_command, make_command}
use Rattle.command_words.specs.RunWords.{run_command, run_program}

-- no argument of the program has a rule on another one
pub free : is_simple_and_free run_program ≡ true
unfolding run_program clap_on_literals
free = refl

-- what a parse gives is what the words give
given_is : (app : App) (words : List (List ℕ)) (given : Option ArgMatches) → is_some given ≡ are_taken app words
    → IfSome given (AreGiven app words)
    → option_and_then subcommand_rows_of given ≡ cond (are_taken app words) (subcommand_of app words) None
given_is app words None taken are = ap (λ b. cond b (subcommand_of app words) None) taken
given_is app words (Some m) taken are = are.1 ∙ ap (λ b. cond b (subcommand_of app words) None) taken

-- the same of the program
pub run_given : (app : App) (words : List (List ℕ)) (given : Option ArgMatches) → app ≡ run_program
    → is_some given ≡ are_taken app words → IfSome given (AreGiven app words)
    → option_and_then subcommand_rows_of given ≡ parsed_command words
unfolding parsed_command
run_given app words given is taken are =
    given_is app words given taken are ∙ ap (λ (a : App). cond (are_taken a words) (subcommand_of a words) None) is

-- the same of a result
pub run_given_any : (app : App) (words : List (List ℕ)) (result : Result (Option ArgMatches) NoMemory)
    → app ≡ run_program → IfOk result (λ given. is_some given ≡ are_taken app words)
    → IfOk result (λ given. IfSome given (AreGiven app words))
    → IfOk result (λ given. option_and_then subcommand_rows_of given ≡ parsed_command words)
run_given_any app words (Ok given) is taken are = run_given app words given is taken are
run_given_any app words (Err m) is taken are = tt

-- the program with its commands, one after the other
pub program_is : (p0 p1 p2 p3 p4 : Command) → HasShape bare_program p0
    → app_of p1 ≡ with_subcommand (app_of p0) run_command → app_of p2 ≡ with_subcommand (app_of p1) make_command
    → app_of p3 ≡ with_subcommand (app_of p2) drill_command → app_of p4 ≡ with_subcommand (app_of p3) check_command
    → app_of p4 ≡ run_program
unfolding run_program
program_is p0 p1 p2 p3 p4 bare run make drill check =
    check ∙ ap (λ app. with_subcommand app check_command)
    (drill ∙ ap (λ app. with_subcommand app drill_command)
    (make ∙ ap (λ app. with_subcommand app make_command)
    (run ∙ ap (λ app. with_subcommand app run_command) bare.0)))

-- the name and the values of the command that a parse came to
pub entered : {Z : Type 0} (sub : Option Z) (name : Z → Text) (rows : Z → List Row) (n : Text) (given : List Row)
    → Some n ≡ option_map name sub
    → Some given ≡ option_map (λ (p : Text × List Row). p.1) (option_map {U = Text × List Row} (λ z. (name z, rows z)) sub)
    → ◌≡◌ {A = Option (Text × List Row)} (Some (n, given)) (option_map (λ z. (name z, rows z)) sub)
entered None name rows n given is_name is_given = absurd (cc is_name)
entered (Some z) name rows n given is_name is_given =
    ap₂ both is_name is_given where
      both : Option Text → Option (List Row) → Option (Text × List Row)
      both n g = Some (unwrap_or n [], unwrap_or g [])

-- and that it came to none
not_entered : {Z A : Type 0} (sub : Option Z) (pair : Z → A) → false ≡ is_some sub → None ≡ option_map pair sub
not_entered None pair none = refl
not_entered (Some z) pair none = absurd (cc none)

-- the same of matches
pub names_command : (m : ArgMatches) (n : Text) (given : List Row) → Some n ≡ subcommand_name_of m
    → Some given ≡ option_map (λ (p : Text × List Row). p.1) (subcommand_rows_of m)
    → ◌≡◌ {A = Option (Text × List Row)} (Some (n, given)) (subcommand_rows_of m)
names_command m n given is_name is_given = entered (out-ArgMatches m).subcommand _ _ n given is_name is_given

pub names_none : (m : ArgMatches) → false ≡ has_subcommand m → None ≡ subcommand_rows_of m
names_none m none = not_entered (out-ArgMatches m).subcommand _ none
