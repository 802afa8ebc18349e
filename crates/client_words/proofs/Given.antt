-- The program, and what the words give to its commands.
use Rattle.std.proofs.Common.{◌≡◌, ◌∙◌, ℕ, List, [], ◌∷◌, true, cond, refl, ap, codes, Option, Some, None, is_some, IfSome, IfOk}
use Rattle.std.proofs.Common.{Result, Ok, Err}
use Rattle.std.specs.Option.{option_and_then}
use Rattle.clap.specs.Words.{App, app_of, is_simple_and_free, subcommand_of, subcommand_rows_of, with_subcommand}
use Rattle.clap.specs.declared.builder.command.Command.{Command}
use Rattle.clap.specs.declared.parser.matches.ArgMatches.{ArgMatches}
use Rattle.clap.proofs.OnLiterals.{clap_on_literals}
use Rattle.size_values.specs.declared.memory.NoMemory.{NoMemory}
use Rattle.command_words.specs.Commands.{AreGiven, HasShape, are_taken, positional_of}
use Rattle.client_words.specs.Program.{bare_program, client_program, instance_shapes, optional_of, parsed_command, shape_with, with_shapes}

-- no argument of the program has a rule on another one
pub free : is_simple_and_free client_program ≡ true
unfolding client_program clap_on_literals
free = refl

-- what a parse gives is what the words give
given_is : (app : App) (words : List (List ℕ)) (given : Option ArgMatches) → is_some given ≡ are_taken app words
    → IfSome given (AreGiven app words)
    → option_and_then subcommand_rows_of given ≡ cond (are_taken app words) (subcommand_of app words) None
given_is app words None taken are = ap (λ b. cond b (subcommand_of app words) None) taken
given_is app words (Some m) taken are = are.1 ∙ ap (λ b. cond b (subcommand_of app words) None) taken

-- the same of the program
pub client_given : (app : App) (words : List (List ℕ)) (given : Option ArgMatches) → app ≡ client_program
    → is_some given ≡ are_taken app words → IfSome given (AreGiven app words)
    → option_and_then subcommand_rows_of given ≡ parsed_command words
unfolding parsed_command
client_given app words given is taken are =
    given_is app words given taken are ∙ ap (λ (a : App). cond (are_taken a words) (subcommand_of a words) None) is

-- the same of a result
pub client_given_any : (app : App) (words : List (List ℕ)) (result : Result (Option ArgMatches) NoMemory)
    → app ≡ client_program → IfOk result (λ given. is_some given ≡ are_taken app words)
    → IfOk result (λ given. IfSome given (AreGiven app words))
    → IfOk result (λ given. option_and_then subcommand_rows_of given ≡ parsed_command words)
client_given_any app words (Ok given) is taken are = client_given app words given is taken are
client_given_any app words (Err m) is taken are = tt

-- the commands on instances, one after the other
pub instances_are : (p0 p1 p2 p3 p4 : Command)
    → app_of p1 ≡ with_subcommand (app_of p0) (shape_with (codes "launch") (positional_of (codes "name") ∷ []))
    → app_of p2 ≡ with_subcommand (app_of p1) (shape_with (codes "start") (positional_of (codes "name") ∷ []))
    → app_of p3 ≡ with_subcommand (app_of p2) (shape_with (codes "stop") (positional_of (codes "name") ∷ []))
    → app_of p4 ≡ with_subcommand (app_of p3) (shape_with (codes "delete") (positional_of (codes "name") ∷ []))
    → app_of p4 ≡ with_shapes instance_shapes (app_of p0)
instances_are p0 p1 p2 p3 p4 launch start stop delete =
    delete ∙ ap (λ app. with_subcommand app (shape_with (codes "delete") (positional_of (codes "name") ∷ [])))
    (stop ∙ ap (λ app. with_subcommand app (shape_with (codes "stop") (positional_of (codes "name") ∷ [])))
    (start ∙ ap (λ app. with_subcommand app (shape_with (codes "start") (positional_of (codes "name") ∷ []))) launch))

-- the program with all of them
pub program_is : (p0 p1 p2 p3 p4 p5 : Command) → HasShape bare_program p0
    → app_of p1 ≡ with_subcommand (app_of p0) (shape_with (codes "list") (optional_of (codes "filter") ∷ []))
    → app_of p2 ≡ with_shapes instance_shapes (app_of p1)
    → app_of p3 ≡ with_subcommand (app_of p2) (shape_with (codes "wait") (positional_of (codes "id") ∷ []))
    → app_of p4 ≡ with_subcommand (app_of p3) (shape_with (codes "cancel") (positional_of (codes "id") ∷ []))
    → app_of p5 ≡ with_subcommand (app_of p4) (shape_with (codes "limits") []) → app_of p5 ≡ client_program
unfolding client_program
program_is p0 p1 p2 p3 p4 p5 bare list instances wait cancel limits =
    limits ∙ ap (λ app. with_subcommand app (shape_with (codes "limits") []))
    (cancel ∙ ap (λ app. with_subcommand app (shape_with (codes "cancel") (positional_of (codes "id") ∷ [])))
    (wait ∙ ap (λ app. with_subcommand app (shape_with (codes "wait") (positional_of (codes "id") ∷ [])))
    (instances ∙ ap (with_shapes instance_shapes)
    (list ∙ ap (λ app. with_subcommand app (shape_with (codes "list") (optional_of (codes "filter") ∷ []))) bare.0))))
