-- What a parse of words gives.
use Rattle.std.proofs.Common.{◌≡◌, ◌≢◌, ◌∙◌, ◌==◌, ◌&&◌, not, ℕ, Bool, true, false, refl, sym, ap, ap₂, List, [], ◌∷◌}
use Rattle.std.proofs.Common.{length, Option, None, is_some, inl, inr, arith, ne_eqb, Result, Ok, Err, IfOk, IfSome, subst}
use Rattle.clap.specs.Words.{App, HasKind, HasMatchesOf, IsAmong, Kinds, fault_of, is_simple, is_simple_and_free, kind_of}
use Rattle.clap.specs.declared.error.Error.{Error}
use Rattle.clap.specs.declared.error.kind.ErrorKind.{ErrorKind}
use Rattle.clap.specs.declared.error.kind.ErrorKind.TheVariants as kind
use Rattle.clap.specs.declared.parser.matches.ArgMatches.{ArgMatches}
use Rattle.size_values.specs.declared.memory.NoMemory.{NoMemory}
use Rattle.command_words.specs.Commands.{AreGiven, are_taken, has_dashes}

-- a list of kinds with one of them is not empty
among_some : (k : ErrorKind) (kinds : Kinds) → IsAmong k kinds → (length kinds == 0) ≡ false
among_some k [] none = absurd none
among_some k (x ∷ xs) some = ne_eqb _ _ (λ e. omega arith)

-- words without dashes that `clap` finds no fault in are taken
pub taken : (app : App) (words : List (List ℕ)) → has_dashes words ≡ false → fault_of app words ≡ []
    → true ≡ are_taken app words
taken app words plain none = sym (ap₂ (λ (dashes : Bool) (n : ℕ). not dashes && (n == 0)) plain (ap length none))

-- words with dashes are not
pub dashed : (app : App) (words : List (List ℕ)) → has_dashes words ≡ true → false ≡ are_taken app words
dashed app words dashes = sym (ap (λ (dashes : Bool). not dashes && (length (fault_of app words) == 0)) dashes)

and_false : (b : Bool) → (b && false) ≡ false
and_false true = refl
and_false false = refl

-- nor are words that it refuses for another reason than want of memory
pub refuses : (app : App) (words : List (List ℕ)) (e : Error) → HasKind (fault_of app words) e
    → kind_of e ≢ kind.OutOfMemory → false ≡ are_taken app words
refuses app words e (inl memory) other = absurd (other memory)
refuses app words e (inr among) other =
    sym (ap (λ (none : Bool). not (has_dashes words) && none) (among_some (kind_of e) (fault_of app words) among)
    ∙ and_false (not (has_dashes words)))

-- a program whose arguments have no rules on one another is simple
pub simple : (a b : Bool) → (a && b) ≡ true → a ≡ true
simple true b is = refl
simple false b is = is

-- what a parse of words without dashes comes to: the values that they give
pub parsed_given : (app : App) (words : List (List ℕ)) (given : ArgMatches) → is_simple_and_free app ≡ true
    → HasMatchesOf app words given → AreGiven app words given
parsed_given app words given free has = has (simple (is_simple app) _ free)

-- or its refusal
pub parsed_none : (app : App) (words : List (List ℕ)) (e : Error) (result : Result (Option ArgMatches) NoMemory)
    → HasKind (fault_of app words) e → IfOk result (λ given. given ≡ None)
    → IfOk result (λ _. kind_of e ≢ kind.OutOfMemory)
    → IfOk result (λ given. is_some given ≡ are_taken app words)
    × IfOk result (λ given. IfSome given (AreGiven app words))
parsed_none app words e (Ok given) has none other =
    (ap is_some none ∙ refuses app words e has other, subst (λ g. IfSome g (AreGiven app words)) (sym none) tt)
parsed_none app words e (Err m) has none other = (tt, tt)
