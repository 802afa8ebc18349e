-- Examples, computed.
use Rattle.std.proofs.Common.{◌≡◌, [], ◌∷◌, Ok, Err, refl}
use Rattle.std.specs.Prelude.{codes}
use Rattle.filter_texts.specs.declared.choice.Step.TheVariants as step
use Rattle.filter_texts.specs.Tokens.{tokens_from}
use Rattle.filter_texts.specs.Reading.{choice_read, read_tokens, advance, ended}
use Rattle.filter_texts.specs.Worked.{name_is, a_is_b, in_parentheses}

pub from_the_left : choice_read (codes "name eq a or name eq b and name eq b")
    ≡ Ok (name_is (codes "a") ∷ name_is (codes "b") ∷ step.Or ∷ name_is (codes "b") ∷ step.And ∷ [])
unfolding choice_read read_tokens advance ended tokens_from
from_the_left = refl

pub too_early : choice_read (codes "name eq") ≡ Err 7
unfolding choice_read read_tokens advance ended tokens_from
too_early = refl

pub too_much : choice_read (codes "name eq a b") ≡ Err 10
unfolding choice_read read_tokens advance ended tokens_from
too_much = refl

pub empty : choice_read [] ≡ Err 0
unfolding choice_read read_tokens advance ended tokens_from
empty = refl

pub unclosed : choice_read (codes "name eq \"a") ≡ Err 8
unfolding choice_read read_tokens advance ended tokens_from
unclosed = refl

pub other_case : choice_read (codes "NAME EQ a") ≡ Err 5
unfolding choice_read read_tokens advance ended tokens_from
other_case = refl

pub two_tokens : choice_read (codes "name eq a\"b\"") ≡ Err 9
unfolding choice_read read_tokens advance ended tokens_from
two_tokens = refl

pub closed : choice_read (codes ")") ≡ Err 0
unfolding choice_read read_tokens advance ended tokens_from
closed = refl

pub too_deep : choice_read (in_parentheses 65) ≡ Err 64
unfolding choice_read read_tokens advance ended tokens_from
too_deep = refl

pub deep : choice_read (in_parentheses 64) ≡ Ok (a_is_b ∷ [])
unfolding choice_read read_tokens advance ended tokens_from
deep = refl
