-- What stands at the slashes of a text.
use Rattle.std.proofs.Common.{◌≡◌, ◌≢◌, ◌<◌, ◌+◌, ℕ, Bool, true, false, if◌then◌else◌, List, [], ◌∷◌, length, take, drop, get_or}
use Rattle.std.proofs.Common.{Option, Some, None, option_map, refl, sym, ap, ◌∙◌, arith}
use Rattle.std.specs.Option.{MatchOption}
use Rattle.std.specs.List.{position_or_len}
use Rattle.std.proofs.lemmas.Bool.{eq-eqb, eqb-true, ne_eqb}
use Rattle.std.proofs.lemmas.List.{drop_all, drop_more, take_all}
use Rattle.std.proofs.lemmas.List.Sums.{position_or_len_is}
use denote.Ref.{Bor}
use Rattle.rest_routes.specs.Paths.{is_slash, before_slash, after_slash, behind_slash}

-- what is left of a text whose first slash is cut off
pub behind : (text : List ℕ) (found : Option (Bor (List ℕ)))
    → MatchOption found ((rest : List ℕ) → text ≢ 47 ∷ rest) (λ rest. text ≡ 47 ∷ rest.now)
    → option_map (λ rest. rest.now) found ≡ behind_slash text
behind text (Some rest) is = sym (ap behind_slash is)
behind [] None none = refl
behind (byte ∷ more) None none = sym (by (is_slash byte) refl) where
  by : (test : Bool) → is_slash byte ≡ test → (if test then Some more else None) ≡ None
  by true is = absurd (none more (ap (λ b. b ∷ more) (eqb-true byte 47 is)))
  by false is = refl

-- the first slash stands at this place
first_slash : (text : List ℕ) (at : ℕ) → at < length text → get_or text at 0 ≡ 47
    → ((i : ℕ) → i < at → get_or text i 0 ≢ 47) → position_or_len is_slash text ≡ at
first_slash text at within is before = position_or_len_is is_slash text at 0 (omega (arith, within))
    (λ i low. ne_eqb (get_or text i 0) 47 (before i low)) (λ w. eq-eqb (get_or text at 0) 47 is)

pub before_is : (text : List ℕ) (at : ℕ) → at < length text → get_or text at 0 ≡ 47
    → ((i : ℕ) → i < at → get_or text i 0 ≢ 47) → take at text ≡ before_slash text
unfolding before_slash
before_is text at within is before = ap (λ n. take n text) (sym (first_slash text at within is before))

pub from_is : (text : List ℕ) (at : ℕ) → at < length text → get_or text at 0 ≡ 47
    → ((i : ℕ) → i < at → get_or text i 0 ≢ 47) → drop at text ≡ 47 ∷ after_slash text
unfolding after_slash
from_is text at within is before =
    drop_more text at 0 within
    ∙ ap (λ byte. byte ∷ drop (at + 1) text) is
    ∙ ap (λ n. 47 ∷ drop (n + 1) text) (sym (first_slash text at within is before))

-- there is no slash
no_slash : (text : List ℕ) → ((i : ℕ) → i < length text → get_or text i 0 ≢ 47)
    → position_or_len is_slash text ≡ length text
no_slash text none = position_or_len_is is_slash text (length text) 0 (omega arith)
    (λ i low. ne_eqb (get_or text i 0) 47 (none i low)) (λ w. absurd (omega (arith, w)))

pub all_before : (text : List ℕ) → ((i : ℕ) → i < length text → get_or text i 0 ≢ 47) → text ≡ before_slash text
unfolding before_slash
all_before text none = sym (ap (λ n. take n text) (no_slash text none) ∙ take_all (length text) text (omega arith))

pub none_behind : (text : List ℕ) → ((i : ℕ) → i < length text → get_or text i 0 ≢ 47) → [] ≡ after_slash text
unfolding after_slash
none_behind text none =
    sym (ap (λ n. drop (n + 1) text) (no_slash text none) ∙ drop_all (length text + 1) text (omega arith))
