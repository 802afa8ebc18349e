-- The digits at the front of a text, and how large their value may be.
use Rattle.std.proofs.Common.{◌≡◌, ℕ, zero, suc, get_or, ◌-◌, ◌<◌, ◌≤◌, ◌^◌, Bool, true, false, cond, List, [], ◌∷◌, length, take, refl, ap, sym, subst, arith, length-take}
use Rattle.std.proofs.Math.Nat.{pow-le-pow_right}
use Rattle.std.proofs.lemmas.List.Sums.{take_while-cons}
use Rattle.std.specs.Char.{is_ascii_digit, digit_value}
use Rattle.std.specs.Prelude.{take_while}
use Rattle.std.specs.Str.Parse.{AllDigits, digits_value}
use Rattle.std.proofs.lemmas.Int.Digits.{digits_value-lt}
use Rattle.std.proofs.lemmas.Str.Parse.{digit_at}
use Rattle.std.proofs.lemmas.Bool.Decides.{nat_tests}

-- a byte that passes the test is a digit
digit-below : (c : ℕ) → is_ascii_digit c ≡ true → digit_value c < 10
digit-below c passes = grind (arith, nat_tests, passes)

-- what passes the test at the front of a text
pub digits-run : (xs : List ℕ) → AllDigits 10 (take_while is_ascii_digit xs)
digits-run [] = tt
digits-run (x ∷ xs) = subst (AllDigits 10) (sym (take_while-cons is_ascii_digit x xs)) (of (is_ascii_digit x) refl (digits-run xs))
  where
    of : (b : Bool) → is_ascii_digit x ≡ b → AllDigits 10 (take_while is_ascii_digit xs) → AllDigits 10 (cond b (x ∷ take_while is_ascii_digit xs) [])
    of true passes rest = (digit-below x passes, rest)
    of false fails rest = tt

-- the front of that length is what passes
pub take-run : (xs : List ℕ) → take (length (take_while is_ascii_digit xs)) xs ≡ take_while is_ascii_digit xs
take-run [] = refl
take-run (x ∷ xs) = subst (λ ds. take (length ds) (x ∷ xs) ≡ ds) (sym (take_while-cons is_ascii_digit x xs)) (of (is_ascii_digit x) (take-run xs))
  where
    of : (b : Bool) → take (length (take_while is_ascii_digit xs)) xs ≡ take_while is_ascii_digit xs
        → take (length (cond b (x ∷ take_while is_ascii_digit xs) [])) (x ∷ xs) ≡ cond b (x ∷ take_while is_ascii_digit xs) []
    of true rest = ap (λ ds. x ∷ ds) rest
    of false rest = refl

pub digits-front : (xs : List ℕ) → AllDigits 10 (take (length (take_while is_ascii_digit xs)) xs)
digits-front xs = subst (AllDigits 10) (sym (take-run xs)) (digits-run xs)

pub ruleset run_facts = (take-run, digits-front)

-- the front of a list of digits
digits-take : (ds : List ℕ) (n : ℕ) → AllDigits 10 ds → AllDigits 10 (take n ds)
digits-take ds zero all = tt
digits-take [] (suc n) all = tt
digits-take (d ∷ ds) (suc n) all = (all.0, digits-take ds n all.1)

-- eighteen digits leave room for one more
pub value-below : (ds : List ℕ) (i : ℕ) → AllDigits 10 ds → i < 19 → digits_value 10 (take i ds) < 10 ^ 18
value-below ds i all few =
    let size : length (take i ds) ≤ 18 = omega (arith, length-take i ds) in
    omega (arith, digits_value-lt 10 (take i ds) (digits-take ds i all), pow-le-pow_right {n = 10} (omega arith) size)

-- the value of a digit
pub digit-value : (ds : List ℕ) (i : ℕ) → AllDigits 10 ds → i < length ds → digit_value (get_or ds i 0) ≡ get_or ds i 0 - 48
digit-value ds i all within = let range = digit_at ds i all within in by (get_or ds i 0) range.0 range.1
  where
    by : (c : ℕ) → 48 ≤ c → c ≤ 57 → digit_value c ≡ c - 48
    by c low high = grind (arith, nat_tests)
