-- Digits at the front of a text, and their number.
use Rattle.std.proofs.Common.{◌≡◌, ℕ, ◌+◌, ◌-◌, ◌*◌, ◌^◌, ◌<◌, ◌≤◌, min, true, false, List, length, take, get_or, sym, ap, ◌∙◌, arith}
use Rattle.std.proofs.lemmas.Bool.Decides.{nat_tests}
use Rattle.std.specs.Char.{is_ascii_digit, digit_value}
use Rattle.std.specs.List.{prefix_len}
use Rattle.std.specs.Str.Parse.{digits_value}
use Rattle.std.proofs.lemmas.Int.Digits.{digits_value_more}
use Rattle.std.proofs.lemmas.List.Sums.{prefix_len_is}
use Rattle.size_values.specs.Number.{number_at}
use Rattle.size_values.specs.declared.number.Number.{Number}

-- the value of a digit
pub digit_value-digit : (c : ℕ) → is_ascii_digit c ≡ true → digit_value c ≡ c - 48
digit_value-digit c h = grind (arith, nat_tests)

-- sums and products that stop at the last value of 64 bits stop where the whole number does
pub stops-step : (v n d last : ℕ) → v ≡ min n last → min (min (v * 10) last + d) last ≡ min (n * 10 + d) last
stops-step v n d last h = omega arith

-- the number after one more digit
pub number-next : (text : List ℕ) (i v : ℕ) → i < length text → is_ascii_digit (get_or text i 0) ≡ true
    → v ≡ min (digits_value 10 (take i text)) (2 ^ 64 - 1)
    → min (min (v * 10) (2 ^ 64 - 1) + (get_or text i 0 - 48)) (2 ^ 64 - 1) ≡ min (digits_value 10 (take (i + 1) text)) (2 ^ 64 - 1)
number-next text i v less digit h =
    stops-step v (digits_value 10 (take i text)) (get_or text i 0 - 48) (2 ^ 64 - 1) h
    ∙ ap (λ n. min n (2 ^ 64 - 1)) (sym (digits_value_more 10 text i less ∙ ap (λ d. digits_value 10 (take i text) * 10 + d) (digit_value-digit (get_or text i 0) digit)))

-- the number at the front, where its digits end
pub number-ends : (text : List ℕ) (i v : ℕ) → i ≤ length text → ((k : ℕ) → k < i → is_ascii_digit (get_or text k 0) ≡ true)
    → (i < length text → is_ascii_digit (get_or text i 0) ≡ false) → v ≡ min (digits_value 10 (take i text)) (2 ^ 64 - 1)
    → record { len = i; value = v } ≡ number_at text
number-ends text i v within digits stops h =
    by (prefix_len is_ascii_digit text) (sym (prefix_len_is is_ascii_digit text i 0 within digits stops))
  where
    made : ℕ → ℕ → Number
    made len value = record { len = len; value = value }

    by : (n : ℕ) → i ≡ n → made i v ≡ made n (min (digits_value 10 (take n text)) (2 ^ 64 - 1))
    by n e = ap (made i) h ∙ ap (λ k. made k (min (digits_value 10 (take k text)) (2 ^ 64 - 1))) e

-- the number of a text of digits alone
pub number-whole : (text : List ℕ) (i v : ℕ) → i ≡ length text → ((k : ℕ) → k < i → is_ascii_digit (get_or text k 0) ≡ true)
    → v ≡ min (digits_value 10 (take i text)) (2 ^ 64 - 1) → record { len = length text; value = v } ≡ number_at text
number-whole text i v end digits h =
    ap (λ n. made n v) (sym end) ∙ number-ends text i v (omega arith) digits (λ less. absurd (omega arith)) h
  where
    made : ℕ → ℕ → Number
    made len value = record { len = len; value = value }
