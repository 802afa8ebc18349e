-- The id of a number names that number again.
use Rattle.std.proofs.Common.{◌≡◌, ℕ, ◌+◌, ◌-◌, ◌*◌, ◌/◌, ◌%◌, ◌^◌, ◌<◌, ◌==◌, ◌&&◌, nat_lt, nat_le, if◌then◌else◌, length, true, Some, None, option_and_then, inl, All, refl, sym, ap, ◌∙◌, arith}
use Rattle.std.specs.Int.{w128, to_be_bytes, from_be_bytes}
use Rattle.std.proofs.lemmas.Bool.Decides.{nat_tests}
use Rattle.std.proofs.lemmas.List.Elements.{All-from_recursion}
use Rattle.uuid.specs.Text.{lower, parsed}
use Rattle.uuid.proofs.OrderLemmas.{from_be_bytes-to_be_bytes_16}
use Rattle.uuid.proofs.RoundTrips.{parses_hyphenated}
use Rattle.rest_json.specs.Ids.{high_half, low_half, id_bytes, id_text, number_in, number_in_bytes, number_of}

bytes_below : (v : ℕ) → All (λ (b : ℕ). b < 256) (to_be_bytes w128 v)
bytes_below v =
    All-from_recursion (λ (b : ℕ). b < 256) (to_be_bytes w128 v)
    (omega arith, (omega arith, (omega arith, (omega arith, (omega arith, (omega arith, (omega arith, (omega arith, (omega arith, (omega arith, (omega arith, (omega arith, (omega arith, (omega arith, (omega arith, (omega arith, tt))))))))))))))))

id_below : (boot number : ℕ) → All (λ (b : ℕ). b < 256) (id_bytes boot number)
unfolding id_bytes
id_below boot number = bytes_below (high_half boot * 2 ^ 64 + low_half number)

id_length : (boot number : ℕ) → length (id_bytes boot number) ≡ 16
unfolding id_bytes
id_length boot number = refl

id_parsed : (boot number : ℕ) → parsed (id_text boot number) ≡ Some (id_bytes boot number)
unfolding id_text
id_parsed boot number = sym (parses_hyphenated lower (id_bytes boot number) (inl refl) (id_length boot number) (id_below boot number))

high_fits : (boot : ℕ) → high_half boot < 2 ^ 64
unfolding high_half
high_fits boot = omega arith

low_fits : (number : ℕ) → low_half number < 2 ^ 64
unfolding low_half
low_fits number = omega arith

low_is : (number : ℕ) → number < 2 ^ 62 → low_half number ≡ 2 ^ 63 + number
unfolding low_half
low_is number small = omega arith

both_fit : (h l : ℕ) → h < 2 ^ 64 → l < 2 ^ 64 → h * 2 ^ 64 + l < 2 ^ 128
both_fit h l high low = omega arith

upper_is : (h l : ℕ) → l < 2 ^ 64 → (h * 2 ^ 64 + l) / 2 ^ 64 ≡ h
upper_is h l low = omega arith

lower_is : (h l : ℕ) → l < 2 ^ 64 → (h * 2 ^ 64 + l) % 2 ^ 64 ≡ l
lower_is h l low = omega arith

id_value : (boot number : ℕ) → from_be_bytes w128 (id_bytes boot number) ≡ high_half boot * 2 ^ 64 + low_half number
unfolding id_bytes
id_value boot number =
    from_be_bytes-to_be_bytes_16 (high_half boot * 2 ^ 64 + low_half number) (both_fit (high_half boot) (low_half number) (high_fits boot) (low_fits number))

tests_hold : (h l number : ℕ) → l ≡ 2 ^ 63 + number → number < 2 ^ 62
    → (if h == h && (nat_le (2 ^ 63) l && nat_lt l (2 ^ 63 + 2 ^ 62)) then Some (l - 2 ^ 63) else None) ≡ Some number
tests_hold h l number is small =
    let same : (h == h) ≡ true = grind (arith, nat_tests) in
    let above : nat_le (2 ^ 63) l ≡ true = grind (arith, nat_tests) in
    let below : nat_lt l (2 ^ 63 + 2 ^ 62) ≡ true = grind (arith, nat_tests) in
    let back : l - 2 ^ 63 ≡ number = omega arith in
    rw (same, above, below, back) refl

named : (boot number : ℕ) → number < 2 ^ 62 → number_in boot (high_half boot) (low_half number) ≡ Some number
unfolding number_in
named boot number small = tests_hold (high_half boot) (low_half number) number (low_is number small) small

in_bytes : (boot number : ℕ) → number < 2 ^ 62 → number_in_bytes boot (id_bytes boot number) ≡ Some number
unfolding number_in_bytes
in_bytes boot number small =
    ap (λ (v : ℕ). number_in boot (v / 2 ^ 64) (v % 2 ^ 64)) (id_value boot number)
    ∙ ap (λ (h : ℕ). number_in boot h ((high_half boot * 2 ^ 64 + low_half number) % 2 ^ 64)) (upper_is (high_half boot) (low_half number) (low_fits number))
    ∙ ap (number_in boot (high_half boot)) (lower_is (high_half boot) (low_half number) (low_fits number))
    ∙ named boot number small

pub reads_back : (boot number : ℕ) → number < 2 ^ 62 → number_of (id_text boot number) boot ≡ Some number
unfolding number_of
reads_back boot number small = ap (option_and_then (number_in_bytes boot)) (id_parsed boot number) ∙ in_bytes boot number small
