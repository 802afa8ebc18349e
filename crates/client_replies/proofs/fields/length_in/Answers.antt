use Rattle.std.proofs.Common.{◌≡◌, ℕ, ◌+◌, ◌-◌, ◌*◌, ◌<◌, ◌≤◌, ◌^◌, sym, ap, ◌∙◌, arith, get_or, take, refl}
use Rattle.std.proofs.Math.Nat.{pow-le-pow_right}
use Rattle.std.specs.Char.{digit_value, is_ascii_digit}
use Rattle.std.specs.Str.Parse.{digits_value}
use Rattle.std.proofs.lemmas.Nat.{pow-add}
use Rattle.std.proofs.lemmas.Bool.Decides.{nat_tests}
use Rattle.std.proofs.lemmas.Int.Digits.{digits_value_more}
use Rattle.std.proofs.lemmas.List.Folds.{list_all_more}
use Rattle.client_replies.proofs.fields.length_in.Goals as goal

tens : (i : ℕ) → i ≤ 18 → 10 ^ i ≤ 10 ^ 18
tens i h = pow-le-pow_right (omega arith) h

more_tens : (n d i : ℕ) → n < 10 ^ i → d ≤ 9 → n * 10 + d < 10 ^ (i + 1)
more_tens n d i h small = let e : 10 ^ (i + 1) ≡ 10 ^ i * 10 = pow-add 10 i 1 in omega arith

digit_of : (c : ℕ) → 48 ≤ c → c ≤ 57 → digit_value c ≡ c - 48
digit_of c low high = grind (arith, nat_tests)

pub overflow_mul-length : goal.overflow_mul-length
overflow_mul-length c =
    let few : c.loop-byte.byte-index ≤ 18 = omega arith in omega (arith, tens c.loop-byte.byte-index few)

pub overflow_add-length : goal.overflow_add-length
overflow_add-length c =
    let few : c.loop-byte.byte-index ≤ 18 = omega arith in omega (arith, c.from.ensures, tens c.loop-byte.byte-index few)

pub loop-byte-preserved : goal.loop-byte-preserved
loop-byte-preserved c =
    let i = c.loop-byte.byte-index in
    let text = c.args.text.now in
    let digit = c.if-not-is_ascii_digit.ensures in
    let value = digit_of (get_or text i 0) digit.cases.0 digit.cases.1 in
    record {
      value = ap (λ n. n * 10 + c.from.result) c.loop-byte.invariant.value
          ∙ ap (λ d. digits_value 10 (take i text) * 10 + d) (c.from.ensures ∙ sym value)
          ∙ sym (digits_value_more 10 text i c.loop-byte-test.true);
      digits = list_all_more is_ascii_digit text i 0 c.loop-byte-test.true ∙ rw (c.loop-byte.invariant.digits, ← digit.value) refl;
      small = more_tens c.loop-byte.length c.from.result i c.loop-byte.invariant.small (omega (arith, c.from.ensures, digit.cases.1));
    }
