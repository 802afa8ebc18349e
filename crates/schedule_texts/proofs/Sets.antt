-- Sets of numbers as bits.
use Rattle.std.proofs.Common.{◌≡◌, ◌≢◌, ℕ, zero, suc, ◌+◌, ◌-◌, ◌*◌, ◌^◌, ◌<◌, ◌≤◌, ◌%◌, max, Bool, true, false, ◌==◌, ◌&&◌, ◌||◌, nat_lt, refl, sym, ap, ◌∙◌, arith, bit_or, lit<, ◌⊎◌, inl, inr}
use Rattle.std.specs.Int.{bit_at}
use Rattle.std.proofs.lemmas.Bool.{cases_lt}
use Rattle.std.proofs.lemmas.Bool.Decides.{nat_tests}
use Rattle.std.proofs.lemmas.Nat.Bits.{bit_at_or, bit_at-pow_same, bit_at-pow_other, bit_at-lt, same_from_bits, bit_at_cat_low, bit_at_cat_high, bit_at_above}
use Rattle.std.proofs.lemmas.Nat.{one_shl}
use native.Mathlib.Nat.{pow-suc}
use Rattle.std.proofs.lemmas.Grind.{common_steps}
use Rattle.schedule_texts.specs.Numbers.{has, bit_of, bits_below, set_of}
use Rattle.schedule_texts.specs.declared.numbers.NumberSet.{NumberSet}
use Rattle.schedule_texts.specs.Parts.{part_has}
use Rattle.schedule_texts.specs.declared.part.Part.{Part}

-- ---- one more number

one_more : (a b : ℕ) → a < 2 → b < 2 → (max a b == 1) ≡ ((a == 1) || (b == 1))
one_more a b low_a low_b = grind (arith, nat_tests)

alone : (number n : ℕ) → (bit_at (2 ^ number) n == 1) ≡ (n == number)
alone number n = elim (n == number) as (λ b. (n == number) ≡ b → (bit_at (2 ^ number) n == 1) ≡ b) [
  | true ↦ λ e. let same : n ≡ number = grind (arith, nat_tests, e) in rw same (rw (bit_at-pow_same number) refl)
  | false ↦ λ e. let apart : n ≢ number = λ same. grind (arith, nat_tests, e, same) in rw (bit_at-pow_other number n apart) refl
] refl

pub has_one_more : (bits number n : ℕ) → number < 64
    → (bit_at (bit_or bits (1 * 2 ^ number % 2 ^ 64)) n == 1) ≡ ((bit_at bits n == 1) || (n == number))
has_one_more bits number n h =
    ap (λ m. bit_at (bit_or bits m) n == 1) (one_shl number 64 h)
    ∙ ap (λ b. b == 1) (bit_at_or bits (2 ^ number) n)
    ∙ one_more (bit_at bits n) (bit_at (2 ^ number) n) (bit_at-lt bits n) (bit_at-lt (2 ^ number) n)
    ∙ ap (λ b. (bit_at bits n == 1) || b) (alone number n)

-- ---- the numbers of a part

pub or_true : (a b : Bool) → b ≡ true → a || b ≡ true
or_true true b h = refl
or_true false b h = h

-- a number that is one of the part
pub taken : (part : Part) (number n : ℕ) (a : Bool) → part_has number part ≡ true → (a || (n == number)) ≡ (a || (n == number && part_has n part))
taken part number n a one = elim (n == number) as (λ b. (n == number) ≡ b → (a || b) ≡ (a || (b && part_has n part))) [
  | true ↦ λ e. let same : n ≡ number = grind (arith, nat_tests, e) in ap (λ b. a || b) (sym (ap (λ k. part_has k part) same ∙ one))
  | false ↦ λ e. refl
] refl

-- and one that is none of it
pub passed_by : (part : Part) (number n : ℕ) (a : Bool) → part_has number part ≡ false → a ≡ (a || (n == number && part_has n part))
passed_by part number n a none = elim (n == number) as (λ b. (n == number) ≡ b → a ≡ (a || (b && part_has n part))) [
  | true ↦ λ e. let same : n ≡ number = grind (arith, nat_tests, e) in sym (ap (λ b. a || b) (ap (λ k. part_has k part) same ∙ none) ∙ or_false a)
  | false ↦ λ e. sym (or_false a)
] refl
  where
    or_false : (b : Bool) → b || false ≡ b
    or_false true = refl
    or_false false = refl

below_next : (number n : ℕ) (p : Bool) → ((nat_lt n number && p) || (n == number && p)) ≡ (nat_lt n (number + 1) && p)
below_next number n true = grind (arith, nat_tests, common_steps)
below_next number n false = grind (arith, nat_tests, common_steps)

or_apart : (a b c : Bool) → (a || b) || c ≡ a || (b || c)
or_apart true b c = refl
or_apart false b c = refl

-- the numbers below the next one
pub one_on : (part : Part) (number n : ℕ) (a : Bool) (b : Bool) → b ≡ (a || (nat_lt n number && part_has n part))
    → (b || (n == number && part_has n part)) ≡ (a || (nat_lt n (number + 1) && part_has n part))
one_on part number n a b h =
    ap (λ x. x || (n == number && part_has n part)) h
    ∙ or_apart a (nat_lt n number && part_has n part) (n == number && part_has n part)
    ∙ ap (λ x. a || x) (below_next number n (part_has n part))

-- ---- a set by its test

bit_below : (b : Bool) (p n : ℕ) → n < p → bit_of b * p + n < p + p
bit_below true p n h = omega (arith, h)
bit_below false p n h = omega (arith, h)

below_bits : (test : ℕ → Bool) (m : ℕ) → bits_below m test < 2 ^ m
unfolding bits_below
below_bits test zero = lit< tt
below_bits test (suc m) = omega (arith, bit_below (test m) (2 ^ m) (bits_below m test) (below_bits test m), pow-suc 2 m)

bit_of_bit : (b : Bool) → bit_at (bit_of b) 0 ≡ bit_of b
bit_of_bit true = refl
bit_of_bit false = refl

-- the bit at a place: below the last, at it, and after it
place : (test : ℕ → Bool) (m n : ℕ) → (n < m → bit_at (bits_below m test) n ≡ bit_of (test n)) → (m ≤ n → bit_at (bits_below m test) n ≡ 0)
    → (n < suc m → bit_at (bits_below (suc m) test) n ≡ bit_of (test n)) × (suc m ≤ n → bit_at (bits_below (suc m) test) n ≡ 0)
unfolding bits_below
place test m n low high = (
  (λ l. below_or_at (cases_lt n m) l),
  λ l.
      let far : 1 ≤ n - m = omega (arith, l) in
      bit_at_cat_high (bit_of (test m)) m (bits_below m test) n (below_bits test m) (omega (arith, l))
      ∙ bit_at_above (bit_of (test m)) 1 (n - m) (one_bit (test m)) far,
)
  where
    one_bit : (b : Bool) → bit_of b < 2 ^ 1
    one_bit true = lit< tt
    one_bit false = lit< tt

    at_it : n ≡ m → bit_at (bit_of (test m) * 2 ^ m + bits_below m test) n ≡ bit_of (test n)
    at_it e =
        let none : n - m ≡ 0 = omega (arith, e) in
        bit_at_cat_high (bit_of (test m)) m (bits_below m test) n (below_bits test m) (omega (arith, e))
        ∙ ap (bit_at (bit_of (test m))) none ∙ bit_of_bit (test m) ∙ ap (λ k. bit_of (test k)) (sym e)

    below_or_at : (n < m) ⊎ (m ≤ n) → n < suc m → bit_at (bit_of (test m) * 2 ^ m + bits_below m test) n ≡ bit_of (test n)
    below_or_at (inl l) h = bit_at_cat_low (bit_of (test m)) m (bits_below m test) n l ∙ low l
    below_or_at (inr l) h = at_it (omega (arith, l, h))

bit_at-below : (test : ℕ → Bool) (m n : ℕ) → (n < m → bit_at (bits_below m test) n ≡ bit_of (test n)) × (m ≤ n → bit_at (bits_below m test) n ≡ 0)
bit_at-below test zero n = ((λ h. absurd (omega arith)), λ h. bit_at_above (bits_below zero test) zero n (below_bits test zero) h)
bit_at-below test (suc m) n = place test m n (bit_at-below test m n).0 (bit_at-below test m n).1

-- the set that has just the numbers below 60 that pass the test
pub set_is : (set : NumberSet) (test : ℕ → Bool) → ((n : ℕ) → has set n ≡ test n) → ((n : ℕ) → 60 ≤ n → has set n ≡ false) → set ≡ set_of test
set_is set test each few = ap (λ (b : ℕ). let made : NumberSet = record { bits = b } in made) (same_from_bits set.bits (bits_below 60 test) (λ i. same i (cases_lt i 60)))
  where
    bit_by : (x : ℕ) (b : Bool) → x < 2 → (x == 1) ≡ b → x ≡ bit_of b
    bit_by x true h e = grind (arith, nat_tests)
    bit_by x false h e = grind (arith, nat_tests)

    same : (i : ℕ) → (i < 60) ⊎ (60 ≤ i) → bit_at set.bits i ≡ bit_at (bits_below 60 test) i
    same i (inl l) = bit_by (bit_at set.bits i) (test i) (bit_at-lt set.bits i) (each i) ∙ sym ((bit_at-below test 60 i).0 l)
    same i (inr l) = bit_by (bit_at set.bits i) false (bit_at-lt set.bits i) (few i l) ∙ sym ((bit_at-below test 60 i).1 l)

-- no number from 64 on is in a set
pub none_above : (bits number : ℕ) → bits < 2 ^ 64 → 64 ≤ number → nat_lt number 64 ≡ (bit_at bits number == 1)
none_above bits number small h = rw (bit_at_above bits 64 number small h) (grind (arith, nat_tests))

-- and it has them
pub set_has : (test : ℕ → Bool) (n : ℕ) → n < 60 → has (set_of test) n ≡ test n
set_has test n h = ap (λ b. b == 1) ((bit_at-below test 60 n).0 h) ∙ bit_is (test n)
  where
    bit_is : (b : Bool) → (bit_of b == 1) ≡ b
    bit_is true = refl
    bit_is false = refl
