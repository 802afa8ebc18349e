-- Expiries, part by part.
use Rattle.std.proofs.Common.{◌≡◌, ℕ, zero, suc, ◌+◌, ◌-◌, ◌^◌, ◌<◌, ◌≤◌, min, Bool, true, false, cond, not, ◌&&◌, ◌||◌, List, [], ◌∷◌, ◌++◌, length, take, drop, get_or, Option, Some, None, Err, sym, refl, ap, ◌∙◌, subst, inl, inr, ◌⊎◌, arith, append_assoc, eqb}
use Rattle.std.proofs.lemmas.Bool.Decides.{nat_tests}
use Rattle.std.proofs.lemmas.Bool.{cases_lt}
use Rattle.std.proofs.lemmas.List.{take_all, take_more}
use Rattle.std.proofs.lemmas.List.Splits.{slice_split-cons_no}
use Rattle.std.proofs.lemmas.List.Folds.{list_any-append, find-append}
use Rattle.std.proofs.lemmas.List.Sums.{sum_by_push, sum_by-cons, take_while-cons}
use Rattle.std.specs.Prelude.{nat_lt, nat_le, find, count_by}
use Rattle.std.specs.Option.{option_map, option_and_then, option_or, unwrap_or, ok_or}
use Rattle.std.specs.Char.{is_ascii_digit}
use Rattle.std.specs.Str.Parse.{digits_value}
use Rattle.std.specs.List.{prefix_len, take_while, list_any, slice_split}
use Rattle.size_values.specs.Form.{StandsTo}
use Rattle.size_values.specs.Reading.{reading, fault_if, stray, last_byte, is_outside}
use Rattle.size_values.specs.Expiry.{is_unit, is_space, may_follow_in_expiry, is_whole_expiry, digits_of_part, has_letter, amount_of, amounts_in, repeats_unit, expiry_of}
use Rattle.size_values.specs.ExpiryParts.{letter_of, amount_in, with_amount, none_yet, with_part, IsPartAt, MissesPart, FollowsSpace, MissesSpace}
use Rattle.size_values.specs.declared.number.Number.{Number}
use Rattle.size_values.specs.declared.expiry.Expiry.{Expiry}
use Rattle.size_values.specs.declared.expiry.ExpiryFront.{ExpiryFront}
use Rattle.size_values.specs.declared.expiry.Part.{Part}
use Rattle.size_values.specs.declared.expiry.Unit.{Unit}
use Rattle.size_values.specs.declared.expiry.Unit.TheVariants.{Minutes, Hours, Days, Weeks, Months, Years}
use Rattle.size_values.specs.declared.fault.ValueFault.TheVariants.{Empty, BadByte, OutOfRange}
use Rattle.size_values.proofs.Forms.{reading-here, reading-past, reading-strays, reading-formed, stray-at, stray-none, leaves, whole-front, stands-start, stands-run, stands-more}
use Rattle.size_values.proofs.Fronts.{take-add, last_byte-take, last_byte-push, slice_split-snoc, slice_split-extend, passing-inside, run-unsplit, run-within, run-digit, run-end}

-- what parts say, if all of them are fit
abbrev pub unfit : List (List ℕ) → Bool
unfit parts = list_any (λ part. is_outside 1 9999 (digits_of_part part)) parts || repeats_unit parts

abbrev pub fit_expiry : List (List ℕ) → Option Expiry
fit_expiry parts = cond (unfit parts) None (Some (amounts_in parts))

-- the front of an expiry, as far as it has been read
pub record IsExpiryFront (text : List ℕ) (front : ExpiryFront) : Type 0 where
  pub stands : StandsTo may_follow_in_expiry text front.end
  pub whole : is_unit (last_byte (take front.end text)) ≡ true
  pub says : front.expiry ≡ fit_expiry (slice_split is_space (take front.end text))

-- one more part

option_or-none : {X : Type 0} (o : Option X) → option_or o None ≡ o
option_or-none None = refl
option_or-none (Some x) = refl

module _ (parts : List (List ℕ)) (p : List ℕ) where
  amount-other : (l : ℕ) → has_letter l p ≡ false → amount_of l (parts ++ p ∷ []) ≡ amount_of l parts
  amount-other l e =
      ap amount (find-append (has_letter l) parts (p ∷ []))
      ∙ ap (λ b. amount (option_or (find (has_letter l) parts) (cond b (Some p) None))) e
      ∙ ap amount (option_or-none (find (has_letter l) parts))
    where
      amount : Option (List ℕ) → ℕ
      amount o = unwrap_or (option_map (λ part. digits_value 10 (digits_of_part part)) o) 0

  amount-same : (l : ℕ) → has_letter l p ≡ true → find (has_letter l) parts ≡ None → amount_of l (parts ++ p ∷ []) ≡ digits_value 10 (digits_of_part p)
  amount-same l e none =
      ap amount (find-append (has_letter l) parts (p ∷ []))
      ∙ ap (λ b. amount (option_or (find (has_letter l) parts) (cond b (Some p) None))) e
      ∙ ap (λ o. amount (option_or o (Some p))) none
    where
      amount : Option (List ℕ) → ℕ
      amount o = unwrap_or (option_map (λ part. digits_value 10 (digits_of_part part)) o) 0

  count-push : (l : ℕ) (b : Bool) → has_letter l p ≡ b → count_by (has_letter l) (parts ++ p ∷ []) ≡ count_by (has_letter l) parts + cond b 1 0
  count-push l b e = sum_by_push (λ q. cond (has_letter l q) 1 0) parts p ∙ ap (λ d. count_by (has_letter l) parts + cond d 1 0) e

  -- with the part's number in place of 0
  amounts-push : (unit : Unit) → last_byte p ≡ letter_of unit → find (has_letter (letter_of unit)) parts ≡ None
      → amounts_in (parts ++ p ∷ []) ≡ with_amount unit (digits_value 10 (digits_of_part p)) (amounts_in parts)
  amounts-push Minutes last none = λ i. record {
    minutes = amount-same 77 (ap (λ c. eqb c 77) last) none i;
    hours = amount-other 72 (ap (λ c. eqb c 72) last) i;
    days = amount-other 100 (ap (λ c. eqb c 100) last) i;
    weeks = amount-other 119 (ap (λ c. eqb c 119) last) i;
    months = amount-other 109 (ap (λ c. eqb c 109) last) i;
    years = amount-other 121 (ap (λ c. eqb c 121) last) i;
  }
  amounts-push Hours last none = λ i. record {
    minutes = amount-other 77 (ap (λ c. eqb c 77) last) i;
    hours = amount-same 72 (ap (λ c. eqb c 72) last) none i;
    days = amount-other 100 (ap (λ c. eqb c 100) last) i;
    weeks = amount-other 119 (ap (λ c. eqb c 119) last) i;
    months = amount-other 109 (ap (λ c. eqb c 109) last) i;
    years = amount-other 121 (ap (λ c. eqb c 121) last) i;
  }
  amounts-push Days last none = λ i. record {
    minutes = amount-other 77 (ap (λ c. eqb c 77) last) i;
    hours = amount-other 72 (ap (λ c. eqb c 72) last) i;
    days = amount-same 100 (ap (λ c. eqb c 100) last) none i;
    weeks = amount-other 119 (ap (λ c. eqb c 119) last) i;
    months = amount-other 109 (ap (λ c. eqb c 109) last) i;
    years = amount-other 121 (ap (λ c. eqb c 121) last) i;
  }
  amounts-push Weeks last none = λ i. record {
    minutes = amount-other 77 (ap (λ c. eqb c 77) last) i;
    hours = amount-other 72 (ap (λ c. eqb c 72) last) i;
    days = amount-other 100 (ap (λ c. eqb c 100) last) i;
    weeks = amount-same 119 (ap (λ c. eqb c 119) last) none i;
    months = amount-other 109 (ap (λ c. eqb c 109) last) i;
    years = amount-other 121 (ap (λ c. eqb c 121) last) i;
  }
  amounts-push Months last none = λ i. record {
    minutes = amount-other 77 (ap (λ c. eqb c 77) last) i;
    hours = amount-other 72 (ap (λ c. eqb c 72) last) i;
    days = amount-other 100 (ap (λ c. eqb c 100) last) i;
    weeks = amount-other 119 (ap (λ c. eqb c 119) last) i;
    months = amount-same 109 (ap (λ c. eqb c 109) last) none i;
    years = amount-other 121 (ap (λ c. eqb c 121) last) i;
  }
  amounts-push Years last none = λ i. record {
    minutes = amount-other 77 (ap (λ c. eqb c 77) last) i;
    hours = amount-other 72 (ap (λ c. eqb c 72) last) i;
    days = amount-other 100 (ap (λ c. eqb c 100) last) i;
    weeks = amount-other 119 (ap (λ c. eqb c 119) last) i;
    months = amount-other 109 (ap (λ c. eqb c 109) last) i;
    years = amount-same 121 (ap (λ c. eqb c 121) last) none i;
  }

  one-more : (a : ℕ) → nat_lt 1 (a + 1) ≡ (nat_lt 1 a || nat_lt 0 a)
  one-more a = grind (arith, nat_tests)

  none-more : (a : ℕ) → nat_lt 1 (a + 0) ≡ nat_lt 1 a
  none-more a = let e : a + 0 ≡ a = omega arith in ap (nat_lt 1) e

  -- the letter comes twice now, or some letter did before
  repeats-push : (unit : Unit) → last_byte p ≡ letter_of unit
      → repeats_unit (parts ++ p ∷ []) ≡ (repeats_unit parts || nat_lt 0 (count_by (has_letter (letter_of unit)) parts))
  repeats-push Minutes last =
      (λ i. (ap (nat_lt 1) (count-push 77 true (ap (λ c. eqb c 77) last)) ∙ one-more (count_by (has_letter 77) parts)) i
      || ((ap (nat_lt 1) (count-push 72 false (ap (λ c. eqb c 72) last)) ∙ none-more (count_by (has_letter 72) parts)) i
      || ((ap (nat_lt 1) (count-push 100 false (ap (λ c. eqb c 100) last)) ∙ none-more (count_by (has_letter 100) parts)) i
      || ((ap (nat_lt 1) (count-push 119 false (ap (λ c. eqb c 119) last)) ∙ none-more (count_by (has_letter 119) parts)) i
      || ((ap (nat_lt 1) (count-push 109 false (ap (λ c. eqb c 109) last)) ∙ none-more (count_by (has_letter 109) parts)) i
      || ((ap (nat_lt 1) (count-push 121 false (ap (λ c. eqb c 121) last)) ∙ none-more (count_by (has_letter 121) parts)) i || false))))))
      ∙ by (nat_lt 1 (count_by (has_letter 77) parts)) (nat_lt 1 (count_by (has_letter 72) parts)) (nat_lt 1 (count_by (has_letter 100) parts)) (nat_lt 1 (count_by (has_letter 119) parts)) (nat_lt 1 (count_by (has_letter 109) parts)) (nat_lt 1 (count_by (has_letter 121) parts)) (nat_lt 0 (count_by (has_letter 77) parts))
    where
      by : (a b c d e f y : Bool) → ((a || y) || (b || (c || (d || (e || (f || false)))))) ≡ ((a || (b || (c || (d || (e || (f || false)))))) || y)
      by a b c d e f y = grind arith
  repeats-push Hours last =
      (λ i. (ap (nat_lt 1) (count-push 77 false (ap (λ c. eqb c 77) last)) ∙ none-more (count_by (has_letter 77) parts)) i
      || ((ap (nat_lt 1) (count-push 72 true (ap (λ c. eqb c 72) last)) ∙ one-more (count_by (has_letter 72) parts)) i
      || ((ap (nat_lt 1) (count-push 100 false (ap (λ c. eqb c 100) last)) ∙ none-more (count_by (has_letter 100) parts)) i
      || ((ap (nat_lt 1) (count-push 119 false (ap (λ c. eqb c 119) last)) ∙ none-more (count_by (has_letter 119) parts)) i
      || ((ap (nat_lt 1) (count-push 109 false (ap (λ c. eqb c 109) last)) ∙ none-more (count_by (has_letter 109) parts)) i
      || ((ap (nat_lt 1) (count-push 121 false (ap (λ c. eqb c 121) last)) ∙ none-more (count_by (has_letter 121) parts)) i || false))))))
      ∙ by (nat_lt 1 (count_by (has_letter 77) parts)) (nat_lt 1 (count_by (has_letter 72) parts)) (nat_lt 1 (count_by (has_letter 100) parts)) (nat_lt 1 (count_by (has_letter 119) parts)) (nat_lt 1 (count_by (has_letter 109) parts)) (nat_lt 1 (count_by (has_letter 121) parts)) (nat_lt 0 (count_by (has_letter 72) parts))
    where
      by : (a b c d e f y : Bool) → (a || ((b || y) || (c || (d || (e || (f || false)))))) ≡ ((a || (b || (c || (d || (e || (f || false)))))) || y)
      by a b c d e f y = grind arith
  repeats-push Days last =
      (λ i. (ap (nat_lt 1) (count-push 77 false (ap (λ c. eqb c 77) last)) ∙ none-more (count_by (has_letter 77) parts)) i
      || ((ap (nat_lt 1) (count-push 72 false (ap (λ c. eqb c 72) last)) ∙ none-more (count_by (has_letter 72) parts)) i
      || ((ap (nat_lt 1) (count-push 100 true (ap (λ c. eqb c 100) last)) ∙ one-more (count_by (has_letter 100) parts)) i
      || ((ap (nat_lt 1) (count-push 119 false (ap (λ c. eqb c 119) last)) ∙ none-more (count_by (has_letter 119) parts)) i
      || ((ap (nat_lt 1) (count-push 109 false (ap (λ c. eqb c 109) last)) ∙ none-more (count_by (has_letter 109) parts)) i
      || ((ap (nat_lt 1) (count-push 121 false (ap (λ c. eqb c 121) last)) ∙ none-more (count_by (has_letter 121) parts)) i || false))))))
      ∙ by (nat_lt 1 (count_by (has_letter 77) parts)) (nat_lt 1 (count_by (has_letter 72) parts)) (nat_lt 1 (count_by (has_letter 100) parts)) (nat_lt 1 (count_by (has_letter 119) parts)) (nat_lt 1 (count_by (has_letter 109) parts)) (nat_lt 1 (count_by (has_letter 121) parts)) (nat_lt 0 (count_by (has_letter 100) parts))
    where
      by : (a b c d e f y : Bool) → (a || (b || ((c || y) || (d || (e || (f || false)))))) ≡ ((a || (b || (c || (d || (e || (f || false)))))) || y)
      by a b c d e f y = grind arith
  repeats-push Weeks last =
      (λ i. (ap (nat_lt 1) (count-push 77 false (ap (λ c. eqb c 77) last)) ∙ none-more (count_by (has_letter 77) parts)) i
      || ((ap (nat_lt 1) (count-push 72 false (ap (λ c. eqb c 72) last)) ∙ none-more (count_by (has_letter 72) parts)) i
      || ((ap (nat_lt 1) (count-push 100 false (ap (λ c. eqb c 100) last)) ∙ none-more (count_by (has_letter 100) parts)) i
      || ((ap (nat_lt 1) (count-push 119 true (ap (λ c. eqb c 119) last)) ∙ one-more (count_by (has_letter 119) parts)) i
      || ((ap (nat_lt 1) (count-push 109 false (ap (λ c. eqb c 109) last)) ∙ none-more (count_by (has_letter 109) parts)) i
      || ((ap (nat_lt 1) (count-push 121 false (ap (λ c. eqb c 121) last)) ∙ none-more (count_by (has_letter 121) parts)) i || false))))))
      ∙ by (nat_lt 1 (count_by (has_letter 77) parts)) (nat_lt 1 (count_by (has_letter 72) parts)) (nat_lt 1 (count_by (has_letter 100) parts)) (nat_lt 1 (count_by (has_letter 119) parts)) (nat_lt 1 (count_by (has_letter 109) parts)) (nat_lt 1 (count_by (has_letter 121) parts)) (nat_lt 0 (count_by (has_letter 119) parts))
    where
      by : (a b c d e f y : Bool) → (a || (b || (c || ((d || y) || (e || (f || false)))))) ≡ ((a || (b || (c || (d || (e || (f || false)))))) || y)
      by a b c d e f y = grind arith
  repeats-push Months last =
      (λ i. (ap (nat_lt 1) (count-push 77 false (ap (λ c. eqb c 77) last)) ∙ none-more (count_by (has_letter 77) parts)) i
      || ((ap (nat_lt 1) (count-push 72 false (ap (λ c. eqb c 72) last)) ∙ none-more (count_by (has_letter 72) parts)) i
      || ((ap (nat_lt 1) (count-push 100 false (ap (λ c. eqb c 100) last)) ∙ none-more (count_by (has_letter 100) parts)) i
      || ((ap (nat_lt 1) (count-push 119 false (ap (λ c. eqb c 119) last)) ∙ none-more (count_by (has_letter 119) parts)) i
      || ((ap (nat_lt 1) (count-push 109 true (ap (λ c. eqb c 109) last)) ∙ one-more (count_by (has_letter 109) parts)) i
      || ((ap (nat_lt 1) (count-push 121 false (ap (λ c. eqb c 121) last)) ∙ none-more (count_by (has_letter 121) parts)) i || false))))))
      ∙ by (nat_lt 1 (count_by (has_letter 77) parts)) (nat_lt 1 (count_by (has_letter 72) parts)) (nat_lt 1 (count_by (has_letter 100) parts)) (nat_lt 1 (count_by (has_letter 119) parts)) (nat_lt 1 (count_by (has_letter 109) parts)) (nat_lt 1 (count_by (has_letter 121) parts)) (nat_lt 0 (count_by (has_letter 109) parts))
    where
      by : (a b c d e f y : Bool) → (a || (b || (c || (d || ((e || y) || (f || false)))))) ≡ ((a || (b || (c || (d || (e || (f || false)))))) || y)
      by a b c d e f y = grind arith
  repeats-push Years last =
      (λ i. (ap (nat_lt 1) (count-push 77 false (ap (λ c. eqb c 77) last)) ∙ none-more (count_by (has_letter 77) parts)) i
      || ((ap (nat_lt 1) (count-push 72 false (ap (λ c. eqb c 72) last)) ∙ none-more (count_by (has_letter 72) parts)) i
      || ((ap (nat_lt 1) (count-push 100 false (ap (λ c. eqb c 100) last)) ∙ none-more (count_by (has_letter 100) parts)) i
      || ((ap (nat_lt 1) (count-push 119 false (ap (λ c. eqb c 119) last)) ∙ none-more (count_by (has_letter 119) parts)) i
      || ((ap (nat_lt 1) (count-push 109 false (ap (λ c. eqb c 109) last)) ∙ none-more (count_by (has_letter 109) parts)) i
      || ((ap (nat_lt 1) (count-push 121 true (ap (λ c. eqb c 121) last)) ∙ one-more (count_by (has_letter 121) parts)) i || false))))))
      ∙ by (nat_lt 1 (count_by (has_letter 77) parts)) (nat_lt 1 (count_by (has_letter 72) parts)) (nat_lt 1 (count_by (has_letter 100) parts)) (nat_lt 1 (count_by (has_letter 119) parts)) (nat_lt 1 (count_by (has_letter 109) parts)) (nat_lt 1 (count_by (has_letter 121) parts)) (nat_lt 0 (count_by (has_letter 121) parts))
    where
      by : (a b c d e f y : Bool) → (a || (b || (c || (d || (e || ((f || y) || false)))))) ≡ ((a || (b || (c || (d || (e || (f || false)))))) || y)
      by a b c d e f y = grind arith

amount-is : (unit : Unit) (parts : List (List ℕ)) → amount_in unit (amounts_in parts) ≡ amount_of (letter_of unit) parts
amount-is Minutes parts = refl
amount-is Hours parts = refl
amount-is Days parts = refl
amount-is Weeks parts = refl
amount-is Months parts = refl
amount-is Years parts = refl

-- where no part has the letter, none is found
none-found : (q : List ℕ → Bool) (parts : List (List ℕ)) → count_by q parts ≡ 0 → find q parts ≡ None
none-found q [] h = refl
none-found q (p ∷ parts) h = at (q p) refl (none-found q parts)
  where
    at : (b : Bool) → q p ≡ b → (count_by q parts ≡ 0 → find q parts ≡ None) → cond (q p) (Some p) (find q parts) ≡ None
    at true e rest = absurd (omega (arith, h, sum_by-cons (λ r. cond (q r) 1 0) p parts, ap {B = ℕ} (λ b. cond b 1 0) e))
    at false e rest = ap (λ b. cond b (Some p) (find q parts)) e
        ∙ rest (omega (arith, h, sum_by-cons (λ r. cond (q r) 1 0) p parts))

-- a fit part that is found has a number of 1 at least
found-positive : (q : List ℕ → Bool) (parts : List (List ℕ)) → list_any (λ part. is_outside 1 9999 (digits_of_part part)) parts ≡ false → 0 < count_by q parts
    → 1 ≤ unwrap_or (option_map (λ part. digits_value 10 (digits_of_part part)) (find q parts)) 0
found-positive q [] fit some = absurd (omega arith)
found-positive q (p ∷ parts) fit some = at (q p) refl (found-positive q parts (others (is_outside 1 9999 (digits_of_part p)) _ fit))
  where
    amount : Option (List ℕ) → ℕ
    amount o = unwrap_or (option_map (λ part. digits_value 10 (digits_of_part part)) o) 0

    others : (a b : Bool) → (a || b) ≡ false → b ≡ false
    others a b e = grind arith

    first : (a b : Bool) → (a || b) ≡ false → a ≡ false
    first a b e = grind arith

    within : is_outside 1 9999 (digits_of_part p) ≡ false → 1 ≤ digits_value 10 (digits_of_part p)
    within e = by (digits_value 10 (digits_of_part p)) e
      where
        by : (n : ℕ) → (nat_lt n 1 || nat_lt 9999 n) ≡ false → 1 ≤ n
        by n h = grind (arith, nat_tests)

    at : (b : Bool) → q p ≡ b → (0 < count_by q parts → 1 ≤ amount (find q parts)) → 1 ≤ amount (cond (q p) (Some p) (find q parts))
    at true e rest = subst (λ (b : Bool). 1 ≤ amount (cond b (Some p) (find q parts))) (sym e) (within (first (is_outside 1 9999 (digits_of_part p)) _ fit))
    at false e rest = subst (λ (b : Bool). 1 ≤ amount (cond b (Some p) (find q parts))) (sym e)
        (rest (omega (arith, some, sum_by-cons (λ r. cond (q r) 1 0) p parts, ap {B = ℕ} (λ b. cond b 1 0) e)))

-- A part is taken in where it is fit and its letter is new.
module _ (parts : List (List ℕ)) (p : List ℕ) (part : Part) (last : last_byte p ≡ letter_of part.unit)
    (value : part.number.value ≡ min (digits_value 10 (digits_of_part p)) (2 ^ 64 - 1)) where
  outside : not (nat_le 1 part.number.value && nat_le part.number.value 9999) ≡ is_outside 1 9999 (digits_of_part p)
  outside = by (digits_value 10 (digits_of_part p)) value
    where
      by : (n : ℕ) → part.number.value ≡ min n (2 ^ 64 - 1) → not (nat_le 1 part.number.value && nat_le part.number.value 9999) ≡ (nat_lt n 1 || nat_lt 9999 n)
      by n e = grind (arith, nat_tests)

  named : list_any (λ q. is_outside 1 9999 (digits_of_part q)) parts ≡ false
      → not (eqb (amount_in part.unit (amounts_in parts)) 0) ≡ nat_lt 0 (count_by (has_letter (letter_of part.unit)) parts)
  named fit = by (count_by (has_letter (letter_of part.unit)) parts) (amount_in part.unit (amounts_in parts))
      (λ none. amount-is part.unit parts ∙ ap (λ o. unwrap_or (option_map (λ q. digits_value 10 (digits_of_part q)) o) 0) (none-found (has_letter (letter_of part.unit)) parts none))
      (λ some. subst (λ (n : ℕ). 1 ≤ n) (sym (amount-is part.unit parts)) (found-positive (has_letter (letter_of part.unit)) parts fit some))
    where
      by : (n a : ℕ) → (n ≡ 0 → a ≡ 0) → (0 < n → 1 ≤ a) → not (eqb a 0) ≡ nat_lt 0 n
      by zero a none some = grind (arith, nat_tests)
      by (suc n) a none some = let e : 1 ≤ a = some (omega arith) in grind (arith, nat_tests)

  exact : is_outside 1 9999 (digits_of_part p) ≡ false → part.number.value ≡ digits_value 10 (digits_of_part p)
  exact fit = by (digits_value 10 (digits_of_part p)) value fit
    where
      by : (n : ℕ) → part.number.value ≡ min n (2 ^ 64 - 1) → (nat_lt n 1 || nat_lt 9999 n) ≡ false → part.number.value ≡ n
      by n e h = grind (arith, nat_tests)

  taken : (b : Bool) → nat_lt 0 (count_by (has_letter (letter_of part.unit)) parts) ≡ b → b ≡ false → is_outside 1 9999 (digits_of_part p) ≡ false
      → amounts_in (parts ++ p ∷ []) ≡ with_amount part.unit part.number.value (amounts_in parts)
  taken b e new fit =
      amounts-push parts p part.unit last (none-found (has_letter (letter_of part.unit)) parts (zero-from (count_by (has_letter (letter_of part.unit)) parts) (e ∙ new)))
      ∙ ap (λ n. with_amount part.unit n (amounts_in parts)) (sym (exact fit))
    where
      zero-from : (n : ℕ) → nat_lt 0 n ≡ false → n ≡ 0
      zero-from n h = grind (arith, nat_tests)

  unfit-push : unfit (parts ++ p ∷ []) ≡ ((list_any (λ q. is_outside 1 9999 (digits_of_part q)) parts || (is_outside 1 9999 (digits_of_part p) || false))
      || (repeats_unit parts || nat_lt 0 (count_by (has_letter (letter_of part.unit)) parts)))
  unfit-push = λ i. list_any-append (λ q. is_outside 1 9999 (digits_of_part q)) parts (p ∷ []) i || repeats-push parts p part.unit last i

  -- what taking it in gives after fit parts
  with_part-is : list_any (λ q. is_outside 1 9999 (digits_of_part q)) parts ≡ false → (o y : Bool) → is_outside 1 9999 (digits_of_part p) ≡ o
      → nat_lt 0 (count_by (has_letter (letter_of part.unit)) parts) ≡ y
      → with_part part (amounts_in parts) ≡ cond (o || y) None (Some (with_amount part.unit part.number.value (amounts_in parts)))
  with_part-is fit o y eo ey = λ i. cond ((outside ∙ eo) i || (named fit ∙ ey) i) None (Some (with_amount part.unit part.number.value (amounts_in parts)))

  fit-before : list_any (λ q. is_outside 1 9999 (digits_of_part q)) parts ≡ false → repeats_unit parts ≡ false
      → with_part part (amounts_in parts) ≡ option_and_then (with_part part) (fit_expiry parts)
  fit-before eu er = λ i. option_and_then (with_part part) (cond (sym eu i || sym er i) None (Some (amounts_in parts)))

  pub fit-push : fit_expiry (parts ++ p ∷ []) ≡ option_and_then (with_part part) (fit_expiry parts)
  fit-push =
      ap (λ b. cond b None (Some (amounts_in (parts ++ p ∷ [])))) unfit-push
      ∙ at (list_any (λ q. is_outside 1 9999 (digits_of_part q)) parts) (repeats_unit parts) (is_outside 1 9999 (digits_of_part p))
      (nat_lt 0 (count_by (has_letter (letter_of part.unit)) parts)) refl refl refl refl
    where
      -- the parts before are unfit, or this one is, or all are fit
      at : (u r o y : Bool) → list_any (λ q. is_outside 1 9999 (digits_of_part q)) parts ≡ u → repeats_unit parts ≡ r → is_outside 1 9999 (digits_of_part p) ≡ o
          → nat_lt 0 (count_by (has_letter (letter_of part.unit)) parts) ≡ y
          → cond ((u || (o || false)) || (r || y)) None (Some (amounts_in (parts ++ p ∷ []))) ≡ option_and_then (with_part part) (fit_expiry parts)
      at true r o y eu er eo ey = ap (λ b. option_and_then (with_part part) (cond (b || repeats_unit parts) None (Some (amounts_in parts)))) (sym eu)
      at false true true y eu er eo ey = λ i. option_and_then (with_part part) (cond (sym eu i || sym er i) None (Some (amounts_in parts)))
      at false true false y eu er eo ey = λ i. option_and_then (with_part part) (cond (sym eu i || sym er i) None (Some (amounts_in parts)))
      at false false true y eu er eo ey = sym (with_part-is eu true y eo ey) ∙ fit-before eu er
      at false false false true eu er eo ey = sym (with_part-is eu false true eo ey) ∙ fit-before eu er
      at false false false false eu er eo ey = ap (λ e. Some e) (taken false ey refl eo) ∙ sym (with_part-is eu false false eo ey) ∙ fit-before eu er

-- the bytes of a part

digit-no_unit : (c : ℕ) → is_ascii_digit c ≡ true → is_unit c ≡ false
digit-no_unit c h = grind (arith, nat_tests)

unit-no_digit : (c : ℕ) → is_unit c ≡ true → is_ascii_digit c ≡ false
unit-no_digit c h = grind (arith, nat_tests)

digit-no_space : (c : ℕ) → is_ascii_digit c ≡ true → is_space c ≡ false
digit-no_space c h = grind (arith, nat_tests)

space-no_digit : (c : ℕ) → is_space c ≡ true → is_ascii_digit c ≡ false
space-no_digit c h = grind (arith, nat_tests)

space-no_unit : (c : ℕ) → is_space c ≡ true → is_unit c ≡ false
space-no_unit c h = grind (arith, nat_tests)

unit-letter : (unit : Unit) → is_unit (letter_of unit) ≡ true
unit-letter Minutes = refl
unit-letter Hours = refl
unit-letter Days = refl
unit-letter Weeks = refl
unit-letter Months = refl
unit-letter Years = refl

letter-no_space : (unit : Unit) → is_space (letter_of unit) ≡ false
letter-no_space Minutes = refl
letter-no_space Hours = refl
letter-no_space Days = refl
letter-no_space Weeks = refl
letter-no_space Months = refl
letter-no_space Years = refl

-- the digits of a part
part-digits : (xs : List ℕ) (c : ℕ) → is_ascii_digit c ≡ false → digits_of_part (take_while is_ascii_digit xs ++ c ∷ []) ≡ take_while is_ascii_digit xs
part-digits [] c no_digit = take_while-cons is_ascii_digit c [] ∙ ap (λ b. cond b (c ∷ []) []) no_digit
part-digits (x ∷ xs) c no_digit = at (is_ascii_digit x) refl (part-digits xs c no_digit)
  where
    front : (b : Bool) → is_ascii_digit x ≡ b → take_while is_ascii_digit (x ∷ xs) ≡ cond b (x ∷ take_while is_ascii_digit xs) []
    front b e = take_while-cons is_ascii_digit x xs ∙ ap (λ d. cond d (x ∷ take_while is_ascii_digit xs) []) e

    at : (b : Bool) → is_ascii_digit x ≡ b → digits_of_part (take_while is_ascii_digit xs ++ c ∷ []) ≡ take_while is_ascii_digit xs
        → digits_of_part (take_while is_ascii_digit (x ∷ xs) ++ c ∷ []) ≡ take_while is_ascii_digit (x ∷ xs)
    at true e rest =
        ap (λ (ds : List ℕ). digits_of_part (ds ++ c ∷ [])) (front true e)
        ∙ take_while-cons is_ascii_digit x (take_while is_ascii_digit xs ++ c ∷ [])
        ∙ ap (λ b. cond b (x ∷ take_while is_ascii_digit (take_while is_ascii_digit xs ++ c ∷ [])) []) e
        ∙ ap (λ (ds : List ℕ). x ∷ ds) rest ∙ sym (front true e)
    at false e rest =
        ap (λ (ds : List ℕ). digits_of_part (ds ++ c ∷ [])) (front false e)
        ∙ take_while-cons is_ascii_digit c [] ∙ ap (λ b. cond b (c ∷ []) []) no_digit ∙ sym (front false e)

-- a part that stands at a place where one may begin
module _ (text : List ℕ) (at : ℕ) (stands : StandsTo may_follow_in_expiry text at) (fresh : is_unit (last_byte (take at text)) ≡ false) where
  digit-follows : (front : List ℕ) (c : ℕ) → is_ascii_digit c ≡ true → is_unit (last_byte front) ≡ false → may_follow_in_expiry front c ≡ true
  digit-follows front c d u = by (is_ascii_digit c) (is_unit (last_byte front)) (is_unit c && is_ascii_digit (last_byte front)) (is_space c && is_unit (last_byte front)) d u
    where
      by : (a b e f : Bool) → a ≡ true → b ≡ false → ((a && not b) || e || f) ≡ true
      by a b e f h k = grind arith

  last-digit : (k : ℕ) → at < k → k ≤ at + prefix_len is_ascii_digit (drop at text) → is_ascii_digit (last_byte (take k text)) ≡ true
  last-digit k low high =
      ap is_ascii_digit (last_byte-take text k (omega arith) (omega (arith, run-within text at stands.within)))
      ∙ run-digit text at stands.within (k - 1) (omega arith) (omega arith)

  digits-stand : StandsTo may_follow_in_expiry text (at + prefix_len is_ascii_digit (drop at text))
  digits-stand =
      stands-run may_follow_in_expiry text at (prefix_len is_ascii_digit (drop at text)) stands (run-within text at stands.within)
      (λ k low high. digit-follows (take k text) (get_or text k 0) (run-digit text at stands.within k low high) (not-unit k low high (cases_lt at k)))
    where
      not-unit : (k : ℕ) → at ≤ k → k < at + prefix_len is_ascii_digit (drop at text) → (at < k) ⊎ (k ≤ at) → is_unit (last_byte (take k text)) ≡ false
      not-unit k low high (inl more) = digit-no_unit (last_byte (take k text)) (last-digit k more (omega arith))
      not-unit k low high (inr here) = let e : at ≡ k = omega arith in subst (λ (n : ℕ). is_unit (last_byte (take n text)) ≡ false) e fresh

  module _ (part : Part) (h : IsPartAt text at part) where
    len : part.number.len ≡ prefix_len is_ascii_digit (drop at text)
    len = ap (λ (n : Number). n.len) h.number

    letter : get_or text (at + prefix_len is_ascii_digit (drop at text)) 0 ≡ letter_of part.unit
    letter = ap (λ n. get_or text (at + n) 0) (sym len) ∙ sym h.letter

    inside : at + prefix_len is_ascii_digit (drop at text) < length text
    inside = passing-inside is_unit refl text (at + prefix_len is_ascii_digit (drop at text)) (ap is_unit letter ∙ unit-letter part.unit)

    end : part.end ≡ at + prefix_len is_ascii_digit (drop at text) + 1
    end = omega (arith, h.end, len)

    abbrev P : List ℕ
    P = take_while is_ascii_digit (drop at text) ++ letter_of part.unit ∷ []

    letter-follows : (front : List ℕ) (c : ℕ) → is_ascii_digit (last_byte front) ≡ true → is_unit c ≡ true → may_follow_in_expiry front c ≡ true
    letter-follows front c last u = by (is_ascii_digit c && not (is_unit (last_byte front))) (is_unit c) (is_ascii_digit (last_byte front)) (is_space c && is_unit (last_byte front)) u last
      where
        by : (a b d e : Bool) → b ≡ true → d ≡ true → (a || (b && d) || e) ≡ true
        by a b d e h k = grind arith

    part-stands : StandsTo may_follow_in_expiry text part.end
    part-stands = subst (λ (n : ℕ). StandsTo may_follow_in_expiry text n) (sym end)
        (stands-more may_follow_in_expiry text (at + prefix_len is_ascii_digit (drop at text)) digits-stand inside
        (letter-follows (take (at + prefix_len is_ascii_digit (drop at text)) text) (get_or text (at + prefix_len is_ascii_digit (drop at text)) 0)
        (last-digit (at + prefix_len is_ascii_digit (drop at text)) (omega (arith, h.some, len)) (omega arith)) (ap is_unit letter ∙ unit-letter part.unit)))

    pub part-bytes : take part.end text ≡ take at text ++ P
    part-bytes =
        ap (λ n. take n text) end ∙ take_more text (at + prefix_len is_ascii_digit (drop at text)) 0 inside
        ∙ (λ i. take-add at (prefix_len is_ascii_digit (drop at text)) text i ++ letter i ∷ [])
        ∙ append_assoc (take at text) (take_while is_ascii_digit (drop at text)) (letter_of part.unit ∷ [])

    part-last : is_unit (last_byte (take part.end text)) ≡ true
    part-last =
        ap (λ (t : List ℕ). is_unit (last_byte t)) (ap (λ n. take n text) end ∙ take_more text (at + prefix_len is_ascii_digit (drop at text)) 0 inside)
        ∙ ap is_unit (last_byte-push (take (at + prefix_len is_ascii_digit (drop at text)) text) (get_or text (at + prefix_len is_ascii_digit (drop at text)) 0) ∙ letter)
        ∙ unit-letter part.unit

    part-unsplit : slice_split is_space P ≡ P ∷ []
    part-unsplit =
        slice_split-extend is_space (take_while is_ascii_digit (drop at text)) (letter_of part.unit ∷ []) [] (take_while is_ascii_digit (drop at text))
        (slice_split-cons_no is_space (letter_of part.unit) [] (letter-no_space part.unit)) (run-unsplit is_space digit-no_space (drop at text))

    part-letter : last_byte P ≡ letter_of part.unit
    part-letter = last_byte-push (take_while is_ascii_digit (drop at text)) (letter_of part.unit)

    part-value : part.number.value ≡ min (digits_value 10 (digits_of_part P)) (2 ^ 64 - 1)
    part-value =
        ap (λ (n : Number). n.value) h.number
        ∙ ap (λ (ds : List ℕ). min (digits_value 10 ds) (2 ^ 64 - 1)) (sym (part-digits (drop at text) (letter_of part.unit) (unit-no_digit (letter_of part.unit) (unit-letter part.unit))))

    -- what the parts say with this one
    takes-in : (parts : List (List ℕ)) → fit_expiry (parts ++ P ∷ []) ≡ option_and_then (with_part part) (fit_expiry parts)
    takes-in parts = fit-push parts P part part-letter part-value

  -- Where no part stands, the form is left.
  module _ (digitless : is_ascii_digit (last_byte (take at text)) ≡ false) where
    neither-follows : (front : List ℕ) (c : ℕ) → is_ascii_digit c ≡ false → (is_unit c ≡ false) ⊎ (is_ascii_digit (last_byte front) ≡ false) → is_unit (last_byte front) ≡ false
        → may_follow_in_expiry front c ≡ false
    neither-follows front c d u last = by (is_ascii_digit c) (is_unit (last_byte front)) (is_unit c) (is_ascii_digit (last_byte front)) (is_space c) d last u
      where
        by : (a b e f g : Bool) → a ≡ false → b ≡ false → (e ≡ false) ⊎ (f ≡ false) → ((a && not b) || (e && f) || (g && b)) ≡ false
        by a b e f g h k (inl j) = grind arith
        by a b e f g h k (inr j) = grind arith

    pub part-leaves : (place : ℕ) → MissesPart text at place → stray may_follow_in_expiry is_whole_expiry text ≡ Some place
    part-leaves place (inl none) =
        leaves may_follow_in_expiry is_whole_expiry text at stands
        (λ less. neither-follows (take at text) (get_or text at 0) ends (inr digitless) fresh) (λ e. whole-front is_whole_expiry text at false (omega arith) fresh)
        ∙ ap (λ n. Some n) (sym none.0)
      where
        ends : is_ascii_digit (get_or text at 0) ≡ false
        ends = let same : at + prefix_len is_ascii_digit (drop at text) ≡ at = omega (arith, none.1) in
            subst (λ (k : ℕ). is_ascii_digit (get_or text k 0) ≡ false) same (run-end text at stands.within)
    part-leaves place (inr following) =
        leaves may_follow_in_expiry is_whole_expiry text (at + prefix_len is_ascii_digit (drop at text)) digits-stand
        (λ less. neither-follows (take (at + prefix_len is_ascii_digit (drop at text)) text) (get_or text (at + prefix_len is_ascii_digit (drop at text)) 0)
        (run-end text at stands.within) (inl following.2) no_unit)
        (λ e. whole-front is_whole_expiry text (at + prefix_len is_ascii_digit (drop at text)) false (omega arith) no_unit)
        ∙ ap (λ n. Some n) (sym following.0)
      where
        no_unit : is_unit (last_byte (take (at + prefix_len is_ascii_digit (drop at text)) text)) ≡ false
        no_unit = digit-no_unit (last_byte (take (at + prefix_len is_ascii_digit (drop at text)) text))
            (last-digit (at + prefix_len is_ascii_digit (drop at text)) (omega (arith, following.1)) (omega arith))

pub first-front : (text : List ℕ) (part : Part) (expiry : Option Expiry) → IsPartAt text 0 part → expiry ≡ with_part part none_yet
    → IsExpiryFront text (record { end = part.end; expiry = expiry })
first-front text part expiry h e = record {
  stands = part-stands text 0 (stands-start may_follow_in_expiry text) refl part h;
  whole = part-last text 0 (stands-start may_follow_in_expiry text) refl part h;
  says = e ∙ sym (ap fit_expiry (ap (slice_split is_space) (part-bytes text 0 (stands-start may_follow_in_expiry text) refl part h)
      ∙ part-unsplit text 0 (stands-start may_follow_in_expiry text) refl part h) ∙ takes-in text 0 (stands-start may_follow_in_expiry text) refl part h []);
}

-- after a front
module _ (text : List ℕ) (front : ExpiryFront) (h : IsExpiryFront text front) where
  module _ (space : is_space (get_or text front.end 0) ≡ true) where
    inside-space : front.end < length text
    inside-space = passing-inside is_space refl text front.end space

    space-stands : StandsTo may_follow_in_expiry text (front.end + 1)
    space-stands = stands-more may_follow_in_expiry text front.end h.stands inside-space
        (by (is_ascii_digit (get_or text front.end 0)) (is_unit (last_byte (take front.end text))) (is_unit (get_or text front.end 0)) (is_ascii_digit (last_byte (take front.end text)))
        (is_space (get_or text front.end 0)) space h.whole)
      where
        by : (a b e f g : Bool) → g ≡ true → b ≡ true → ((a && not b) || (e && f) || (g && b)) ≡ true
        by a b e f g j k = grind arith

    last-space : last_byte (take (front.end + 1) text) ≡ get_or text front.end 0
    last-space =
        ap (λ (t : List ℕ). last_byte t) (take_more text front.end 0 inside-space) ∙ last_byte-push (take front.end text) (get_or text front.end 0)

    fresh : is_unit (last_byte (take (front.end + 1) text)) ≡ false
    fresh = ap is_unit last-space ∙ space-no_unit (get_or text front.end 0) space

    digitless : is_ascii_digit (last_byte (take (front.end + 1) text)) ≡ false
    digitless = ap is_ascii_digit last-space ∙ space-no_digit (get_or text front.end 0) space

  pub next-front : (part : Part) (next : ExpiryFront) → FollowsSpace text front.end part → next.end ≡ part.end
      → next.expiry ≡ option_and_then (with_part part) front.expiry → IsExpiryFront text next
  next-front part next g end e = record {
    stands = subst (λ (n : ℕ). StandsTo may_follow_in_expiry text n) (sym end) (part-stands text (front.end + 1) (space-stands g.space) (fresh g.space) part g.part_is);
    whole = ap (λ n. is_unit (last_byte (take n text))) end ∙ part-last text (front.end + 1) (space-stands g.space) (fresh g.space) part g.part_is;
    says = e ∙ ap (option_and_then (with_part part)) h.says
        ∙ sym (ap fit_expiry (ap (slice_split is_space) (ap (λ n. take n text) end ∙ bytes)
        ∙ slice_split-snoc is_space (take front.end text) (get_or text front.end 0) (P text (front.end + 1) (space-stands g.space) (fresh g.space) part g.part_is) g.space
        (part-unsplit text (front.end + 1) (space-stands g.space) (fresh g.space) part g.part_is))
        ∙ takes-in text (front.end + 1) (space-stands g.space) (fresh g.space) part g.part_is (slice_split is_space (take front.end text)));
  } where
    bytes : take part.end text ≡ take front.end text ++ get_or text front.end 0 ∷ P text (front.end + 1) (space-stands g.space) (fresh g.space) part g.part_is
    bytes =
        part-bytes text (front.end + 1) (space-stands g.space) (fresh g.space) part g.part_is
        ∙ ap (λ (t : List ℕ). t ++ P text (front.end + 1) (space-stands g.space) (fresh g.space) part g.part_is) (take_more text front.end 0 (inside-space g.space))
        ∙ append_assoc (take front.end text) (get_or text front.end 0 ∷ []) (P text (front.end + 1) (space-stands g.space) (fresh g.space) part g.part_is)

  -- the exits in the loop and after it
  module _ (filled : eqb (length text) 0 ≡ false) where
    pub expiry-misses : (place : ℕ) → front.end < length text → MissesSpace text front.end place → Err (BadByte place) ≡ expiry_of text
    unfolding expiry_of
    expiry-misses place less (inl at) =
        ap (λ n. Err (BadByte n)) at.0
        ∙ reading-strays _ _ _ _ (stray-at may_follow_in_expiry is_whole_expiry text front.end h.stands less
        (by (is_ascii_digit (get_or text front.end 0)) (is_unit (last_byte (take front.end text))) (is_unit (get_or text front.end 0)) (is_ascii_digit (last_byte (take front.end text)))
        (is_space (get_or text front.end 0)) h.whole (unit-no_digit (last_byte (take front.end text)) h.whole) at.1))
        ∙ reading-past _ _ _ _ filled
      where
        by : (a b e f g : Bool) → b ≡ true → f ≡ false → g ≡ false → ((a && not b) || (e && f) || (g && b)) ≡ false
        by a b e f g j k l = grind arith
    expiry-misses place less (inr following) =
        reading-strays _ _ _ _ (part-leaves text (front.end + 1) (space-stands following.0) (fresh following.0) (digitless following.0) place following.1)
        ∙ reading-past _ _ _ _ filled

    pub expiry-says : length text ≤ front.end → ok_or front.expiry OutOfRange ≡ expiry_of text
    unfolding expiry_of
    expiry-says all =
        ap (λ e. ok_or e OutOfRange) (h.says ∙ ap (λ (t : List ℕ). fit_expiry (slice_split is_space t)) (take_all front.end text all))
        ∙ by (unfit (slice_split is_space text)) (amounts_in (slice_split is_space text))
        ∙ reading-formed _ _ _ formed ∙ reading-past _ _ _ _ filled
      where
        end : front.end ≡ length text
        end = omega (arith, h.stands.within)

        formed : stray may_follow_in_expiry is_whole_expiry text ≡ None
        formed = stray-none may_follow_in_expiry is_whole_expiry text (subst (λ (k : ℕ). StandsTo may_follow_in_expiry text k) end h.stands)
            (whole-front is_whole_expiry text front.end true all h.whole)

        by : (b : Bool) (e : Expiry) → ok_or (cond b None (Some e)) OutOfRange ≡ reading e (fault_if b OutOfRange ∷ [])
        by true e = refl
        by false e = refl

pub expiry-empty : (text : List ℕ) → eqb (length text) 0 ≡ true → Err Empty ≡ expiry_of text
unfolding expiry_of
expiry-empty text h = reading-here _ _ _ _ h

pub expiry-misses-first : (text : List ℕ) (place : ℕ) → eqb (length text) 0 ≡ false → MissesPart text 0 place → Err (BadByte place) ≡ expiry_of text
unfolding expiry_of
expiry-misses-first text place filled h =
    reading-strays _ _ _ _ (part-leaves text 0 (stands-start may_follow_in_expiry text) refl refl place h) ∙ reading-past _ _ _ _ filled
