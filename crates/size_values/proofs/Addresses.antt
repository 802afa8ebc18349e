-- The exits of the readers of addresses.
use Rattle.std.proofs.Common.{◌≡◌, ℕ, ◌+◌, ◌-◌, ◌<◌, ◌≤◌, Bool, true, false, cond, ◌&&◌, ◌||◌, List, [], ◌∷◌, length, take, drop, get_or, Some, None, Result, Err, sym, refl, ap, ◌∙◌, subst, inl, inr, ◌⊎◌, arith, length-take, length-drop, get_or-take, eqb}
use Rattle.std.proofs.lemmas.Bool.Decides.{nat_tests}
use Rattle.std.proofs.lemmas.List.{take_all, get_or_default}
use Rattle.std.proofs.lemmas.List.Folds.{list_any_none, list_any_at}
use Rattle.std.proofs.lemmas.List.Sums.{position_or_len_is}
use Rattle.std.specs.Prelude.{nat_lt, count_by}
use Rattle.std.specs.Option.{option_map, option_zip, ok_or}
use Rattle.std.specs.Char.{is_ascii_digit}
use Rattle.std.specs.Str.Parse.{digits_value}
use Rattle.std.specs.List.{prefix_len, position_or_len, take_while, list_any}
use Rattle.size_values.specs.Form.{StandsTo}
use Rattle.size_values.specs.Reading.{reading, fault_if, stray, last_byte}
use Rattle.size_values.specs.Address.{is_dot, is_slash, may_follow_in_address, is_whole_address, may_follow_in_cidr, is_whole_cidr, is_unfit, is_address_unfit, address_value, address_of, cidr_of}
use Rattle.size_values.specs.Quad.{IsFrom, Misses, IsQuad, IsAstray}
use Rattle.size_values.specs.declared.address.SmallNumber.{SmallNumber}
use Rattle.size_values.specs.declared.address.Quad.{Quad}
use Rattle.size_values.specs.declared.fault.ValueFault.{ValueFault}
use Rattle.size_values.specs.declared.fault.ValueFault.TheVariants.{Empty, BadByte, OutOfRange}
use Rattle.size_values.proofs.Forms.{reading-here, reading-past, reading-strays, reading-formed, stray-at, stray-none, leaves, whole-front, stands-run, stands-more}
use Rattle.size_values.proofs.Fronts.{passing-inside, run-within, run-digit, run-end}

pub address-empty : (text : List ℕ) → eqb (length text) 0 ≡ true → Err Empty ≡ address_of text
unfolding address_of
address-empty text h = reading-here _ _ _ _ h

pub cidr-empty : (text : List ℕ) → eqb (length text) 0 ≡ true → Err Empty ≡ cidr_of text
unfolding cidr_of
cidr-empty text h = reading-here _ _ _ _ h

-- after a whole address stands no fourth dot
fourth_dot : (front : List ℕ) (c : ℕ) → is_ascii_digit c ≡ false → is_whole_address front ≡ true → may_follow_in_address front c ≡ false
fourth_dot front c digit whole = by (count_by is_dot front) (is_ascii_digit (last_byte front)) digit whole
  where
    by : (n : ℕ) (last : Bool) → is_ascii_digit c ≡ false → (last && eqb n 3) ≡ true → (is_ascii_digit c || (is_dot c && last && nat_lt n 3)) ≡ false
    by n last d w = grind (arith, nat_tests)

-- a value that is there where the text is fit
fit-reading : {T : Type 0} (unfit : Bool) (value : T) → ok_or (cond unfit None (Some value)) OutOfRange ≡ reading value (fault_if unfit OutOfRange ∷ [])
fit-reading true value = refl
fit-reading false value = refl

module _ (text : List ℕ) (filled : eqb (length text) 0 ≡ false) where
  pub address-astray : (place : ℕ) → IsAstray text place → Err (BadByte place) ≡ address_of text
  unfolding address_of
  address-astray place h =
      reading-strays _ _ _ _ (leaves may_follow_in_address is_whole_address text place h.stands h.stops (λ e. whole-front is_whole_address text place false (omega arith) h.part))
      ∙ reading-past _ _ _ _ filled

  module _ (quad : Quad) (is : IsQuad text quad) where
    pub address-more : quad.end < length text → Err (BadByte quad.end) ≡ address_of text
    unfolding address_of
    address-more less =
        reading-strays _ _ _ _ (stray-at may_follow_in_address is_whole_address text quad.end is.stands less (fourth_dot (take quad.end text) (get_or text quad.end 0) is.ends is.whole))
        ∙ reading-past _ _ _ _ filled

    pub address-value : length text ≤ quad.end → ok_or quad.address OutOfRange ≡ address_of text
    unfolding address_of
    address-value all =
        ap (λ a. ok_or a OutOfRange) (is.address ∙ ap (λ (t : List ℕ). cond (is_address_unfit t) None (Some (address_value t))) (take_all quad.end text all))
        ∙ fit-reading (is_address_unfit text) (address_value text)
        ∙ reading-formed _ _ _ formed ∙ reading-past _ _ _ _ filled
      where
        same : quad.end ≡ length text
        same = omega (arith, is.stands.within)

        formed : stray may_follow_in_address is_whole_address text ≡ None
        formed = stray-none may_follow_in_address is_whole_address text (subst (λ (k : ℕ). StandsTo may_follow_in_address text k) same is.stands)
            (whole-front is_whole_address text quad.end true all is.whole)

-- An address has no slash in it.
allowed-no_slash : (front : List ℕ) (c : ℕ) → may_follow_in_address front c ≡ true → is_slash c ≡ false
allowed-no_slash front c h = by (is_ascii_digit (last_byte front) && nat_lt (count_by is_dot front) 3) (is_ascii_digit (last_byte front)) (nat_lt (count_by is_dot front) 3) h
  where
    by : (b last few : Bool) → (is_ascii_digit c || (is_dot c && last && few)) ≡ true → is_slash c ≡ false
    by b last few e = grind (arith, nat_tests)

no_slash : (text : List ℕ) (n : ℕ) → StandsTo may_follow_in_address text n → (k : ℕ) → k ≤ n → list_any is_slash (take k text) ≡ false
no_slash text n h k low = list_any_none is_slash (take k text) (λ j d less. at j d (omega (arith, less, length-take k text)))
  where
    at : (j d : ℕ) → j < k → is_slash (get_or (take k text) j d) ≡ false
    at j d less =
        ap is_slash (get_or-take k text j d less ∙ get_or_default text j d 0 (omega (arith, h.within)))
        ∙ allowed-no_slash (take j text) (get_or text j 0) (h.each j (omega arith))

-- what may follow in an address may follow before the slash
before-slash : (front : List ℕ) (c : ℕ) (b : Bool) → list_any is_slash front ≡ false → (may_follow_in_address front c || (is_slash c && is_whole_address front)) ≡ b
    → may_follow_in_cidr front c ≡ b
before-slash front c b none is = ap (λ s. cond s (is_ascii_digit c) (may_follow_in_address front c || (is_slash c && is_whole_address front))) none ∙ is

after-slash : (front : List ℕ) (c : ℕ) (b : Bool) → list_any is_slash front ≡ true → is_ascii_digit c ≡ b → may_follow_in_cidr front c ≡ b
after-slash front c b some is = ap (λ s. cond s (is_ascii_digit c) (may_follow_in_address front c || (is_slash c && is_whole_address front))) some ∙ is

or-left : (a b : Bool) → a ≡ true → (a || b) ≡ true
or-left a b h = grind arith

neither : (a b c : Bool) → a ≡ false → (b ≡ false) ⊎ (c ≡ false) → (a || (b && c)) ≡ false
neither a b c h (inl e) = grind arith
neither a b c h (inr e) = grind arith

address-stands : (text : List ℕ) (n : ℕ) → StandsTo may_follow_in_address text n → StandsTo may_follow_in_cidr text n
address-stands text n h = record {
  within = h.within;
  each = λ k less. before-slash (take k text) (get_or text k 0) true (no_slash text n h k (omega arith))
      (or-left (may_follow_in_address (take k text) (get_or text k 0)) _ (h.each k less));
}

or-right : (a b c : Bool) → b ≡ true → c ≡ true → (a || (b && c)) ≡ true
or-right a b c h e = grind arith

-- two values that are there where the text is fit
both-fit : (u v : Bool) (a b : ℕ) → ok_or (option_zip (cond u None (Some a)) (cond v None (Some b))) OutOfRange ≡ reading (a, b) (fault_if (u || v) OutOfRange ∷ [])
both-fit true v a b = refl
both-fit false true a b = refl
both-fit false false a b = refl

-- the reading by the texts before and after the slash
abbrev outcome : List ℕ → List ℕ → List ℕ → Result (ℕ × ℕ) ValueFault
outcome text address bits =
    reading (address_value address, digits_value 10 bits) (
    fault_if (eqb (length text) 0) Empty
    ∷ option_map BadByte (stray may_follow_in_cidr is_whole_cidr text)
    ∷ fault_if (is_address_unfit address || is_unfit 8 30 bits) OutOfRange
    ∷ [])

-- a text without a slash is not whole
unslashed : (text : List ℕ) → list_any is_slash text ≡ false → is_whole_cidr text ≡ false
unslashed text h = by (is_ascii_digit (last_byte text)) (list_any is_slash text) h
  where
    by : (a b : Bool) → b ≡ false → (a && b) ≡ false
    by a b e = grind arith

module _ (text : List ℕ) (filled : eqb (length text) 0 ≡ false) where
  pub cidr-astray : (place : ℕ) → IsAstray text place → Err (BadByte place) ≡ cidr_of text
  unfolding cidr_of
  cidr-astray place h =
      reading-strays _ _ _ _ (leaves may_follow_in_cidr is_whole_cidr text place (address-stands text place h.stands)
      (λ less. before-slash (take place text) (get_or text place 0) false none
      (neither (may_follow_in_address (take place text) (get_or text place 0)) (is_slash (get_or text place 0)) (is_whole_address (take place text)) (h.stops less) (inr h.part)))
      (λ e. unslashed text (whole-front (list_any is_slash) text place false (omega arith) none)))
      ∙ reading-past _ _ _ _ filled
    where
      none : list_any is_slash (take place text) ≡ false
      none = no_slash text place h.stands place (omega arith)

  module _ (quad : Quad) (is : IsQuad text quad) where
    none : list_any is_slash (take quad.end text) ≡ false
    none = no_slash text quad.end is.stands quad.end (omega arith)

    pub cidr-unslashed : is_slash (get_or text quad.end 0) ≡ false → Err (BadByte quad.end) ≡ cidr_of text
    unfolding cidr_of
    cidr-unslashed misses =
        reading-strays _ _ _ _ (leaves may_follow_in_cidr is_whole_cidr text quad.end (address-stands text quad.end is.stands)
        (λ less. before-slash (take quad.end text) (get_or text quad.end 0) false none
        (neither (may_follow_in_address (take quad.end text) (get_or text quad.end 0)) (is_slash (get_or text quad.end 0)) (is_whole_address (take quad.end text))
        (fourth_dot (take quad.end text) (get_or text quad.end 0) is.ends is.whole) (inl misses)))
        (λ e. unslashed text (whole-front (list_any is_slash) text quad.end false (omega arith) none)))
        ∙ reading-past _ _ _ _ filled

    module _ (slash : is_slash (get_or text quad.end 0) ≡ true) where
      inside : quad.end < length text
      inside = passing-inside is_slash refl text quad.end slash

      slash-stands : StandsTo may_follow_in_cidr text (quad.end + 1)
      slash-stands = stands-more may_follow_in_cidr text quad.end (address-stands text quad.end is.stands) inside
          (before-slash (take quad.end text) (get_or text quad.end 0) true none
          (or-right (may_follow_in_address (take quad.end text) (get_or text quad.end 0)) (is_slash (get_or text quad.end 0)) (is_whole_address (take quad.end text)) slash is.whole))

      has-slash : (k : ℕ) → quad.end < k → k ≤ length text → list_any is_slash (take k text) ≡ true
      has-slash k low high =
          list_any_at is_slash (take k text) quad.end 0 (omega (arith, length-take k text))
          (ap is_slash (get_or-take k text quad.end 0 low) ∙ slash)

      digits-stand : StandsTo may_follow_in_cidr text (quad.end + 1 + prefix_len is_ascii_digit (drop (quad.end + 1) text))
      digits-stand =
          stands-run may_follow_in_cidr text (quad.end + 1) (prefix_len is_ascii_digit (drop (quad.end + 1) text)) slash-stands (run-within text (quad.end + 1) slash-stands.within)
          (λ k low high. after-slash (take k text) (get_or text k 0) true
          (has-slash k (omega arith) (omega (arith, run-within text (quad.end + 1) slash-stands.within))) (run-digit text (quad.end + 1) slash-stands.within k low high))

      -- the form is left where the digits end
      leaves-after : (n : ℕ) → n ≡ quad.end + 1 + prefix_len is_ascii_digit (drop (quad.end + 1) text) → (n ≡ length text → is_ascii_digit (last_byte text) ≡ false)
          → Err (BadByte n) ≡ cidr_of text
      unfolding cidr_of
      leaves-after n end part =
          reading-strays _ _ _ _ (leaves may_follow_in_cidr is_whole_cidr text n (subst (λ (k : ℕ). StandsTo may_follow_in_cidr text k) (sym end) digits-stand)
          (λ less. after-slash (take n text) (get_or text n 0) false (has-slash n (omega arith) (omega arith))
          (ap (λ k. is_ascii_digit (get_or text k 0)) end ∙ run-end text (quad.end + 1) slash-stands.within))
          (λ e. by (is_ascii_digit (last_byte text)) (list_any is_slash text) (part e)))
          ∙ reading-past _ _ _ _ filled
        where
          by : (a b : Bool) → a ≡ false → (a && b) ≡ false
          by a b h = grind arith

      pub cidr-no_bits : prefix_len is_ascii_digit (drop (quad.end + 1) text) ≡ 0 → Err (BadByte (quad.end + 1)) ≡ cidr_of text
      cidr-no_bits no_digit = leaves-after (quad.end + 1) (omega arith) (λ e. by e)
        where
          slash-no_digit : (c : ℕ) → is_slash c ≡ true → is_ascii_digit c ≡ false
          slash-no_digit c h = grind (arith, nat_tests)

          by : quad.end + 1 ≡ length text → is_ascii_digit (last_byte text) ≡ false
          by e =
              let same : length text - 1 ≡ quad.end = omega arith in
              ap (λ k. is_ascii_digit (get_or text k 0)) same ∙ slash-no_digit (get_or text quad.end 0) slash

      module _ (bits : SmallNumber) (from : IsFrom 8 30 text (quad.end + 1) bits) where
        pub cidr-more : bits.end < length text → Err (BadByte bits.end) ≡ cidr_of text
        cidr-more less = leaves-after bits.end from.end (λ e. absurd (omega arith))

        module _ (all : length text ≤ bits.end) where
          ends : quad.end + 1 + prefix_len is_ascii_digit (drop (quad.end + 1) text) ≡ length text
          ends = omega (arith, from.end, from.within)

          formed : stray may_follow_in_cidr is_whole_cidr text ≡ None
          formed = stray-none may_follow_in_cidr is_whole_cidr text (subst (λ (k : ℕ). StandsTo may_follow_in_cidr text k) ends digits-stand)
              (by (is_ascii_digit (last_byte text)) (list_any is_slash text) last (whole-front (list_any is_slash) text (length text) true (omega arith) (has-slash (length text) inside (omega arith))))
            where
              last : is_ascii_digit (last_byte text) ≡ true
              last = run-digit text (quad.end + 1) slash-stands.within (length text - 1) (omega (arith, from.some)) (omega (arith, ends, inside))

              by : (a b : Bool) → a ≡ true → b ≡ true → (a && b) ≡ true
              by a b h e = grind arith

          at-slash : position_or_len is_slash text ≡ quad.end
          at-slash = position_or_len_is is_slash text quad.end 0 (omega (arith, inside))
              (λ k less. allowed-no_slash (take k text) (get_or text k 0) (is.stands.each k less)) (λ less. slash)

          bits-are : take_while is_ascii_digit (drop (quad.end + 1) text) ≡ drop (quad.end + 1) text
          bits-are = take_all (prefix_len is_ascii_digit (drop (quad.end + 1) text)) (drop (quad.end + 1) text) (omega (arith, ends, length-drop (quad.end + 1) text))

          pub cidr-value : ok_or (option_zip quad.address bits.value) OutOfRange ≡ cidr_of text
          unfolding cidr_of
          cidr-value =
              (λ i. ok_or (option_zip (is.address i) (from.value i)) OutOfRange)
              ∙ both-fit (is_address_unfit (take quad.end text)) (is_unfit 8 30 (take_while is_ascii_digit (drop (quad.end + 1) text)))
              (address_value (take quad.end text)) (digits_value 10 (take_while is_ascii_digit (drop (quad.end + 1) text)))
              ∙ reading-formed _ _ _ formed ∙ reading-past _ _ _ _ filled
              ∙ ap (outcome text (take quad.end text)) bits-are
              ∙ ap (λ k. outcome text (take k text) (drop (k + 1) text)) (sym at-slash)

    pub cidr-misses : (place : ℕ) → Misses 47 text quad.end place → Err (BadByte place) ≡ cidr_of text
    cidr-misses place h = by h.misses
      where
        by : ((place ≡ quad.end) × (is_slash (get_or text quad.end 0) ≡ false))
            ⊎ ((place ≡ quad.end + 1) × (is_slash (get_or text quad.end 0) ≡ true) × (prefix_len is_ascii_digit (drop place text) ≡ 0)) → Err (BadByte place) ≡ cidr_of text
        by (inl at) = ap (λ k. Err (BadByte k)) at.0 ∙ cidr-unslashed at.1
        by (inr following) =
            ap (λ k. Err (BadByte k)) following.0
            ∙ cidr-no_bits following.1 (subst (λ (k : ℕ). prefix_len is_ascii_digit (drop k text) ≡ 0) following.0 following.2)
