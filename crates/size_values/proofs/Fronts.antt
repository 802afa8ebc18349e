-- The front of a text that has been read, and one more run of digits after it.
use Rattle.std.proofs.Common.{◌≡◌, ℕ, ◌+◌, ◌-◌, ◌<◌, ◌≤◌, Bool, true, false, cond, List, [], ◌∷◌, ◌++◌, length, take, drop, get_or, sym, refl, ap, ◌∙◌, subst, inl, inr, ◌⊎◌, arith, add-one, length-take, length-drop, length-append, get_or-take, get_or-drop}
use Rattle.std.proofs.lemmas.Bool.{cases_lt, true≢false}
use Rattle.std.proofs.lemmas.List.{take-append-drop, take-take, drop-take, drop_more, get_or_at, get_or_past}
use Rattle.std.proofs.lemmas.List.Splits.{slice_split-cons_yes, slice_split-cons_no, slice_split_none, length-slice_split}
use Rattle.std.proofs.lemmas.List.Sums.{prefix_len_passes, prefix_len_stops, prefix_len-le-length}
use Rattle.std.specs.Char.{is_ascii_digit}
use Rattle.std.specs.List.{prefix_len, take_while, slice_split, onto_first}
use Rattle.size_values.specs.Reading.{last_byte}

-- the first m bytes and n more
pub take-add : (m n : ℕ) (xs : List ℕ) → take (m + n) xs ≡ take m xs ++ take n (drop m xs)
take-add m n xs =
    sym (take-append-drop m (take (m + n) xs))
    ∙ ap (λ (ys : List ℕ). ys ++ drop m (take (m + n) xs)) (take-take m (m + n) xs (omega arith))
    ∙ ap (λ (ys : List ℕ). take m xs ++ ys) (drop-take m n xs)

-- the first n bytes, the byte there and m more
pub take-more : (n m : ℕ) (xs : List ℕ) → n < length xs → take (n + 1 + m) xs ≡ take n xs ++ get_or xs n 0 ∷ take m (drop (n + 1) xs)
take-more n m xs less =
    ap (λ k. take k xs) same ∙ take-add n (m + 1) xs
    ∙ ap (λ (ys : List ℕ). take n xs ++ ys) (ap (λ (ys : List ℕ). take (m + 1) ys) (drop_more xs n 0 less) ∙ ap (λ k. take k (get_or xs n 0 ∷ drop (n + 1) xs)) (add-one m))
  where
    same : n + 1 + m ≡ n + (m + 1)
    same = omega arith

pub last_byte-take : (text : List ℕ) (n : ℕ) → 0 < n → n ≤ length text → last_byte (take n text) ≡ get_or text (n - 1) 0
last_byte-take text n some within =
    ap (λ k. get_or (take n text) (k - 1) 0) length-front ∙ get_or-take n text (n - 1) 0 (omega arith)
  where
    length-front : length (take n text) ≡ n
    length-front = omega (arith, length-take n text)

pub last_byte-push : (xs : List ℕ) (y : ℕ) → last_byte (xs ++ y ∷ []) ≡ y
last_byte-push xs y = get_or_at xs y [] 0 (length (xs ++ y ∷ []) - 1) (omega (arith, length-append xs (y ∷ [])))

onto_first-append : {X : Type 0} (x : X) (parts more : List (List X)) → 0 < length parts → onto_first x (parts ++ more) ≡ onto_first x parts ++ more
onto_first-append x [] more some = absurd (omega arith)
onto_first-append x (part ∷ parts) more some = refl

-- after a last separator stands one more part
pub slice_split-snoc : {X : Type 0} (p : X → Bool) (xs : List X) (y : X) (ys : List X) → p y ≡ true → slice_split p ys ≡ ys ∷ []
    → slice_split p (xs ++ y ∷ ys) ≡ slice_split p xs ++ ys ∷ []
slice_split-snoc p [] y ys cuts one = slice_split-cons_yes p y ys cuts ∙ ap (λ parts. [] ∷ parts) one
slice_split-snoc {X} p (x ∷ xs) y ys cuts one = at (p x) refl (slice_split-snoc p xs y ys cuts one)
  where
    at : (b : Bool) → p x ≡ b → slice_split p (xs ++ y ∷ ys) ≡ slice_split p xs ++ ys ∷ []
        → slice_split p (x ∷ (xs ++ y ∷ ys)) ≡ slice_split p (x ∷ xs) ++ ys ∷ []
    at true e rest =
        slice_split-cons_yes p x (xs ++ y ∷ ys) e ∙ ap (λ parts. [] ∷ parts) rest
        ∙ ap (λ (parts : List (List X)). parts ++ ys ∷ []) (sym (slice_split-cons_yes p x xs e))
    at false e rest =
        slice_split-cons_no p x (xs ++ y ∷ ys) e ∙ ap (onto_first x) rest
        ∙ onto_first-append x (slice_split p xs) (ys ∷ []) (omega (arith, length-slice_split p xs))
        ∙ ap (λ (parts : List (List X)). parts ++ ys ∷ []) (sym (slice_split-cons_no p x xs e))

-- bytes without a separator extend the last part
pub slice_split-extend : (p : ℕ → Bool) (xs ys : List ℕ) (init : List (List ℕ)) (part : List ℕ) → slice_split p ys ≡ ys ∷ []
    → slice_split p xs ≡ init ++ part ∷ [] → slice_split p (xs ++ ys) ≡ init ++ (part ++ ys) ∷ []
slice_split-extend p [] ys [] part one h = one ∙ (let e : [] ≡ part = cc in ap (λ (q : List ℕ). (q ++ ys) ∷ []) e)
slice_split-extend p [] ys (i ∷ is) part one h = absurd (omega (arith, ap (λ (ps : List (List ℕ)). length ps) h, length-append is (part ∷ [])))
slice_split-extend p (x ∷ xs) ys init part one h =
    at (p x) refl (slice_split p xs) refl init (sym (split-cons (p x) refl) ∙ h) (λ init' part' h'. slice_split-extend p xs ys init' part' one h')
  where
    split-cons : (b : Bool) → p x ≡ b → slice_split p (x ∷ xs) ≡ cond b ([] ∷ slice_split p xs) (onto_first x (slice_split p xs))
    split-cons b e = ap (λ c. cond c ([] ∷ slice_split p xs) (onto_first x (slice_split p xs))) e

    split-more : (b : Bool) → p x ≡ b → slice_split p (x ∷ (xs ++ ys)) ≡ cond b ([] ∷ slice_split p (xs ++ ys)) (onto_first x (slice_split p (xs ++ ys)))
    split-more b e = ap (λ c. cond c ([] ∷ slice_split p (xs ++ ys)) (onto_first x (slice_split p (xs ++ ys)))) e

    at : (b : Bool) → p x ≡ b → (ps : List (List ℕ)) → slice_split p xs ≡ ps → (init : List (List ℕ))
        → cond b ([] ∷ slice_split p xs) (onto_first x (slice_split p xs)) ≡ init ++ part ∷ []
        → ((init' : List (List ℕ)) (part' : List ℕ) → slice_split p xs ≡ init' ++ part' ∷ [] → slice_split p (xs ++ ys) ≡ init' ++ (part' ++ ys) ∷ [])
        → slice_split p (x ∷ (xs ++ ys)) ≡ init ++ (part ++ ys) ∷ []
    at true e ps eps [] f rest =
        let none : slice_split p xs ≡ [] = cc f in
        absurd (omega (arith, length-slice_split p xs, ap (λ (qs : List (List ℕ)). length qs) none))
    at true e ps eps (i ∷ is) f rest =
        let first : [] ≡ i = cc f in
        let others : slice_split p xs ≡ is ++ part ∷ [] = cc f in
        split-more true e ∙ (λ k. first k ∷ rest is part others k)
    at false e [] eps init f rest = absurd (omega (arith, length-slice_split p xs, ap (λ (qs : List (List ℕ)). length qs) eps))
    at false e (q ∷ qs) eps [] f rest =
        let g : (x ∷ q) ∷ qs ≡ part ∷ [] = ap (onto_first x) (sym eps) ∙ f in
        let first : x ∷ q ≡ part = cc g in
        let others : qs ≡ [] = cc g in
        split-more false e ∙ ap (onto_first x) (rest [] q (eps ∙ ap (λ (rs : List (List ℕ)). q ∷ rs) others)) ∙ ap (λ (r : List ℕ). (r ++ ys) ∷ []) first
    at false e (q ∷ qs) eps (i ∷ is) f rest =
        let g : (x ∷ q) ∷ qs ≡ i ∷ (is ++ part ∷ []) = ap (onto_first x) (sym eps) ∙ f in
        let first : x ∷ q ≡ i = cc g in
        let others : qs ≡ is ++ part ∷ [] = cc g in
        split-more false e ∙ ap (onto_first x) (rest (q ∷ is) part (eps ∙ ap (λ (rs : List (List ℕ)). q ∷ rs) others))
        ∙ ap (λ (r : List ℕ). r ∷ (is ++ (part ++ ys) ∷ [])) first

-- a byte that passes a test which 0 fails is in the text
pub passing-inside : (p : ℕ → Bool) → p 0 ≡ false → (text : List ℕ) (n : ℕ) → p (get_or text n 0) ≡ true → n < length text
passing-inside p none text n passes = by (cases_lt n (length text))
  where
    by : (n < length text) ⊎ (length text ≤ n) → n < length text
    by (inl less) = less
    by (inr more) = absurd (true≢false (sym passes ∙ ap p (get_or_past text n 0 more) ∙ none))

-- digits are one part where no digit is a separator
pub run-unsplit : (p : ℕ → Bool) → ((c : ℕ) → is_ascii_digit c ≡ true → p c ≡ false) → (xs : List ℕ)
    → slice_split p (take_while is_ascii_digit xs) ≡ take_while is_ascii_digit xs ∷ []
run-unsplit p none xs = slice_split_none p (take_while is_ascii_digit xs) (λ k d less. by k d (omega (arith, less, length-take (prefix_len is_ascii_digit xs) xs)))
  where
    by : (k d : ℕ) → k < prefix_len is_ascii_digit xs → p (get_or (take_while is_ascii_digit xs) k d) ≡ false
    by k d less =
        ap p (get_or-take (prefix_len is_ascii_digit xs) xs k d less) ∙ none (get_or xs k d) (prefix_len_passes is_ascii_digit xs k d less)

-- digits that begin at a place
module _ (text : List ℕ) (at : ℕ) (within : at ≤ length text) where
  pub run-within : at + prefix_len is_ascii_digit (drop at text) ≤ length text
  run-within = omega (arith, length-drop at text, prefix_len-le-length is_ascii_digit (drop at text))

  pub run-digit : (k : ℕ) → at ≤ k → k < at + prefix_len is_ascii_digit (drop at text) → is_ascii_digit (get_or text k 0) ≡ true
  run-digit k low high =
      let same : at + (k - at) ≡ k = omega arith in
      subst (λ (j : ℕ). is_ascii_digit (get_or text j 0) ≡ true) same
      (ap is_ascii_digit (sym (get_or-drop at text (k - at) 0)) ∙ prefix_len_passes is_ascii_digit (drop at text) (k - at) 0 (omega arith))

  pub run-end : is_ascii_digit (get_or text (at + prefix_len is_ascii_digit (drop at text)) 0) ≡ false
  run-end = by (cases_lt (prefix_len is_ascii_digit (drop at text)) (length (drop at text)))
    where
      by : (prefix_len is_ascii_digit (drop at text) < length (drop at text)) ⊎ (length (drop at text) ≤ prefix_len is_ascii_digit (drop at text))
          → is_ascii_digit (get_or text (at + prefix_len is_ascii_digit (drop at text)) 0) ≡ false
      by (inl less) = ap is_ascii_digit (sym (get_or-drop at text (prefix_len is_ascii_digit (drop at text)) 0)) ∙ prefix_len_stops is_ascii_digit (drop at text) 0 less
      by (inr all) = ap is_ascii_digit (get_or_past text (at + prefix_len is_ascii_digit (drop at text)) 0 (omega (arith, length-drop at text)))
