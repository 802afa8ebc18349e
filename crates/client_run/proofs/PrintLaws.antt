-- What a server prints is read as a reply.
use Rattle.std.proofs.Common.{◌≡◌, ℕ, ◌<◌, ◌≤◌, ◌==◌, ◌||◌, ◌&&◌, Bool, true, false, cond, List, [], ◌∷◌, ◌++◌, length, map, flat_map, reverse, All, Some, codes, decimal, nat_lt, nat_le, refl, sym, ap, ap₂, ◌∙◌, subst, arith, append-nil, append_assoc, length-append}
use Rattle.std.specs.List.{list_all}
use Rattle.std.specs.Fmt.{digits}
use Rattle.std.specs.Char.{is_ascii_digit, digit_value}
use Rattle.std.specs.Str.Parse.{digits_value, AllDigits}
use Rattle.std.proofs.lemmas.Bool.{eqb-true}
use Rattle.std.proofs.lemmas.Bool.Decides.{nat_tests}
use Rattle.std.proofs.lemmas.Fmt.{decimal_is_IsNumeral, length-decimal-le}
use Rattle.std.proofs.lemmas.List.{reverse-reverse}
use Rattle.std.proofs.lemmas.Grind.{reverse_onto, common_steps}
use Rattle.std.proofs.Math.Seq.{take-length}
use Rattle.std.proofs.lemmas.List.Concat.{flat_map-append}
use Rattle.std.proofs.lemmas.List.Elements.{All-cons, All-nil, All-append}
use Rattle.std.proofs.lemmas.List.Sums.{AllPass-from_list_all}
use Rattle.httparse.specs.Grammar.{crlf, print_end, is_token_byte, is_value_byte, is_ows, skip_ows, trim_ows, Field, IsField, print_field, ResponseHead, IsResponseHead, print_response, AllPass}
use Rattle.httparse.specs.Spans.{name_and_value}
use Rattle.http_front.specs.declared.reply.Printed.{Printed}
use Rattle.http_front.specs.Replies.{line, is_reply_code, phrase_of, status_line, length_line, location_line, tag_line, last_line, head_text, reply_text}
use Rattle.client_replies.specs.Limits.{max_head, max_body}
use Rattle.client_replies.specs.Fields.{framed, body_length, length_in}
use Rattle.client_replies.specs.Forms.{answer_in}
use Rattle.client_run.specs.Laws.{IsPrinted, PrintsAreRead}

-- ---- the codes of a server

-- the digits of a code and its phrase are what they may be in a head
record IsGoodCode (code : ℕ) : Type 0 where
  three : length (decimal code) ≡ 3
  digits : list_all is_ascii_digit (decimal code) ≡ true
  phrase : list_all is_value_byte (phrase_of code) ≡ true
  short : length (phrase_of code) ≤ 100
  value : digits_value 10 (decimal code) ≡ code

or_else : {P : Type 0} (a b : Bool) → (a ≡ true → P) → (b ≡ true → P) → (a || b) ≡ true → P
or_else true b first second e = first refl
or_else false b first second e = second e

code_is : (code n : ℕ) → IsGoodCode n → (code == n) ≡ true → IsGoodCode code
code_is code n good is = subst IsGoodCode (sym (eqb-true code n is)) good

good_200 : IsGoodCode 200
unfolding digits
good_200 = record { three = refl; digits = refl; phrase = refl; short = omega arith; value = refl }

good_202 : IsGoodCode 202
unfolding digits
good_202 = record { three = refl; digits = refl; phrase = refl; short = omega arith; value = refl }

good_400 : IsGoodCode 400
unfolding digits
good_400 = record { three = refl; digits = refl; phrase = refl; short = omega arith; value = refl }

good_403 : IsGoodCode 403
unfolding digits
good_403 = record { three = refl; digits = refl; phrase = refl; short = omega arith; value = refl }

good_404 : IsGoodCode 404
unfolding digits
good_404 = record { three = refl; digits = refl; phrase = refl; short = omega arith; value = refl }

good_405 : IsGoodCode 405
unfolding digits
good_405 = record { three = refl; digits = refl; phrase = refl; short = omega arith; value = refl }

good_409 : IsGoodCode 409
unfolding digits
good_409 = record { three = refl; digits = refl; phrase = refl; short = omega arith; value = refl }

good_412 : IsGoodCode 412
unfolding digits
good_412 = record { three = refl; digits = refl; phrase = refl; short = omega arith; value = refl }

good_500 : IsGoodCode 500
unfolding digits
good_500 = record { three = refl; digits = refl; phrase = refl; short = omega arith; value = refl }

good_501 : IsGoodCode 501
unfolding digits
good_501 = record { three = refl; digits = refl; phrase = refl; short = omega arith; value = refl }

good_503 : IsGoodCode 503
unfolding digits
good_503 = record { three = refl; digits = refl; phrase = refl; short = omega arith; value = refl }

is_good_code : (code : ℕ) → is_reply_code code ≡ true → IsGoodCode code
is_good_code code h =
    or_else _ (code == 503) (or_else _ (code == 501) (or_else _ (code == 500) (or_else _ (code == 412) (or_else _ (code == 409) (or_else _ (code == 405) (or_else _ (code == 404) (or_else _ (code == 403) (or_else _ (code == 400) (or_else _ (code == 202) (code_is code 200 good_200) (code_is code 202 good_202)) (code_is code 400 good_400)) (code_is code 403 good_403)) (code_is code 404 good_404)) (code_is code 405 good_405)) (code_is code 409 good_409)) (code_is code 412 good_412)) (code_is code 500 good_500)) (code_is code 501 good_501)) (code_is code 503 good_503) h

-- ---- digits

digit_passes : (c : ℕ) → digit_value c < 10 → is_ascii_digit c ≡ true
digit_passes c h = grind (arith, nat_tests)

digits_pass : (ds : List ℕ) → AllDigits 10 ds → list_all is_ascii_digit ds ≡ true
digits_pass [] h = refl
digits_pass (d ∷ ds) h = rw (digit_passes d h.0, digits_pass ds h.1) refl

value_of_digit : (c : ℕ) → is_ascii_digit c ≡ true → is_value_byte c ≡ true
value_of_digit c h = grind (arith, nat_tests)

and_parts : (a b : Bool) → (a && b) ≡ true → (a ≡ true) × (b ≡ true)
and_parts true true e = (refl, refl)
and_parts true false e = cc
and_parts false b e = cc

values_of_digits : (ds : List ℕ) → list_all is_ascii_digit ds ≡ true → list_all is_value_byte ds ≡ true
values_of_digits [] h = refl
values_of_digits (d ∷ ds) h =
    let p = and_parts (is_ascii_digit d) (list_all is_ascii_digit ds) h in rw (value_of_digit d p.0, values_of_digits ds p.1) refl

no_ows : (c : ℕ) → is_ascii_digit c ≡ true → is_ows c ≡ false
no_ows c h = grind (arith, nat_tests)

skips_none : (ds : List ℕ) → list_all is_ascii_digit ds ≡ true → skip_ows ds ≡ ds
skips_none [] h = refl
skips_none (d ∷ ds) h = rw (no_ows d (and_parts (is_ascii_digit d) (list_all is_ascii_digit ds) h).0) refl

all_push : (xs : List ℕ) (y : ℕ) → list_all is_ascii_digit xs ≡ true → is_ascii_digit y ≡ true → list_all is_ascii_digit (xs ++ y ∷ []) ≡ true
all_push [] y h k = rw k refl
all_push (x ∷ xs) y h k =
    let p = and_parts (is_ascii_digit x) (list_all is_ascii_digit xs) h in rw (p.0, all_push xs y p.1 k) refl

all_reverse : (ds : List ℕ) → list_all is_ascii_digit ds ≡ true → list_all is_ascii_digit (reverse ds) ≡ true
all_reverse [] h = refl
all_reverse (d ∷ ds) h =
    let p = and_parts (is_ascii_digit d) (list_all is_ascii_digit ds) h in
    subst (λ l. list_all is_ascii_digit l ≡ true) (sym (reverse_onto ds d [])) (all_push (reverse ds) d (all_reverse ds p.1) p.0)

-- a number behind a blank
trimmed : (ds : List ℕ) → list_all is_ascii_digit ds ≡ true → trim_ows (32 ∷ ds) ≡ ds
unfolding trim_ows
trimmed ds h =
    ap (λ l. reverse (skip_ows (reverse l))) (skips_none ds h)
    ∙ ap reverse (skips_none (reverse ds) (all_reverse ds h))
    ∙ reverse-reverse ds

-- ---- the fields of a head

abbrev typed : Field
typed = record { name = codes "Content-Type"; raw = codes " application/json"; end = crlf }

abbrev measured : ℕ → Field
measured n = record { name = codes "Content-Length"; raw = 32 ∷ decimal n; end = crlf }

abbrev placed : List ℕ → List Field
placed location =
    cond (length location == 0) [] (record { name = codes "Location"; raw = 32 ∷ location; end = crlf } ∷ [])

abbrev tagged : List ℕ → List Field
tagged tag = cond (length tag == 0) [] (record { name = codes "ETag"; raw = 32 ∷ tag; end = crlf } ∷ [])

abbrev closed : Bool → List Field
closed last = cond last (record { name = codes "Connection"; raw = codes " close"; end = crlf } ∷ []) []

abbrev fields_in : Printed → List Field
fields_in printed = typed ∷ measured (length printed.body) ∷ (placed printed.location ++ (tagged printed.tag ++ closed printed.last))

abbrev head_in : Printed → ResponseHead
head_in printed = record {
  blank = [];
  minor = 1;
  digits = decimal printed.code;
  reason = Some (phrase_of printed.code);
  line_end = crlf;
  fields = fields_in printed;
  last = crlf;
}

-- ---- the bytes

placed_bytes : (location : List ℕ) → flat_map print_field (placed location) ≡ location_line location
placed_bytes location = at (length location == 0)
  where
    at : (b : Bool) → flat_map print_field (cond b [] (record { name = codes "Location"; raw = 32 ∷ location; end = crlf } ∷ []))
        ≡ cond b [] (line (codes "Location: " ++ location))
    at true = refl
    at false = append-nil (line (codes "Location: " ++ location))

tagged_bytes : (tag : List ℕ) → flat_map print_field (tagged tag) ≡ tag_line tag
tagged_bytes tag = at (length tag == 0)
  where
    at : (b : Bool) → flat_map print_field (cond b [] (record { name = codes "ETag"; raw = 32 ∷ tag; end = crlf } ∷ []))
        ≡ cond b [] (line (codes "ETag: " ++ tag))
    at true = refl
    at false = append-nil (line (codes "ETag: " ++ tag))

closed_bytes : (last : Bool) → flat_map print_field (closed last) ≡ last_line last
closed_bytes true = refl
closed_bytes false = refl

first_line : (code : ℕ) → status_line code
    ≡ codes "HTTP/1.1" ++ 32 ∷ decimal code ++ 32 ∷ phrase_of code ++ print_end crlf
first_line code = ap (λ l. l ++ codes "\r\n") (append_assoc (codes "HTTP/1.1 " ++ decimal code) (32 ∷ []) (phrase_of code))

regroup : (s a b c t d e : List ℕ) → s ++ a ++ b ++ c ++ t ++ d ++ e ≡ s ++ (a ++ (b ++ (c ++ (t ++ d))) ++ e)
regroup s a b c t d e = grind (arith, common_steps)

print_is : (printed : Printed) → reply_text printed ≡ print_response (head_in printed) ++ printed.body
unfolding reply_text print_response
print_is printed =
    ap (λ l. l ++ printed.body)
    (regroup (status_line printed.code) (line (codes "Content-Type: application/json")) (length_line (length printed.body))
    (location_line printed.location) (tag_line printed.tag) (last_line printed.last) (line [])
    ∙ ap₂ (λ s l. s ++ (line (codes "Content-Type: application/json") ++ (length_line (length printed.body) ++ l) ++ line []))
    (first_line printed.code)
    (ap₂ (λ x y. x ++ y) (sym (placed_bytes printed.location))
    (ap₂ (λ x y. x ++ y) (sym (tagged_bytes printed.tag)) (sym (closed_bytes printed.last))
    ∙ sym (flat_map-append print_field (tagged printed.tag) (closed printed.last)))
    ∙ sym (flat_map-append print_field (placed printed.location) (tagged printed.tag ++ closed printed.last))))

-- ---- each part is what it may be

is_token : (name : List ℕ) → 0 < length name → list_all is_token_byte name ≡ true → (0 < length name) × AllPass is_token_byte name
is_token name some all = (some, AllPass-from_list_all is_token_byte name all)

typed_is : IsField typed
unfolding is_token_byte
typed_is = record { name = is_token (codes "Content-Type") (omega arith) refl; raw = AllPass-from_list_all is_value_byte (codes " application/json") refl }

measured_is : (n : ℕ) → list_all is_value_byte (decimal n) ≡ true → IsField (measured n)
unfolding is_token_byte
measured_is n all = record { name = is_token (codes "Content-Length") (omega arith) refl; raw = AllPass-from_list_all is_value_byte (32 ∷ decimal n) all }

placed_are : (location : List ℕ) → list_all is_value_byte location ≡ true → All IsField (placed location)
unfolding is_token_byte
placed_are location all = at (length location == 0)
  where
    at : (b : Bool) → All IsField (cond b [] (record { name = codes "Location"; raw = 32 ∷ location; end = crlf } ∷ []))
    at true = All-nil IsField
    at false =
        All-cons IsField _ [] (record {
          name = is_token (codes "Location") (omega arith) refl;
          raw = AllPass-from_list_all is_value_byte (32 ∷ location) all;
        }) (All-nil IsField)

tagged_are : (tag : List ℕ) → list_all is_value_byte tag ≡ true → All IsField (tagged tag)
unfolding is_token_byte
tagged_are tag all = at (length tag == 0)
  where
    at : (b : Bool) → All IsField (cond b [] (record { name = codes "ETag"; raw = 32 ∷ tag; end = crlf } ∷ []))
    at true = All-nil IsField
    at false =
        All-cons IsField _ [] (record {
          name = is_token (codes "ETag") (omega arith) refl;
          raw = AllPass-from_list_all is_value_byte (32 ∷ tag) all;
        }) (All-nil IsField)

closed_are : (last : Bool) → All IsField (closed last)
unfolding is_token_byte
closed_are true =
    All-cons IsField _ [] (record {
      name = is_token (codes "Connection") (omega arith) refl;
      raw = AllPass-from_list_all is_value_byte (codes " close") refl;
    }) (All-nil IsField)
closed_are false = All-nil IsField

number_is : (n : ℕ) → n ≤ max_body → list_all is_ascii_digit (decimal n) ≡ true
number_is n small = digits_pass (decimal n) (decimal_is_IsNumeral n (omega (arith, small))).0.1

head_is : (printed : Printed) → IsPrinted printed → IsResponseHead (head_in printed)
head_is printed h =
    let code = is_good_code printed.code h.code in
    let number = values_of_digits (decimal (length printed.body)) (number_is (length printed.body) h.body) in
    let behind = placed printed.location ++ (tagged printed.tag ++ closed printed.last) in
    record {
      minor = omega arith;
      digits = (code.three, AllPass-from_list_all is_ascii_digit (decimal printed.code) code.digits);
      reason = AllPass-from_list_all is_value_byte (phrase_of printed.code) code.phrase;
      fields = All-cons IsField typed (measured (length printed.body) ∷ behind) typed_is
          (All-cons IsField (measured (length printed.body)) behind (measured_is (length printed.body) number)
          (All-append IsField (placed printed.location) (tagged printed.tag ++ closed printed.last) (placed_are printed.location h.visible)
          (All-append IsField (tagged printed.tag) (closed printed.last) (tagged_are printed.tag h.visible_tag) (closed_are printed.last))));
    }

-- ---- the length of the body

lt_true : {a b : ℕ} → a < b → nat_lt a b ≡ true
lt_true h = grind (arith, nat_tests)

le_true : {a b : ℕ} → a ≤ b → nat_le a b ≡ true
le_true h = grind (arith, nat_tests)

length_is : (n : ℕ) → n ≤ max_body → length_in (trim_ows (32 ∷ decimal n)) ≡ Some n
unfolding length_in
length_is n small =
    let number = decimal_is_IsNumeral n (omega (arith, small)) in
    let few = length-decimal-le 19 n (omega arith) (omega (arith, small)) (omega (arith, small)) in
    rw (trimmed (decimal n) (number_is n small), number_is n small, number.1, lt_true number.0.0, le_true few, le_true small) refl

framed_is : (printed : Printed) → IsPrinted printed → framed (head_in printed) ≡ Some (length printed.body)
unfolding framed body_length
framed_is printed h = at (length printed.location == 0) (length printed.tag == 0) printed.last
  where
    n : ℕ
    n = length printed.body

    at : (b t c : Bool) → body_length (map name_and_value (typed ∷ measured n
        ∷ (cond b [] (record { name = codes "Location"; raw = 32 ∷ printed.location; end = crlf } ∷ [])
        ++ (cond t [] (record { name = codes "ETag"; raw = 32 ∷ printed.tag; end = crlf } ∷ []) ++ closed c)))) ≡ Some n
    at true true true = length_is n h.body
    at true true false = length_is n h.body
    at true false true = length_is n h.body
    at true false false = length_is n h.body
    at false true true = length_is n h.body
    at false true false = length_is n h.body
    at false false true = length_is n h.body
    at false false false = length_is n h.body

-- ---- a whole reply

short_location : (location : List ℕ) → length location ≤ 8192 → length (location_line location) ≤ 8204
short_location location short = at (length location == 0)
  where
    at : (b : Bool) → length (cond b [] (line (codes "Location: " ++ location))) ≤ 8204
    at true = omega arith
    at false = omega (arith, short, length-append (codes "Location: " ++ location) (codes "\r\n"), length-append (codes "Location: ") location)

tag_is_short : (tag : List ℕ) → length tag ≤ 128 → length (tag_line tag) ≤ 136
tag_is_short tag short = at (length tag == 0)
  where
    at : (b : Bool) → length (cond b [] (line (codes "ETag: " ++ tag))) ≤ 136
    at true = omega arith
    at false = omega (arith, short, length-append (codes "ETag: " ++ tag) (codes "\r\n"), length-append (codes "ETag: ") tag)

short_last : (last : Bool) → length (last_line last) ≤ 30
short_last true = omega arith
short_last false = omega arith

short_status : (code : ℕ) → IsGoodCode code → length (status_line code) ≤ 120
short_status code good =
    omega (
      arith,
      good.three,
      good.short,
      length-append (codes "HTTP/1.1 " ++ decimal code ++ codes " " ++ phrase_of code) (codes "\r\n"),
      length-append (codes "HTTP/1.1 " ++ decimal code ++ codes " ") (phrase_of code),
      length-append (codes "HTTP/1.1 " ++ decimal code) (codes " "),
      length-append (codes "HTTP/1.1 ") (decimal code),
    )

short_length : (n : ℕ) → n ≤ max_body → length (length_line n) ≤ 60
short_length n small =
    omega (
      arith,
      length-decimal-le 19 n (omega arith) (omega (arith, small)) (omega (arith, small)),
      length-append (codes "Content-Length: " ++ decimal n) (codes "\r\n"),
      length-append (codes "Content-Length: ") (decimal n),
    )

short_head : (printed : Printed) → IsPrinted printed → length (head_text printed) ≤ max_head
short_head printed h =
    let a = status_line printed.code in
    let b = line (codes "Content-Type: application/json") in
    let c = length_line (length printed.body) in
    let d = location_line printed.location in
    let t = tag_line printed.tag in
    let e = last_line printed.last in
    omega (
      arith,
      short_status printed.code (is_good_code printed.code h.code),
      short_length (length printed.body) h.body,
      short_location printed.location h.short,
      tag_is_short printed.tag h.short_tag,
      short_last printed.last,
      length-append (a ++ b ++ c ++ d ++ t ++ e) (line []),
      length-append (a ++ b ++ c ++ d ++ t) e,
      length-append (a ++ b ++ c ++ d) t,
      length-append (a ++ b ++ c) d,
      length-append (a ++ b) c,
      length-append a b,
    )

text_is : (printed : Printed) → reply_text printed ≡ head_text printed ++ printed.body
unfolding reply_text
text_is printed = refl

pub prints_are_read : PrintsAreRead
prints_are_read printed tells h answer =
    let whole = print_is printed in
    let long : length (print_response (head_in printed)) ≡ length (head_text printed) =
    omega (arith, ap length (sym whole ∙ text_is printed), length-append (print_response (head_in printed)) printed.body, length-append (head_text printed) printed.body) in
    record {
      head = head_in printed;
      rest = printed.body;
      body = length printed.body;
      has = record { reads = (head_is printed h, whole); short = omega (arith, long, short_head printed h) };
      frame = framed_is printed h;
      whole = omega arith;
      answer = ap₂ answer_in (is_good_code printed.code h.code).value (take-length printed.body) ∙ answer;
      len_is = ap length whole ∙ length-append (print_response (head_in printed)) printed.body;
    }
