-- What the fields of a head can be, what its method is, and what is taken of a value.
use Rattle.std.proofs.Common.{◌≡◌, ℕ, suc, ◌<◌, ◌==◌, Bool, true, false, cond, IsTrue, List, [], ◌∷◌, length, Ok, Err, IfErr, codes, nat_lt, nat_le, refl, subst, arith}
use Rattle.std.specs.Prelude.{IsUtf8}
use Rattle.std.specs.List.{list_all}
use Rattle.std.specs.Char.{is_ascii}
use Rattle.std.specs.Str.{IsAscii}
use Rattle.std.specs.Str.Parse.{digits_value}
use Rattle.std.proofs.lemmas.Str.{IsUtf8-from_ascii}
use Rattle.std.proofs.lemmas.Str.Ascii.{IsAscii-from_all}
use Rattle.std.proofs.lemmas.List.Elements.{All-weaker}
use Rattle.std.proofs.lemmas.Bool.Decides.{nat_tests}
use Rattle.httparse.specs.Grammar.{is_token_byte, IsToken}
use Rattle.http_heads.specs.declared.request.HeadFault.{HeadFault}
use Rattle.http_heads.specs.declared.request.HeadFault.TheVariants.{H1, H2, H3, H4, H5}
use Rattle.http_heads.specs.Limits.{max_body}
use Rattle.http_heads.specs.Fields.{values_of, is_length, length_in, length_of, framing, fields_of, ascii_or_empty}
use Rattle.http_heads.specs.Readings.{IsHeadWith, HasFault}

-- the headers alone have no other fault
abbrev IsOfFields : HeadFault → Type 0
IsOfFields H1 = ⊥
IsOfFields H2 = ⊥
IsOfFields H3 = Unit {0}
IsOfFields H4 = Unit {0}
IsOfFields H5 = ⊥

length_in-fault : (text : List ℕ) → IfErr (length_in text) IsOfFields
unfolding length_in
length_in-fault text = by_tests (is_length text) (nat_le (digits_value 10 text) max_body)
  where
    by_tests : (a b : Bool) → IfErr (cond a (cond b (Ok (digits_value 10 text)) (Err H4)) (Err H3)) IsOfFields
    by_tests true true = tt
    by_tests true false = tt
    by_tests false b = tt

length_of-fault : (values : List (List ℕ)) → IfErr (length_of values) IsOfFields
length_of-fault [] = tt
length_of-fault (text ∷ []) = length_in-fault text
length_of-fault (text ∷ other ∷ more) = tt

framing-fault : (fields : List (List ℕ × List ℕ)) → IfErr (framing fields) IsOfFields
unfolding framing
framing-fault fields = by_test (length (values_of (codes "transfer-encoding") fields) == 0)
  where
    lengths : List (List ℕ)
    lengths = values_of (codes "content-length") fields

    by_test : (a : Bool) → IfErr (cond a (length_of lengths) (Err H3)) IsOfFields
    by_test true = length_of-fault lengths
    by_test false = tt

-- a fault of the headers is one of the text
pub HasFault-of_fields : {text : List ℕ} (fault : HeadFault) (h : IsHeadWith text fault) → HasFault text fault
HasFault-of_fields {text} fault h = by_fault fault h (subst (λ r. IfErr r IsOfFields) h.framed (framing-fault (fields_of h.head)))
  where
    by_fault : (f : HeadFault) → IsHeadWith text f → IsOfFields f → HasFault text f
    by_fault H1 g never = absurd never
    by_fault H2 g never = absurd never
    by_fault H3 g ok = g
    by_fault H4 g ok = g
    by_fault H5 g never = absurd never

token_byte-ascii : (b : ℕ) → IsTrue (is_token_byte b) → b < 128
unfolding is_token_byte
token_byte-ascii b h = grind (arith, nat_tests)

-- a method is text
pub IsUtf8-token : (bytes : List ℕ) → IsToken bytes → IsUtf8 bytes
IsUtf8-token bytes h = IsUtf8-from_ascii bytes (IsAscii-from_all bytes (All-weaker _ _ token_byte-ascii bytes h.1))

ascii_byte : {b : ℕ} → b < 128 → nat_lt b 128 ≡ true
ascii_byte h = grind (arith, nat_tests)

all_ascii : (value : List ℕ) → IsAscii value → list_all is_ascii value ≡ true
all_ascii [] h = refl
all_ascii (b ∷ value) h = rw (ascii_byte (h 0), all_ascii value (λ i. h (suc i))) refl

-- a value of ASCII bytes is taken as it is
pub taken-ascii : (value : List ℕ) → IsAscii value → value ≡ ascii_or_empty value
taken-ascii value h = rw (all_ascii value h) refl
