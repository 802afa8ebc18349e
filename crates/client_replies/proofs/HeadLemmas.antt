-- Heads, what follows them, and how many fields they have.
use Rattle.std.proofs.Common.{◌≡◌, ◌≢◌, ℕ, ◌*◌, ◌<◌, ◌≤◌, inr, List, [], ◌∷◌, ◌++◌, length, take, drop, min, map, ◌==◌, Bool, true, false, flat_map, All, None, refl, sym, ap, ◌∙◌, subst, arith, append-nil, length-append, take-append-drop, length-take}
use Rattle.std.proofs.lemmas.List.{take_min}
use Rattle.std.proofs.lemmas.List.Elements.{All-head, All-tail}
use Rattle.std.proofs.lemmas.Bool.{eqb-true}
use Rattle.httparse.specs.Grammar.{LineEnd, crlf, lf, print_end, print_blank, print_version, print_reason, Field, print_field, IsField, ResponseHead, print_response, ReadsResponse, NeverHasResponse}
use Rattle.httparse.specs.Spans.{ResponseExceeds, name_and_value}
use Rattle.httparse.specs.declared.Error.{Error}
use Rattle.httparse.specs.declared.Error.TheVariants.{TooManyHeaders}
use Rattle.httparse.proofs.GrammarLemmas.{ReadsResponse-append}
use Rattle.client_replies.specs.Limits.{max_head}
use Rattle.client_replies.specs.Fields.{body_length, framed}
use Rattle.client_replies.specs.Replies.{HasHead, IsUnframed}
use Rattle.client_replies.specs.Heads.{IsSettled, IsFront}
use Rattle.client_replies.specs.declared.head.Front.{Front}
use Rattle.client_replies.specs.declared.head.Front.TheVariants as front

-- ---- a head has few fields

end_long : (end : LineEnd) → 1 ≤ length (print_end end)
end_long crlf = omega arith
end_long lf = omega arith

field_long : (f : Field) → IsField f → 3 ≤ length (print_field f)
field_long f h =
    omega (arith, h.name.0, end_long f.end, length-append (f.name ++ 58 ∷ f.raw) (print_end f.end), length-append f.name (58 ∷ f.raw))

fields_long : (fs : List Field) → All IsField fs → 3 * length fs ≤ length (flat_map print_field fs)
fields_long [] h = omega arith
fields_long (f ∷ fs) h =
    omega (arith, field_long f (All-head IsField f fs h), fields_long fs (All-tail IsField f fs h), length-append (print_field f) (flat_map print_field fs))

head_long : (h : ResponseHead) → All IsField h.fields → 3 * length h.fields ≤ length (print_response h)
unfolding print_response
head_long h all =
    let lines = flat_map print_field h.fields in
    let front = print_blank h.blank ++ print_version h.minor ++ 32 ∷ h.digits ++ print_reason h.reason ++ print_end h.line_end in
    omega (arith, fields_long h.fields all, length-append lines (print_end h.last), length-append front (lines ++ print_end h.last))

-- as many bytes as a head may have do not have more fields than there is room for
pub never_crowded : (bytes : List ℕ) → length bytes ≤ max_head → ResponseExceeds 5461 bytes → ⊥
never_crowded bytes short crowd = at crowd.0 crowd.1 crowd.2 crowd.3 crowd.4 crowd.5
  where
    at : (start rest : List ℕ) → bytes ≡ start ++ rest → (h : ResponseHead) → ReadsResponse (start ++ print_end lf) h [] → 5461 < length h.fields → ⊥
    at start rest e h reads many =
        let whole : start ++ 10 ∷ [] ≡ print_response h = reads.1 ∙ append-nil (print_response h) in
        omega (arith, head_long h reads.0.fields, ap length whole, length-append start (10 ∷ []), ap length e, length-append start rest, short, many)

-- ---- what a whole head gives, with more bytes behind it

pub HasHead-append : {bytes rest : List ℕ} {head : ResponseHead} (more : List ℕ) → HasHead bytes head rest → HasHead (bytes ++ more) head (rest ++ more)
HasHead-append {bytes} {rest} {head} more h = record { reads = ReadsResponse-append bytes head rest more h.reads; short = h.short }

pub IsUnframed-append : {bytes : List ℕ} (more : List ℕ) → IsUnframed bytes → IsUnframed (bytes ++ more)
IsUnframed-append more h = record { head = h.head; rest = h.rest ++ more; has = HasHead-append more h.has; frame = h.frame }

pub settled_front : (bytes more : List ℕ) (f : Front) → IsSettled bytes f → IsFront (bytes ++ more) f
settled_front bytes more front.Open h = absurd h
settled_front bytes more front.Wrong h = inr (inr (IsUnframed-append more h))
settled_front bytes more (front.Head code len body) h = record {
  head = h.head;
  rest = h.rest ++ more;
  has = HasHead-append more h.has;
  code_is = h.code_is;
  len_is = h.len_is;
  frame = h.frame;
}

-- ---- what the parts of a head say

pub framed_not : (head : ResponseHead) → head.minor ≢ 1 → framed head ≡ None
unfolding framed
framed_not head other = at (head.minor == 1) refl
  where
    at : (b : Bool) → (head.minor == 1) ≡ b → framed head ≡ None
    at true is = absurd (other (eqb-true head.minor 1 is))
    at false is = rw is refl

pub framed_by : (head : ResponseHead) (fields : List (List ℕ × List ℕ)) → head.minor ≡ 1 → fields ≡ map name_and_value head.fields → framed head ≡ body_length fields
unfolding framed
framed_by head fields minor same = rw minor (ap body_length (sym same))

-- ---- the first bytes, as many as a head may have

pub window_is : (n : ℕ) (bytes : List ℕ) → n ≡ min 16384 (length bytes) → take n bytes ≡ take max_head bytes
window_is n bytes e = ap (λ k. take k bytes) e ∙ take_min max_head bytes

pub settled_here : (n : ℕ) (bytes : List ℕ) (f : Front) → IsSettled (take n bytes) f → IsFront bytes f
settled_here n bytes f h = subst (λ l. IsFront l f) (take-append-drop n bytes) (settled_front (take n bytes) (drop n bytes) f h)

pub never_here : (n : ℕ) (bytes : List ℕ) (e : Error) → n ≡ min 16384 (length bytes)
    → (e ≢ TooManyHeaders → NeverHasResponse (take n bytes)) → (e ≡ TooManyHeaders → ResponseExceeds 5461 (take n bytes))
    → NeverHasResponse (take max_head bytes)
never_here n bytes e is other crowd = subst NeverHasResponse (window_is n bytes is) (other (λ same. never_crowded (take n bytes) (omega (arith, length-take n bytes, is)) (crowd same)))
