-- Steps of the search for the end of a head.
use Rattle.std.proofs.Common.{◌≡◌, ℕ, zero, suc, ◌+◌, ◌-◌, ◌<◌, ◌≤◌, ◌==◌, true, false, cond, List, [], ◌∷◌, ◌++◌, length, take, drop, get_or, Option, Some, None, Result, Ok, Err, IfOk, IfErr, refl, sym, ap, ◌∙◌, subst, arith, append-nil, append_assoc, length-append, length-drop, get_or-drop, add-zero}
use Rattle.std.specs.Option.{option_map, option_or}
use Rattle.std.proofs.lemmas.List.{drop_more, drop_all, drop-append-le, get_or_append_left}
use Rattle.std.proofs.lemmas.Bool.{cond-false, false_from_ne_true}
use Rattle.std.proofs.Math.Seq.{take-length}
use Rattle.memchr.specs.Find.{Nowhere, Passes, is_byte}
use Rattle.http_heads.specs.Heads.{is_line_byte, blank_len, line_end, empty_line_end, head_end}
use Rattle.http_heads.specs.declared.search.Search.{Search}
use Rattle.http_heads.specs.declared.search.Search.TheVariants.{Blank, Lines}
use Rattle.http_heads.specs.Search.{resumed, FindsSame, GoesOn, HasSearched, Follows, StandsAt}
use Rattle.http_heads.specs.declared.search.After.{After}
use Rattle.http_heads.specs.declared.search.After.TheVariants.{LineEnd, Other, Open}

-- a slice to the end of a list
pub rest_of_slice : (n : ℕ) (bytes : List ℕ) → take (length bytes - n) (drop n bytes) ≡ drop n bytes
rest_of_slice n bytes =
    ap (λ k. take k (drop n bytes)) (sym (length-drop n bytes)) ∙ take-length (drop n bytes)

pub drop_front : (n : ℕ) (bytes more : List ℕ) → n < length bytes
    → drop n (bytes ++ more) ≡ get_or bytes n 0 ∷ drop (n + 1) (bytes ++ more)
drop_front n bytes more h =
    drop_more (bytes ++ more) n 0 (omega (arith, length-append bytes more))
    ∙ ap (λ b. b ∷ drop (n + 1) (bytes ++ more)) (get_or_append_left bytes more 0 n h)

suc_after : (n : ℕ) (o : Option ℕ) → option_map (λ k. n + k) (option_map suc o) ≡ option_map (λ k. n + 1 + k) o
suc_after n None = refl
suc_after n (Some k) = ap Some (omega arith)

suc_before : (n : ℕ) (o : Option ℕ) → option_map (λ k. suc n + k) o ≡ option_map suc (option_map (λ k. n + k) o)
suc_before n None = refl
suc_before n (Some k) = ap Some (omega arith)

zero_after : (o : Option ℕ) → option_map (λ k. 0 + k) o ≡ o
zero_after None = refl
zero_after (Some k) = ap Some (omega arith)

-- a CR or LF before a head
pub head_end-blank : (b : ℕ) (bytes : List ℕ) → is_line_byte b ≡ true → head_end (b ∷ bytes) ≡ option_map suc (head_end bytes)
head_end-blank b bytes is = rw is (suc_before (blank_len bytes) (empty_line_end (drop (blank_len bytes) bytes)))

-- the first byte of a head
pub head_end-begins : (b : ℕ) (bytes : List ℕ) → is_line_byte b ≡ false → head_end (b ∷ bytes) ≡ empty_line_end (b ∷ bytes)
head_end-begins b bytes is = rw is (zero_after (empty_line_end (b ∷ bytes)))

pub begin_step : (n b : ℕ) (bytes : List ℕ) → drop n bytes ≡ b ∷ drop (n + 1) bytes → is_line_byte b ≡ false
    → resumed (Blank n) bytes ≡ resumed (Lines n) bytes
begin_step n b bytes at is =
    ap (λ l. option_map (λ k. n + k) (head_end l)) at
    ∙ ap (option_map (λ k. n + k)) (head_end-begins b (drop (n + 1) bytes) is)
    ∙ ap (λ l. option_map (λ k. n + k) (empty_line_end l)) (sym at)

-- what stands after a byte, if it is an LF
abbrev pub end_past : ℕ → List ℕ → Option ℕ
end_past b bytes = cond (b == 10) (line_end bytes) None

pub line_step : (n b : ℕ) (bytes : List ℕ) → drop n bytes ≡ b ∷ drop (n + 1) bytes → end_past b (drop (n + 1) bytes) ≡ None
    → resumed (Lines n) bytes ≡ resumed (Lines (n + 1)) bytes
line_step n b bytes at none =
    ap (λ l. option_map (λ k. n + k) (empty_line_end l)) at
    ∙ ap (λ o. option_map (λ k. n + k) (option_map suc (option_or o (empty_line_end (drop (n + 1) bytes))))) none
    ∙ suc_after n (empty_line_end (drop (n + 1) bytes))

pub found_step : (n b len : ℕ) (bytes : List ℕ) → drop n bytes ≡ b ∷ drop (n + 1) bytes → end_past b (drop (n + 1) bytes) ≡ Some len
    → resumed (Lines n) bytes ≡ Some (n + 1 + len)
found_step n b len bytes at some =
    ap (λ l. option_map (λ k. n + k) (empty_line_end l)) at
    ∙ ap (λ o. option_map (λ k. n + k) (option_map suc (option_or o (empty_line_end (drop (n + 1) bytes))))) some
    ∙ ap Some (omega arith)

pub lines_at_end : (n : ℕ) (bytes : List ℕ) → length bytes ≤ n → resumed (Lines n) bytes ≡ None
lines_at_end n bytes past = ap (λ l. option_map (λ k. n + k) (empty_line_end l)) (drop_all n bytes past)

pub blank_at_end : (n : ℕ) (bytes : List ℕ) → length bytes ≤ n → resumed (Blank n) bytes ≡ None
blank_at_end n bytes past = ap (λ l. option_map (λ k. n + k) (head_end l)) (drop_all n bytes past)

-- the same search over these bytes alone
pub same_here : {s t : Search} {bytes : List ℕ} → FindsSame s t bytes → resumed s bytes ≡ resumed t bytes
same_here {s} {t} {bytes} same = subst (λ l. resumed s l ≡ resumed t l) (append-nil bytes) (same.with [])

pub same_further : {s t u : Search} {bytes : List ℕ} → FindsSame s t bytes → FindsSame t u bytes → FindsSame s u bytes
same_further a b = record { with = λ more. a.with more ∙ b.with more }

-- a head begins at the place
pub begins_here : (n : ℕ) (bytes : List ℕ) → n < length bytes → is_line_byte (get_or bytes n 0) ≡ false → FindsSame (Blank n) (Lines n) bytes
begins_here n bytes h other = record {
  with = λ more. begin_step n (get_or bytes n 0) (bytes ++ more) (drop_front n bytes more h) other;
}

-- a search that goes on from where another one has come
pub GoesOn-further : {s t : Search} {bytes : List ℕ} (r : Result ℕ Search) → FindsSame s t bytes → GoesOn bytes t r → GoesOn bytes s r
GoesOn-further (Ok len) same found = same_here same ∙ found
GoesOn-further (Err reached) same none = (same_here same ∙ none.0, none.1, same_further same none.2)

HasSearched-here : {s : Search} {bytes : List ℕ} → HasSearched s bytes → head_end bytes ≡ resumed s bytes
HasSearched-here {s} {bytes} h = subst (λ l. head_end l ≡ resumed s l) (append-nil bytes) (h.same [])

-- the same search over more bytes
pub HasSearched-append : (s : Search) (bytes more : List ℕ) → HasSearched s bytes → HasSearched s (bytes ++ more)
HasSearched-append s bytes more h = record {
  within = omega (arith, h.within, length-append bytes more);
  same = λ ys. subst (λ l. head_end l ≡ resumed s l) (sym (append_assoc bytes more ys)) (h.same (more ++ ys));
}

-- an LF stands at the place, and what follows it was looked at
pub StandsAt-follows : (bytes : List ℕ) (at : ℕ) (after : After) → at < length bytes → get_or bytes at 0 ≡ 10
    → Follows (drop (at + 1) bytes) after → StandsAt bytes at after
StandsAt-follows bytes at after h is follows = by_case after follows
  where
    following : (more : List ℕ) → drop (at + 1) (bytes ++ more) ≡ drop (at + 1) bytes ++ more
    following more = drop-append-le (at + 1) bytes more (omega arith)

    at_front : (more : List ℕ) → drop at (bytes ++ more) ≡ 10 ∷ drop (at + 1) (bytes ++ more)
    at_front more = drop_front at bytes more h ∙ ap (λ b. b ∷ drop (at + 1) (bytes ++ more)) is

    here : drop at bytes ≡ 10 ∷ drop (at + 1) bytes
    here = drop_more bytes at 0 h ∙ ap (λ b. b ∷ drop (at + 1) bytes) is

    by_case : (a : After) → Follows (drop (at + 1) bytes) a → StandsAt bytes at a
    by_case (LineEnd n) f = (
      omega (arith, f.0, length-drop (at + 1) bytes),
      found_step at 10 n bytes here (ap line_end (sym (append-nil (drop (at + 1) bytes))) ∙ f.1 []),
    )
    by_case Other f = record {
      with = λ more. line_step at 10 (bytes ++ more) (at_front more) (ap line_end (following more) ∙ f more);
    }
    by_case Open f =
        ap (λ l. option_map (λ k. at + k) (empty_line_end l)) here ∙ ap (option_map (λ k. at + k)) f

-- where a search that has come to a place goes on
pub HasSearched-ok : {s : Search} {bytes : List ℕ} (r : Result ℕ Search) → HasSearched s bytes → GoesOn bytes s r
    → IfOk r (λ len. head_end bytes ≡ Some len)
HasSearched-ok (Ok len) h found = HasSearched-here h ∙ found
HasSearched-ok (Err reached) h none = tt

pub HasSearched-none : {s : Search} {bytes : List ℕ} (r : Result ℕ Search) → HasSearched s bytes → GoesOn bytes s r
    → IfErr r (λ reached. head_end bytes ≡ None)
HasSearched-none (Ok len) h found = tt
HasSearched-none (Err reached) h none = HasSearched-here h ∙ none.0

pub HasSearched-further : {s : Search} {bytes : List ℕ} (r : Result ℕ Search) → HasSearched s bytes → GoesOn bytes s r
    → IfErr r (λ reached. HasSearched reached bytes)
HasSearched-further (Ok len) h found = tt
HasSearched-further (Err reached) h none = record { within = none.1; same = λ more. h.same more ∙ none.2.with more }

-- ---- bytes among which no LF stands

past_byte : (n : ℕ) (bytes : List ℕ) → n < length bytes → (get_or bytes n 0 == 10) ≡ false → FindsSame (Lines n) (Lines (n + 1)) bytes
past_byte n bytes h other = record {
  with = λ more. line_step n (get_or bytes n 0) (bytes ++ more) (drop_front n bytes more h) (cond-false _ _ _ other);
}

past_bytes : (n count : ℕ) (bytes : List ℕ) → n + count ≤ length bytes → ((k : ℕ) → k < count → (get_or bytes (n + k) 0 == 10) ≡ false)
    → FindsSame (Lines n) (Lines (n + count)) bytes
past_bytes n zero bytes within other = record { with = λ more. ap (λ at. resumed (Lines at) (bytes ++ more)) (sym (add-zero n)) }
past_bytes n (suc count) bytes within other =
    let before = past_bytes n count bytes (omega arith) (λ k low. other k (omega arith)) in
    let last = past_byte (n + count) bytes (omega arith) (other count (omega arith)) in
    let next : n + count + 1 ≡ n + suc count = omega arith in
    subst (λ at. FindsSame (Lines n) (Lines at) bytes) next (same_further before last)

-- the bytes from a place on have no LF before this one of them
pub past_nowhere : (n count : ℕ) (bytes : List ℕ) → n + count ≤ length bytes → Nowhere (Passes (is_byte 10) (drop n bytes)) 0 count
    → FindsSame (Lines n) (Lines (n + count)) bytes
past_nowhere n count bytes within none =
    past_bytes n count bytes within (λ k low. false_from_ne_true _ (λ is. none k (omega arith) low (ap (λ b. b == 10) (get_or-drop n bytes k 0) ∙ is)))
