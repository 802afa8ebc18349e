-- What a known head says of bytes that begin with it.
use Rattle.std.proofs.Common.{◌≡◌, ℕ, ◌+◌, ◌-◌, ◌≤◌, true, false, inl, inr, List, [], ◌++◌, length, take, drop, Option, Some, None, Ok, is_some, refl, sym, ap, subst, ◌∙◌, append-nil, take-append-drop, length-take, arith}
use Rattle.std.specs.Io.KnownBytes.{Consumes}
use Rattle.std.proofs.lemmas.List.{drop_all, take_all}
use Rattle.std.specs.Str.{bytes_eq}
use Rattle.std.proofs.lemmas.Slice.Eq.{bytes_eq-Decides}
use Rattle.http_heads.specs.Heads.{after_blank, head_len}
use Rattle.http_heads.specs.Messages.{IsHead, IsMessage}
use Rattle.http_heads.specs.Readings.{Says}
use Rattle.http_heads.specs.declared.head.Head.{Head}
use Rattle.http_heads.specs.declared.request.Request.{Request}
use Rattle.http_heads.proofs.LengthLemmas.{head_len-front}
use Rattle.http_heads.proofs.SearchLemmas.{rest_of_slice}
use Rattle.http_heads.proofs.LeaveLemmas.{expects-no_body}
use Rattle.http_heads.proofs.MessageLemmas.{IsMessage-append}
use Rattle.http_front.specs.Held.{Takes}
use Rattle.http_front.specs.Known.{Known, IsKnown, plain_request}

-- bytes that begin with the head of a plain request begin with this request
pub known-front : (head bytes : List ℕ) (known : Known) → (head ≡ [] → ⊥) → IsKnown head known → bytes_eq head (take (length head) bytes) ≡ true
    → IsMessage bytes (plain_request known) (drop (length head) bytes)
known-front head bytes known some (inl none) begins = absurd (some none)
known-front head bytes known some (inr is) begins =
    let front : head ≡ take (length head) bytes = (bytes_eq-Decides head (take (length head) bytes)).0 begins in
    let whole : head ++ drop (length head) bytes ≡ bytes = ap (λ l. l ++ drop (length head) bytes) front ∙ take-append-drop (length head) bytes in
    subst (λ b. IsMessage b (plain_request known) (drop (length head) bytes)) whole (IsMessage-append (drop (length head) bytes) is)

-- the first bytes that are held, which are a head, are a head by themselves
pub head-front : (len start : ℕ) (bytes items held : List ℕ) → bytes ≡ items → drop start items ≡ held → len ≤ length held → head_len held ≡ Some len
    → let front = take len (take (length bytes - start) (drop start bytes)) in head_len front ≡ Some (length front)
head-front len start bytes items held same view within ends =
    let whole : take (length bytes - start) (drop start bytes) ≡ held = rest_of_slice start bytes ∙ ap (drop start) same ∙ view in
    let count : length (take len held) ≡ len = omega (arith, length-take len held, within) in
    subst (λ h. head_len (take len h) ≡ Some (length (take len h))) (sym whole) (head_len-front held len ends ∙ ap Some (sym count))

pub consumes-none : (left : Option (List ℕ)) → Consumes left left []
consumes-none None = tt
consumes-none (Some bytes) = refl

-- a request that is taken out of what was held alone
pub Takes-held : {old new : List ℕ} {request : Request} (left : Option (List ℕ)) → IsMessage old request new → Takes old new left left request
Takes-held {old} {new} {request} left is =
    record { more = []; is = subst (λ b. IsMessage b request new) (sym (append-nil old)) is; from = consumes-none left }

not_some : (text : Option (List ℕ)) → is_some text ≡ false → None ≡ text
not_some None is = refl
not_some (Some text) is = cc

-- a head that is noted is the whole message that its plain request is
pub known-noted : (items bytes : List ℕ) (said : Head) (known : Known) → items ≡ bytes → head_len bytes ≡ Some (length bytes) → Says (after_blank bytes) said
    → said.body ≡ 0 → said.last ≡ false → is_some said.upgrade ≡ false → said.origin ≡ false → is_some said.if_match ≡ false → known.method ≡ said.method → known.target ≡ said.target → IsKnown items known
known-noted items bytes said known same ends says no_body going plain own free method target = rw same (inr (record {
  len = length bytes;
  head = says.head;
  body = 0;
  has = record {
    ends = ends;
    is = subst (λ b. IsHead (after_blank b) says.head) (sym (take_all (length bytes) bytes (omega arith))) says.is;
  };
  framed = says.framed ∙ ap Ok no_body;
  whole = omega arith;
  method_is = method ∙ says.method_is;
  target_is = target ∙ says.target_is;
  body_is = refl;
  last_is = sym going ∙ says.last_is;
  expects_is = expects-no_body says.head;
  upgrade_is = not_some said.upgrade plain ∙ says.upgrade_is;
  origin_is = sym own ∙ says.origin_is;
  if_match_is = not_some said.if_match free ∙ says.if_match_is;
  rest_is = sym (drop_all (length bytes + 0) bytes (omega arith));
}))
