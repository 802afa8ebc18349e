-- Every text has a reading.
use Rattle.std.proofs.Common.{◌≡◌, ℕ, zero, suc, ◌+◌, ◌<◌, ◌≤◌, ◌⊎◌, inl, inr, Bool, true, false, List, [], ◌∷◌, length, take, drop, Option, Some, None, Result, Ok, Err, refl, sym, ap, ◌∙◌, arith, length-drop}
use Rattle.std.proofs.lemmas.Bool.{cases_lt}
use Rattle.httparse.specs.Grammar.{RequestHead}
use Rattle.http_heads.specs.declared.request.Request.{Request}
use Rattle.http_heads.specs.declared.request.HeadFault.{HeadFault}
use Rattle.http_heads.specs.declared.request.HeadFault.TheVariants.{H1, H2}
use Rattle.http_heads.specs.Limits.{max_head}
use Rattle.http_heads.specs.Heads.{is_line_byte, head_end, head_len, head_bytes}
use Rattle.http_heads.specs.Fields.{fields_of, framing, is_last, has_origin, if_match_of, expects_leave}
use Rattle.http_heads.specs.Upgrades.{upgrade_key}
use Rattle.http_heads.specs.Messages.{HasHead, IsMessage, IsBlank, IsCut, Ending, ended, cut, malformed, EndsAs, Splits}
use Rattle.http_heads.proofs.SearchLemmas.{head_end-blank, head_end-begins}
use Rattle.http_heads.proofs.LengthLemmas.{mapped}
use Rattle.http_heads.proofs.HeadLemmas.{HasFault-of_fields}
use Rattle.http_heads.proofs.MessageLemmas.{IsUnfinished-of_none, IsMalformed-fault}
use Rattle.http_heads.proofs.DecisionLemmas.{HeadOrNot, head_or_not}

-- a message takes bytes away
head_end-some : (bytes : List ℕ) (n : ℕ) → head_end bytes ≡ Some n → 0 < n
head_end-some [] n e = cc
head_end-some (b ∷ bytes) n e = by_test (is_line_byte b) refl
  where
    by_test : (t : Bool) → is_line_byte b ≡ t → 0 < n
    by_test true is = omega (arith, (mapped suc (head_end bytes) n (sym (head_end-blank b bytes is) ∙ e)).2)
    by_test false is = omega (arith, (mapped suc _ n (sym (head_end-begins b bytes is) ∙ e)).2)

head_len-some : (bytes : List ℕ) (n : ℕ) → head_len bytes ≡ Some n → 0 < n
unfolding head_len
head_len-some bytes n e = head_end-some (take max_head bytes) n e

rest-shorter : {bytes rest : List ℕ} {m : Request} → IsMessage bytes m rest → length rest < length bytes
rest-shorter {bytes} {rest} h =
    omega (arith, h.whole, head_len-some bytes h.len h.has.ends, ap length h.rest_is, length-drop (h.len + h.body) bytes)

-- what stands at the front of a text: a message and a rest, or an ending
abbrev Next : List ℕ → Type 0
Next bytes = ((m : Request) × (rest : List ℕ) × IsMessage bytes m rest) ⊎ ((ending : Ending) × EndsAs bytes ending)

next_framed : (bytes : List ℕ) (len : ℕ) (head : RequestHead) → HasHead bytes len head → (r : Result ℕ HeadFault) → framing (fields_of head) ≡ r → Next bytes
next_framed bytes len head has (Err fault) framed =
    inr (malformed fault, IsMalformed-fault bytes len fault has.ends (HasFault-of_fields fault (record { head = head; is = has.is; framed = framed })))
next_framed bytes len head has (Ok body) framed = by_length (cases_lt (length bytes) (len + body))
  where
    by_length : (length bytes < len + body) ⊎ (len + body ≤ length bytes) → Next bytes
    by_length (inl short) =
        inr (cut (length bytes), (inr (record { len = len; head = head; body = body; has = has; framed = framed; short = short }), refl))
    by_length (inr whole) =
        inl (
          record {
            method = head.method;
            target = head.target;
            body = take body (drop len bytes);
            last = is_last head;
            expects = expects_leave body head;
            upgrade = upgrade_key head;
            origin = has_origin head;
            if_match = if_match_of head;
          },
          drop (len + body) bytes,
          record {
            len = len;
            head = head;
            body = body;
            has = has;
            framed = framed;
            whole = whole;
            method_is = refl;
            target_is = refl;
            body_is = refl;
            last_is = refl;
            expects_is = refl;
            upgrade_is = refl;
            origin_is = refl;
            if_match_is = refl;
            rest_is = refl;
          },
        )

next_head : (bytes : List ℕ) (len : ℕ) → head_len bytes ≡ Some len → HeadOrNot (head_bytes len bytes) → Next bytes
next_head bytes len ends (inl h) = next_framed bytes len h.0 (record { ends = ends; is = h.1 }) (framing (fields_of h.0)) refl
next_head bytes len ends (inr none) = inr (malformed H1, record { len = len; ends = ends; refuted = none })

next_of : (bytes : List ℕ) (o : Option ℕ) → head_len bytes ≡ o → Next bytes
next_of bytes (Some len) ends = next_head bytes len ends (head_or_not (take len bytes))
next_of bytes None none = by_length (cases_lt (length bytes) max_head)
  where
    by_unfinished : IsBlank bytes ⊎ IsCut bytes → Next bytes
    by_unfinished (inl blank) = inr (ended, blank)
    by_unfinished (inr is_cut) = inr (cut (length bytes), (is_cut, refl))

    by_length : (length bytes < max_head) ⊎ (max_head ≤ length bytes) → Next bytes
    by_length (inl short) = by_unfinished (IsUnfinished-of_none bytes none short)
    by_length (inr long) = inr (malformed H2, record { none = none; long = long })

abbrev Reading : List ℕ → Type 0
Reading text = (messages : List Request) × (ending : Ending) × Splits text messages ending

reading_step : (text : List ℕ) → ((rest : List ℕ) → length rest < length text → Reading rest) → Next text → Reading text
reading_step text later (inr e) = ([], e.0, record { rest = text; begins = refl; ends = e.1 })
reading_step text later (inl m) =
    let read = later m.1 (rest-shorter m.2) in
    (m.0 ∷ read.0, read.1, record { rest = read.2.rest; begins = (m.1, m.2, read.2.begins); ends = read.2.ends })

reading_within : (n : ℕ) (text : List ℕ) → length text ≤ n → Reading text
reading_within zero text few = reading_step text (λ rest shorter. absurd (omega arith)) (next_of text (head_len text) refl)
reading_within (suc n) text few = reading_step text (λ rest shorter. reading_within n rest (omega arith)) (next_of text (head_len text) refl)

pub reading_of : (text : List ℕ) → (messages : List Request) × (ending : Ending) × Splits text messages ending
reading_of text = reading_within (length text) text (omega arith)
