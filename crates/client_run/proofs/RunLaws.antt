-- A command that is replied to well ends well.
use Rattle.std.proofs.Common.{◌≡◌, ℕ, ◌⊎◌, inl, inr, List, [], ◌∷◌, ◌++◌, drop, Option, Some, None, refl, sym, ap, ap₂, ◌∙◌, subst, append-nil}
use Rattle.std.specs.Io.KnownBytes.{Consumes, IsAtEnd}
use Rattle.size_values.specs.Causes.{Rose}
use Rattle.http_front.specs.Held.{IsOver}
use Rattle.client_replies.specs.Forms.{Told}
use Rattle.client_replies.specs.Replies.{IsReply, Begins, HasBegun, IsMalformed}
use Rattle.client_replies.proofs.ReplyLemmas.{one_reply, begun_reply, malformed_reply, IsMalformed-append}
use Rattle.client_replies.proofs.ListLemmas.{Begins-more}
use Rattle.client_words.specs.declared.words.ClientWords.{ClientWords}
use Rattle.client_steps.specs.Runs.{status_of}
use Rattle.client_steps.proofs.RunLemmas.{once}
use Rattle.client_run.specs.Talks.{Reads}
use Rattle.client_run.specs.Sessions.{Outside, Ran, status_in}
use Rattle.client_run.specs.Laws.{IsFaultless, EndsWell}
use Rattle.client_run.specs.declared.course.Course.{Course}
use Rattle.client_run.specs.declared.course.Course.TheVariants as course

same_value : {X : Type 0} {x y : X} → Some x ≡ Some y → x ≡ y
same_value e = cc

not_none : {X : Type 0} {o : Option X} {x : X} → o ≡ None → o ≡ Some x → ⊥
not_none none some = let e = sym none ∙ some in cc

-- ---- of two lists of replies of the same bytes, one goes on where the other ends

record Later (rs ts : List Told) (r1 r2 : List ℕ) : Type 0 where
  more : List Told
  all : ts ≡ rs ++ more
  begins : Begins r1 more r2

later_more : {r1 r2 : List ℕ} {rs ts : List Told} (t u : Told) → t ≡ u → Later rs ts r1 r2 → Later (t ∷ rs) (u ∷ ts) r1 r2
later_more t u same h = record { more = h.more; all = ap₂ (λ x xs. x ∷ xs) (sym same) h.all; begins = h.begins }

one_goes_on : (bytes r1 r2 : List ℕ) (rs ts : List Told) → Begins bytes rs r1 → Begins bytes ts r2 → Later rs ts r1 r2 ⊎ Later ts rs r2 r1
one_goes_on bytes r1 r2 [] ts h k = inl (record { more = ts; all = refl; begins = subst (λ b. Begins b ts r2) (sym h) k })
one_goes_on bytes r1 r2 (r ∷ rs) [] h k = inr (record { more = r ∷ rs; all = refl; begins = subst (λ b. Begins b (r ∷ rs) r1) (sym k) h })
one_goes_on bytes r1 r2 (r ∷ rs) (t ∷ ts) h k =
    let one = one_reply h.1 k.1 in
    by_part (one_goes_on (drop h.0 bytes) r1 r2 rs ts h.2 (subst (λ n. Begins (drop n bytes) ts r2) (sym one.1) k.2)) one.0
  where
    by_part : Later rs ts r1 r2 ⊎ Later ts rs r2 r1 → r ≡ t → Later (r ∷ rs) (t ∷ ts) r1 r2 ⊎ Later (t ∷ ts) (r ∷ rs) r2 r1
    by_part (inl first) same = inl (later_more r t same first)
    by_part (inr second) same = inr (later_more t r (sym same) second)

-- ---- the status of a part, and that of the whole

status_later : (words : ClientWords) (rs us ts : List Told) (s z : ℕ) → ts ≡ rs ++ us → status_of words rs ≡ Some s → status_of words ts ≡ Some z → s ≡ z
status_later words rs us ts s z all part whole = same_value (sym (once words rs us s part).0 ∙ ap (status_of words) (sym all) ∙ whole)

-- ---- the replies that were read, of all that the link has left

all_begin : (before after : Outside) {rs : List Told} {held bytes left : List ℕ} → Reads [] held before.left after.left rs → before.left ≡ Some bytes → after.left ≡ Some left
    → Begins bytes rs (held ++ left)
all_begin before after {rs} {held} {bytes} {left} r e f =
    let from : Consumes (Some bytes) (Some left) r.more = subst (λ l. Consumes l (Some left) r.more) e (subst (λ l. Consumes before.left l r.more) f r.from) in
    subst (λ b. Begins b rs (held ++ left)) (sym from) (Begins-more r.more held left rs r.begins)

-- what is no reply yet, at the end of a link, is none at all
no_more : {t : Told} {n : ℕ} (held left : List ℕ) (after : Outside) → IsMalformed held ⊎ (HasBegun held × IsOver after.ended after.left) → after.left ≡ Some left
    → IsReply (held ++ left) t n → ⊥
no_more {t} {n} held left after (inl bad) f reply = malformed_reply (IsMalformed-append held left bad) reply
no_more {t} {n} held left after (inr over) f reply =
    let none : left ≡ [] = at after.left f over.1.none in
    begun_reply over.0 (subst (λ l. IsReply l t n) (ap (λ l. held ++ l) none ∙ append-nil held) reply)
  where
    at : (o : Option (List ℕ)) → o ≡ Some left → IsAtEnd o → left ≡ []
    at None e h = cc
    at (Some xs) e h = sym (same_value e) ∙ h

-- ---- by the course of the run

-- the replies that were read are no more than those that end it
fewer : {words : ClientWords} {before after : Outside} (left rest : List ℕ) (taken : Course) (r : Ran words before after taken) (us : List Told)
    → Begins (r.rest ++ left) us rest → after.left ≡ Some left
    → status_of words (r.replies ++ us) ≡ Some 0 → IsFaultless before after → (status_in taken ≡ 0) ⊎ (status_in taken ≡ 9)
fewer {words} left rest (course.Ended s) r us begins f whole clean = inl (status_later words r.replies us (r.replies ++ us) s 0 refl r.ends whole)
fewer left rest course.Unread r us begins f whole clean = absurd r.sends
fewer {words} left rest course.Malformed r [] begins f whole clean =
    absurd (not_none r.ends.0 (ap (status_of words) (sym (append-nil r.replies)) ∙ whole))
fewer {words} {before} {after} left rest course.Malformed r (u ∷ us) begins f whole clean = absurd (no_more r.rest left after r.ends.1 f begins.1)
fewer {words} {before} {after} left rest course.LinkFailed r us begins f whole clean = absurd (at r.ends.1)
  where
    at : Rose before.reads_failed after.reads_failed ⊎ Rose before.writes_failed after.writes_failed → ⊥
    at (inl rose) = clean.reads rose
    at (inr rose) = clean.writes rose
fewer left rest course.PrintFailed r us begins f whole clean = absurd (clean.prints r.ends.1)
fewer left rest course.NoMemory r us begins f whole clean = inr refl

-- or they are those and more
more : {words : ClientWords} {before after : Outside} (taken : Course) (r : Ran words before after taken)
    → status_of words r.replies ≡ Some 0 → IsFaultless before after → (status_in taken ≡ 0) ⊎ (status_in taken ≡ 9)
more (course.Ended s) r whole clean = inl (same_value (sym r.ends ∙ whole))
more course.Unread r whole clean = absurd r.sends
more course.Malformed r whole clean = absurd (not_none r.ends.0 whole)
more course.LinkFailed r whole clean = absurd (not_none r.ends.0 whole)
more course.PrintFailed r whole clean = absurd (clean.prints r.ends.1)
more course.NoMemory r whole clean = inr refl

-- a link that told its bytes tells what is left of them
still_told : (l m : Option (List ℕ)) (bytes read : List ℕ) → l ≡ Some bytes → Consumes l m read → (left : List ℕ) × (m ≡ Some left)
still_told None m bytes read e from = cc
still_told (Some xs) None bytes read e from = absurd from
still_told (Some xs) (Some ys) bytes read e from = (ys, refl)

pub ends_well : EndsWell
ends_well words before after status bytes rest replies runs e begins well clean =
    let r = runs.goes in
    let left = still_told before.left after.left bytes r.reads.more e r.reads.from in
    by_part (one_goes_on bytes (r.rest ++ left.0) rest r.replies replies (all_begin before after r.reads e left.1) begins) left.0 left.1 refl
  where
    by_status : (status_in runs.taken ≡ 0) ⊎ (status_in runs.taken ≡ 9) → (status ≡ 0) ⊎ (status ≡ 9)
    by_status (inl zero) = inl (runs.status_is ∙ zero)
    by_status (inr nine) = inr (runs.status_is ∙ nine)

    by_part : {r1 : List ℕ} → Later runs.goes.replies replies r1 rest ⊎ Later replies runs.goes.replies rest r1
        → (left : List ℕ) → after.left ≡ Some left → r1 ≡ runs.goes.rest ++ left → (status ≡ 0) ⊎ (status ≡ 9)
    by_part (inl h) left f at =
        by_status (fewer left rest runs.taken runs.goes h.more (subst (λ b. Begins b h.more rest) at h.begins) f (ap (status_of words) (sym h.all) ∙ well) clean)
    by_part (inr h) left f at =
        by_status (more runs.taken runs.goes (ap (status_of words) h.all ∙ (once words replies h.more 0 well).0) clean)
