-- Replies one after the other.
use Rattle.std.proofs.Common.{◌≡◌, ℕ, List, [], ◌∷◌, ◌++◌, length, drop, refl, sym, ap, ap₂, ◌∙◌, subst}
use Rattle.std.proofs.lemmas.List.{drop-append-le}
use Rattle.client_replies.specs.Forms.{Told}
use Rattle.client_replies.specs.Replies.{IsReply, Begins}
use Rattle.client_replies.proofs.ReplyLemmas.{one_reply, reply_within, IsReply-append}

-- more bytes behind them
pub Begins-more : (bytes rest more : List ℕ) (ts : List Told) → Begins bytes ts rest → Begins (bytes ++ more) ts (rest ++ more)
Begins-more bytes rest more [] h = ap (λ l. l ++ more) h
Begins-more bytes rest more (t ∷ ts) h = (
  h.0,
  IsReply-append more h.1,
  subst (λ l. Begins l ts (rest ++ more)) (sym (drop-append-le h.0 bytes more (reply_within h.1)))
      (Begins-more (drop h.0 bytes) rest more ts h.2),
)

-- replies behind them
pub Begins-append : (bytes middle rest : List ℕ) (ts us : List Told) → Begins bytes ts middle → Begins middle us rest → Begins bytes (ts ++ us) rest
Begins-append bytes middle rest [] us first second = subst (λ l. Begins l us rest) first second
Begins-append bytes middle rest (t ∷ ts) us first second =
    (first.0, first.1, Begins-append (drop first.0 bytes) middle rest ts us first.2 second)

-- as many replies are the same
pub one_list : (bytes rest other : List ℕ) (ts us : List Told) → Begins bytes ts rest → Begins bytes us other → length ts ≡ length us
    → (ts ≡ us) × (rest ≡ other)
one_list bytes rest other [] [] h k e = (refl, h ∙ sym k)
one_list bytes rest other [] (u ∷ us) h k e = cc
one_list bytes rest other (t ∷ ts) [] h k e = cc
one_list bytes rest other (t ∷ ts) (u ∷ us) h k e =
    let one = one_reply h.1 k.1 in
    let later = one_list (drop h.0 bytes) rest other ts us h.2 (subst (λ n. Begins (drop n bytes) us other) (sym one.1) k.2) (cc) in
    (ap₂ (λ x xs. x ∷ xs) one.0 later.0, later.1)
