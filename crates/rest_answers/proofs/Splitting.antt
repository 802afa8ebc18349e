-- What a text that begins with messages has after them.
use Rattle.std.proofs.Common.{◌≡◌, ◌++◌, ℕ, List, [], ◌∷◌, refl, ap, sym, ◌∙◌, subst}
use Rattle.http_heads.specs.Messages.{Begins, Splits, Ending, EndsAs}
use Rattle.http_heads.specs.declared.request.Request.{Request}
use Rattle.http_heads.proofs.MessageLemmas.{message_unique, ending_message, ending_unique}

-- where a text begins with messages, its reading begins with them too, and goes on with that of the rest
pub record GoesOn (rest : List ℕ) (begun messages : List Request) (ending : Ending) : Type 0 where
  pub more : List Request
  pub messages_are : messages ≡ begun ++ more
  pub rest_splits : Splits rest more ending

-- a text that begins with messages goes on after them
pub splits_after : (text rest : List ℕ) (begun messages : List Request) (ending : Ending) → Begins text begun rest
    → Splits text messages ending → GoesOn rest begun messages ending
splits_after text rest [] messages ending begins splits = record {
  more = messages;
  messages_are = refl;
  rest_splits = subst (λ bytes. Splits bytes messages ending) (sym begins) splits;
}
splits_after text rest (m ∷ begun) [] ending begins splits =
    absurd (ending_message text ending (subst (λ bytes. EndsAs bytes ending) splits.begins splits.ends) begins.1)
splits_after text rest (m ∷ begun) (n ∷ messages) ending begins splits =
    let same : (m ≡ n) × (begins.0 ≡ splits.begins.0) = message_unique begins.1 splits.begins.1 in
    let far : GoesOn rest begun messages ending = splits_after begins.0 rest begun messages ending begins.2
    (record {
      rest = splits.rest;
      begins =
          subst (λ bytes. Begins bytes messages splits.rest) (sym same.1) splits.begins.2;
      ends = splits.ends;
    }) in
    record {
      more = far.more;
      messages_are = ap (λ x. x ∷ messages) (sym same.0)
          ∙ ap (λ xs. m ∷ xs) far.messages_are;
      rest_splits = far.rest_splits;
    }

-- where a rest ends so, there are no more messages
pub none_more : (rest : List ℕ) (more : List Request) (ending other : Ending) → Splits rest more ending
    → EndsAs rest other → (more ≡ []) × (ending ≡ other)
none_more rest [] ending other splits ends =
    (refl, ending_unique rest ending other (subst (λ bytes. EndsAs bytes ending) splits.begins splits.ends) ends)
none_more rest (m ∷ more) ending other splits ends = absurd (ending_message rest other ends splits.begins.1)
