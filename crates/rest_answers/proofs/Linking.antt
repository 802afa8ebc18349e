-- The two ends of a connection: a source that is not touched, and what a sink takes.
use Rattle.std.proofs.Common.{◌≡◌, ◌++◌, ◌⊎◌, List, [], ℕ, Option, Some, None, ap, sym, ◌∙◌, inl, inr, append_assoc}
use Rattle.std.proofs.lemmas.List.{append-nil}
use Rattle.std.specs.Io.KnownBytes.{Appends}
use Rattle.rest_answers.specs.Links.{Inlet}

-- what is seen of a source that was not touched is the same
pub unread : {S : Type 0} (see : S → Inlet) (a b : S) (P : Type 0) → (b ≡ a) ⊎ P → (see b ≡ see a) ⊎ P
unread see a b P (inl same) = inl (ap see same)
unread see a b P (inr other) = inr other

-- no more bytes are appended to those known so far
pub appends_nothing : (known : Option (List ℕ)) → Appends known known []
appends_nothing None = tt
appends_nothing (Some xs) = sym (append-nil xs)

-- some bytes are appended, and then more
pub appends_twice : (a b c : Option (List ℕ)) (bs cs : List ℕ) → Appends a b bs → Appends b c cs
    → Appends a c (bs ++ cs)
appends_twice None b c bs cs first then = tt
appends_twice (Some x) None c bs cs first then = absurd first
appends_twice (Some x) (Some y) None bs cs first then = absurd then
appends_twice (Some x) (Some y) (Some z) bs cs first then = then ∙ ap (λ l. l ++ cs) first ∙ append_assoc x bs cs
