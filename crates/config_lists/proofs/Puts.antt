-- What a put, a removal and a replacement keep: rising keys, and what holds of each entry.
use Rattle.std.proofs.Common.{◌≡◌, ℕ, not, List, [], ◌∷◌, Result, Ok, Err, OnOk, OnErr, refl, sym, subst}
use Rattle.std.specs.declared.cmp.Ordering.{Ordering}
use Rattle.std.specs.declared.cmp.Ordering.TheVariants.{Less, Equal, Greater}
use Rattle.std.specs.Ordering.{match_ordering}
use Rattle.std.specs.List.{All}
use Rattle.std.specs.Str.{bytes_eq}
use Rattle.std.proofs.lemmas.List.Elements.{All-nil, All-cons, All-head, All-tail, All-filter}
use Rattle.config_lists.specs.Entries.{put, without, KeysRise}
use Rattle.config_lists.proofs.Keys.{order, KeysRise-cons, KeysRise-head, KeysRise-tail, KeysRise-filter, IsBelow, IsBelow-trans, below_from_above, same_from_equal}

module _ {V : Type 0} where
  module _ (key : List ℕ) (value : V) where
    pub IsBelow-put : (k : List ℕ) (es : List (List ℕ × V)) → IsBelow k es → order k key ≡ Less → IsBelow k (put es key value)
    unfolding put
    IsBelow-put k [] below is = (is, tt)
    IsBelow-put k (e ∷ es) below is = by (order key e.0) (IsBelow-put k es below.1 is)
      where
        by : (o : Ordering) → IsBelow k (put es key value) → IsBelow k (match_ordering o ((key, value) ∷ e ∷ es) ((e.0, value) ∷ es) (e ∷ put es key value))
        by Less rest = (is, below)
        by Equal rest = below
        by Greater rest = (below.0, rest)

    pub KeysRise-put : (es : List (List ℕ × V)) → KeysRise es → KeysRise (put es key value)
    unfolding put
    KeysRise-put [] up = KeysRise-cons (key, value) [] tt up
    KeysRise-put (e ∷ es) up = by (order key e.0) refl (KeysRise-put es (KeysRise-tail e es up))
      where
        below : IsBelow e.0 es
        below = KeysRise-head e es up

        by : (o : Ordering) → order key e.0 ≡ o → KeysRise (put es key value) → KeysRise (match_ordering o ((key, value) ∷ e ∷ es) ((e.0, value) ∷ es) (e ∷ put es key value))
        by Less is rest = KeysRise-cons (key, value) (e ∷ es) (is, IsBelow-trans key e.0 es is below) up
        by Equal is rest = KeysRise-cons (e.0, value) es below (KeysRise-tail e es up)
        by Greater is rest = KeysRise-cons e (put es key value) (IsBelow-put e.0 es below (below_from_above key e.0 is)) rest

    pub All-put : (P : List ℕ × V → Type 0) (es : List (List ℕ × V)) → All P es → P (key, value) → All P (put es key value)
    unfolding put
    All-put P [] all new = All-cons P (key, value) [] new (All-nil P)
    All-put P (e ∷ es) all new = by (order key e.0) refl (All-put P es (All-tail P e es all) new)
      where
        by : (o : Ordering) → order key e.0 ≡ o → All P (put es key value) → All P (match_ordering o ((key, value) ∷ e ∷ es) ((e.0, value) ∷ es) (e ∷ put es key value))
        by Less is rest = All-cons P (key, value) (e ∷ es) new all
        by Equal is rest = All-cons P (e.0, value) es (subst (λ k. P (k, value)) (same_from_equal key e.0 is) new) (All-tail P e es all)
        by Greater is rest = All-cons P e (put es key value) (All-head P e es all) rest

  pub KeysRise-without : (key : List ℕ) (es : List (List ℕ × V)) → KeysRise es → KeysRise (without es key)
  unfolding without
  KeysRise-without key es up = KeysRise-filter (λ e. not (bytes_eq key e.0)) es up

  pub All-without : (P : List ℕ × V → Type 0) (key : List ℕ) (es : List (List ℕ × V)) → All P es → All P (without es key)
  unfolding without
  All-without P key es all = All-filter (λ e. not (bytes_eq key e.0)) P es all

  -- after a put that may have wanted memory
  pub All-tried_put : {T E : Type 0} (P : List ℕ × V → Type 0) (r : Result T E) (old new : List (List ℕ × V)) (key : List ℕ) (value : V) → OnOk r (new ≡ put old key value) → OnErr r (new ≡ old) → All P old → P (key, value) → All P new
  All-tried_put P (Ok x) old new key value made kept all is = subst (All P) (sym made) (All-put key value P old all is)
  All-tried_put P (Err e) old new key value made kept all is = subst (All P) (sym kept) all
