-- What it means that each key is above the one before it.
use Rattle.std.proofs.Common.{◌≡◌, ℕ, true, List, [], ◌∷◌, Option, Some, None, refl, ap}
use Rattle.std.specs.declared.cmp.Ordering.{Ordering}
use Rattle.std.specs.declared.cmp.Ordering.TheVariants.{Less, Equal, Greater}
use Rattle.std.specs.Ordering.{is_lt}
use Rattle.config_lists.specs.Entries.{KeysRise}
use Rattle.config_lists.proofs.Keys.{order, IsBelow-trans, KeysRise-nil, KeysRise-cons, KeysRise-head, KeysRise-tail}
use Rattle.row_codec.specs.Reading.{is_next}
use Rattle.row_codec.proofs.Listed.{AreInRow}

less_from_test : (o : Ordering) → is_lt o ≡ true → o ≡ Less
less_from_test Less h = refl
less_from_test Equal h = cc
less_from_test Greater h = cc

module _ {V : Type 0} where
  -- the key of an entry may come after the one before it
  abbrev pub IsNext : Option (List ℕ × V) → List ℕ × V → Type 0
  IsNext before e = is_next before e.0 ≡ true

  pub KeysRise-from_row : (entries : List (List ℕ × V)) → AreInRow IsNext None entries → KeysRise entries
  KeysRise-from_row [] row = KeysRise-nil V
  KeysRise-from_row (e ∷ es) row = following e es row.1
    where
      following : (e : List ℕ × V) (es : List (List ℕ × V)) → AreInRow IsNext (Some e) es → KeysRise (e ∷ es)
      following e [] row = KeysRise-cons e [] tt (KeysRise-nil V)
      following e (x ∷ xs) row =
          let rest : KeysRise (x ∷ xs) = following x xs row.1 in
          let less : order e.0 x.0 ≡ Less = less_from_test _ row.0 in
          KeysRise-cons e (x ∷ xs) (less, IsBelow-trans e.0 x.0 xs less (KeysRise-head x xs rest)) rest

  pub row_from_KeysRise : (entries : List (List ℕ × V)) → KeysRise entries → AreInRow IsNext None entries
  row_from_KeysRise [] up = tt
  row_from_KeysRise (e ∷ es) up = (refl, following e es up)
    where
      following : (e : List ℕ × V) (es : List (List ℕ × V)) → KeysRise (e ∷ es) → AreInRow IsNext (Some e) es
      following e [] up = tt
      following e (x ∷ xs) up = (ap is_lt (KeysRise-head e (x ∷ xs) up).0, following x xs (KeysRise-tail e (x ∷ xs) up))
