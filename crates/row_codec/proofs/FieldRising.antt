-- A key above the last one is put at the end.
use Rattle.std.proofs.Common.{◌≡◌, ℕ, suc, ◌-◌, true, List, [], ◌∷◌, ◌++◌, length, slice_get, Some, refl, sym, ap, ◌∙◌, arith}
use Rattle.std.specs.Cmp.Lexicographic.{slice_cmp}
use Rattle.std.specs.declared.cmp.Ordering.{Ordering}
use Rattle.std.specs.declared.cmp.Ordering.TheVariants.{Less, Equal, Greater}
use Rattle.std.specs.Map.{keys_of}
use Rattle.std.specs.Ordering.{nat_cmp, is_lt}
use Rattle.std.proofs.lemmas.Option.{same_Some}
use Rattle.config_lists.specs.Entries.{put, KeysRise}
use Rattle.config_lists.proofs.Keys.{order, IsBelow, KeysRise-nil, KeysRise-cons, KeysRise-head, KeysRise-tail, below_trans}
use Rattle.config_lists.proofs.Walks.{put-last}
use Rattle.row_codec.specs.FieldReading.{last_of, is_next, IsLast}

less_from_test : (o : Ordering) → is_lt o ≡ true → o ≡ Less
less_from_test Less h = refl
less_from_test Equal h = cc
less_from_test Greater h = cc

module _ {V : Type 0} where
  -- the test of a key by the last key that is read
  pub next_by_last : (entries : List (List ℕ × V)) (last key : List ℕ) → slice_get (keys_of entries) (length entries - 1) ≡ Some last → is_next (last_of entries) key ≡ is_lt (slice_cmp nat_cmp last key)
  next_by_last [] last key read = cc
  next_by_last (x ∷ []) last key read = ap (λ k. is_lt (slice_cmp nat_cmp k key)) (same_Some x.0 last read)
  next_by_last (x ∷ y ∷ ys) last key read =
      next_by_last (y ∷ ys) last key (ap (slice_get (keys_of (y ∷ ys))) one ∙ sym (ap (slice_get (keys_of (x ∷ y ∷ ys))) two) ∙ read)
    where
      one : length (y ∷ ys) - 1 ≡ length ys
      one = omega arith

      two : length (x ∷ y ∷ ys) - 1 ≡ suc (length ys)
      two = omega arith

  -- entries with one more at the end, above the last
  pub KeysRise-push : (entries : List (List ℕ × V)) (e : List ℕ × V) → KeysRise entries → is_next (last_of entries) e.0 ≡ true → KeysRise (entries ++ e ∷ [])
  KeysRise-push [] e up above = KeysRise-cons e [] tt up
  KeysRise-push (x ∷ []) e up above = KeysRise-cons x (e ∷ []) (less_from_test _ above, tt) (KeysRise-cons e [] tt (KeysRise-nil V))
  KeysRise-push (x ∷ y ∷ ys) e up above =
      KeysRise-cons x (y ∷ ys ++ e ∷ []) (first.0, below ys e first.1 (after y ys first above)) (KeysRise-push (y ∷ ys) e (KeysRise-tail x (y ∷ ys) up) above)
    where
      first : IsBelow x.0 (y ∷ ys)
      first = KeysRise-head x (y ∷ ys) up

      below : (zs : List (List ℕ × V)) (e : List ℕ × V) → IsBelow x.0 zs → order x.0 e.0 ≡ Less → IsBelow x.0 (zs ++ e ∷ [])
      below [] e h is = (is, tt)
      below (z ∷ zs) e h is = (h.0, below zs e h.1 is)

      after : (z : List ℕ × V) (zs : List (List ℕ × V)) → IsBelow x.0 (z ∷ zs) → is_next (last_of (z ∷ zs)) e.0 ≡ true → order x.0 e.0 ≡ Less
      after z [] h above = below_trans x.0 z.0 e.0 h.0 (less_from_test _ above)
      after z (w ∷ ws) h above = after w ws h.1 above

  pub put_after : (entries : List (List ℕ × V)) (key : List ℕ) (value : V) → IsLast entries key → put entries key value ≡ entries ++ (key, value) ∷ []
  put_after entries key value last = put-last entries key value (KeysRise-push entries (key, value) last.rising last.above)
