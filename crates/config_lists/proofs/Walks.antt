-- A walk over entries by their places: what is read, what was read so far, and entries that are put in their order.
use Rattle.std.proofs.Common.{◌≡◌, ℕ, zero, suc, ◌+◌, ◌≤◌, Bool, true, false, cond, List, [], ◌∷◌, ◌++◌, length, take, drop, slice_get, filter, Some, refl, sym, ap, subst, ◌∙◌}
use Rattle.std.specs.declared.cmp.Ordering.TheVariants.{Less}
use Rattle.std.specs.Ordering.{match_ordering}
use Rattle.std.specs.BTreeMap.{insert_entry}
use Rattle.std.specs.List.{All}
use Rattle.std.specs.Map.{keys_of, values_of}
use Rattle.std.proofs.lemmas.List.{take_more, at_drop_more, append-nil, append_assoc, take_at, drop_all}
use Rattle.std.proofs.lemmas.List.Elements.{All-get_or, filter_more}
use Rattle.std.proofs.lemmas.Option.{same_Some, slice_get_within, get_or_from_slice_get}
use Rattle.config_lists.specs.Entries.{put, replaced, KeysRise}
use Rattle.config_lists.proofs.Keys.{order, KeysRise-nil, KeysRise-cons, KeysRise-head, KeysRise-tail, KeysRise-filter, IsBelow, above_from_below}

module _ {V : Type 0} where
  -- the key and the value that are read at a place are the entry there
  pub slice_get-read : (es : List (List ℕ × V)) (i : ℕ) (key : List ℕ) (value : V) → slice_get (keys_of es) i ≡ Some key → slice_get (values_of es) i ≡ Some value → slice_get es i ≡ Some (key, value)
  slice_get-read [] i key value k v = cc
  slice_get-read (e ∷ es) zero key value k v = ap Some (λ i. (same_Some e.0 key k i, same_Some e.1 value v i))
  slice_get-read (e ∷ es) (suc i) key value k v = slice_get-read es i key value k v

  pub take-read : (es : List (List ℕ × V)) (i : ℕ) (key : List ℕ) (value : V) → slice_get (keys_of es) i ≡ Some key → slice_get (values_of es) i ≡ Some value → take (i + 1) es ≡ take i es ++ (key, value) ∷ []
  take-read es i key value k v =
      let read = slice_get-read es i key value k v in
      take_more es i (key, value) (slice_get_within es i (key, value) read) ∙ ap (λ e. take i es ++ e ∷ []) (get_or_from_slice_get es i (key, value) (key, value) read)

  pub drop-read : (es : List (List ℕ × V)) (i : ℕ) (key : List ℕ) (value : V) → slice_get (keys_of es) i ≡ Some key → slice_get (values_of es) i ≡ Some value → drop i es ≡ (key, value) ∷ drop (i + 1) es
  drop-read es i key value k v =
      let read = slice_get-read es i key value k v in
      at_drop_more (λ xs. xs) es i (key, value) (slice_get_within es i (key, value) read) ∙ ap (λ e. e ∷ drop (i + 1) es) (get_or_from_slice_get es i (key, value) (key, value) read)

  pub All-read : (P : List ℕ × V → Type 0) (es : List (List ℕ × V)) (i : ℕ) (key : List ℕ) (value : V) → All P es → slice_get (keys_of es) i ≡ Some key → slice_get (values_of es) i ≡ Some value → P (key, value)
  All-read P es i key value all k v =
      let read = slice_get-read es i key value k v in
      subst P (get_or_from_slice_get es i (key, value) (key, value) read) (All-get_or P es i (key, value) (slice_get_within es i (key, value) read) all)

  pub KeysRise-take : (n : ℕ) (es : List (List ℕ × V)) → KeysRise es → KeysRise (take n es)
  KeysRise-take zero es up = KeysRise-nil V
  KeysRise-take (suc n) [] up = up
  KeysRise-take (suc n) (e ∷ es) up = KeysRise-cons e (take n es) (below n es (KeysRise-head e es up)) (KeysRise-take n es (KeysRise-tail e es up))
    where
      below : (n : ℕ) (es : List (List ℕ × V)) → IsBelow e.0 es → IsBelow e.0 (take n es)
      below zero es h = tt
      below (suc n) [] h = h
      below (suc n) (x ∷ es) h = (h.0, below n es h.1)

  -- a key above all is put at the end
  pub put-last : (es : List (List ℕ × V)) (key : List ℕ) (value : V) → KeysRise (es ++ (key, value) ∷ []) → put es key value ≡ es ++ (key, value) ∷ []
  unfolding put
  put-last [] key value up = refl
  put-last (e ∷ es) key value up =
      ap (λ o. match_ordering o ((key, value) ∷ e ∷ es) ((e.0, value) ∷ es) (e ∷ insert_entry order es key value)) (above_from_below e.0 key (last es (KeysRise-head e (es ++ (key, value) ∷ []) up)))
      ∙ ap (λ xs. e ∷ xs) (put-last es key value (KeysRise-tail e (es ++ (key, value) ∷ []) up))
    where
      last : (es : List (List ℕ × V)) → IsBelow e.0 (es ++ (key, value) ∷ []) → order e.0 key ≡ Less
      last [] h = h.0
      last (x ∷ es) h = last es h.1

  -- the next entry, put to those before it
  pub put-next : (es : List (List ℕ × V)) (i : ℕ) (key : List ℕ) (value : V) → KeysRise es → slice_get (keys_of es) i ≡ Some key → slice_get (values_of es) i ≡ Some value → put (take i es) key value ≡ take (i + 1) es
  put-next es i key value up k v =
      let more = take-read es i key value k v in
      put-last (take i es) key value (subst KeysRise more (KeysRise-take (i + 1) es up)) ∙ sym more

  -- the same where only some of the entries are put
  pub put-next_kept : (p : List ℕ × V → Bool) (es : List (List ℕ × V)) (i : ℕ) (key : List ℕ) (value : V) → KeysRise es → slice_get (keys_of es) i ≡ Some key → slice_get (values_of es) i ≡ Some value → p (key, value) ≡ true
      → put (filter p (take i es)) key value ≡ filter p (take (i + 1) es)
  put-next_kept p es i key value up k v kept =
      put-last (filter p (take i es)) key value (subst KeysRise more (KeysRise-filter p (take (i + 1) es) (KeysRise-take (i + 1) es up))) ∙ sym more
    where
      more : filter p (take (i + 1) es) ≡ filter p (take i es) ++ (key, value) ∷ []
      more =
          let read = slice_get-read es i key value k v in
          filter_more p es i (key, value) (slice_get_within es i (key, value) read)
          ∙ ap (λ e. filter p (take i es) ++ cond (p e) (e ∷ []) []) (get_or_from_slice_get es i (key, value) (key, value) read)
          ∙ ap (λ b. filter p (take i es) ++ cond b ((key, value) ∷ []) []) kept

  pub next_dropped : (p : List ℕ × V → Bool) (es : List (List ℕ × V)) (i : ℕ) (key : List ℕ) (value : V) → slice_get (keys_of es) i ≡ Some key → slice_get (values_of es) i ≡ Some value → p (key, value) ≡ false
      → filter p (take i es) ≡ filter p (take (i + 1) es)
  next_dropped p es i key value k v dropped =
      let read = slice_get-read es i key value k v in
      sym (filter_more p es i (key, value) (slice_get_within es i (key, value) read)
      ∙ ap (λ e. filter p (take i es) ++ cond (p e) (e ∷ []) []) (get_or_from_slice_get es i (key, value) (key, value) read)
      ∙ ap (λ b. filter p (take i es) ++ cond b ((key, value) ∷ []) []) dropped
      ∙ append-nil (filter p (take i es)))

  -- entries that are put one after the other after those before them are appended
  replaced-append : (front es : List (List ℕ × V)) → KeysRise (front ++ es) → replaced front es ≡ front ++ es
  unfolding replaced
  replaced-append front [] up = sym (append-nil front)
  replaced-append front (e ∷ es) up =
      ap (λ xs. replaced xs es) (put-last front e.0 e.1 first)
      ∙ replaced-append (front ++ e ∷ []) es whole ∙ append_assoc front (e ∷ []) es
    where
      whole : KeysRise ((front ++ e ∷ []) ++ es)
      whole = subst KeysRise (sym (append_assoc front (e ∷ []) es)) up

      first : KeysRise (front ++ e ∷ [])
      first = subst KeysRise (take_at (front ++ e ∷ []) es (length (front ++ e ∷ [])) refl) (KeysRise-take (length (front ++ e ∷ [])) ((front ++ e ∷ []) ++ es) whole)

  pub replaced-nil : (es : List (List ℕ × V)) → KeysRise es → replaced [] es ≡ es
  replaced-nil es up = replaced-append [] es up

  -- one more entry of a replacement
  pub replaced-next : (old by : List (List ℕ × V)) (i : ℕ) (key : List ℕ) (value : V) → slice_get (keys_of by) i ≡ Some key → slice_get (values_of by) i ≡ Some value → replaced old (drop i by) ≡ replaced (put old key value) (drop (i + 1) by)
  unfolding replaced
  replaced-next old by i key value k v = ap (replaced old) (drop-read by i key value k v)

  pub replaced-all : (old by : List (List ℕ × V)) (i : ℕ) → length by ≤ i → replaced old (drop i by) ≡ old
  unfolding replaced
  replaced-all old by i past = ap (replaced old) (drop_all i by past)
