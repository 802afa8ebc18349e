-- What is under a key after each change, and that this determines entries whose keys rise.
use Rattle.std.proofs.Common.{◌≡◌, ◌≢◌, ℕ, Bool, true, false, not, cond, List, [], ◌∷◌, filter, length, get_or, Option, Some, None, refl, sym, ap, subst, ◌∙◌, arith, ◌==◌}
use Rattle.std.specs.declared.cmp.Ordering.{Ordering}
use Rattle.std.specs.declared.cmp.Ordering.TheVariants.{Less, Equal, Greater}
use Rattle.std.specs.Ordering.{match_ordering}
use Rattle.std.specs.Option.{option_or}
use Rattle.std.specs.Str.{bytes_eq}
use Rattle.std.proofs.lemmas.List.Elements.{All-filter, All-head, All-tail, filter_passes}
use Rattle.std.proofs.lemmas.Bool.Decides.{nat_tests}
use Rattle.std.proofs.lemmas.Option.{none-some, same_Some}
use Rattle.config_lists.specs.Entries.{value_of, put, without, replaced, KeysRise}
use Rattle.config_lists.specs.Settings.{Settings, IsFull, IsConfig}
use Rattle.config_lists.specs.Changes.{has_value, settled, changed, patched, value_after, IsChanges}
use Rattle.config_lists.proofs.Keys.{order, same, bytes_eq-itself, apart_above, IsBelow, IsBelow-trans, KeysRise-head, KeysRise-tail, KeysRise-filter, same_from_equal, above_from_below, below_from_above}
use Rattle.config_lists.proofs.Puts.{KeysRise-put, KeysRise-without, All-put, All-without}

-- keys that differ
pub apart : (q key : List ℕ) → q ≢ key → bytes_eq q key ≡ false
apart q key differs = by (bytes_eq q key) refl
  where
    by : (b : Bool) → bytes_eq q key ≡ b → b ≡ false
    by true is = absurd (differs (same q key is))
    by false is = refl

module _ {V : Type 0} where
  -- the first entry, and those after it
  value_of-cons : (e : List ℕ × V) (es : List (List ℕ × V)) (q : List ℕ) → value_of (e ∷ es) q ≡ cond (bytes_eq q e.0) (Some e.1) (value_of es q)
  unfolding value_of
  value_of-cons e es q = refl

  value_of-nil : (q : List ℕ) → value_of {V = V} [] q ≡ None
  unfolding value_of
  value_of-nil q = refl

  -- two tests of one key that cannot both hold, in either order
  either_order : (q a b : List ℕ) (x y z : Option V) → bytes_eq a b ≡ false → cond (bytes_eq q a) x (cond (bytes_eq q b) y z) ≡ cond (bytes_eq q b) y (cond (bytes_eq q a) x z)
  either_order q a b x y z differ = by (bytes_eq q a) (bytes_eq q b) refl refl
    where
      by : (s t : Bool) → bytes_eq q a ≡ s → bytes_eq q b ≡ t → cond s x (cond t y z) ≡ cond t y (cond s x z)
      by true true is_a is_b = absurd (no (sym (subst (λ k. bytes_eq k b ≡ true) (same q a is_a) is_b) ∙ differ))
        where
          no : true ≡ false → ⊥
          no h = cc
      by true false is_a is_b = refl
      by false t is_a is_b = refl

  -- the same test twice
  once : (b : Bool) (x y z : Option V) → cond b x (cond b y z) ≡ cond b x z
  once true x y z = refl
  once false x y z = refl

  pub value_of-put : (es : List (List ℕ × V)) (key : List ℕ) (value : V) (q : List ℕ) → value_of (put es key value) q ≡ cond (bytes_eq q key) (Some value) (value_of es q)
  unfolding put
  value_of-put [] key value q = value_of-cons (key, value) [] q
  value_of-put (e ∷ es) key value q = by (order key e.0) refl (value_of-put es key value q)
    where
      by : (o : Ordering) → order key e.0 ≡ o → value_of (put es key value) q ≡ cond (bytes_eq q key) (Some value) (value_of es q)
          → value_of (match_ordering o ((key, value) ∷ e ∷ es) ((e.0, value) ∷ es) (e ∷ put es key value)) q ≡ cond (bytes_eq q key) (Some value) (value_of (e ∷ es) q)
      by Less is rest = value_of-cons (key, value) (e ∷ es) q
      by Equal is rest =
          value_of-cons (e.0, value) es q ∙ sym (once (bytes_eq q e.0) (Some value) (Some e.1) (value_of es q))
          ∙ ap (λ x. cond (bytes_eq q e.0) (Some value) x) (sym (value_of-cons e es q))
          ∙ ap (λ k. cond (bytes_eq q k) (Some value) (value_of (e ∷ es) q)) (sym (same_from_equal key e.0 is))
      by Greater is rest =
          value_of-cons e (put es key value) q ∙ ap (λ x. cond (bytes_eq q e.0) (Some e.1) x) rest
          ∙ either_order q e.0 key (Some e.1) (Some value) (value_of es q) (apart_above key e.0 is)
          ∙ ap (λ x. cond (bytes_eq q key) (Some value) x) (sym (value_of-cons e es q))

  pub value_of-without : (es : List (List ℕ × V)) (key q : List ℕ) → value_of (without es key) q ≡ cond (bytes_eq q key) None (value_of es q)
  unfolding without
  value_of-without [] key q = value_of-nil q ∙ none (bytes_eq q key) ∙ ap (λ x. cond (bytes_eq q key) None x) (sym (value_of-nil q))
    where
      nothing : Option V
      nothing = None

      none : (b : Bool) → nothing ≡ cond b None nothing
      none true = refl
      none false = refl
  value_of-without (e ∷ es) key q = by (bytes_eq key e.0) refl (value_of-without es key q)
    where
      by : (b : Bool) → bytes_eq key e.0 ≡ b → value_of (without es key) q ≡ cond (bytes_eq q key) None (value_of es q)
          → value_of (cond (not b) (e ∷ without es key) (without es key)) q ≡ cond (bytes_eq q key) None (value_of (e ∷ es) q)
      by true is rest =
          rest ∙ sym (once (bytes_eq q key) None (Some e.1) (value_of es q))
          ∙ ap (λ k. cond (bytes_eq q key) None (cond (bytes_eq q k) (Some e.1) (value_of es q))) (same key e.0 is)
          ∙ ap (λ x. cond (bytes_eq q key) None x) (sym (value_of-cons e es q))
      by false is rest =
          value_of-cons e (without es key) q ∙ ap (λ x. cond (bytes_eq q e.0) (Some e.1) x) rest
          ∙ sym (either_order q key e.0 None (Some e.1) (value_of es q) is)
          ∙ ap (λ x. cond (bytes_eq q key) None x) (sym (value_of-cons e es q))

  -- a key below all of them is not there
  pub value_of-below : (es : List (List ℕ × V)) (key : List ℕ) → IsBelow key es → value_of es key ≡ None
  value_of-below [] key below = value_of-nil key
  value_of-below (e ∷ es) key below =
      value_of-cons e es key ∙ ap (λ t. cond t (Some e.1) (value_of es key)) (apart_above e.0 key (above_from_below key e.0 below.0)) ∙ value_of-below es key below.1

  pub value_of-replaced : (old by : List (List ℕ × V)) (q : List ℕ) → KeysRise by → value_of (replaced old by) q ≡ option_or (value_of by q) (value_of old q)
  unfolding replaced
  value_of-replaced old [] q up = ap (λ x. option_or x (value_of old q)) (sym (value_of-nil q))
  value_of-replaced old (n ∷ by) q up =
      value_of-replaced (put old n.0 n.1) by q (KeysRise-tail n by up)
      ∙ ap (option_or (value_of by q)) (value_of-put old n.0 n.1 q)
      ∙ at (bytes_eq q n.0) refl ∙ ap (λ x. option_or x (value_of old q)) (sym (value_of-cons n by q))
    where
      at : (b : Bool) → bytes_eq q n.0 ≡ b → option_or (value_of by q) (cond b (Some n.1) (value_of old q)) ≡ option_or (cond b (Some n.1) (value_of by q)) (value_of old q)
      at true is = ap (λ x. option_or x (Some n.1)) (value_of-below by q (subst (λ k. IsBelow k by) (sym (same q n.0 is)) (KeysRise-head n by up)))
      at false is = refl

  pub KeysRise-replaced : (old by : List (List ℕ × V)) → KeysRise old → KeysRise (replaced old by)
  unfolding replaced
  KeysRise-replaced old [] up = up
  KeysRise-replaced old (n ∷ by) up = KeysRise-replaced (put old n.0 n.1) by (KeysRise-put n.0 n.1 old up)

  pub same_entries : (a b : List (List ℕ × V)) → KeysRise a → KeysRise b → ((key : List ℕ) → value_of a key ≡ value_of b key) → a ≡ b
  same_entries [] [] up up' h = refl
  same_entries [] (f ∷ b) up up' h = absurd (none-some f.1 (sym (value_of-nil f.0) ∙ h f.0 ∙ value_of-cons f b f.0 ∙ ap (λ t. cond t (Some f.1) (value_of b f.0)) (bytes_eq-itself f.0)))
  same_entries (e ∷ a) [] up up' h = absurd (none-some e.1 (sym (value_of-nil e.0) ∙ sym (h e.0) ∙ value_of-cons e a e.0 ∙ ap (λ t. cond t (Some e.1) (value_of a e.0)) (bytes_eq-itself e.0)))
  same_entries (e ∷ a) (f ∷ b) up up' h = by (order e.0 f.0) refl (same_entries a b (KeysRise-tail e a up) (KeysRise-tail f b up'))
    where
      here : (x : List ℕ × V) (es : List (List ℕ × V)) → value_of (x ∷ es) x.0 ≡ Some x.1
      here x es = value_of-cons x es x.0 ∙ ap (λ t. cond t (Some x.1) (value_of es x.0)) (bytes_eq-itself x.0)

      by : (o : Ordering) → order e.0 f.0 ≡ o → (((key : List ℕ) → value_of a key ≡ value_of b key) → a ≡ b) → e ∷ a ≡ f ∷ b
      by Less is rest = absurd (none-some e.1 (sym (value_of-below (f ∷ b) e.0 (is, IsBelow-trans e.0 f.0 b is (KeysRise-head f b up'))) ∙ sym (h e.0) ∙ here e a))
      by Greater is rest =
          let below = below_from_above e.0 f.0 is in
          absurd (none-some f.1 (sym (value_of-below (e ∷ a) f.0 (below, IsBelow-trans f.0 e.0 a below (KeysRise-head e a up))) ∙ h f.0 ∙ here f b))
      by Equal is rest = λ i. (key i, value i) ∷ rest tails i
        where
          key : e.0 ≡ f.0
          key = same_from_equal e.0 f.0 is

          value : e.1 ≡ f.1
          value = same_Some e.1 f.1 (sym (here e a) ∙ h e.0 ∙ ap (value_of (f ∷ b)) key ∙ here f b)

          tails : (q : List ℕ) → value_of a q ≡ value_of b q
          tails q = at (bytes_eq q e.0) refl
            where
              at : (t : Bool) → bytes_eq q e.0 ≡ t → value_of a q ≡ value_of b q
              at true is_e =
                  let q_is = same q e.0 is_e in
                  value_of-below a q (subst (λ k. IsBelow k a) (sym q_is) (KeysRise-head e a up)) ∙ sym (value_of-below b q (subst (λ k. IsBelow k b) (sym (q_is ∙ key)) (KeysRise-head f b up')))
              at false is_e =
                  sym (value_of-cons e a q ∙ ap (λ t. cond t (Some e.1) (value_of a q)) is_e) ∙ h q ∙ value_of-cons f b q
                  ∙ ap (λ t. cond t (Some f.1) (value_of b q)) (ap (bytes_eq q) (sym key) ∙ is_e)

-- a change that has a value, and one that has none
value_after-has : (v : List ℕ) (old : Option (List ℕ)) → not (length v == 0) ≡ true → value_after (Some v) old ≡ Some v
value_after-has [] old is = cc
value_after-has (b ∷ bs) old is = refl

value_after-empty : (v : List ℕ) (old : Option (List ℕ)) → not (length v == 0) ≡ false → value_after (Some v) old ≡ None
value_after-empty [] old is = refl
value_after-empty (b ∷ bs) old is = grind (arith, nat_tests)

value_of-changed : (config : Settings) (c : List ℕ × List ℕ) (q : List ℕ) → value_of (changed config c) q ≡ cond (bytes_eq q c.0) (value_after (Some c.1) (value_of config q)) (value_of config q)
value_of-changed config c q = by (has_value c) refl
  where
    by : (b : Bool) → has_value c ≡ b → value_of (cond b (put config c.0 c.1) (without config c.0)) q ≡ cond (bytes_eq q c.0) (value_after (Some c.1) (value_of config q)) (value_of config q)
    by true is = value_of-put config c.0 c.1 q ∙ ap (λ x. cond (bytes_eq q c.0) x (value_of config q)) (sym (value_after-has c.1 (value_of config q) is))
    by false is = value_of-without config c.0 q ∙ ap (λ x. cond (bytes_eq q c.0) x (value_of config q)) (sym (value_after-empty c.1 (value_of config q) is))

pub value_of-patched : (config changes : Settings) (q : List ℕ) → KeysRise changes → value_of (patched config changes) q ≡ value_after (value_of changes q) (value_of config q)
unfolding patched
value_of-patched config [] q up = ap (λ x. value_after x (value_of config q)) (sym (value_of-nil q))
value_of-patched config (c ∷ cs) q up =
    value_of-patched (changed config c) cs q (KeysRise-tail c cs up)
    ∙ ap (value_after (value_of cs q)) (value_of-changed config c q)
    ∙ at (bytes_eq q c.0) refl ∙ ap (λ x. value_after x (value_of config q)) (sym (value_of-cons c cs q))
  where
    at : (b : Bool) → bytes_eq q c.0 ≡ b → value_after (value_of cs q) (cond b (value_after (Some c.1) (value_of config q)) (value_of config q)) ≡ value_after (cond b (Some c.1) (value_of cs q)) (value_of config q)
    at true is = ap (λ x. value_after x (value_after (Some c.1) (value_of config q))) (value_of-below cs q (subst (λ k. IsBelow k cs) (sym (same q c.0 is)) (KeysRise-head c cs up)))
    at false is = refl

pub value_of-settled : (changes : Settings) (q : List ℕ) → KeysRise changes → value_of (settled changes) q ≡ value_after (value_of changes q) None
unfolding settled
value_of-settled [] q up = value_of-nil q ∙ ap (λ x. value_after x None) (sym (value_of-nil q))
value_of-settled (c ∷ cs) q up = by (has_value c) refl (value_of-settled cs q (KeysRise-tail c cs up)) ∙ ap (λ x. value_after x None) (sym (value_of-cons c cs q))
  where
    gone : bytes_eq q c.0 ≡ true → value_of cs q ≡ None
    gone is = value_of-below cs q (subst (λ k. IsBelow k cs) (sym (same q c.0 is)) (KeysRise-head c cs up))

    by : (b : Bool) → has_value c ≡ b → value_of (settled cs) q ≡ value_after (value_of cs q) None → value_of (cond b (c ∷ settled cs) (settled cs)) q ≡ value_after (cond (bytes_eq q c.0) (Some c.1) (value_of cs q)) None
    by true is rest = value_of-cons c (settled cs) q ∙ at (bytes_eq q c.0)
      where
        at : (t : Bool) → cond t (Some c.1) (value_of (settled cs) q) ≡ value_after (cond t (Some c.1) (value_of cs q)) None
        at true = sym (value_after-has c.1 None is)
        at false = rest
    by false is rest = rest ∙ at (bytes_eq q c.0) refl
      where
        at : (t : Bool) → bytes_eq q c.0 ≡ t → value_after (value_of cs q) None ≡ value_after (cond t (Some c.1) (value_of cs q)) None
        at true is_c = ap (λ x. value_after x None) (gone is_c) ∙ sym (value_after-empty c.1 None is)
        at false is_c = refl

filled : (v : List ℕ) → not (length v == 0) ≡ true → v ≢ []
filled [] h e = cc
filled (b ∷ bs) h e = cc

-- what is kept: keys rise, and nothing is empty
IsConfig-changed : (config : Settings) (c : List ℕ × List ℕ) → IsConfig config → c.0 ≢ [] → IsConfig (changed config c)
IsConfig-changed config c is named = by (has_value c) refl
  where
    by : (b : Bool) → has_value c ≡ b → IsConfig (cond b (put config c.0 c.1) (without config c.0))
    by true has = record { rising = KeysRise-put c.0 c.1 config is.rising; full = All-put c.0 c.1 IsFull config is.full (named, filled c.1 has) }
    by false has = record { rising = KeysRise-without c.0 config is.rising; full = All-without IsFull c.0 config is.full }

pub IsConfig-patched : (config changes : Settings) → IsConfig config → IsChanges changes → IsConfig (patched config changes)
unfolding patched
IsConfig-patched config [] is made = is
IsConfig-patched config (c ∷ cs) is made =
    IsConfig-patched (changed config c) cs (IsConfig-changed config c is (All-head (λ (e : List ℕ × List ℕ). e.0 ≢ []) c cs made.named))
    (record { rising = KeysRise-tail c cs made.rising; named = All-tail (λ (e : List ℕ × List ℕ). e.0 ≢ []) c cs made.named })

pub IsConfig-settled : (changes : Settings) → IsChanges changes → IsConfig (settled changes)
unfolding settled
IsConfig-settled changes made = record {
  rising = KeysRise-filter has_value changes made.rising;
  full = λ k d within. (All-filter has_value (λ (e : List ℕ × List ℕ). e.0 ≢ []) changes made.named k d within, filled (get_or (filter has_value changes) k d).1 (filter_passes has_value changes k d within));
}
