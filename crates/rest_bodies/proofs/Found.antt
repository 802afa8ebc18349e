-- What a walk over the members of an object finds under each key.
use Rattle.std.proofs.Common.{◌≡◌, ◌≢◌, ℕ, ◌<◌, List, [], ◌∷◌, length, get_or, set, Option, Some, None, Bool, true, false, cond, Bor, string_bytes, refl, sym, subst, ap, ap₂, ◌∙◌, is_some, arith}
use Rattle.std.specs.List.{find}
use Rattle.std.specs.Option.{option_or}
use Rattle.std.specs.Prelude.{option_map}
use Rattle.std.specs.Str.{bytes_eq}
use Rattle.std.proofs.lemmas.List.{get_or_default, get_or-set_same, get_or-set_other}
use Rattle.std.proofs.lemmas.Slice.Eq.{bytes_eq-Decides}
use Rattle.serde_json.proofs.Views.{Entry, member_here, member_later}
use Rattle.serde_json.specs.Data.{Data}
use Rattle.serde_json.specs.Find.{get_member}
use Rattle.serde_json.specs.View.{view, members_view}
use Rattle.serde_json.specs.declared.value.Value.{Value}
use Rattle.rest_bodies.specs.Given.{Places, value_at}
use Rattle.rest_bodies.specs.Keys.{word_of, place_of, all_keys, key_named}
use Rattle.rest_bodies.specs.declared.keys.Key.{Key}
use Rattle.rest_bodies.specs.declared.keys.Key.TheVariants as key
use Rattle.rest_bodies.specs.declared.keys.Key.TheVariants.{Action}

-- ---- keys are told apart by their spellings, and by their places

same_value : {X : Type 0} {x y : X} → Some x ≡ Some y → x ≡ y
same_value e = cc

found_passes : {X : Type 0} (test : X → Bool) (xs : List X) (x : X) → find test xs ≡ Some x → test x ≡ true
found_passes test [] x e = cc
found_passes {X} test (y ∷ ys) x e = by (test y) refl e (found_passes test ys x)
  where
    by : (b : Bool) → test y ≡ b → cond b (Some y) (find test ys) ≡ Some x → (find test ys ≡ Some x → test x ≡ true) → test x ≡ true
    by true is e later = ap test (sym (same_value e)) ∙ is
    by false is e later = later e

named_word : (text : List ℕ) (key : Key) → key_named text ≡ Some key → text ≡ word_of key
unfolding key_named
named_word text key e = (bytes_eq-Decides text (word_of key)).0 (found_passes (λ k. bytes_eq text (word_of k)) all_keys key e)

word_named : (key : Key) → key_named (word_of key) ≡ Some key
unfolding key_named
word_named key.Action = refl
word_named key.Alias = refl
word_named key.Config = refl
word_named key.Description = refl
word_named key.Devices = refl
word_named key.Driver = refl
word_named key.Ephemeral = refl
word_named key.Fingerprint = refl
word_named key.Migration = refl
word_named key.Name = refl
word_named key.Pool = refl
word_named key.Profiles = refl
word_named key.Project = refl
word_named key.Restore = refl
word_named key.Source = refl
word_named key.Start = refl
word_named key.Stateful = refl
word_named key.Type = refl

key_at : (key : Key) → get_or all_keys (place_of key) Action ≡ key
key_at key.Action = refl
key_at key.Alias = refl
key_at key.Config = refl
key_at key.Description = refl
key_at key.Devices = refl
key_at key.Driver = refl
key_at key.Ephemeral = refl
key_at key.Fingerprint = refl
key_at key.Migration = refl
key_at key.Name = refl
key_at key.Pool = refl
key_at key.Profiles = refl
key_at key.Project = refl
key_at key.Restore = refl
key_at key.Source = refl
key_at key.Start = refl
key_at key.Stateful = refl
key_at key.Type = refl

-- a place for each key
within : (key : Key) → place_of key < 18
within key.Action = omega arith
within key.Alias = omega arith
within key.Config = omega arith
within key.Description = omega arith
within key.Devices = omega arith
within key.Driver = omega arith
within key.Ephemeral = omega arith
within key.Fingerprint = omega arith
within key.Migration = omega arith
within key.Name = omega arith
within key.Pool = omega arith
within key.Profiles = omega arith
within key.Project = omega arith
within key.Restore = omega arith
within key.Source = omega arith
within key.Start = omega arith
within key.Stateful = omega arith
within key.Type = omega arith

-- another key has another place
other_place : (key other : Key) → other ≢ key → place_of other ≢ place_of key
other_place key other apart e = apart (sym (key_at other) ∙ ap (λ place. get_or all_keys place Action) e ∙ key_at key)

-- ---- one more member

-- a value is kept at the place of its key, and at no other
kept_here : (found : Places) (key : Key) (value : Bor Value) → place_of key < length found → value_at (set found (place_of key) (Some value)) key ≡ Some (view value.now)
kept_here found key value within = rw (get_or-set_same found (place_of key) (Some value) None within) refl

kept_there : (found : Places) (key other : Key) (value : Bor Value) → other ≢ key → value_at (set found (place_of key) (Some value)) other ≡ value_at found other
kept_there found key other value apart =
    rw (get_or-set_other found (place_of key) (place_of other) (Some value) None (other_place key other apart)) refl

-- whether a value is kept at a place
is_kept : (found : Places) (key : Key) (place : ℕ) (default : Option (Bor Value)) → place ≡ place_of key → length found ≡ 18
    → is_some (value_at found key) ≡ is_some (get_or found place default)
is_kept found key place default is long =
    is_some-map (get_or found (place_of key) None)
    ∙ ap is_some (get_or_default found (place_of key) None default (rw long (within key)) ∙ ap (λ p. get_or found p default) (sym is))
  where
    is_some-map : (o : Option (Bor Value)) → is_some (option_map (λ value. view value.now) o) ≡ is_some o
    is_some-map None = refl
    is_some-map (Some value) = refl

-- what is found under a key where that of the walk so far comes first
abbrev pub first_of : Places → List Entry → Key → Option Data
first_of found entries key = option_or (value_at found key) (get_member (word_of key) (members_view entries))

module _ (found : Places) (entry : Entry) (rest : List Entry) where
  -- a member that has no meaning leaves everything as it is
  pub unnamed : key_named (string_bytes entry.0) ≡ None → (key : Key) → first_of found rest key ≡ first_of found (entry ∷ rest) key
  unnamed none key = ap (option_or (value_at found key)) (sym (member_later (word_of key) entry rest apart))
    where
      none_some : {here : Key} → None ≡ Some here → ⊥
      none_some e = cc

      apart : word_of key ≡ string_bytes entry.0 → ⊥
      apart e = none_some (sym none ∙ ap key_named (sym e) ∙ word_named key)

  module _ (here : Key) (is : key_named (string_bytes entry.0) ≡ Some here) where
    spelt : string_bytes entry.0 ≡ word_of here
    spelt = named_word (string_bytes entry.0) here is

    -- of another key than that of the member
    later : (key : Key) → key ≢ here → get_member (word_of key) (members_view (entry ∷ rest)) ≡ get_member (word_of key) (members_view rest)
    later key apart = member_later (word_of key) entry rest (λ e. apart (same_value (sym (word_named key) ∙ ap key_named (e ∙ spelt) ∙ word_named here)))

    -- a key is that of the member, or another one
    either : {T : Type 0} → (key : Key) → (key ≡ here → T) → (key ≢ here → T) → T
    either {T} key same apart = by (bytes_eq (word_of key) (word_of here)) refl
      where
        spelt_alike : word_of key ≡ word_of here → key ≡ here
        spelt_alike e = same_value (sym (word_named key) ∙ ap key_named e ∙ word_named here)

        true_false : true ≡ false → ⊥
        true_false e = cc

        by : (b : Bool) → bytes_eq (word_of key) (word_of here) ≡ b → T
        by true e = same (spelt_alike ((bytes_eq-Decides (word_of key) (word_of here)).0 e))
        by false e = apart (λ alike. true_false (sym ((bytes_eq-Decides (word_of key) (word_of here)).1 (ap word_of alike)) ∙ e))

    -- a member whose key has a value leaves everything as it is
    pub passed : (place : ℕ) → place ≡ place_of here → length found ≡ 18 → (default : Option (Bor Value)) → is_some (get_or found place default) ≡ true → (key : Key)
        → first_of found rest key ≡ first_of found (entry ∷ rest) key
    passed place is_place long default kept key =
        either key (λ same. subst (λ k. first_of found rest k ≡ first_of found (entry ∷ rest) k) (sym same) (by (value_at found here) (is_kept found here place default is_place long ∙ kept)))
        (λ apart. ap (option_or (value_at found key)) (sym (later key apart)))
      where
        by : (o : Option Data) → is_some o ≡ true → option_or o (get_member (word_of here) (members_view rest)) ≡ option_or o (get_member (word_of here) (members_view (entry ∷ rest)))
        by None kept = cc
        by (Some value) kept = refl

    -- and else its value is kept
    pub taken : (place : ℕ) → place ≡ place_of here → (value : Bor Value) → value.now ≡ entry.1 → length found ≡ 18 → (default : Option (Bor Value)) → is_some (get_or found place default) ≡ false → (key : Key)
        → first_of (set found place (Some value)) rest key ≡ first_of found (entry ∷ rest) key
    taken place is_place value is_value long default free key =
        ap (λ p. first_of (set found p (Some value)) rest key) is_place
        ∙ either key (λ same. subst (λ k. first_of (set found (place_of here) (Some value)) rest k ≡ first_of found (entry ∷ rest) k) (sym same) at_here)
        (λ apart. ap₂ option_or (kept_there found here key value apart) (sym (later key apart)))
      where
        none : (o : Option Data) → is_some o ≡ false → o ≡ None
        none None e = refl
        none (Some value) e = cc

        at_here : first_of (set found (place_of here) (Some value)) rest here ≡ first_of found (entry ∷ rest) here
        at_here = rw (kept_here found here value (rw long (within here)), none (value_at found here) (is_kept found here place default is_place long ∙ free), member_here (word_of here) entry rest (sym spelt), is_value) refl
