-- Members whose keys rise stand in an object in the order in which they were put.
use Rattle.std.proofs.Common.{◌≡◌, ℕ, ◌+◌, Bool, true, List, [], ◌∷◌, ◌++◌, ◌≤◌, length, drop, slice_get, Some, false, refl, sym, ap, ◌∙◌}
use Rattle.std.specs.Map.{keys_of, values_of}
use Rattle.std.proofs.lemmas.List.{append_assoc, drop_all}
use Rattle.std.specs.declared.cmp.Ordering.TheVariants.{Less}
use Rattle.config_lists.specs.Entries.{KeysRise}
use Rattle.config_lists.specs.Settings.{Settings}
use Rattle.config_lists.specs.Devices.{NamedDevices}
use Rattle.config_lists.proofs.Keys.{order, below_trans, above_from_below, IsBelow, KeysRise-head, KeysRise-tail}
use Rattle.config_lists.proofs.Walks.{drop-read}
use Rattle.json.specs.Print.{quoted}
use Rattle.serde_json.specs.Data.{Data, string, Members, no_members, member, put}
use Rattle.serde_json.specs.Written.{comma_if, compact_text, members_text}
use Rattle.rest_json.specs.Settings.{put_settings, settings_data, put_devices}

-- members, and others after them
abbrev pub joined : Members → Members → Members
joined no_members ns = ns
joined (member k d ms) ns = member k d (joined ms ns)

joined_none : (ms : Members) → joined ms no_members ≡ ms
joined_none no_members = refl
joined_none (member k d ms) = ap (member k d) (joined_none ms)

joined_assoc : (ms ns os : Members) → joined (joined ms ns) os ≡ joined ms (joined ns os)
joined_assoc no_members ns os = refl
joined_assoc (member k d ms) ns os = ap (member k d) (joined_assoc ms ns os)

-- each key of the members is below this one
abbrev pub AreBelow : Members → List ℕ → Type 0
AreBelow no_members key = Unit {0}
AreBelow (member k d ms) key = (order k key ≡ Less) × AreBelow ms key

below_more : (ms : Members) (a b : List ℕ) (d : Data) → AreBelow ms a → order a b ≡ Less → AreBelow (joined ms (member a d no_members)) b
below_more no_members a b d all is = (is, tt)
below_more (member k e ms) a b d all is = (below_trans k a b all.0 is, below_more ms a b d all.1 is)

put_last : (key : List ℕ) (d : Data) (ms : Members) → AreBelow ms key → put key d ms ≡ joined ms (member key d no_members)
put_last key d no_members all = refl
put_last key d (member k e ms) all = rw (above_from_below k key all.0) (ap (member k e) (put_last key d ms all.1))

regroup : (old front key value more : List ℕ) → (old ++ (front ++ (key ++ 58 ∷ value))) ++ more ≡ old ++ (front ++ (key ++ 58 ∷ (value ++ more)))
regroup old front key value more = simp append_assoc

module _ {V : Type 0} (data_of : V → Data) where
  -- values under keys as members, in their order
  abbrev pub members_by : List (List ℕ × V) → Members
  members_by [] = no_members
  members_by (e ∷ es) = member e.0 (data_of e.1) (members_by es)

  abbrev pub put_by : List (List ℕ × V) → Members → Members
  put_by [] ms = ms
  put_by (e ∷ es) ms = put_by es (put e.0 (data_of e.1) ms)

  -- each key of the members is below the first of the entries
  abbrev AreBefore : Members → List (List ℕ × V) → Type 0
  AreBefore ms [] = Unit {0}
  AreBefore ms (e ∷ es) = AreBelow ms e.0

  before_next : (ms : Members) (e : List ℕ × V) (es : List (List ℕ × V)) → AreBelow ms e.0 → IsBelow e.0 es → AreBefore (joined ms (member e.0 (data_of e.1) no_members)) es
  before_next ms e [] all below = tt
  before_next ms e (f ∷ es) all below = below_more ms e.0 f.0 (data_of e.1) all below.0

  rising_after : (es : List (List ℕ × V)) (ms : Members) → KeysRise es → AreBefore ms es → put_by es ms ≡ joined ms (members_by es)
  rising_after [] ms rises before = sym (joined_none ms)
  rising_after (e ∷ es) ms rises before =
      ap (put_by es) (put_last e.0 (data_of e.1) ms before)
      ∙ rising_after es (joined ms (member e.0 (data_of e.1) no_members)) (KeysRise-tail e es rises) (before_next ms e es before (KeysRise-head e es rises))
      ∙ joined_assoc ms (member e.0 (data_of e.1) no_members) (members_by es)

  nothing_before : (es : List (List ℕ × V)) → AreBefore no_members es
  nothing_before [] = tt
  nothing_before (e ∷ es) = tt

  rising_members : (es : List (List ℕ × V)) → KeysRise es → put_by es no_members ≡ members_by es
  rising_members es rises = rising_after es no_members rises (nothing_before es)

  -- a member at its place is written before those after it
  pub member_written : (es : List (List ℕ × V)) (i : ℕ) (key : List ℕ) (value : V) (later : Bool) (old new : List ℕ) → slice_get (keys_of es) i ≡ Some key → slice_get (values_of es) i ≡ Some value
      → new ≡ old ++ (comma_if later ++ (quoted key ++ 58 ∷ compact_text (data_of value)))
      → new ++ members_text true (members_by (drop (i + 1) es)) ≡ old ++ members_text later (members_by (drop i es))
  member_written es i key value later old new k v e =
      ap (λ (t : List ℕ). t ++ members_text true (members_by (drop (i + 1) es))) e
      ∙ regroup old (comma_if later) (quoted key) (compact_text (data_of value)) (members_text true (members_by (drop (i + 1) es)))
      ∙ ap (λ (more : List (List ℕ × V)). old ++ members_text later (members_by more)) (sym (drop-read es i key value k v))

  -- after the last member the object is closed
  pub members_written : (es : List (List ℕ × V)) (i : ℕ) (later : Bool) (start text : List ℕ) → length es ≤ i
      → text ++ members_text later (members_by (drop i es)) ≡ start ++ 123 ∷ members_text false (members_by es)
      → text ++ 125 ∷ [] ≡ start ++ 123 ∷ members_text false (members_by es)
  members_written es i later start text past is =
      sym (ap (λ (more : List (List ℕ × V)). text ++ members_text later (members_by more)) (drop_all i es past)) ∙ is

put_settings_by : (settings : Settings) (ms : Members) → put_settings settings ms ≡ put_by string settings ms
put_settings_by [] ms = refl
put_settings_by (x ∷ xs) ms = put_settings_by xs (put x.0 (string x.1) ms)

-- settings stand in the order of their keys
pub settings_rise : (settings : Settings) → KeysRise settings → put_settings settings no_members ≡ members_by string settings
settings_rise settings rises = put_settings_by settings no_members ∙ rising_members string settings rises

put_devices_by : (devices : NamedDevices) (ms : Members) → put_devices devices ms ≡ put_by settings_data devices ms
put_devices_by [] ms = refl
put_devices_by (x ∷ xs) ms = put_devices_by xs (put x.0 (settings_data x.1) ms)

-- devices stand in the order of their names
pub devices_rise : (devices : NamedDevices) → KeysRise devices → put_devices devices no_members ≡ members_by settings_data devices
devices_rise devices rises = put_devices_by devices no_members ∙ rising_members settings_data devices rises
