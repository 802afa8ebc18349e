-- Members of objects: those of the kit's word, and those of settings.
use Rattle.std.proofs.Common.{◌≡◌, ℕ, Bool, true, false, cond, List, [], ◌∷◌, Option, Some, option_and_then, refl, sym, ap, ◌∙◌, ◌||◌}
use Rattle.std.specs.Ordering.{is_eq, nat_cmp, match_ordering}
use Rattle.std.specs.Cmp.Lexicographic.{slice_cmp}
use Rattle.std.specs.Str.{bytes_eq}
use Rattle.std.specs.declared.cmp.Ordering.{Ordering}
use Rattle.std.specs.declared.cmp.Ordering.TheVariants.{Less, Equal, Greater}
use Rattle.std.proofs.lemmas.Map.Text.{is_eq-slice_cmp}
use Rattle.config_lists.specs.Entries.{value_of, KeysRise}
use Rattle.config_lists.specs.Settings.{Settings, setting}
use Rattle.serde_json.specs.Data.{Data, null, boolean, number, string, array, object, Members, no_members, member}
use Rattle.serde_json.specs.Find.{get, get_member}
use Rattle.serde_json.specs.Written.{has_float, members_have_float}
use Rattle.rest_json.specs.Settings.{settings_data}
use Rattle.rest_json.proofs.Rising.{settings_rise, members_by}
use Rattle.list_filter.specs.Values.{member_named, member_of, member_text, text_of}

by_order : (o : Ordering) (found : Data) (a b : Option Data) → a ≡ b → match_ordering o a (Some found) a ≡ cond (is_eq o) (Some found) b
by_order Less found a b e = e
by_order Equal found a b e = refl
by_order Greater found a b e = e

pub named : (name : List ℕ) (members : Members) → get_member name members ≡ member_named name members
named name no_members = refl
named name (member key value members) =
    by_order (slice_cmp nat_cmp name key) value (get_member name members) (member_named name members) (named name members)
    ∙ ap (λ b. cond b (Some value) (member_named name members)) (is_eq-slice_cmp name key)

-- the member that the kit finds by its name
pub got : (name : List ℕ) (shown : Data) → get name shown ≡ member_of name shown
got name null = refl
got name (boolean b) = refl
got name (number n) = refl
got name (string s) = refl
got name (array items) = refl
got name (object members) = named name members

-- ---- no member of an object without fractions has one

both_false : (a b : Bool) → (a || b) ≡ false → (a ≡ false) × (b ≡ false)
both_false true b e = cc
both_false false b e = (refl, e)

same_some : {x y : Data} → Some x ≡ Some y → x ≡ y
same_some e = cc

plain_named : (name : List ℕ) (members : Members) (value : Data) → members_have_float members ≡ false → member_named name members ≡ Some value → has_float value ≡ false
plain_named name no_members value plain is = cc
plain_named name (member key first members) value plain is =
    let parts : (has_float first ≡ false) × (members_have_float members ≡ false) = both_false (has_float first) (members_have_float members) plain in
    by (bytes_eq name key) parts.0 (plain_named name members value parts.1) is
  where
    by : (b : Bool) → has_float first ≡ false → (member_named name members ≡ Some value → has_float value ≡ false) → cond b (Some first) (member_named name members) ≡ Some value → has_float value ≡ false
    by true here later found = ap has_float (sym (same_some found)) ∙ here
    by false here later found = later found

pub plain_member : (name : List ℕ) (shown value : Data) → has_float shown ≡ false → get name shown ≡ Some value → has_float value ≡ false
plain_member name null value plain is = cc
plain_member name (boolean b) value plain is = cc
plain_member name (number n) value plain is = cc
plain_member name (string s) value plain is = cc
plain_member name (array items) value plain is = cc
plain_member name (object members) value plain is = plain_named name members value plain (sym (named name members) ∙ is)

-- ---- settings

by_key : (name : List ℕ) (settings : Settings) → option_and_then text_of (member_named name (members_by string settings)) ≡ setting settings name
unfolding value_of
by_key name [] = refl
by_key name (entry ∷ settings) = by (bytes_eq name entry.0) (by_key name settings)
  where
    by : (b : Bool) → option_and_then text_of (member_named name (members_by string settings)) ≡ setting settings name
        → option_and_then text_of (cond b (Some (string entry.1)) (member_named name (members_by string settings))) ≡ cond b (Some entry.1) (setting settings name)
    by true later = refl
    by false later = later

-- the value of a key of settings is that of the member of its name
pub setting_text : (name : List ℕ) (settings : Settings) → KeysRise settings → setting settings name ≡ member_text name (settings_data settings)
unfolding settings_data
setting_text name settings rises =
    sym (by_key name settings) ∙ ap (λ members. option_and_then text_of (member_named name members)) (sym (settings_rise settings rises))
