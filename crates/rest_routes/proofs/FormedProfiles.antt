-- The profiles of a body that was judged are texts, each once, and not too many.
use Rattle.std.proofs.Common.{◌≡◌, ℕ, suc, Bool, true, false, ◌||◌, List, [], ◌++◌, length, ap, ◌∙◌, nat_le, Option, Some, None, refl, not, codes}
use Rattle.std.specs.Prelude.{is_some, option_map}
use Rattle.std.specs.List.{list_any}
use Rattle.std.specs.Str.{bytes_eq}
use Rattle.std.specs.Option.{option_map_or}
use Rattle.serde_json.specs.Data.{Data, Items, no_items, item}
use Rattle.serde_json.specs.Find.{as_array, as_str}
use Rattle.records.specs.Forms as Forms
use Rattle.records.specs.Forms.{are_profiles, most_profiles}
use Rattle.rest_bodies.specs.Fields.{fault_of, fault_in}
use Rattle.rest_bodies.specs.Members.{non_null_member, unless}
use Rattle.rest_bodies.specs.Profiles.{count_of, are_texts, is_here, is_among, comes_again, are_distinct, are_names, fits_profiles, text_in, texts_in, profiles_in, profiles_at}
use Rattle.rest_bodies.specs.declared.fields.Field.TheVariants as field
use Rattle.rest_routes.proofs.FormedSettings.{both, and_true}

-- a test of a value that passes
fits_of : (fits : Bool) (key : List ℕ) → unless fits key ≡ None → fits ≡ true
fits_of true key h = refl
fits_of false key h = cc

-- as many texts as values, where all are texts
texts_count : (items : Items) → are_texts items ≡ true → length (texts_in items) ≡ count_of items
texts_count no_items h = refl
texts_count (item value more) h = by (as_str value) (both _ _ h).0 (texts_count more (both _ _ h).1)
  where
    by : (o : Option (List ℕ)) → is_some o ≡ true → length (texts_in more) ≡ count_of more → length (text_in o ++ texts_in more) ≡ suc (count_of more)
    by None h k = cc
    by (Some text) h k = ap suc k

-- a text is among values where it is one of their texts
among_texts : (text : List ℕ) (items : Items) → list_any (bytes_eq text) (texts_in items) ≡ is_among text items
among_texts text no_items = refl
among_texts text (item value more) = by (as_str value) (among_texts text more)
  where
    by : (o : Option (List ℕ)) → list_any (bytes_eq text) (texts_in more) ≡ is_among text more
        → list_any (bytes_eq text) (text_in o ++ texts_in more) ≡ (is_here text o || is_among text more)
    by None h = h
    by (Some found) h = ap (λ b. bytes_eq text found || b) h

-- no text comes twice
distinct_texts : (items : Items) → are_distinct items ≡ true → Forms.are_distinct (texts_in items) ≡ true
distinct_texts no_items h = refl
distinct_texts (item value more) h = by (as_str value) (both _ _ h).0 (distinct_texts more (both _ _ h).1)
  where
    by : (o : Option (List ℕ)) → not (comes_again o more) ≡ true → Forms.are_distinct (texts_in more) ≡ true → Forms.are_distinct (text_in o ++ texts_in more) ≡ true
    by None h k = k
    by (Some text) h k = and_true _ _ (ap not (among_texts text more) ∙ h) k

-- the profiles of a list that has their form
names_formed : (items : Items) → are_names (count_of items) items ≡ true → are_profiles (texts_in items) ≡ true
names_formed items h = and_true _ _
    (ap (λ n. nat_le n most_profiles) (texts_count items (both _ _ (both _ _ h).0).1) ∙ (both _ _ (both _ _ h).0).0)
    (distinct_texts items (both _ _ h).1)

profiles_formed : (value : Data) → fits_profiles value ≡ true → are_profiles (profiles_in value) ≡ true
unfolding fits_profiles profiles_in
profiles_formed value h = by (as_array value) h
  where
    by : (o : Option Items) → option_map_or (λ items. are_names (count_of items) items) o false ≡ true → are_profiles (option_map_or texts_in o []) ≡ true
    by None h = cc
    by (Some items) h = names_formed items h

pub profiles_at_formed : (body : Data) → fault_of field.Profiles body ≡ None → option_map_or are_profiles (profiles_at body) true ≡ true
unfolding fault_of profiles_at
profiles_at_formed body h = by (non_null_member (codes "profiles") body) h
  where
    by : (o : Option Data) → fault_in field.Profiles o ≡ None → option_map_or are_profiles (option_map profiles_in o) true ≡ true
    by None h = refl
    by (Some value) h = profiles_formed value (fits_of (fits_profiles value) (codes "profiles") h)
