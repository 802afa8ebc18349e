-- Where a new object comes from has the form of its kind.
use Rattle.std.proofs.Common.{◌≡◌, ℕ, Bool, true, false, ◌&&◌, List, [], Option, Some, None, refl, cond, not, codes}
use Rattle.std.specs.Prelude.{option_and_then}
use Rattle.std.specs.Option.{option_map_or}
use Rattle.std.specs.List.{before_first, after_first}
use Rattle.serde_json.specs.Data.{Data}
use Rattle.size_values.specs.declared.kinds.ObjectKind.TheVariants as kind
use Rattle.records.specs.Forms.{is_empty, has_slash, may_come_from}
use Rattle.records.specs.declared.commands.Origin.{Origin}
use Rattle.records.specs.declared.commands.Origin.TheVariants as origin
use Rattle.rest_bodies.specs.Copies.{is_slash, is_part, two_parts, copied_in, copied_at, copied_from, copy_origin}
use Rattle.rest_bodies.specs.Instances.{image_name, instance_made, instance_origin}
use Rattle.rest_bodies.specs.Members.{non_null_member, text_at}
use Rattle.rest_bodies.specs.Origins.{has_word, volume_copied, volume_origin}
use Rattle.rest_routes.proofs.FormedSettings.{both, and_true}

-- ---- new instances

-- no copy
abbrev pub is_new : Origin → Bool
is_new origin.None = true
is_new (origin.Image name) = true
is_new (origin.Copy from snapshot pool) = false

made_new : (source : Data) → is_new (instance_made source) ≡ true
unfolding instance_made
made_new source = by (has_word (codes "image") (non_null_member (codes "type") source))
  where
    by : (b : Bool) → is_new (cond b (origin.Image (image_name source)) origin.None) ≡ true
    by true = refl
    by false = refl

pub origin_new : (body : Data) → is_new (instance_origin body) ≡ true
unfolding instance_origin
origin_new body = by (non_null_member (codes "source") body)
  where
    by : (o : Option Data) → is_new (option_map_or instance_made o origin.None) ≡ true
    by None = refl
    by (Some source) = made_new source

-- ---- copies of instances

-- a name and a snapshot that may be copied, where the snapshot may be left out
abbrev AreNames : List ℕ × List ℕ → Type 0
AreNames names = may_come_from kind.Instance (origin.Copy names.0 names.1 []) ≡ true

-- the names that were found, if any were
abbrev FoundNames : Option (List ℕ × List ℕ) → Type 0
FoundNames None = Unit {0}
FoundNames (Some names) = AreNames names

part_name : (text : List ℕ) → is_part text ≡ true → AreNames (text, [])
unfolding is_part
part_name text h = and_true _ _ (and_true _ _ h refl) refl

parts_names : (name snapshot : List ℕ) → is_part name ≡ true → is_part snapshot ≡ true → AreNames (name, snapshot)
unfolding is_part
parts_names name snapshot h k =
    and_true _ _ (and_true _ _ h (both (not (is_empty snapshot)) (not (has_slash snapshot)) k).1) refl

two_names : (name snapshot : List ℕ) → FoundNames (two_parts name snapshot)
two_names name snapshot = by (is_part name) (is_part snapshot) (parts_names name snapshot)
  where
    by : (a b : Bool) → (a ≡ true → b ≡ true → AreNames (name, snapshot)) → FoundNames (cond (a && b) (Some (name, snapshot)) None)
    by true true names = names refl refl
    by true false names = tt
    by false b names = tt

names_in_text : (text : List ℕ) → FoundNames (copied_in text)
unfolding copied_in
names_in_text text = by (is_part text) (part_name text) (two_names (before_first is_slash text) (after_first is_slash text))
  where
    by : (a : Bool) → (a ≡ true → AreNames (text, [])) → FoundNames (two_parts (before_first is_slash text) (after_first is_slash text))
        → FoundNames (cond a (Some (text, [])) (two_parts (before_first is_slash text) (after_first is_slash text)))
    by true name names = name refl
    by false name names = names

names_at : (source : Data) → FoundNames (copied_at source)
unfolding copied_at
names_at source = by (text_at (codes "source") source)
  where
    by : (o : Option (List ℕ)) → FoundNames (option_and_then copied_in o)
    by None = tt
    by (Some text) = names_in_text text

-- what an instance is copied from
pub copy_formed : (body : Data) → may_come_from kind.Instance (copy_origin body) ≡ true
unfolding copy_origin
copy_formed body = by (non_null_member (codes "source") body)
  where
    from : (found : Option (List ℕ × List ℕ)) → FoundNames found → may_come_from kind.Instance (copied_from found) ≡ true
    from None h = refl
    from (Some names) h = h

    by : (o : Option Data) → may_come_from kind.Instance (copied_from (option_and_then copied_at o)) ≡ true
    by None = refl
    by (Some source) = from (copied_at source) (names_at source)

-- ---- new volumes

-- what a volume is made from
pub volume_formed : (body : Data) (pool : List ℕ) → may_come_from kind.Volume (volume_origin body pool) ≡ true
unfolding volume_origin
volume_formed body pool = by (non_null_member (codes "source") body)
  where
    by : (o : Option Data) → may_come_from kind.Volume (volume_copied o pool) ≡ true
    by None = refl
    by (Some source) = refl
