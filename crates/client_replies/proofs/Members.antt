-- What the members of a value are like.
use Rattle.std.proofs.Common.{◌≡◌, ℕ, List, false, Some, subst}
use Rattle.std.proofs.lemmas.Bool.{or_parts}
use Rattle.std.specs.declared.cmp.Ordering.{Ordering}
use Rattle.std.specs.declared.cmp.Ordering.TheVariants.{Less, Equal, Greater}
use Rattle.std.specs.Ordering.{nat_cmp, match_ordering}
use Rattle.std.specs.Cmp.Lexicographic.{slice_cmp}
use Rattle.serde_json.specs.Data.{Data, null, boolean, number, string, array, object, Members, no_members, member}
use Rattle.serde_json.specs.Find.{get, get_member}
use Rattle.serde_json.specs.Written.{has_float, members_have_float}

same_value : {X : Type 0} {x y : X} → Some x ≡ Some y → x ≡ y
same_value e = cc

member_whole : (key : List ℕ) (ms : Members) (d : Data) → members_have_float ms ≡ false → get_member key ms ≡ Some d → has_float d ≡ false
member_whole key no_members d h e = cc
member_whole key (member l f ms) d h e =
    at (slice_cmp nat_cmp key l) (λ found. member_whole key ms d (or_parts (has_float f) (members_have_float ms) h).1 found) e
  where
    at : (o : Ordering) → (get_member key ms ≡ Some d → has_float d ≡ false) → match_ordering o (get_member key ms) (Some f) (get_member key ms) ≡ Some d → has_float d ≡ false
    at Less later is = later is
    at Equal later is = subst (λ x. has_float x ≡ false) (same_value is) (or_parts (has_float f) (members_have_float ms) h).0
    at Greater later is = later is

-- a member of a value without fractions has none
pub get_whole : (key : List ℕ) (body d : Data) → has_float body ≡ false → get key body ≡ Some d → has_float d ≡ false
get_whole key null d h e = cc
get_whole key (boolean b) d h e = cc
get_whole key (number n) d h e = cc
get_whole key (string s) d h e = cc
get_whole key (array ds) d h e = cc
get_whole key (object ms) d h e = member_whole key ms d h e
