-- The members of an object from which a key was removed.
use Rattle.std.proofs.Common.{◌≡◌, ℕ, List, [], ◌∷◌, Bool, true, false, cond, string_bytes, nat_cmp, bytes_eq, refl, ap, ◌∙◌}
use Rattle.std.proofs.lemmas.Map.Text.{is_eq-slice_cmp}
use Rattle.std.specs.BTreeMap.{is_at}
use Rattle.std.specs.Cmp.Lexicographic.{slice_cmp}
use Rattle.std.specs.Map.{remove_entry}
use Rattle.serde_json.proofs.Views.{Entry}
use Rattle.serde_json.specs.Data.{member}
use Rattle.serde_json.specs.View.{view, members_view}
use Rattle.rest_bodies.specs.Without.{members_without}

pub removed : (key : List ℕ) (es : List Entry)
    → members_view (remove_entry (is_at (λ k. slice_cmp nat_cmp key (string_bytes k))) es) ≡ members_without key (members_view es)
removed key [] = refl
removed key (e ∷ es) =
    ap (λ here. members_view (cond here es (e ∷ remove_entry (is_at (λ k. slice_cmp nat_cmp key (string_bytes k))) es)))
    (is_eq-slice_cmp key (string_bytes e.0))
    ∙ by (bytes_eq key (string_bytes e.0)) (removed key es)
  where
    by : (here : Bool)
        → members_view (remove_entry (is_at (λ k. slice_cmp nat_cmp key (string_bytes k))) es) ≡ members_without key (members_view es)
        → members_view (cond here es (e ∷ remove_entry (is_at (λ k. slice_cmp nat_cmp key (string_bytes k))) es))
        ≡ cond here (members_view es) (member (string_bytes e.0) (view e.1) (members_without key (members_view es)))
    by true rest = refl
    by false rest = ap (member (string_bytes e.0) (view e.1)) rest
