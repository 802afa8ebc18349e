-- Without a filter each object of a list is chosen.
use Rattle.std.proofs.Common.{◌≡◌, List, [], ◌∷◌, None, refl, ap}
use Rattle.records.specs.declared.replies.View.{View}
use Rattle.rest_json.specs.declared.terms.Terms.{Terms}
use Rattle.rest_replies.specs.Chosen.{chosen}

pub all_chosen : (terms : Terms) (views : List View) → chosen terms None views ≡ views
all_chosen terms [] = refl
all_chosen terms (shown ∷ views) = ap (λ more. shown ∷ more) (all_chosen terms views)
