use Rattle.std.proofs.Common.{◌≡◌, false, Bool, refl, Option, Some, None, List, ℕ}
use Rattle.std.specs.Option.{option_map_or}
use Rattle.std.specs.Str.{bytes_eq}
use Rattle.uuid.specs.Text.{hyphenated_text, lower, parsed}
use Rattle.client_replies.specs.Forms.{is_id}
use Rattle.client_replies.proofs.forms.is_id.Goals as goal

-- a test of nothing fails
none_passes : (test : List ℕ → Bool) (found : Option (List ℕ)) → ((u : List ℕ) → found ≡ Some u → ⊥)
    → false ≡ option_map_or test found false
none_passes test None never = refl
none_passes test (Some u) never = absurd (never u refl)

pub returns-in-Err : goal.returns-in-Err
unfolding is_id
returns-in-Err c =
    none_passes (λ bytes. bytes_eq (hyphenated_text lower bytes) c.args.text.now) (parsed c.args.text.now)
    (λ u e. let never = c.in-Err.ensures.ok.1 (u, e) in cc)
