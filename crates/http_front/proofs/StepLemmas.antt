-- Calls of `read_request` one after the other.
use Rattle.std.proofs.Common.{◌≡◌, ℕ, List, [], ◌∷◌, refl, sym, subst}
use Rattle.std.proofs.lemmas.Option.{same_Some}
use Rattle.http_heads.specs.declared.request.Request.{Request}
use Rattle.http_heads.specs.Messages.{IsMessage, Ending, ended, cut, malformed, Splits}
use Rattle.http_heads.proofs.MessageLemmas.{splits_unique}
use Rattle.http_front.specs.Reading.{Answers}

pub steps_split : (text : List ℕ) (messages : List Request) (ending : Ending) → Answers text messages ending → Splits text messages ending
steps_split text [] ended h = record { rest = text; begins = refl; ends = h.2.0 }
steps_split text [] (cut n) h = record { rest = text; begins = refl; ends = (h.2.0, h.2.3) }
steps_split text [] (malformed fault) h = record { rest = text; begins = refl; ends = h.2.0 }
steps_split text (m ∷ messages) ending h =
    let later = steps_split h.0 messages ending h.3 in
    let same : h.0 ≡ h.2.0 = same_Some h.0 h.2.0 h.2.2 in
    record { rest = later.rest; begins = (h.0, subst (IsMessage text m) (sym same) h.2.1, later.begins); ends = later.ends }

pub answers_agree : (text : List ℕ) (ms ns : List Request) (e d : Ending) → Answers text ms e → Answers text ns d → (ms ≡ ns) × (e ≡ d)
answers_agree text ms ns e d h k = splits_unique text ms ns e d (steps_split text ms e h) (steps_split text ns d k)
