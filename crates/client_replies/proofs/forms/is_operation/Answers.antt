use Rattle.std.proofs.Common.{◌≡◌, ℕ, List, ◌++◌, Bool, true, false, take, drop, codes, refl, sym, ap, ◌∙◌, take-append-drop}
use Rattle.std.specs.Str.{bytes_eq}
use Rattle.std.specs.Str.Pattern.{LacksTextAt}
use Rattle.std.proofs.lemmas.Slice.Eq.{bytes_eq-Decides}
use Rattle.client_replies.specs.Forms.{is_operation}
use Rattle.client_replies.proofs.forms.is_operation.Goals as goal

-- a text without that front is no path
lacks_front : (path : List ℕ) → LacksTextAt (codes "/1.0/operations/") path 0 → false ≡ is_operation path
unfolding is_operation
lacks_front path never = at (bytes_eq (take 16 path) (codes "/1.0/operations/")) refl
  where
    at : (b : Bool) → bytes_eq (take 16 path) (codes "/1.0/operations/") ≡ b → false ≡ is_operation path
    at true is =
        absurd (never (drop 16 path)
        (sym (take-append-drop 16 path)
        ∙ ap (λ front. front ++ drop 16 path) ((bytes_eq-Decides (take 16 path) (codes "/1.0/operations/")).0 is)))
    at false is = rw is refl

pub returns-in-None : goal.returns-in-None
returns-in-None c = lacks_front c.args.path.now c.in-None.ensures.cases
