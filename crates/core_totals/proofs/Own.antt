-- Rules on the objects of one project, of which only what a new operation claims can break one.
use Rattle.std.proofs.Common.{◌≡◌, ℕ, Bool, true, false, cond, Option, Some, None, List, [], ◌∷◌, ◌++◌, filter, refl, ◌∙◌, ap}
use Rattle.std.specs.Option.{option_or, option_and_then, option_to_list}
use Rattle.std.specs.Str.{bytes_eq}
use Rattle.plain_lists.specs.Firsts.{first_of}
use Rattle.plain_lists.specs.Members.{Mem}
use Rattle.plain_lists.proofs.Elements.{Mem-right}
use Rattle.plain_lists.proofs.Readings.{Mem-read}
use Rattle.config_lists.proofs.Keys.{same}
use Rattle.operations.specs.declared.operation.Operation.{Operation}
use Rattle.row_machine.specs.machine.Claims.{of_live}
use Rattle.row_machine.specs.machine.State.{State}
use Rattle.row_machine.specs.machine.Task.{Task}

module _ {X R : Type 0} (rule : X → Option R) (project : X → List ℕ) (name : List ℕ) where
  -- the rule asked of an object of the project alone
  pub own-none : (x : X) → (project x ≡ name → rule x ≡ None) → cond (bytes_eq (project x) name) (rule x) None ≡ None
  own-none x free = at (bytes_eq (project x) name) refl where
    at : (b : Bool) → bytes_eq (project x) name ≡ b → cond b (rule x) None ≡ None
    at true is = free (same (project x) name is)
    at false is = refl

  -- of an object that there may be
  pub claim-none : (o : Option X) → ((x : X) → o ≡ Some x → project x ≡ name → rule x ≡ None)
      → option_and_then (λ x. cond (bytes_eq (project x) name) (rule x) None) o ≡ None
  claim-none None free = refl
  claim-none (Some x) free = own-none x (free x refl)

  -- and the same of a list with it
  pub listed-none : (o : Option X) → ((x : X) → o ≡ Some x → project x ≡ name → rule x ≡ None)
      → first_of rule (filter (λ x. bytes_eq (project x) name) (option_to_list o)) ≡ None
  listed-none None free = refl
  listed-none (Some x) free = at (bytes_eq (project x) name) refl where
    at : (b : Bool) → bytes_eq (project x) name ≡ b → first_of rule (cond b (x ∷ []) []) ≡ None
    at true is = ap (λ o. option_or o None) (free x refl (same (project x) name is))
    at false is = refl

pub or-none : {R : Type 0} (o : Option R) → option_or o None ≡ o
or-none None = refl
or-none (Some r) = refl

-- of three rules two are not broken, and the last one decides
pub last-of : {R : Type 0} {a b c d : Option R} → a ≡ None → b ≡ None → c ≡ d → option_or a (option_or b (option_or c None)) ≡ d
last-of {R} {a} {b} {c} {d} first second third =
    ap (λ o. option_or o (option_or b (option_or c None))) first
    ∙ ap (λ o. option_or o (option_or c None)) second
    ∙ or-none c
    ∙ third

-- of three rules only the first may be broken, and decides
pub first-alone : {R : Type 0} {a b c d : Option R} → a ≡ d → b ≡ None → c ≡ None → option_or a (option_or b (option_or c None)) ≡ d
first-alone {R} {a} {b} {c} {d} first second third =
    ap (λ o. option_or a (option_or o (option_or c None))) second
    ∙ ap (λ o. option_or a (option_or o None)) third
    ∙ or-none a
    ∙ first

-- what a live operation claims is among the rows and claims
pub claimed : {X : Type 0} (read : Task → Option X) (s : State) (rows : List X) (o : Operation Task) (x : X)
    → Mem o s.operations.live → read o.work ≡ Some x → Mem x (rows ++ of_live read s)
claimed read s rows o x m is = Mem-right x rows (of_live read s) (Mem-read (λ (y : Operation Task). read y.work) o x s.operations.live m is)
