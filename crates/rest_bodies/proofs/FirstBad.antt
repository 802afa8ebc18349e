-- The first fault among fields is that of the first field at fault.
use Rattle.std.proofs.Common.{◌≡◌, ℕ, Bool, true, false, List, [], ◌∷◌, Option, Some, None, is_some, cond, refl, ap, ◌∙◌}
use Rattle.serde_json.specs.Data.{Data}
use Rattle.rest_bodies.specs.Fields.{fields_of, fault_of, first_fault, or_next, body_fault, IsFirstBad}
use Rattle.rest_bodies.specs.Instances.{restore_at}
use Rattle.rest_bodies.specs.declared.fields.Field.{Field}
use Rattle.rest_bodies.specs.declared.fields.Shape.{Shape}
use Rattle.rest_bodies.specs.declared.fields.Shape.TheVariants as shape

-- a field without a fault stands before the first bad one
following : (field : Field) (fields : List Field) (body : Data) (key : List ℕ) → fault_of field body ≡ None → IsFirstBad fields body key → IsFirstBad (field ∷ fields) body key
following field fields body key fine h = record {
  before = field ∷ h.before;
  bad = h.bad;
  after = h.after;
  is = ap (λ fs. field ∷ fs) h.is;
  none_before = rw fine h.none_before;
  is_bad = h.is_bad;
}

-- the key of the first fault
first_bad : (fields : List Field) (body : Data) (key : List ℕ) → first_fault fields body ≡ Some key → IsFirstBad fields body key
first_bad [] body key h = cc
first_bad (field ∷ fields) body key h = by (fault_of field body) refl (first_bad fields body key) h
  where
    by : (o : Option (List ℕ)) → fault_of field body ≡ o → (first_fault fields body ≡ Some key → IsFirstBad fields body key) → or_next o (first_fault fields body) ≡ Some key → IsFirstBad (field ∷ fields) body key
    by None is rest h = following field fields body key is (rest h)
    by (Some other) is rest h = record { before = []; bad = field; after = fields; is = refl; none_before = refl; is_bad = is ∙ h }

-- where fields of a body are judged at all, they are those of its shape
pub body_first_bad : (shape : Shape) (body : Data) (key : List ℕ) → body_fault shape body ≡ Some key → IsFirstBad (fields_of shape) body key
unfolding body_fault
body_first_bad shape.InstancePut body key h = by (is_some (restore_at body)) h
  where
    by : (restores : Bool) → first_fault (cond restores [] (fields_of shape.InstancePut)) body ≡ Some key → IsFirstBad (fields_of shape.InstancePut) body key
    by true h = cc
    by false h = first_bad (fields_of shape.InstancePut) body key h
body_first_bad other body key h = first_bad (fields_of other) body key h
