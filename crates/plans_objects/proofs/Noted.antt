-- The plan of what is there, with the notice of it.
use Rattle.std.proofs.Common.{◌≡◌, refl, subst, List, [], ◌∷◌, Option, Some, None, Result}
use Rattle.std.specs.Result.{IfOk}
use Rattle.std.specs.Option.{option_map, option_to_list}
use Rattle.size_values.specs.declared.memory.NoMemory.{NoMemory}
use Rattle.records.specs.declared.notices.Life.{Life}
use Rattle.records.specs.declared.notices.Untold.{Untold}
use Rattle.records.specs.declared.rows.Row.{Row}
use Rattle.row_machine.specs.declared.changes.RowChange.{RowChange}
use Rattle.row_machine.specs.machine.Plans.{Plan, if_there}
use Rattle.plans_objects.specs.declared.planned.Planned.{Planned}
use Rattle.plans_objects.specs.Planning.{changes_in, IsPlanned}

-- what is told of an action is told of the one that there is
pub noted : (plan : Plan) (notice : Life → Untold) (action : Life) (tells : Option Life) (r : Result (Option Planned) NoMemory)
    → Some action ≡ tells → IfOk r (λ p. IsPlanned p plan (notice action ∷ []))
    → IfOk r (λ p. IsPlanned p plan (option_to_list (option_map notice tells)))
noted plan notice action tells r is h = subst (λ t. IfOk r (λ p. IsPlanned p plan (option_to_list (option_map notice t)))) is h

-- the changes of what is there are those of the plan
pub changes-there : (plan : Row → Plan) (x : Row) (there : Option Row) (cs : Option (List RowChange))
    → Some x ≡ there → cs ≡ changes_in (plan x) → cs ≡ changes_in (if_there plan there)
changes-there plan x there cs is h = subst (λ t. cs ≡ changes_in (if_there plan t)) is h

-- what is missing changes nothing
pub changes-gone : (plan : Row → Plan) (there : Option Row) → None ≡ there → changes_in (if_there plan there) ≡ None
changes-gone plan there is = subst (λ t. changes_in (if_there plan t) ≡ None) is refl
