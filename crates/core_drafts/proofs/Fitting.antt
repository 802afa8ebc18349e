-- What takes a change back fits, seen from the fields.
use Rattle.std.proofs.Common.{◌≡◌, sym, subst}
use Rattle.row_machine.specs.machine.State.{State}
use Rattle.core_drafts.specs.declared.lists.Undone.{Undone}
use Rattle.core_drafts.specs.Steps.{FitsChange}

pub fits-of : (u v : Undone) (s t : State) → u ≡ v → t ≡ s → FitsChange u s → FitsChange v t
fits-of u v s t is same fits = subst (λ w. FitsChange w t) is (subst (FitsChange u) (sym same) fits)
