-- What is done for an operation that fails is what the machine says.
use Rattle.std.proofs.Common.{◌≡◌, ℕ, Option, Some, None, IsSome, find, refl, ap, sym, subst, ◌∙◌}
use Rattle.std.specs.Option.{option_map}
use Rattle.operations.specs.declared.operation.Operation.{Operation}
use Rattle.operations.specs.declared.operation.OpFault.{OpFault}
use Rattle.operations.specs.declared.status.Status.TheVariants as status
use Rattle.operations.specs.OperationTable.{has_number, live_at}
use Rattle.row_machine.specs.machine.Task.{Task}
use Rattle.row_machine.specs.machine.State.{State}
use Rattle.size_values.specs.declared.kinds.Power.{Power}
use Rattle.row_machine.specs.machine.Operations.{after_failure, ended, failed, is_held_by, returned, with_power}
use Rattle.row_machine.specs.facts.Whole.{IsWhole, held_by}
use Rattle.machine_laws.proofs.Base.{live-number}
use Rattle.machine_laws.proofs.EndsLive.{find-map}

-- the instance is broken, the operation ends, and its share goes back
pub failed-by : (s s1 s2 s3 : State) (number : ℕ) (o : Operation Task) (why : OpFault) (count moment : ℕ) → live_at s.operations number ≡ Some o
    → s1 ≡ after_failure o.work count s → s2 ≡ ended number status.Failure why moment s1 → s3 ≡ returned number s2 → s3 ≡ failed s o why count moment
unfolding failed
failed-by s s1 s2 s3 number o why count moment live broken over back =
    back
    ∙ ap (returned number) (over ∙ ap (ended number status.Failure why moment) broken)
    ∙ ap (λ n. returned n (ended n status.Failure why moment (after_failure o.work count s))) (sym (live-number s number o live))

-- a live operation holds a share
pub live-holds : (s : State) (number : ℕ) → IsWhole s → IsSome (live_at s.operations number) → IsSome (find (is_held_by number) s.held)
live-holds s number h live =
    subst (λ held. IsSome (find (is_held_by number) held)) (sym h.shares)
    (subst (λ found. IsSome found) (sym (find-map (held_by s) (has_number number) (is_held_by number) s.operations.live (λ x. refl)))
    (mapped (live_at s.operations number) live))
  where
    mapped : (x : Option (Operation Task)) → IsSome x → IsSome (option_map (held_by s) x)
    mapped None is = is
    mapped (Some o) is = is

-- a status that is given leaves operations and shares
pub power-leaves : {X : Type 0} (read : State → X) (s s' : State) (number : ℕ) (power : Power) → IsSome (live_at s.operations number)
    → ((o : Operation Task) → live_at s.operations number ≡ Some o → s' ≡ with_power s o.work.project o.work.target.name power)
    → ((o : Operation Task) → read (with_power s o.work.project o.work.target.name power) ≡ read s) → read s' ≡ read s
power-leaves read s s' number power live given same = at (live_at s.operations number) refl live where
  at : (x : Option (Operation Task)) → live_at s.operations number ≡ x → IsSome x → read s' ≡ read s
  at None is live = cc
  at (Some o) is live = ap read (given o is) ∙ same o
