-- A status that is given before the rows of a success are committed: where that fails, the failure gives another one.
use Rattle.std.proofs.Common.{◌≡◌, ℕ, ◌+◌, nat_lt, Bool, true, false, ◌&&◌, cond, List, [], ◌∷◌, Option, Some, None, refl, ap, ◌∙◌, arith}
use Rattle.std.proofs.lemmas.Bool.{lt-ltb}
use Rattle.plain_lists.specs.Edits.{changed_first}
use Rattle.size_values.specs.declared.kinds.Deed.{Deed}
use Rattle.size_values.specs.declared.kinds.Deed.TheVariants as deed
use Rattle.size_values.specs.declared.kinds.Power.{Power}
use Rattle.size_values.specs.declared.kinds.Power.TheVariants.{Error}
use Rattle.operations.specs.declared.operation.Operation.{Operation}
use Rattle.operations.specs.declared.operation.OpFault.{OpFault}
use Rattle.operations.specs.declared.status.Status.TheVariants as status
use Rattle.row_machine.specs.machine.Task.{Task}
use Rattle.row_machine.specs.machine.State.{State, InstancePower}
use Rattle.row_machine.specs.machine.Rows.{is_power_of}
use Rattle.row_machine.specs.machine.Operations.{with_power, with_power_after, power_after, after_failure, failed, returned, ended}

-- a second change of the first that passes, which the first change leaves passing
changed-twice : {X : Type 0} (p : X → Bool) (f g : X → X) (xs : List X) → ((x : X) → p (f x) ≡ p x) → ((x : X) → g (f x) ≡ g x)
    → changed_first p g (changed_first p f xs) ≡ changed_first p g xs
changed-twice p f g [] keeps over = refl
changed-twice {X} p f g (y ∷ ys) keeps over = at (p y) refl (changed-twice p f g ys keeps over) where
  at : (b : Bool) → p y ≡ b → changed_first p g (changed_first p f ys) ≡ changed_first p g ys
      → changed_first p g (cond b (f y ∷ ys) (y ∷ changed_first p f ys)) ≡ cond b (g y ∷ ys) (y ∷ changed_first p g ys)
  at true is more = ap (λ b. cond b (g (f y) ∷ ys) (f y ∷ changed_first p g ys)) (keeps y ∙ is) ∙ ap (λ z. z ∷ ys) (over y)
  at false is more = ap (λ b. cond b (g y ∷ changed_first p f ys) (y ∷ changed_first p g (changed_first p f ys))) is ∙ ap (λ zs. y ∷ zs) more

-- the status that is given last stands
power-over : (s : State) (project name : List ℕ) (one other : Power) → with_power (with_power s project name one) project name other ≡ with_power s project name other
power-over s project name one other =
    ap (λ powers. record s { powers = powers })
    (changed-twice (is_power_of project name) (λ (p : InstancePower). record p { power = one }) (λ (p : InstancePower). record p { power = other }) s.powers
    (λ x. refl) (λ x. refl))

-- after a failure of a deed that was to give a status, its instance is in an unknown state, whatever it was given
pub failure-over : (s : State) (task : Task) (power : Option Power) (count : ℕ) → power_after s task ≡ power
    → after_failure task (count + 1) (with_power_after task power s) ≡ after_failure task (count + 1) s
failure-over s task None count is = refl
failure-over s task (Some power) count is = by task.deed is where
  breaks : (test : Bool) → test ≡ true
      → cond test (with_power (with_power s task.project task.target.name power) task.project task.target.name Error) (with_power s task.project task.target.name power)
      ≡ cond test (with_power s task.project task.target.name Error) s
  breaks true e = power-over s task.project task.target.name power Error
  breaks false e = cc

  some-done : (nat_lt 0 (count + 1)) ≡ true
  some-done = lt-ltb 0 (count + 1) (omega arith)

  by : (d : Deed) → power_after s (record task { deed = d }) ≡ Some power
      → after_failure (record task { deed = d }) (count + 1) (with_power s task.project task.target.name power) ≡ after_failure (record task { deed = d }) (count + 1) s
  by (deed.Act does ephemeral) e = breaks (nat_lt 0 (count + 1) && true) (ap (λ b. b && true) some-done)
  by deed.Create e = cc
  by deed.Copy e = cc
  by deed.Update e = cc
  by deed.Restore e = cc
  by deed.Rename e = cc
  by deed.Delete e = cc
  by deed.Snap e = cc
  by deed.Unsnap e = cc
  by deed.CopyVolume e = cc

-- the operation fails as if its target had not been given a status
pub failed-over : (s : State) (o : Operation Task) (power : Option Power) (why : OpFault) (moment : ℕ) → power_after s o.work ≡ power
    → failed (with_power_after o.work power s) o why (o.work.done + 1) moment ≡ failed s o why (o.work.done + 1) moment
unfolding failed
failed-over s o power why moment is =
    ap (λ t. returned o.number (ended o.number status.Failure why moment t)) (failure-over s o.work power o.work.done is)
