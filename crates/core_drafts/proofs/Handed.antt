-- What one operation hands out is one call, and leaves one task.
use Rattle.std.proofs.Common.{◌≡◌, ◌∙◌, Some, ap, sym}
use Rattle.host_model.specs.declared.call.HostCall.{HostCall}
use Rattle.operations.specs.declared.operation.Operation.{Operation}
use Rattle.core_drafts.specs.declared.calls.Handing.{Handing}
use Rattle.core_drafts.specs.Background.{handed}
use Rattle.row_machine.specs.machine.Task.{Task}

-- equal pairs of a call and a task
abbrev Same : HostCall × Task → HostCall × Task → Type 0
Same x y = x ≡ y

same-pair : (which : Handing) (now o : Operation Task) (a b : HostCall) (t u : Task) → Some now ≡ Some o
    → handed which now.work ≡ Some (a, t) → handed which o.work ≡ Some (b, u) → (a ≡ b) × (t ≡ u)
same-pair which now o a b t u same first second =
    let is : now ≡ o = cc in
    let both : Some (a, t) ≡ Some (b, u) = sym first ∙ ap (λ (x : Operation Task). handed which x.work) is ∙ second in
    let pair : Same (a, t) (b, u) = cc in
    (ap (λ (x : HostCall × Task). x.0) pair, ap (λ (x : HostCall × Task). x.1) pair)

pub same-call : (which : Handing) (now o : Operation Task) (a b : HostCall) (t u : Task) → Some now ≡ Some o
    → handed which now.work ≡ Some (a, t) → handed which o.work ≡ Some (b, u) → a ≡ b
same-call which now o a b t u same first second = (same-pair which now o a b t u same first second).0

pub same-task : (which : Handing) (now o : Operation Task) (a b : HostCall) (t u : Task) → Some now ≡ Some o
    → handed which now.work ≡ Some (a, t) → handed which o.work ≡ Some (b, u) → t ≡ u
same-task which now o a b t u same first second = (same-pair which now o a b t u same first second).1
