use Rattle.std.proofs.Common.{◌≡◌, ap, ◌∙◌}
use Rattle.std.specs.List.{sum_by}
use Rattle.size_values.specs.Amounts.{part}
use Rattle.size_values.specs.declared.amounts.Part.{Part}
use Rattle.size_values.specs.declared.amounts.Part.TheVariants as part_of
use Rattle.row_machine.specs.machine.Usage.{amount_for, used, usage_of}
use Rattle.row_readings.proofs.state_ref.StateRef.usage.Goals as goal

pub returns : goal.returns
unfolding usage_of
returns c =
    let sums : (k : Part) → part k c.usage_in-used.result ≡ used c.args.self.now c.args.project.now k =
    λ k. c.usage_in-used.ensures.sums k
    ∙ ap (λ all. sum_by (amount_for c.args.project.now k) all) (c.deref.ensures.value ∙ c.in_ok-all.ensures.loads)
    in
    λ i. record {
      instances = sums part_of.Instances i;
      containers = sums part_of.Containers i;
      machines = sums part_of.Machines i;
      cpu = sums part_of.Cpu i;
      memory = sums part_of.Memory i;
      processes = sums part_of.Processes i;
      disk = sums part_of.Disk i;
    }
