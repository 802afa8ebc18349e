use Rattle.std.proofs.Common.{codes, refl, sym, ◌∙◌}
use Rattle.project_limits.specs.Limits.{limits_of}
use Rattle.project_limits.proofs.Unlimited.{no-count, no-size}
use Rattle.project_limits.proofs.limits.limits_of.Goals as goal

pub returns-then-not-has_limits : goal.returns-then-not-has_limits
unfolding limits_of
returns-then-not-has_limits c =
    let config = c.args.project.now in
    let none = sym c.has_limits.ensures ∙ c.if-not-has_limits.true in
    λ i. record {
      instances = sym (no-count config none (codes "limits.instances") refl) i;
      containers = sym (no-count config none (codes "limits.containers") refl) i;
      machines = sym (no-count config none (codes "limits.virtual-machines") refl) i;
      networks = sym (no-count config none (codes "limits.networks") refl) i;
      cpu = sym (no-count config none (codes "limits.cpu") refl) i;
      memory = sym (no-size config none (codes "limits.memory") refl) i;
      processes = sym (no-count config none (codes "limits.processes") refl) i;
      disk = sym (no-size config none (codes "limits.disk") refl) i;
    }

pub returns : goal.returns
unfolding limits_of
returns c = λ i. record {
  instances = c.count_in.ensures i;
  containers = c.count_in-2.ensures i;
  machines = c.count_in-3.ensures i;
  networks = c.count_in-4.ensures i;
  cpu = c.count_in-5.ensures i;
  memory = c.size_in.ensures i;
  processes = c.count_in-6.ensures i;
  disk = c.size_in-2.ensures i;
}
