use Rattle.project_limits.proofs.Roots.{root-within}
use Rattle.project_limits.proofs.pools.root_pool.Goals as goal

pub device_at-requires : goal.device_at-requires
device_at-requires c = root-within c.args.devices.now c.in-One.place c.in-One.ensures
