-- What the state is made of, passed on: kinds and deeds, rows by their names, homes, expansions, and refusals.
pub use Rattle.row_machine.specs.machine.Kinds.{cap_of, is_in_project, is_of_kind, kind_number, kind_text}
pub use Rattle.row_machine.specs.machine.Deeds.{breaks_instance}
pub use Rattle.row_machine.specs.machine.Task.{Task}
pub use Rattle.row_machine.specs.machine.State.{InstancePower, State}
pub use Rattle.row_machine.specs.machine.Rows.{default_name, instance_named, is_power_of, network_named, pool_named}
pub use Rattle.row_machine.specs.machine.Rows.{profile_named, project_named, snapshot_named, volume_named}
pub use Rattle.row_machine.specs.machine.Rows.{with_instance, with_network, with_pool, with_profile, with_project}
pub use Rattle.row_machine.specs.machine.Rows.{with_snapshot, with_instance_power, with_volume}
pub use Rattle.row_machine.specs.machine.Homes.{home_of, is_on}
pub use Rattle.row_machine.specs.machine.Expansions.{expanded_of}
pub use Rattle.row_machine.specs.machine.Refusals.{on_held, on_key_of, on_name, on_number, on_object, on_object_of}
pub use Rattle.row_machine.specs.machine.Refusals.{on_project, plain_refusal, no_details}
