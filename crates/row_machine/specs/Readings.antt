-- What is read off the state, passed on: claims, usage, what a command speaks of, who holds what, and what changes
-- make.
pub use Rattle.row_machine.specs.machine.Claims.{claimed_instance, claimed_snapshot, claimed_volume, judged_instances}
pub use Rattle.row_machine.specs.machine.Claims.{of_live, part_of_share, project_of_row, share_of}
pub use Rattle.row_machine.specs.machine.Usage.{networks_of, used, used_on}
pub use Rattle.row_machine.specs.machine.Changes.{applied, removal, rows_put}
pub use Rattle.row_machine.specs.machine.Asked.{instance_changed, renames_or_deletes, new_name_of, object_of, snapshots_of}
pub use Rattle.row_machine.specs.machine.Asked.{with_name}
pub use Rattle.row_machine.specs.machine.Holders.{busy_with, first_user_of, holder_of, names_profile}
pub use Rattle.row_machine.specs.shown.Statuses.{power_line, status_line}
pub use Rattle.row_machine.specs.shown.Urls.{target_of}
