-- The words that the machine is written in: those of the standard library, and those of the crates below.
pub use Rattle.std.specs.Cmp.Lexicographic.{slice_cmp}
pub use Rattle.std.specs.Fmt.{decimal}
pub use Rattle.std.specs.List.{filter_map, list_any, sum_by}
pub use Rattle.std.specs.Map.{keys_of, values_of}
pub use Rattle.std.specs.Option.{option_map_or, option_to_list, option_or}
pub use Rattle.std.specs.Ordering.{nat_cmp, is_lt}
pub use Rattle.std.specs.Prelude.{ℕ, Bool, false, not, Result, Ok, Err, ℤ, pos, negsuc, is_some, true, List, length}
pub use Rattle.std.specs.Prelude.{Option, Some, None, codes, unwrap_or, filter, fold, [], option_and_then, is_none, map}
pub use Rattle.std.specs.Prelude.{find, option_map, nat_lt, slice_get, min}
pub use Rattle.std.specs.Result.{result_ok, result_err}
pub use Rattle.std.specs.Str.{bytes_eq}
pub use Rattle.config_lists.specs.Changes.{patched, settled}
pub use Rattle.config_lists.specs.Devices.{NamedDevices, root_of}
pub use Rattle.config_lists.specs.Entries.{put, replaced as put_each}
pub use Rattle.config_lists.specs.Settings.{Settings, has_setting, setting}
pub use Rattle.config_lists.specs.declared.root.Root.{Root}
pub use Rattle.estate_rules.specs.Names.{good_name_of}
pub use Rattle.estate_rules.specs.Uses.{names_network, names_pool, names_volume}
pub use Rattle.expansion.specs.Layers.{expanded, nothing as no_layer}
pub use Rattle.expansion.specs.declared.expanded.Expanded.{Expanded}
pub use Rattle.host_model.specs.declared.call.HostCall.{HostCall}
pub use Rattle.host_model.specs.declared.call.HostCall.TheVariants.{Clear, CopyRoot}
pub use Rattle.host_model.specs.declared.call.HostCall.TheVariants.{Freeze, MakeRoot, Start, Stop}
pub use Rattle.host_model.specs.declared.call.HostCall.TheVariants.{Thaw}
pub use Rattle.host_model.specs.declared.place.Place.{Place}
pub use Rattle.host_model.specs.declared.report.Report.{Report}
pub use Rattle.host_model.specs.declared.root.Spec.{Spec}
pub use Rattle.instance_states.specs.Numbers.{next_name, seen, unseen}
pub use Rattle.instance_states.specs.Plans.{calls_of, name_of, undo_of}
pub use Rattle.instance_states.specs.States.{after_of, is_allowed}
pub use Rattle.operations.specs.Facts.{AreKept}
pub use Rattle.operations.specs.OperationTable.{by_number, cancel_answer}
pub use Rattle.operations.specs.OperationTable.{enter_fault, has_number, kept_at, live_at}
pub use Rattle.operations.specs.OperationTable.{no_operations}
pub use Rattle.operations.specs.Limits.{most_live, number_limit}
pub use Rattle.operations.specs.Statuses.{is_pending}
pub use Rattle.operations.specs.declared.faults.CancelFault.{CancelFault}
pub use Rattle.operations.specs.declared.faults.EnterFault.{EnterFault}
pub use Rattle.operations.specs.declared.faults.EnterFault.TheVariants.{Full, Spent}
pub use Rattle.operations.specs.declared.operation.OpFault.{OpFault}
pub use Rattle.operations.specs.declared.operation.Operation.{Operation}
pub use Rattle.operations.specs.declared.status.Status.{Status}
pub use Rattle.operations.specs.declared.status.Status.TheVariants.{Cancelled, Cancelling}
pub use Rattle.operations.specs.declared.status.Status.TheVariants.{Failure, Pending, Success}
pub use Rattle.option_tables.specs.Checks.{devices_fault, instance_fault}
pub use Rattle.option_tables.specs.Checks.{network_fault, pool_fault, project_fault}
pub use Rattle.option_tables.specs.Checks.{volume_fault}
pub use Rattle.option_tables.specs.declared.faults.DeviceFault.{DeviceFault}
pub use Rattle.option_tables.specs.declared.faults.SettingFault.{SettingFault}
pub use Rattle.option_tables.specs.declared.tables.Scope.{Scope}
pub use Rattle.plain_lists.specs.Edits.{changed_first, dropped, inserted, replaced}
pub use Rattle.plain_lists.specs.Firsts.{first, first_of}
pub use Rattle.plain_lists.specs.Members.{Distinct, Each, Mem}
pub use Rattle.plain_lists.specs.Rings.{ring_push}
pub use Rattle.project_limits.specs.Admission.{limit_on, exceeded, parts, key_of as key_of_part}
pub use Rattle.project_limits.specs.Countable.{first_without_amount, volume_without_amount}
pub use Rattle.project_limits.specs.Instance.{instance_amounts, volume_amounts}
pub use Rattle.project_limits.specs.Limits.{limits_of}
pub use Rattle.project_limits.specs.Pools.{root_part, limited_pools, pool_key, pool_limit, pool_without_size}
pub use Rattle.project_limits.specs.Pools.{sized_part, volume_pool_without_size}
pub use Rattle.project_limits.specs.declared.admission.LimitKey.{LimitKey}
pub use Rattle.project_limits.specs.declared.admission.LimitKey.TheVariants.{Containers, Cpu, Disk, Instances, Machines}
pub use Rattle.project_limits.specs.declared.admission.LimitKey.TheVariants.{DiskOnPool, Memory, Networks, Processes}
pub use Rattle.project_limits.specs.declared.admission.Over.{Over}
pub use Rattle.project_limits.specs.declared.sums.SumKey.{SumKey}
pub use Rattle.records.specs.Forms.{are_profiles}
pub use Rattle.records.specs.declared.commands.Body.{Body}
pub use Rattle.records.specs.declared.commands.Command.{Command}
pub use Rattle.records.specs.declared.commands.Origin.{Origin}
pub use Rattle.records.specs.declared.commands.Target.{Target}
pub use Rattle.records.specs.declared.commands.What.{What}
pub use Rattle.records.specs.declared.notices.Filter.{Filter}
pub use Rattle.records.specs.declared.notices.Life.{Life}
pub use Rattle.records.specs.declared.notices.Notice.{Notice}
pub use Rattle.records.specs.declared.notices.EventBody.{EventBody}
pub use Rattle.records.specs.declared.notices.Untold.{Untold}
pub use Rattle.records.specs.declared.refusals.Details.{Details}
pub use Rattle.records.specs.declared.refusals.Refusal.{Refusal}
pub use Rattle.records.specs.declared.refusals.Rule.{Rule}
pub use Rattle.records.specs.declared.replies.LimitKeyName.{LimitKeyName}
pub use Rattle.records.specs.declared.replies.OpView.{OpView}
pub use Rattle.records.specs.declared.replies.Reply.{Reply}
pub use Rattle.records.specs.declared.replies.UsageLine.{UsageLine}
pub use Rattle.records.specs.declared.replies.View.{View}
pub use Rattle.records.specs.declared.rows.Driver.{Driver}
pub use Rattle.records.specs.declared.rows.Instance.{Instance}
pub use Rattle.records.specs.declared.rows.Network.{Network}
pub use Rattle.records.specs.declared.rows.Pool.{Pool}
pub use Rattle.records.specs.declared.rows.Profile.{Profile}
pub use Rattle.records.specs.declared.rows.Project.{Project}
pub use Rattle.records.specs.declared.rows.Row.{Row}
pub use Rattle.records.specs.declared.rows.Snapshot.{Snapshot}
pub use Rattle.records.specs.declared.rows.Volume.{Volume}
pub use Rattle.reservations.specs.Holdings.{converted_more, granted_more, no_books, returned_more}
pub use Rattle.reservations.specs.declared.books.Books.{Books}
pub use Rattle.restrictions.specs.Forbids.{demands, first_forbidden, setting_lines, snapshots_forbidden}
pub use Rattle.restrictions.specs.Policies.{policy_of}
pub use Rattle.restrictions.specs.Words.{is_true}
pub use Rattle.restrictions.specs.declared.forbidden.Forbidden.{Forbidden}
pub use Rattle.restrictions.specs.declared.rows.Subject.{Subject}
pub use Rattle.row_codec.specs.Rows.{HasGoodKey, HasMoments}
pub use Rattle.row_codec.specs.Tags.{tag_of}
pub use Rattle.row_codec.specs.Spelling.{body_of, entry_of, two_names, key_of}
pub use Rattle.row_codec.specs.declared.damage.Damaged.{Damaged}
pub use Rattle.row_machine.specs.declared.changes.RowChange.{RowChange}
pub use Rattle.row_machine.specs.declared.events.Answer.{Answer}
pub use Rattle.row_machine.specs.declared.events.Event.{Event}
pub use Rattle.size_values.specs.Amounts.{amount_above, excess_of, part, nothing as no_amounts}
pub use Rattle.size_values.specs.Fault.{fault_number}
pub use Rattle.size_values.specs.PoolParts.{no_part, on_pool, part_above}
pub use Rattle.size_values.specs.Boolean.{boolean_of}
pub use Rattle.size_values.specs.declared.amounts.Amounts.{Amounts}
pub use Rattle.size_values.specs.declared.amounts.Part.{Part}
pub use Rattle.size_values.specs.declared.entry.Entry.{Entry}
pub use Rattle.size_values.specs.declared.kinds.Action.{Action}
pub use Rattle.size_values.specs.declared.kinds.Deed.{Deed}
pub use Rattle.size_values.specs.declared.kinds.Kind.{Kind}
pub use Rattle.size_values.specs.declared.kinds.Kind.TheVariants.{Container, Machine}
pub use Rattle.size_values.specs.declared.kinds.ObjectKind.{ObjectKind}
pub use Rattle.size_values.specs.declared.kinds.Power.{Power}
pub use Rattle.size_values.specs.declared.kinds.Power.TheVariants.{Error, Frozen, Stopped}
pub use Rattle.size_values.specs.declared.pool_part.PoolPart.{PoolPart}
pub use Rattle.size_values.specs.declared.rise.Rise.{Rise}
pub use Rattle.size_values.specs.declared.kinds.Action.TheVariants as action
pub use Rattle.size_values.specs.declared.kinds.Deed.TheVariants as deed
pub use Rattle.records.specs.declared.rows.Driver.TheVariants as driver
pub use Rattle.size_values.specs.declared.kinds.ObjectKind.TheVariants as kind
pub use Rattle.records.specs.declared.notices.Life.TheVariants as life
pub use Rattle.records.specs.declared.commands.Origin.TheVariants as origin
pub use Rattle.size_values.specs.declared.amounts.Part.TheVariants as part_of
pub use Rattle.records.specs.declared.replies.Reply.TheVariants as reply
pub use Rattle.host_model.specs.declared.report.Report.TheVariants as report
pub use Rattle.records.specs.declared.rows.Row.TheVariants as row
pub use Rattle.records.specs.declared.refusals.Rule.TheVariants as rule
pub use Rattle.option_tables.specs.declared.tables.Scope.TheVariants as scope
pub use Rattle.operations.specs.declared.status.Status.TheVariants as status
pub use Rattle.records.specs.declared.replies.View.TheVariants as view
pub use Rattle.records.specs.declared.commands.What.TheVariants as what
