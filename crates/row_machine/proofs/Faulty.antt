-- The examples of failures and notices, computed.
use Rattle.std.specs.Prelude.{refl}
use Rattle.size_values.specs.Address.{address_of, cidr_of}
use Rattle.size_values.specs.Amounts.{plus_of, minus_of, excess_of, fits_in}
use Rattle.size_values.specs.Count.{count_of}
use Rattle.size_values.specs.Cpu.{set_of, cpu_of}
use Rattle.size_values.specs.Expiry.{expiry_of}
use Rattle.size_values.specs.MemorySize.{memory_of}
use Rattle.size_values.specs.Size.{size_of}
use Rattle.size_values.specs.Boolean.{boolean_of}
use Rattle.config_lists.specs.Changes.{settled, patched}
use Rattle.config_lists.specs.Devices.{is_root_disk, root_of}
use Rattle.config_lists.specs.Entries.{value_of, put, without, replaced}
use Rattle.option_tables.specs.Checks.{keys_fault, instance_fault, project_fault, network_fault, pool_fault, volume_fault, device_fault, devices_fault}
use Rattle.option_tables.specs.Forms.{value_fault}
use Rattle.option_tables.specs.Tables.{instance_lines, project_lines, network_lines, pool_lines, volume_lines, device_lines as option_tables_tables_device_lines, device_form, device_type, listed_form, form_of}
use Rattle.estate_rules.specs.Names.{is_instance_name, is_project_name, is_object_name}
use Rattle.estate_rules.specs.Uses.{names_network, names_pool, names_volume}
use Rattle.expansion.specs.Layers.{laid, expanded, expanded_setting, expanded_device}
use Rattle.restrictions.specs.Forbids.{setting_lines, device_lines as restrictions_forbids_device_lines, device_rule, setting_rule, broken_settings, missing_setting, broken_devices, first_forbidden, snapshots_forbidden}
use Rattle.restrictions.specs.Policies.{policy_of}
use Rattle.restrictions.specs.Words.{word_named, is_true}
use Rattle.project_limits.specs.Admission.{first_over, networks_over}
use Rattle.project_limits.specs.Countable.{first_without_amount, volume_without_amount}
use Rattle.project_limits.specs.Instance.{cpu_in, memory_in, disk_in, instance_amounts, volume_amounts}
use Rattle.project_limits.specs.Limits.{count_in, size_in, limits_of}
use Rattle.project_limits.specs.Pools.{pool_limit, limited_pools, root_pool, pool_without_size, volume_pool_without_size, root_part, sized_part}
use Rattle.row_codec.specs.Reading.{count_at, number_at, moment_at, code_at, text_at, items_at, list_at, filled_at, next_at, next_filled_at, setting_at, device_at, shape_at, project_in, profile_in, network_in, pool_in, volume_in, instance_in, snapshot_in, two_names_in, three_names_in, read_project, read_profile, read_network, read_pool, read_volume, read_instance, read_snapshot, row_at}
use Rattle.row_codec.specs.Spelling.{text_bytes, number_bytes, list_bytes}
use Rattle.row_machine.specs.machine.Accept.{accepted}
use Rattle.row_machine.specs.machine.Claims.{judged_instances, judged_volumes, amounts_of_instance, part_of_instance, share_of, part_of_share}
use Rattle.row_machine.specs.machine.Expansions.{expanded_of}
use Rattle.row_machine.specs.machine.Holders.{busy_with, holder_of, first_user_of}
use Rattle.row_machine.specs.machine.Homes.{home_of}
use Rattle.row_machine.specs.machine.LimitRules.{instance_without_amount, volume_lacks_amount, counts_broken, part_exceeds, networks_exceed, pools_exceed, limits_broken}
use Rattle.row_machine.specs.machine.Expectations.{not_as_expected}
use Rattle.row_machine.specs.machine.NameRules.{project_missing, what_is_missing, name_broken}
use Rattle.row_machine.specs.machine.Rules.{names_broken}
use Rattle.row_machine.specs.shown.Notices.{since}
use Rattle.row_machine.specs.opening.Opening.{rows_break, opening_of}
use Rattle.row_machine.specs.machine.Plans.{plan_of}
use Rattle.row_machine.specs.machine.PolicyRules.{forbids_profile, forbids_instance, policy_broken, snapshot_blocked}
use Rattle.row_machine.specs.opening.Records.{records_of}
use Rattle.row_machine.specs.machine.Rules.{broken}
use Rattle.row_machine.specs.machine.SettingRules.{root_missing, profile_missing, devices_miss, instance_settings, profile_settings, row_settings, settings_broken}
use Rattle.row_machine.specs.machine.StandingRules.{instance_busy, wrong_state, object_protected, object_used, project_occupied, profile_held}
use Rattle.row_machine.specs.machine.Rules.{standing_broken}
use Rattle.row_machine.specs.machine.Step.{step}
use Rattle.row_machine.specs.machine.TableRules.{cancel_broken, entry_broken, tables_broken}
use Rattle.row_machine.specs.machine.Usage.{loads, usage_of, networks_of}
use Rattle.row_machine.specs.shown.Views.{used_by, usage_view, read}
use Rattle.row_machine.specs.machine.Operations.{entered, succeeded, failed, cancelled}
use Rattle.std.specs.Fmt.{digits}
use Rattle.row_machine.specs.examples.Faults.{AreTold}

pub are_told : AreTold
unfolding
    digits address_of cidr_of plus_of minus_of excess_of fits_in count_of set_of cpu_of expiry_of memory_of size_of
    boolean_of settled patched is_root_disk root_of value_of put without replaced keys_fault instance_fault project_fault
    network_fault pool_fault volume_fault device_fault devices_fault value_fault instance_lines project_lines
    network_lines pool_lines volume_lines option_tables_tables_device_lines device_form device_type listed_form form_of
    is_instance_name is_project_name is_object_name names_network names_pool names_volume laid expanded expanded_setting
    expanded_device setting_lines restrictions_forbids_device_lines device_rule setting_rule broken_settings
    missing_setting broken_devices first_forbidden snapshots_forbidden policy_of word_named is_true first_over
    networks_over first_without_amount volume_without_amount cpu_in memory_in disk_in instance_amounts volume_amounts count_in
    size_in limits_of pool_limit limited_pools root_pool pool_without_size volume_pool_without_size root_part sized_part
    count_at number_at moment_at code_at text_at items_at list_at filled_at next_at next_filled_at
    setting_at device_at shape_at project_in profile_in network_in pool_in volume_in instance_in snapshot_in two_names_in
    three_names_in read_project read_profile read_network read_pool read_volume read_instance read_snapshot row_at text_bytes
    number_bytes list_bytes accepted judged_instances judged_volumes amounts_of_instance part_of_instance share_of part_of_share expanded_of busy_with
    holder_of first_user_of home_of instance_without_amount volume_lacks_amount counts_broken part_exceeds networks_exceed pools_exceed
    limits_broken project_missing what_is_missing not_as_expected name_broken names_broken since rows_break opening_of plan_of
    forbids_profile forbids_instance policy_broken snapshot_blocked records_of broken root_missing profile_missing
    devices_miss instance_settings profile_settings row_settings settings_broken instance_busy wrong_state
    object_protected object_used project_occupied profile_held standing_broken step cancel_broken entry_broken
    tables_broken loads usage_of networks_of used_by usage_view read entered succeeded failed cancelled
are_told = record {
  host_call_fails = λ rise. record { answered = refl; status = refl; fault = refl; no_row = refl; used = refl };
  store_fails = λ rise. record { at_once = refl; nothing_changed = refl; at_an_end = refl; status = refl; fault = refl; no_row = refl; not_at_a_start = refl };
  creation_is_told = refl;
  listeners_lag = record { lagged = refl; first_kept = refl; last_kept = refl; next = refl; number_alone = refl };
}
