-- The tables, computed: every definition that is otherwise one word is unfolded here.
use Rattle.std.proofs.Common.{refl}
use Rattle.estate_rules.specs.Names.{is_instance_name, is_project_name, is_object_name}
use Rattle.estate_rules.specs.Uses.{names_network, names_pool, names_volume}
use Rattle.expansion.specs.Layers.{laid, expanded}
use Rattle.config_lists.specs.Changes.{settled, patched}
use Rattle.config_lists.specs.Devices.{is_root_disk, root_of}
use Rattle.config_lists.specs.Entries.{value_of, put, without, replaced}
use Rattle.size_values.specs.Address.{address_of, cidr_of}
use Rattle.size_values.specs.Boolean.{boolean_of}
use Rattle.size_values.specs.Count.{count_of}
use Rattle.size_values.specs.Cpu.{set_of, cpu_of}
use Rattle.size_values.specs.Expiry.{expiry_of}
use Rattle.size_values.specs.MemorySize.{memory_of}
use Rattle.size_values.specs.Size.{size_of}
use Rattle.schedule_texts.specs.Aliases.{aliases_of}
use Rattle.schedule_texts.specs.Fields.{field_of, fields_of}
use Rattle.schedule_texts.specs.Numbers.{bits_below}
use Rattle.schedule_texts.specs.Parts.{number_of, part_of, range_of}
use Rattle.schedule_texts.specs.Schedules.{schedule_of}
use Rattle.option_tables.specs.Checks.{keys_fault, instance_fault, project_fault, network_fault, pool_fault, volume_fault, device_fault, devices_fault}
use Rattle.option_tables.specs.Forms.{value_fault}
use Rattle.option_tables.specs.Tables.{instance_lines, project_lines, network_lines, pool_lines, volume_lines, device_lines, device_form, device_type, listed_form, form_of}
use Rattle.project_limits.specs.Admission.{first_over, networks_over}
use Rattle.project_limits.specs.Countable.{first_without_amount, volume_without_amount}
use Rattle.project_limits.specs.Instance.{cpu_in, memory_in, disk_in, instance_amounts, volume_amounts}
use Rattle.project_limits.specs.Limits.{count_in, size_in, limits_of}
use Rattle.tests_settings.specs.DeviceOptions.{DeviceOptionsHold}
use Rattle.tests_settings.specs.Layers.{LayersHold}
use Rattle.tests_settings.specs.Limits.{LimitsHold}
use Rattle.tests_settings.specs.Names.{NamesHold}
use Rattle.tests_settings.specs.Options.{OptionsHold}

pub options_hold : OptionsHold
unfolding
    address_of cidr_of count_of set_of cpu_of expiry_of memory_of size_of boolean_of value_of put without replaced
    keys_fault instance_fault project_fault network_fault pool_fault volume_fault value_fault instance_lines project_lines
    network_lines pool_lines volume_lines listed_form form_of schedule_of fields_of field_of number_of range_of part_of
    bits_below aliases_of is_object_name
options_hold = record {
  of_instances = refl;
  bad_of_instances = refl;
  of_objects = refl;
  bad_of_objects = refl;
  no_line = refl;
  firsts = refl;
  stars = refl;
}

pub device_options_hold : DeviceOptionsHold
unfolding
    address_of cidr_of count_of set_of cpu_of expiry_of memory_of size_of boolean_of value_of put without replaced
    keys_fault value_fault device_lines device_form device_type listed_form form_of device_fault devices_fault
device_options_hold = record { good = refl; bad = refl; foreign = refl; alone = refl; first = refl }

pub names_hold : NamesHold
unfolding is_instance_name is_project_name is_object_name names_network names_pool names_volume value_of put replaced
names_hold = record { names_are_judged = refl; devices_name = refl }

pub limits_hold : LimitsHold
unfolding
    count_of set_of cpu_of memory_of size_of value_of put replaced is_root_disk root_of first_over networks_over
    first_without_amount volume_without_amount cpu_in memory_in disk_in instance_amounts volume_amounts count_in size_in limits_of
limits_hold = record {
  limits_are_read = refl;
  instances_count = refl;
  root_disks_count = refl;
  limited_sums_need_numbers = refl;
  unlimited_sums_do_not = refl;
  volumes_count = refl;
  limited_volumes_need_sizes = refl;
  shares_fit = refl;
  first_is_told = refl;
  networks_are_told = refl;
}

pub layers_hold : LayersHold
unfolding value_of put without replaced settled patched is_root_disk root_of laid expanded
layers_hold = record {
  settings_are_sorted = refl;
  keys_are_found = refl;
  values_are_compared = refl;
  removed_is_told = refl;
  keys_are_removed = refl;
  changes_set_and_remove = refl;
  changes_settle = refl;
  devices_are_replaced_whole = refl;
  devices_are_removed = refl;
  removed_device_is_there = refl;
  removed_device_is_gone = refl;
  other_device_stays = refl;
  one_disk_is_the_root = refl;
  others_are_no_roots = refl;
  a_disk_is_a_root = refl;
  the_last_layer_decides = refl;
}
