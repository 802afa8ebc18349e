-- The tables, computed: every definition that is otherwise one word is unfolded here.
use Rattle.std.proofs.Common.{refl}
use Rattle.std.specs.Fmt.{digits}
use Rattle.std.specs.Str.{is_utf8, chars}
use lib.Utf8.{encode}
use Rattle.restrictions.specs.Forbids.{setting_lines, device_lines, device_rule, setting_rule, broken_settings, missing_setting, broken_devices, first_forbidden, snapshots_forbidden}
use Rattle.restrictions.specs.Policies.{policy_of}
use Rattle.restrictions.specs.Words.{word_named, is_true}
use Rattle.config_lists.specs.Devices.{is_root_disk}
use Rattle.config_lists.specs.Entries.{value_of, put, without, replaced}
use Rattle.size_values.specs.Boolean.{boolean_of}
use Rattle.row_codec.specs.Sizes.{capped}
use Rattle.row_codec.specs.Reading.{count_at, number_at, moment_at, code_at, text_at, items_at, list_at, filled_at, next_at, next_filled_at, setting_at, device_at, shape_at, project_in, profile_in, network_in, pool_in, volume_in, instance_in, snapshot_in, two_names_in, three_names_in, read_project, read_profile, read_network, read_pool, read_volume, read_instance, read_snapshot, row_at}
use Rattle.row_codec.specs.Spelling.{text_bytes, number_bytes, list_bytes}
use Rattle.estate_rules.specs.Names.{is_instance_name, is_project_name, is_object_name}
use Rattle.tests_rows.specs.Host.{HostHolds}
use Rattle.tests_rows.specs.Policies.{PoliciesHold}
use Rattle.tests_rows.specs.Spellings.{SpellingsHold}
use Rattle.tests_rows.specs.States.{StatesHold}

pub states_hold : StatesHold
unfolding digits
states_hold = record { calls = refl; undone_by = refl; lead_to = refl; allowed = refl; follow = refl }

pub host_holds : HostHolds
unfolding value_of
host_holds = record { effects = refl; renamed = refl; cleared = refl }

pub policies_hold : PoliciesHold
unfolding
    setting_lines device_lines device_rule setting_rule broken_settings missing_setting broken_devices first_forbidden
    snapshots_forbidden policy_of word_named is_true is_root_disk value_of put without replaced boolean_of
policies_hold = record {
  settings_are_judged = refl;
  devices_are_judged = refl;
  lowest_is_told = refl;
  snapshots_are_judged = refl;
  words_are_named = refl;
}

pub spellings_hold : SpellingsHold
unfolding
    is_utf8 chars encode capped count_at number_at moment_at code_at text_at items_at list_at filled_at next_at
    next_filled_at setting_at device_at shape_at project_in profile_in network_in pool_in volume_in instance_in snapshot_in
    two_names_in three_names_in read_project read_profile read_network read_pool read_volume read_instance read_snapshot
    row_at text_bytes number_bytes list_bytes is_instance_name is_project_name is_object_name
spellings_hold = record {
  written_again = refl;
  each_cut_is_damaged = refl;
  damages_are_told = refl;
  sizes_are_counted = refl;
  parts_go_to_their_fields = refl;
}
