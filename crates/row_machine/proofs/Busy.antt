-- The facts hold of a busy server, computed.
use Rattle.std.proofs.Common.{◌≡◌, ◌≢◌, ℕ, ◌≤◌, Bool, true, false, cond, ◌&&◌, ◌||◌, Some, None, List, [], ◌∷◌, length, refl, sym, ◌∙◌, ap, subst, arith}
use Rattle.std.specs.Prelude.{IfSome, filter, unwrap_or}
use Rattle.std.specs.Str.{bytes_eq}
use Rattle.std.proofs.lemmas.Bool.{false≢true}
use Rattle.plain_lists.specs.Members.{Each}
use Rattle.plain_lists.proofs.Elements.{Each-none, Each-cons}
use Rattle.config_lists.proofs.Keys.{same}
use Rattle.size_values.specs.declared.amounts.Part.{Part}
use Rattle.size_values.specs.declared.amounts.Part.TheVariants.{Instances, Containers, Machines, Cpu, Memory, Processes, Disk}
use Rattle.size_values.specs.declared.kinds.ObjectKind.TheVariants as kind
use Rattle.operations.specs.declared.operation.Operation.{Operation}
use Rattle.operations.specs.Facts.{AreKept}
use Rattle.project_limits.specs.Admission.{limit_on}
use Rattle.records.specs.declared.commands.Target.{Target}
use Rattle.records.specs.declared.rows.Row.{Row}
use Rattle.row_machine.specs.machine.Task.{Task}
use Rattle.row_machine.specs.machine.State.{State}
use Rattle.row_machine.specs.machine.Rows.{default_name, texts_before}
use Rattle.row_machine.specs.machine.NameRules.{is_there}
use Rattle.row_machine.specs.opening.Opening.{default_project, home_missing}
use Rattle.row_machine.specs.machine.Usage.{used}
use Rattle.row_machine.specs.machine.Claims.{project_of_row}
use Rattle.row_machine.specs.shown.Urls.{target_of}
use Rattle.row_machine.specs.machine.Holders.{keeps_busy}
use Rattle.row_machine.specs.facts.Whole.{IsWhole, AreNamed, ReferencesExist, HasDefaults, AreSettled, IsByDeed, IsBusyOnce, IsUnderWay, AreWithin, AreBalanced, AreFew}
use Rattle.row_machine.specs.examples.Scenes.{begin, state_after}
use Rattle.row_machine.specs.examples.Worked.{a, b, c, d, busy_server, BusyIsWhole}
use Rattle.std.specs.List.{sum_by}
use Rattle.std.specs.Prelude.{◌<◌, ◌+◌, is_some}
use Rattle.size_values.specs.Amounts.{nothing, part}
use Rattle.size_values.specs.declared.amounts.Amounts.{Amounts}
use Rattle.size_values.specs.declared.moment.TheConstants.{MOMENT_LIMIT}
use Rattle.reservations.specs.declared.books.Hold.{Hold}
use Rattle.size_values.specs.PoolParts.{no_part}
use Rattle.size_values.specs.declared.pool_part.PoolPart.{PoolPart}
use Rattle.row_machine.specs.machine.Rows.{pool_named}
use Rattle.std.specs.Prelude.{codes, map}
use Rattle.row_machine.specs.facts.Whole.{instance_there, held_by}
use Rattle.size_values.specs.Address.{address_of, cidr_of}
use Rattle.size_values.specs.Amounts.{plus_of, minus_of, excess_of, fits_in}
use Rattle.size_values.specs.Count.{count_of}
use Rattle.size_values.specs.Cpu.{set_of, cpu_of}
use Rattle.size_values.specs.Expiry.{expiry_of}
use Rattle.size_values.specs.MemorySize.{memory_of}
use Rattle.size_values.specs.Size.{size_of}
use Rattle.size_values.specs.Boolean.{boolean_of}
use Rattle.config_lists.specs.Changes.{settled, patched}
use Rattle.config_lists.specs.Devices.{is_root_disk, root_of}
use Rattle.config_lists.specs.Entries.{value_of, put, without, replaced}
use Rattle.option_tables.specs.Checks.{keys_fault, instance_fault, project_fault, network_fault, pool_fault, volume_fault, device_fault, devices_fault}
use Rattle.option_tables.specs.Forms.{value_fault}
use Rattle.option_tables.specs.Tables.{instance_lines, project_lines, network_lines, pool_lines, volume_lines, device_lines as option_tables_tables_device_lines, device_form, device_type, listed_form, form_of}
use Rattle.estate_rules.specs.Names.{is_instance_name, is_project_name, is_object_name}
use Rattle.estate_rules.specs.Uses.{names_network, names_pool, names_volume}
use Rattle.expansion.specs.Layers.{laid, expanded, expanded_setting, expanded_device}
use Rattle.restrictions.specs.Forbids.{setting_lines, device_lines as restrictions_forbids_device_lines, device_rule, setting_rule, broken_settings, missing_setting, broken_devices, first_forbidden, snapshots_forbidden}
use Rattle.restrictions.specs.Policies.{policy_of}
use Rattle.restrictions.specs.Words.{word_named, is_true}
use Rattle.project_limits.specs.Admission.{first_over, networks_over}
use Rattle.project_limits.specs.Countable.{first_without_amount, volume_without_amount}
use Rattle.project_limits.specs.Instance.{cpu_in, memory_in, disk_in, instance_amounts, volume_amounts}
use Rattle.project_limits.specs.Limits.{count_in, size_in, limits_of}
use Rattle.project_limits.specs.Pools.{pool_limit, limited_pools, root_pool, pool_without_size, volume_pool_without_size, root_part, sized_part}
use Rattle.row_codec.specs.Reading.{count_at, number_at, moment_at, code_at, text_at, items_at, list_at, filled_at, next_at, next_filled_at, setting_at, device_at, shape_at, project_in, profile_in, network_in, pool_in, volume_in, instance_in, snapshot_in, two_names_in, three_names_in, read_project, read_profile, read_network, read_pool, read_volume, read_instance, read_snapshot, row_at}
use Rattle.row_codec.specs.Spelling.{text_bytes, number_bytes, list_bytes}
use Rattle.row_machine.specs.machine.Accept.{accepted}
use Rattle.row_machine.specs.machine.Claims.{judged_instances, judged_volumes, amounts_of_instance, part_of_instance, share_of, part_of_share}
use Rattle.row_machine.specs.machine.Expansions.{expanded_of}
use Rattle.row_machine.specs.machine.Holders.{busy_with, holder_of, first_user_of}
use Rattle.row_machine.specs.machine.Homes.{home_of}
use Rattle.row_machine.specs.machine.LimitRules.{instance_without_amount, volume_lacks_amount, counts_broken, part_exceeds, networks_exceed, pools_exceed, limits_broken}
use Rattle.row_machine.specs.machine.Expectations.{not_as_expected}
use Rattle.row_machine.specs.machine.NameRules.{project_missing, what_is_missing, name_broken}
use Rattle.row_machine.specs.machine.Rules.{names_broken}
use Rattle.row_machine.specs.shown.Notices.{since}
use Rattle.row_machine.specs.opening.Opening.{rows_break, opening_of}
use Rattle.row_machine.specs.machine.Plans.{plan_of}
use Rattle.row_machine.specs.machine.PolicyRules.{forbids_profile, forbids_instance, policy_broken, snapshot_blocked}
use Rattle.row_machine.specs.opening.Records.{records_of}
use Rattle.row_machine.specs.machine.Rules.{broken}
use Rattle.row_machine.specs.machine.SettingRules.{root_missing, profile_missing, devices_miss, instance_settings, profile_settings, row_settings, settings_broken}
use Rattle.row_machine.specs.machine.StandingRules.{instance_busy, wrong_state, object_protected, object_used, project_occupied, profile_held}
use Rattle.row_machine.specs.machine.Rules.{standing_broken}
use Rattle.row_machine.specs.machine.Step.{step}
use Rattle.row_machine.specs.machine.TableRules.{cancel_broken, entry_broken, tables_broken}
use Rattle.row_machine.specs.machine.Usage.{loads, usage_of, networks_of}
use Rattle.row_machine.specs.shown.Views.{used_by, usage_view, read}
use Rattle.row_machine.specs.machine.Operations.{entered, succeeded, failed, cancelled}
use Rattle.std.specs.Fmt.{digits}

-- ---- words

-- the state
abbrev busy : State
busy = unwrap_or (state_after busy_server) begin

-- two elements before the others
pair : {X : Type 0} (P : X → Type 0) {x y : X} {xs : List X} → P x → P y → Each P xs → Each P (x ∷ y ∷ xs)
pair P p q rest = Each-cons P p (Each-cons P q rest)

-- what goes before another name is another one
apart : (x y : List (List ℕ)) → texts_before x y ≡ true → texts_before x x ≡ false → y ≢ x
apart x y before itself is = false≢true (sym itself ∙ ap (texts_before x) (sym is) ∙ before)

-- ---- no instance is busy twice

-- of two names that differ, one is another name
other-name : (x y name : List ℕ) → bytes_eq y x ≡ false → (bytes_eq x name && bytes_eq y name) ≡ false
other-name x y name differ = at (bytes_eq x name) refl where
  at : (p : Bool) → bytes_eq x name ≡ p → (p && bytes_eq y name) ≡ false
  at false is = refl
  at true is = subst (λ n. bytes_eq y n ≡ false) (same x name is) differ

-- whether no two pass: x and each of the others, and each two of all
abbrev Apart : {X : Type 0} → (X → Bool) → X → List X → Type 0
Apart test x [] = Unit {0}
Apart test x (y ∷ ys) = ((test x && test y) ≡ false) × Apart test x ys

abbrev NoTwo : {X : Type 0} → (X → Bool) → List X → Type 0
NoTwo test [] = Unit {0}
NoTwo test (x ∷ xs) = Apart test x xs × NoTwo test xs

not-true-both : (p q : Bool) → (p && q) ≡ false → p ≡ true → q ≡ true → ⊥
not-true-both true true h t u = false≢true (sym h)
not-true-both p false h t u = false≢true u
not-true-both false q h t u = false≢true t

-- where one passes, none of the others does
none-left : {X : Type 0} (test : X → Bool) (x : X) (xs : List X) → test x ≡ true → Apart test x xs → length (filter test xs) ≡ 0
none-left test x [] is h = refl
none-left test x (y ∷ ys) is h = at (test y) refl (none-left test x ys is h.1) where
  at : (p : Bool) → test y ≡ p → length (filter test ys) ≡ 0 → length (cond p (y ∷ filter test ys) (filter test ys)) ≡ 0
  at false e rest = rest
  at true e rest = absurd (not-true-both (test x) (test y) h.0 is e)

one-passes : {X : Type 0} (test : X → Bool) (xs : List X) → NoTwo test xs → length (filter test xs) ≤ 1
one-passes test [] h = omega arith
one-passes test (x ∷ xs) h = at (test x) refl (one-passes test xs h.1) where
  at : (p : Bool) → test x ≡ p → length (filter test xs) ≤ 1 → length (cond p (x ∷ filter test xs) (filter test xs)) ≤ 1
  at false is rest = rest
  at true is rest = let none : length (filter test xs) ≡ 0 = none-left test x xs is h.0 in omega (arith, none)

-- what is one of two names is no third name
neither : (home p q r : Bool) → (p && q) ≡ false → (p && r) ≡ false → ((home && (p || false)) && (home && (q || r))) ≡ false
neither false p q r h g = refl
neither true false q r h g = refl
neither true true q r h g = ap (λ t. t || r) h ∙ g

neither-after : (home p q r : Bool) → (p && q) ≡ false → (p && r) ≡ false → ((home && (q || r)) && (home && (p || false))) ≡ false
neither-after false p q r h g = refl
neither-after true false false false h g = refl
neither-after true false true r h g = refl
neither-after true false false true h g = refl
neither-after true true true r h g = absurd (false≢true (sym h))
neither-after true true false true h g = absurd (false≢true (sym g))
neither-after true true false false h g = refl

not-both : (home p q : Bool) → (p && q) ≡ false → ((home && (p || false)) && (home && (q || false))) ≡ false
not-both false p q h = refl
not-both true false q h = refl
not-both true true false h = refl
not-both true true true h = absurd (false≢true (sym h))

some-is : {X : Type 0} {x y : X} → Some x ≡ Some y → x ≡ y
some-is same = cc

-- ---- the facts

names : AreNamed busy
unfolding
    digits address_of cidr_of plus_of minus_of excess_of fits_in count_of set_of cpu_of expiry_of memory_of size_of
    boolean_of settled patched is_root_disk root_of value_of put without replaced keys_fault instance_fault project_fault
    network_fault pool_fault volume_fault device_fault devices_fault value_fault instance_lines project_lines
    network_lines pool_lines volume_lines option_tables_tables_device_lines device_form device_type listed_form form_of
    is_instance_name is_project_name is_object_name names_network names_pool names_volume laid expanded expanded_setting
    expanded_device setting_lines restrictions_forbids_device_lines device_rule setting_rule broken_settings
    missing_setting broken_devices first_forbidden snapshots_forbidden policy_of word_named is_true first_over
    networks_over first_without_amount volume_without_amount cpu_in memory_in disk_in instance_amounts volume_amounts count_in
    size_in limits_of pool_limit limited_pools root_pool pool_without_size volume_pool_without_size root_part sized_part
    count_at number_at moment_at code_at text_at items_at list_at filled_at next_at next_filled_at
    setting_at device_at shape_at project_in profile_in network_in pool_in volume_in instance_in snapshot_in two_names_in
    three_names_in read_project read_profile read_network read_pool read_volume read_instance read_snapshot row_at text_bytes
    number_bytes list_bytes accepted judged_instances judged_volumes amounts_of_instance part_of_instance share_of part_of_share expanded_of busy_with
    holder_of first_user_of home_of instance_without_amount volume_lacks_amount counts_broken part_exceeds networks_exceed pools_exceed
    limits_broken project_missing what_is_missing not_as_expected name_broken names_broken since rows_break opening_of plan_of
    forbids_profile forbids_instance policy_broken snapshot_blocked records_of broken root_missing profile_missing
    devices_miss instance_settings profile_settings row_settings settings_broken instance_busy wrong_state
    object_protected object_used project_occupied profile_held standing_broken step cancel_broken entry_broken
    tables_broken loads usage_of networks_of used_by usage_view read entered succeeded failed cancelled
names = record {
  good = Each-cons _ refl (Each-cons _ (refl, refl) (Each-cons _ refl (pair _ (refl, refl) (refl, refl) (pair _ (refl, refl) (refl, refl) Each-none))));
  moments = Each-cons _ tt (Each-cons _ tt (Each-cons _ tt (pair _ (omega arith) (omega arith) (pair _ (omega arith) (omega arith) Each-none))));
  projects = (Each-none, tt);
  profiles = (Each-none, tt);
  networks = tt;
  pools = (Each-none, tt);
  volumes = tt;
  instances = (Each-cons _ refl Each-none, (Each-none, tt));
  snapshots = tt;
  powers = refl;
  new_volumes = tt;
  new_instances = (
    Each-cons _ (apart _ _ refl refl) (pair _ (apart _ _ refl refl) (apart _ _ refl refl) Each-none),
    (
      pair _ (apart _ _ refl refl) (apart _ _ refl refl) Each-none,
      (
        Each-cons _ (apart _ _ refl refl) Each-none,
        (Each-none, tt),
      ),
    ),
  );
  new_snapshots = tt;
}

references : ReferencesExist busy
unfolding
    digits address_of cidr_of plus_of minus_of excess_of fits_in count_of set_of cpu_of expiry_of memory_of size_of
    boolean_of settled patched is_root_disk root_of value_of put without replaced keys_fault instance_fault project_fault
    network_fault pool_fault volume_fault device_fault devices_fault value_fault instance_lines project_lines
    network_lines pool_lines volume_lines option_tables_tables_device_lines device_form device_type listed_form form_of
    is_instance_name is_project_name is_object_name names_network names_pool names_volume laid expanded expanded_setting
    expanded_device setting_lines restrictions_forbids_device_lines device_rule setting_rule broken_settings
    missing_setting broken_devices first_forbidden snapshots_forbidden policy_of word_named is_true first_over
    networks_over first_without_amount volume_without_amount cpu_in memory_in disk_in instance_amounts volume_amounts count_in
    size_in limits_of pool_limit limited_pools root_pool pool_without_size volume_pool_without_size root_part sized_part
    count_at number_at moment_at code_at text_at items_at list_at filled_at next_at next_filled_at
    setting_at device_at shape_at project_in profile_in network_in pool_in volume_in instance_in snapshot_in two_names_in
    three_names_in read_project read_profile read_network read_pool read_volume read_instance read_snapshot row_at text_bytes
    number_bytes list_bytes accepted judged_instances judged_volumes amounts_of_instance part_of_instance share_of part_of_share expanded_of busy_with
    holder_of first_user_of home_of instance_without_amount volume_lacks_amount counts_broken part_exceeds networks_exceed pools_exceed
    limits_broken project_missing what_is_missing not_as_expected name_broken names_broken since rows_break opening_of plan_of
    forbids_profile forbids_instance policy_broken snapshot_blocked records_of broken root_missing profile_missing
    devices_miss instance_settings profile_settings row_settings settings_broken instance_busy wrong_state
    object_protected object_used project_occupied profile_held standing_broken step cancel_broken entry_broken
    tables_broken loads usage_of networks_of used_by usage_view read entered succeeded failed cancelled
references = record {
  homes = Each-cons _ refl (pair _ refl refl (pair _ refl refl Each-none));
  volumes = Each-none;
  snapshots = Each-none;
  snapshot_profiles = Each-none;
  profiles = Each-cons _ refl Each-none;
  instances = pair _ (record { few = refl; profiles = refl; devices = refl }) (record { few = refl; profiles = refl; devices = refl }) (pair _ (record { few = refl; profiles = refl; devices = refl }) (record { few = refl; profiles = refl; devices = refl }) Each-none);
  operations = Each-cons _
      (record {
        project = refl;
        target = λ there. cc;
        source = λ of is. cc;
        claim_project = λ r is. subst (λ (x : Row). project_of_row x ≡ default_name) (some-is is) refl;
        claim_home = λ r is. subst (λ (x : Row). home_missing busy x ≡ None) (some-is is) refl;
        pool = λ r is. subst (λ (x : Row). (target_of x).kind ≡ kind.Volume → is_some (pool_named busy.pools (target_of x).pool) ≡ true) (some-is is) (λ volume. cc);
        instance = λ r is. subst (λ (x : Row). (target_of x).kind ≡ kind.Snapshot → instance_there busy default_name (target_of x)) (some-is is) (λ snapshot. cc);
        renamed = tt;
      })
      (pair _
      (record {
        project = refl;
        target = λ there. cc;
        source = λ of is. subst (λ (t : Target). is_there busy default_name t ≡ true) (some-is is) refl;
        claim_project = λ r is. subst (λ (x : Row). project_of_row x ≡ default_name) (some-is is) refl;
        claim_home = λ r is. subst (λ (x : Row). home_missing busy x ≡ None) (some-is is) refl;
        pool = λ r is. subst (λ (x : Row). (target_of x).kind ≡ kind.Volume → is_some (pool_named busy.pools (target_of x).pool) ≡ true) (some-is is) (λ volume. cc);
        instance = λ r is. subst (λ (x : Row). (target_of x).kind ≡ kind.Snapshot → instance_there busy default_name (target_of x)) (some-is is) (λ snapshot. cc);
        renamed = tt;
      })
      (record {
        project = refl;
        target = λ there. refl;
        source = λ of is. cc;
        claim_project = λ r is. cc;
        claim_home = λ r is. cc;
        pool = λ r is. cc;
        instance = λ r is. cc;
        renamed = tt;
      })
      Each-none);
}

defaults : HasDefaults busy
unfolding
    digits address_of cidr_of plus_of minus_of excess_of fits_in count_of set_of cpu_of expiry_of memory_of size_of
    boolean_of settled patched is_root_disk root_of value_of put without replaced keys_fault instance_fault project_fault
    network_fault pool_fault volume_fault device_fault devices_fault value_fault instance_lines project_lines
    network_lines pool_lines volume_lines option_tables_tables_device_lines device_form device_type listed_form form_of
    is_instance_name is_project_name is_object_name names_network names_pool names_volume laid expanded expanded_setting
    expanded_device setting_lines restrictions_forbids_device_lines device_rule setting_rule broken_settings
    missing_setting broken_devices first_forbidden snapshots_forbidden policy_of word_named is_true first_over
    networks_over first_without_amount volume_without_amount cpu_in memory_in disk_in instance_amounts volume_amounts count_in
    size_in limits_of pool_limit limited_pools root_pool pool_without_size volume_pool_without_size root_part sized_part
    count_at number_at moment_at code_at text_at items_at list_at filled_at next_at next_filled_at
    setting_at device_at shape_at project_in profile_in network_in pool_in volume_in instance_in snapshot_in two_names_in
    three_names_in read_project read_profile read_network read_pool read_volume read_instance read_snapshot row_at text_bytes
    number_bytes list_bytes accepted judged_instances judged_volumes amounts_of_instance part_of_instance share_of part_of_share expanded_of busy_with
    holder_of first_user_of home_of instance_without_amount volume_lacks_amount counts_broken part_exceeds networks_exceed pools_exceed
    limits_broken project_missing what_is_missing not_as_expected name_broken names_broken since rows_break opening_of plan_of
    forbids_profile forbids_instance policy_broken snapshot_blocked records_of broken root_missing profile_missing
    devices_miss instance_settings profile_settings row_settings settings_broken instance_busy wrong_state
    object_protected object_used project_occupied profile_held standing_broken step cancel_broken entry_broken
    tables_broken loads usage_of networks_of used_by usage_view read entered succeeded failed cancelled
defaults = record { project = refl; profiles = Each-cons _ (λ on. refl) Each-none }

settings : AreSettled busy
unfolding
    digits address_of cidr_of plus_of minus_of excess_of fits_in count_of set_of cpu_of expiry_of memory_of size_of
    boolean_of settled patched is_root_disk root_of value_of put without replaced keys_fault instance_fault project_fault
    network_fault pool_fault volume_fault device_fault devices_fault value_fault instance_lines project_lines
    network_lines pool_lines volume_lines option_tables_tables_device_lines device_form device_type listed_form form_of
    is_instance_name is_project_name is_object_name names_network names_pool names_volume laid expanded expanded_setting
    expanded_device setting_lines restrictions_forbids_device_lines device_rule setting_rule broken_settings
    missing_setting broken_devices first_forbidden snapshots_forbidden policy_of word_named is_true first_over
    networks_over first_without_amount volume_without_amount cpu_in memory_in disk_in instance_amounts volume_amounts count_in
    size_in limits_of pool_limit limited_pools root_pool pool_without_size volume_pool_without_size root_part sized_part
    count_at number_at moment_at code_at text_at items_at list_at filled_at next_at next_filled_at
    setting_at device_at shape_at project_in profile_in network_in pool_in volume_in instance_in snapshot_in two_names_in
    three_names_in read_project read_profile read_network read_pool read_volume read_instance read_snapshot row_at text_bytes
    number_bytes list_bytes accepted judged_instances judged_volumes amounts_of_instance part_of_instance share_of part_of_share expanded_of busy_with
    holder_of first_user_of home_of instance_without_amount volume_lacks_amount counts_broken part_exceeds networks_exceed pools_exceed
    limits_broken project_missing what_is_missing not_as_expected name_broken names_broken since rows_break opening_of plan_of
    forbids_profile forbids_instance policy_broken snapshot_blocked records_of broken root_missing profile_missing
    devices_miss instance_settings profile_settings row_settings settings_broken instance_busy wrong_state
    object_protected object_used project_occupied profile_held standing_broken step cancel_broken entry_broken
    tables_broken loads usage_of networks_of used_by usage_view read entered succeeded failed cancelled
settings = record {
  settings = Each-cons _ refl (pair _ refl refl (pair _ refl refl (pair _ refl refl Each-none)));
  devices = Each-cons _ refl (pair _ refl refl (pair _ refl refl (pair _ refl refl Each-none)));
  roots = pair _ refl refl (pair _ refl refl Each-none);
}

busy-once : IsBusyOnce busy
unfolding
    digits address_of cidr_of plus_of minus_of excess_of fits_in count_of set_of cpu_of expiry_of memory_of size_of
    boolean_of settled patched is_root_disk root_of value_of put without replaced keys_fault instance_fault project_fault
    network_fault pool_fault volume_fault device_fault devices_fault value_fault instance_lines project_lines
    network_lines pool_lines volume_lines option_tables_tables_device_lines device_form device_type listed_form form_of
    is_instance_name is_project_name is_object_name names_network names_pool names_volume laid expanded expanded_setting
    expanded_device setting_lines restrictions_forbids_device_lines device_rule setting_rule broken_settings
    missing_setting broken_devices first_forbidden snapshots_forbidden policy_of word_named is_true first_over
    networks_over first_without_amount volume_without_amount cpu_in memory_in disk_in instance_amounts volume_amounts count_in
    size_in limits_of pool_limit limited_pools root_pool pool_without_size volume_pool_without_size root_part sized_part
    count_at number_at moment_at code_at text_at items_at list_at filled_at next_at next_filled_at
    setting_at device_at shape_at project_in profile_in network_in pool_in volume_in instance_in snapshot_in two_names_in
    three_names_in read_project read_profile read_network read_pool read_volume read_instance read_snapshot row_at text_bytes
    number_bytes list_bytes accepted judged_instances judged_volumes amounts_of_instance part_of_instance share_of part_of_share expanded_of busy_with
    holder_of first_user_of home_of instance_without_amount volume_lacks_amount counts_broken part_exceeds networks_exceed pools_exceed
    limits_broken project_missing what_is_missing not_as_expected name_broken names_broken since rows_break opening_of plan_of
    forbids_profile forbids_instance policy_broken snapshot_blocked records_of broken root_missing profile_missing
    devices_miss instance_settings profile_settings row_settings settings_broken instance_busy wrong_state
    object_protected object_used project_occupied profile_held standing_broken step cancel_broken entry_broken
    tables_broken loads usage_of networks_of used_by usage_view read entered succeeded failed cancelled
busy-once = one-by-one where
  one-by-one : (project instance : List ℕ) → length (filter (λ (o : Operation Task). keeps_busy project instance o.work) busy.operations.live) ≤ 1
  one-by-one project instance = one-passes (λ (o : Operation Task). keeps_busy project instance o.work) busy.operations.live (
    (
      neither (bytes_eq default_name project) (bytes_eq c instance) (bytes_eq d instance) (bytes_eq a instance) (other-name c d instance refl) (other-name c a instance refl),
      (
        not-both (bytes_eq default_name project) (bytes_eq c instance) (bytes_eq b instance) (other-name c b instance refl),
        tt,
      ),
    ),
    (
      (
        neither-after (bytes_eq default_name project) (bytes_eq b instance) (bytes_eq d instance) (bytes_eq a instance) (other-name b d instance refl) (other-name b a instance refl),
        tt,
      ),
      (tt, tt),
    ),
  )

kept : AreKept busy.operations
unfolding
    digits address_of cidr_of plus_of minus_of excess_of fits_in count_of set_of cpu_of expiry_of memory_of size_of
    boolean_of settled patched is_root_disk root_of value_of put without replaced keys_fault instance_fault project_fault
    network_fault pool_fault volume_fault device_fault devices_fault value_fault instance_lines project_lines
    network_lines pool_lines volume_lines option_tables_tables_device_lines device_form device_type listed_form form_of
    is_instance_name is_project_name is_object_name names_network names_pool names_volume laid expanded expanded_setting
    expanded_device setting_lines restrictions_forbids_device_lines device_rule setting_rule broken_settings
    missing_setting broken_devices first_forbidden snapshots_forbidden policy_of word_named is_true first_over
    networks_over first_without_amount volume_without_amount cpu_in memory_in disk_in instance_amounts volume_amounts count_in
    size_in limits_of pool_limit limited_pools root_pool pool_without_size volume_pool_without_size root_part sized_part
    count_at number_at moment_at code_at text_at items_at list_at filled_at next_at next_filled_at
    setting_at device_at shape_at project_in profile_in network_in pool_in volume_in instance_in snapshot_in two_names_in
    three_names_in read_project read_profile read_network read_pool read_volume read_instance read_snapshot row_at text_bytes
    number_bytes list_bytes accepted judged_instances judged_volumes amounts_of_instance part_of_instance share_of part_of_share expanded_of busy_with
    holder_of first_user_of home_of instance_without_amount volume_lacks_amount counts_broken part_exceeds networks_exceed pools_exceed
    limits_broken project_missing what_is_missing not_as_expected name_broken names_broken since rows_break opening_of plan_of
    forbids_profile forbids_instance policy_broken snapshot_blocked records_of broken root_missing profile_missing
    devices_miss instance_settings profile_settings row_settings settings_broken instance_busy wrong_state
    object_protected object_used project_occupied profile_held standing_broken step cancel_broken entry_broken
    tables_broken loads usage_of networks_of used_by usage_view read entered succeeded failed cancelled
kept = record {
  all_live = Each-cons _ refl (pair _ refl refl Each-none);
  all_ended = pair _ refl refl Each-none;
  in_order = (pair _ (omega arith) (omega arith) Each-none, (Each-cons _ (omega arith) Each-none, (Each-none, tt)));
  numbered = record {
    distinct = (
      pair _ (omega arith) (omega arith) (pair _ (omega arith) (omega arith) Each-none),
      (
        Each-cons _ (omega arith) (pair _ (omega arith) (omega arith) Each-none),
        (
          pair _ (omega arith) (omega arith) Each-none,
          (
            Each-cons _ (omega arith) Each-none,
            (Each-none, tt),
          ),
        ),
      ),
    );
    from_one = Each-cons _ (omega arith) (pair _ (omega arith) (omega arith) (pair _ (omega arith) (omega arith) Each-none));
    below_next = Each-cons _ (omega arith) (pair _ (omega arith) (omega arith) (pair _ (omega arith) (omega arith) Each-none));
    moments = Each-cons _ early (pair _ early early (pair _ early early Each-none));
  };
  next_from_one = omega arith;
  next_limit = omega arith;
  few_live = omega arith;
  few_ended = omega arith;
} where
  early : (0 < MOMENT_LIMIT) × (0 < MOMENT_LIMIT)
  early = (omega arith, omega arith)

deeds : Each (λ o. IsByDeed o.work) busy.operations.live
unfolding
    digits address_of cidr_of plus_of minus_of excess_of fits_in count_of set_of cpu_of expiry_of memory_of size_of
    boolean_of settled patched is_root_disk root_of value_of put without replaced keys_fault instance_fault project_fault
    network_fault pool_fault volume_fault device_fault devices_fault value_fault instance_lines project_lines
    network_lines pool_lines volume_lines option_tables_tables_device_lines device_form device_type listed_form form_of
    is_instance_name is_project_name is_object_name names_network names_pool names_volume laid expanded expanded_setting
    expanded_device setting_lines restrictions_forbids_device_lines device_rule setting_rule broken_settings
    missing_setting broken_devices first_forbidden snapshots_forbidden policy_of word_named is_true first_over
    networks_over first_without_amount volume_without_amount cpu_in memory_in disk_in instance_amounts volume_amounts count_in
    size_in limits_of pool_limit limited_pools root_pool pool_without_size volume_pool_without_size root_part sized_part
    count_at number_at moment_at code_at text_at items_at list_at filled_at next_at next_filled_at
    setting_at device_at shape_at project_in profile_in network_in pool_in volume_in instance_in snapshot_in two_names_in
    three_names_in read_project read_profile read_network read_pool read_volume read_instance read_snapshot row_at text_bytes
    number_bytes list_bytes accepted judged_instances judged_volumes amounts_of_instance part_of_instance share_of part_of_share expanded_of busy_with
    holder_of first_user_of home_of instance_without_amount volume_lacks_amount counts_broken part_exceeds networks_exceed pools_exceed
    limits_broken project_missing what_is_missing not_as_expected name_broken names_broken since rows_break opening_of plan_of
    forbids_profile forbids_instance policy_broken snapshot_blocked records_of broken root_missing profile_missing
    devices_miss instance_settings profile_settings row_settings settings_broken instance_busy wrong_state
    object_protected object_used project_occupied profile_held standing_broken step cancel_broken entry_broken
    tables_broken loads usage_of networks_of used_by usage_view read entered succeeded failed cancelled
deeds = Each-cons _
    (record { target = refl; source = refl; kind = refl; named = λ other. refl; replaces = refl })
    (pair _
    (record { target = refl; source = refl; kind = refl; named = λ other. refl; replaces = refl })
    (record { target = refl; source = refl; kind = refl; named = λ other. tt; replaces = refl })
    Each-none)

under-way : Each IsUnderWay busy.operations.live
unfolding
    digits address_of cidr_of plus_of minus_of excess_of fits_in count_of set_of cpu_of expiry_of memory_of size_of
    boolean_of settled patched is_root_disk root_of value_of put without replaced keys_fault instance_fault project_fault
    network_fault pool_fault volume_fault device_fault devices_fault value_fault instance_lines project_lines
    network_lines pool_lines volume_lines option_tables_tables_device_lines device_form device_type listed_form form_of
    is_instance_name is_project_name is_object_name names_network names_pool names_volume laid expanded expanded_setting
    expanded_device setting_lines restrictions_forbids_device_lines device_rule setting_rule broken_settings
    missing_setting broken_devices first_forbidden snapshots_forbidden policy_of word_named is_true first_over
    networks_over first_without_amount volume_without_amount cpu_in memory_in disk_in instance_amounts volume_amounts count_in
    size_in limits_of pool_limit limited_pools root_pool pool_without_size volume_pool_without_size root_part sized_part
    count_at number_at moment_at code_at text_at items_at list_at filled_at next_at next_filled_at
    setting_at device_at shape_at project_in profile_in network_in pool_in volume_in instance_in snapshot_in two_names_in
    three_names_in read_project read_profile read_network read_pool read_volume read_instance read_snapshot row_at text_bytes
    number_bytes list_bytes accepted judged_instances judged_volumes amounts_of_instance part_of_instance share_of part_of_share expanded_of busy_with
    holder_of first_user_of home_of instance_without_amount volume_lacks_amount counts_broken part_exceeds networks_exceed pools_exceed
    limits_broken project_missing what_is_missing not_as_expected name_broken names_broken since rows_break opening_of plan_of
    forbids_profile forbids_instance policy_broken snapshot_blocked records_of broken root_missing profile_missing
    devices_miss instance_settings profile_settings row_settings settings_broken instance_busy wrong_state
    object_protected object_used project_occupied profile_held standing_broken step cancel_broken entry_broken
    tables_broken loads usage_of networks_of used_by usage_view read entered succeeded failed cancelled
under-way = Each-cons _
    (record { calls = refl; left = refl; waiting = λ is. cc; cancellable = refl; undo = λ other. refl; cancelling = λ is. cc; undoing = refl })
    (pair _
    (record { calls = refl; left = refl; waiting = λ is. refl; cancellable = refl; undo = λ other. refl; cancelling = λ is. cc; undoing = refl })
    (record { calls = refl; left = refl; waiting = λ is. refl; cancellable = refl; undo = λ other. refl; cancelling = λ is. cc; undoing = tt })
    Each-none)

limits : AreWithin busy
unfolding
    digits address_of cidr_of plus_of minus_of excess_of fits_in count_of set_of cpu_of expiry_of memory_of size_of
    boolean_of settled patched is_root_disk root_of value_of put without replaced keys_fault instance_fault project_fault
    network_fault pool_fault volume_fault device_fault devices_fault value_fault instance_lines project_lines
    network_lines pool_lines volume_lines option_tables_tables_device_lines device_form device_type listed_form form_of
    is_instance_name is_project_name is_object_name names_network names_pool names_volume laid expanded expanded_setting
    expanded_device setting_lines restrictions_forbids_device_lines device_rule setting_rule broken_settings
    missing_setting broken_devices first_forbidden snapshots_forbidden policy_of word_named is_true first_over
    networks_over first_without_amount volume_without_amount cpu_in memory_in disk_in instance_amounts volume_amounts count_in
    size_in limits_of pool_limit limited_pools root_pool pool_without_size volume_pool_without_size root_part sized_part
    count_at number_at moment_at code_at text_at items_at list_at filled_at next_at next_filled_at
    setting_at device_at shape_at project_in profile_in network_in pool_in volume_in instance_in snapshot_in two_names_in
    three_names_in read_project read_profile read_network read_pool read_volume read_instance read_snapshot row_at text_bytes
    number_bytes list_bytes accepted judged_instances judged_volumes amounts_of_instance part_of_instance share_of part_of_share expanded_of busy_with
    holder_of first_user_of home_of instance_without_amount volume_lacks_amount counts_broken part_exceeds networks_exceed pools_exceed
    limits_broken project_missing what_is_missing not_as_expected name_broken names_broken since rows_break opening_of plan_of
    forbids_profile forbids_instance policy_broken snapshot_blocked records_of broken root_missing profile_missing
    devices_miss instance_settings profile_settings row_settings settings_broken instance_busy wrong_state
    object_protected object_used project_occupied profile_held standing_broken step cancel_broken entry_broken
    tables_broken loads usage_of networks_of used_by usage_view read entered succeeded failed cancelled
limits = record {
  limits = Each-cons _ (record {
    parts = within;
    networks = tt;
    pools = λ pool. tt;
    instances = pair _ (λ same. refl) (λ same. refl) (pair _ (λ same. refl) (λ same. refl) Each-none);
    volumes = Each-none;
  }) Each-none;
  policy = Each-cons _ (record {
    profiles = Each-cons _ (λ same number. refl) Each-none;
    instances = pair _ (λ same number. refl) (λ same number. refl) (pair _ (λ same number. refl) (λ same number. refl) Each-none);
  }) Each-none;
} where
  within : (k : Part) → IfSome (limit_on k (limits_of default_project.config)) (λ limit. used busy default_name k ≤ limit)
  within Instances = tt
  within Containers = tt
  within Machines = tt
  within Cpu = tt
  within Memory = tt
  within Processes = tt
  within Disk = tt

balanced : AreBalanced busy
unfolding
    digits address_of cidr_of plus_of minus_of excess_of fits_in count_of set_of cpu_of expiry_of memory_of size_of
    boolean_of settled patched is_root_disk root_of value_of put without replaced keys_fault instance_fault project_fault
    network_fault pool_fault volume_fault device_fault devices_fault value_fault instance_lines project_lines
    network_lines pool_lines volume_lines option_tables_tables_device_lines device_form device_type listed_form form_of
    is_instance_name is_project_name is_object_name names_network names_pool names_volume laid expanded expanded_setting
    expanded_device setting_lines restrictions_forbids_device_lines device_rule setting_rule broken_settings
    missing_setting broken_devices first_forbidden snapshots_forbidden policy_of word_named is_true first_over
    networks_over first_without_amount volume_without_amount cpu_in memory_in disk_in instance_amounts volume_amounts count_in
    size_in limits_of pool_limit limited_pools root_pool pool_without_size volume_pool_without_size root_part sized_part
    count_at number_at moment_at code_at text_at items_at list_at filled_at next_at next_filled_at
    setting_at device_at shape_at project_in profile_in network_in pool_in volume_in instance_in snapshot_in two_names_in
    three_names_in read_project read_profile read_network read_pool read_volume read_instance read_snapshot row_at text_bytes
    number_bytes list_bytes accepted judged_instances judged_volumes amounts_of_instance part_of_instance share_of part_of_share expanded_of busy_with
    holder_of first_user_of home_of instance_without_amount volume_lacks_amount counts_broken part_exceeds networks_exceed pools_exceed
    limits_broken project_missing what_is_missing not_as_expected name_broken names_broken since rows_break opening_of plan_of
    forbids_profile forbids_instance policy_broken snapshot_blocked records_of broken root_missing profile_missing
    devices_miss instance_settings profile_settings row_settings settings_broken instance_busy wrong_state
    object_protected object_used project_occupied profile_held standing_broken step cancel_broken entry_broken
    tables_broken loads usage_of networks_of used_by usage_view read entered succeeded failed cancelled
balanced = record { parts = by_part; pools = refl } where
  by_part : (k : Part) → part k busy.books.granted ≡ part k busy.books.converted + part k busy.books.returned + sum_by (λ (h : Hold). part k h.share) busy.held
  by_part Instances = refl
  by_part Containers = refl
  by_part Machines = refl
  by_part Cpu = refl
  by_part Memory = refl
  by_part Processes = refl
  by_part Disk = refl

shares : busy.held ≡ map (held_by busy) busy.operations.live
unfolding
    digits address_of cidr_of plus_of minus_of excess_of fits_in count_of set_of cpu_of expiry_of memory_of size_of
    boolean_of settled patched is_root_disk root_of value_of put without replaced keys_fault instance_fault project_fault
    network_fault pool_fault volume_fault device_fault devices_fault value_fault instance_lines project_lines
    network_lines pool_lines volume_lines option_tables_tables_device_lines device_form device_type listed_form form_of
    is_instance_name is_project_name is_object_name names_network names_pool names_volume laid expanded expanded_setting
    expanded_device setting_lines restrictions_forbids_device_lines device_rule setting_rule broken_settings
    missing_setting broken_devices first_forbidden snapshots_forbidden policy_of word_named is_true first_over
    networks_over first_without_amount volume_without_amount cpu_in memory_in disk_in instance_amounts volume_amounts count_in
    size_in limits_of pool_limit limited_pools root_pool pool_without_size volume_pool_without_size root_part sized_part
    count_at number_at moment_at code_at text_at items_at list_at filled_at next_at next_filled_at
    setting_at device_at shape_at project_in profile_in network_in pool_in volume_in instance_in snapshot_in two_names_in
    three_names_in read_project read_profile read_network read_pool read_volume read_instance read_snapshot row_at text_bytes
    number_bytes list_bytes accepted judged_instances judged_volumes amounts_of_instance part_of_instance share_of part_of_share expanded_of busy_with
    holder_of first_user_of home_of instance_without_amount volume_lacks_amount counts_broken part_exceeds networks_exceed pools_exceed
    limits_broken project_missing what_is_missing not_as_expected name_broken names_broken since rows_break opening_of plan_of
    forbids_profile forbids_instance policy_broken snapshot_blocked records_of broken root_missing profile_missing
    devices_miss instance_settings profile_settings row_settings settings_broken instance_busy wrong_state
    object_protected object_used project_occupied profile_held standing_broken step cancel_broken entry_broken
    tables_broken loads usage_of networks_of used_by usage_view read entered succeeded failed cancelled
shares = as-held ∙ sym as-stands where
  -- what an instance with a root disk of 1 GiB counts for
  one : Amounts
  one = record { instances = 1; containers = 1; machines = 0; cpu = 0; memory = 0; processes = 0; disk = 1073741824 }

  on_p0 : PoolPart
  on_p0 = record { pool = codes "p0"; disk = 1073741824 }

  held-now : List Hold
  held-now =
      record { op = 3; project = default_name; share = one; part = on_p0 }
      ∷ record { op = 4; project = default_name; share = one; part = on_p0 }
      ∷ record { op = 5; project = default_name; share = nothing; part = no_part }
      ∷ []

  as-held : busy.held ≡ held-now
  as-held = refl

  as-stands : map (held_by busy) busy.operations.live ≡ held-now
  as-stands = refl

sizes : AreFew busy
unfolding
    digits address_of cidr_of plus_of minus_of excess_of fits_in count_of set_of cpu_of expiry_of memory_of size_of
    boolean_of settled patched is_root_disk root_of value_of put without replaced keys_fault instance_fault project_fault
    network_fault pool_fault volume_fault device_fault devices_fault value_fault instance_lines project_lines
    network_lines pool_lines volume_lines option_tables_tables_device_lines device_form device_type listed_form form_of
    is_instance_name is_project_name is_object_name names_network names_pool names_volume laid expanded expanded_setting
    expanded_device setting_lines restrictions_forbids_device_lines device_rule setting_rule broken_settings
    missing_setting broken_devices first_forbidden snapshots_forbidden policy_of word_named is_true first_over
    networks_over first_without_amount volume_without_amount cpu_in memory_in disk_in instance_amounts volume_amounts count_in
    size_in limits_of pool_limit limited_pools root_pool pool_without_size volume_pool_without_size root_part sized_part
    count_at number_at moment_at code_at text_at items_at list_at filled_at next_at next_filled_at
    setting_at device_at shape_at project_in profile_in network_in pool_in volume_in instance_in snapshot_in two_names_in
    three_names_in read_project read_profile read_network read_pool read_volume read_instance read_snapshot row_at text_bytes
    number_bytes list_bytes accepted judged_instances judged_volumes amounts_of_instance part_of_instance share_of part_of_share expanded_of busy_with
    holder_of first_user_of home_of instance_without_amount volume_lacks_amount counts_broken part_exceeds networks_exceed pools_exceed
    limits_broken project_missing what_is_missing not_as_expected name_broken names_broken since rows_break opening_of plan_of
    forbids_profile forbids_instance policy_broken snapshot_blocked records_of broken root_missing profile_missing
    devices_miss instance_settings profile_settings row_settings settings_broken instance_busy wrong_state
    object_protected object_used project_occupied profile_held standing_broken step cancel_broken entry_broken
    tables_broken loads usage_of networks_of used_by usage_view read entered succeeded failed cancelled
sizes = record {
  tables = Each-cons _ (omega arith) (pair _ (omega arith) (omega arith) (pair _ (omega arith) (omega arith) (pair _ (omega arith) (omega arith) Each-none)));
  rows = Each-cons _ (omega arith) (pair _ (omega arith) (omega arith) (pair _ (omega arith) (omega arith) (pair _ (omega arith) (omega arith) Each-none)));
  notices = (refl, (refl, (refl, (refl, (refl, (refl, (refl, (refl, (refl, (refl, (refl, (refl, (refl, (refl, tt))))))))))))));
  few_notices = omega arith;
  from_one = omega arith;
  last_number = omega arith;
}

pub busy-whole : BusyIsWhole
unfolding
    digits address_of cidr_of plus_of minus_of excess_of fits_in count_of set_of cpu_of expiry_of memory_of size_of
    boolean_of settled patched is_root_disk root_of value_of put without replaced keys_fault instance_fault project_fault
    network_fault pool_fault volume_fault device_fault devices_fault value_fault instance_lines project_lines
    network_lines pool_lines volume_lines option_tables_tables_device_lines device_form device_type listed_form form_of
    is_instance_name is_project_name is_object_name names_network names_pool names_volume laid expanded expanded_setting
    expanded_device setting_lines restrictions_forbids_device_lines device_rule setting_rule broken_settings
    missing_setting broken_devices first_forbidden snapshots_forbidden policy_of word_named is_true first_over
    networks_over first_without_amount volume_without_amount cpu_in memory_in disk_in instance_amounts volume_amounts count_in
    size_in limits_of pool_limit limited_pools root_pool pool_without_size volume_pool_without_size root_part sized_part
    count_at number_at moment_at code_at text_at items_at list_at filled_at next_at next_filled_at
    setting_at device_at shape_at project_in profile_in network_in pool_in volume_in instance_in snapshot_in two_names_in
    three_names_in read_project read_profile read_network read_pool read_volume read_instance read_snapshot row_at text_bytes
    number_bytes list_bytes accepted judged_instances judged_volumes amounts_of_instance part_of_instance share_of part_of_share expanded_of busy_with
    holder_of first_user_of home_of instance_without_amount volume_lacks_amount counts_broken part_exceeds networks_exceed pools_exceed
    limits_broken project_missing what_is_missing not_as_expected name_broken names_broken since rows_break opening_of plan_of
    forbids_profile forbids_instance policy_broken snapshot_blocked records_of broken root_missing profile_missing
    devices_miss instance_settings profile_settings row_settings settings_broken instance_busy wrong_state
    object_protected object_used project_occupied profile_held standing_broken step cancel_broken entry_broken
    tables_broken loads usage_of networks_of used_by usage_view read entered succeeded failed cancelled
busy-whole = record { live = refl; whole = whole } where
  whole : IsWhole busy
  whole = record {
    names = names;
    references = references;
    defaults = defaults;
    settings = settings;
    operations = record { kept = kept; busy = busy-once; deeds = deeds };
    under_way = under-way;
    shares = shares;
    limits = limits;
    books = balanced;
    sizes = sizes;
  }
