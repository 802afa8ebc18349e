-- What a policy forbids: the lines of the table that are in force, and the first setting or device that one is against.
use Rattle.std.specs.Prelude.{ℕ, ◌==◌, Bool, true, false, not, ◌&&◌, List, [], ◌∷◌, ◌++◌, map, length, Option, Some}
use Rattle.std.specs.Prelude.{None, if◌then◌else◌, find, is_none, codes, nat_le}
use Rattle.std.specs.List.{list_any, enumerate_from, slice_split}
use Rattle.std.specs.Map.{values_of}
use Rattle.std.specs.Option.{option_map, option_or}
use Rattle.std.specs.Str.{bytes_eq, byte}
use Rattle.config_lists.specs.Settings.{Settings, setting, has_setting}
use Rattle.config_lists.specs.Devices.{NamedDevices, is_root_disk}
use Rattle.option_tables.specs.Tables.{takes}
use Rattle.restrictions.specs.declared.forbidden.Forbidden.{Forbidden}
use Rattle.restrictions.specs.declared.rows.Word.{Word}
use Rattle.restrictions.specs.declared.rows.Word.TheVariants.{Block}
use Rattle.restrictions.specs.declared.rows.Subject.{Subject}
use Rattle.restrictions.specs.declared.rows.Restriction.{Restriction}
use Rattle.restrictions.specs.declared.rows.Judged.{Judged}
use Rattle.restrictions.specs.declared.rows.Against.{Against}
use Rattle.restrictions.specs.declared.rows.Against.TheVariants.{Any, True, NotTrue}
use Rattle.restrictions.specs.declared.rows.Which.{Which}
use Rattle.restrictions.specs.declared.rows.Which.TheVariants as which
use Rattle.restrictions.specs.declared.rows.TheConstants.{SETTINGS, DEVICES}
use Rattle.restrictions.specs.Words.{is_word, is_true, is_judged}
use Rattle.restrictions.specs.Policies.{Restrictions, word_in}

-- a line on settings: rule, subjects, restriction, word, key, values
abbrev pub SettingLine : Type 0
SettingLine = ℕ × Judged × Restriction × Word × List ℕ × Against

-- a line on devices: rule, restriction, word, type, which of them
abbrev pub DeviceLine : Type 0
DeviceLine = ℕ × Restriction × Word × List ℕ × Which

-- the lines of the table
unfoldable pub setting_lines : List SettingLine
setting_lines = map (λ line. (line.0, line.1, line.2, line.3, line.4.now, line.5)) SETTINGS.now

unfoldable pub device_lines : List DeviceLine
device_lines = map (λ line. (line.0, line.1, line.2, line.3.now, line.4)) DEVICES.now

-- a line on settings is in force: it judges the subject, and the policy has its word
abbrev pub is_in_force : Restrictions → Subject → SettingLine → Bool
is_in_force policy subject line = is_judged line.1 subject && is_word (word_in policy line.2) line.3

-- whether values are forbidden
abbrev pub is_against : Against → List ℕ → Bool
is_against Any value = true
is_against True value = is_true value
is_against NotTrue value = not (is_true value)

-- whether an absent key is forbidden
abbrev pub demands : Against → Bool
demands Any = false
demands True = false
demands NotTrue = true

-- the rule that a setting breaks by the lines
abbrev pub setting_rule_in : List SettingLine → Restrictions → Subject → List ℕ → List ℕ → Option ℕ
setting_rule_in lines policy subject key value =
    option_map (λ line. line.0) (find (λ line. is_in_force policy subject line && takes line.4 key
    && is_against line.5 value) lines)

-- the rule that demands a key which is not set
abbrev pub missing_rule_in : List SettingLine → Restrictions → Subject → Settings → Option ℕ
missing_rule_in lines policy subject config =
    option_map (λ line. line.0) (find (λ line. is_in_force policy subject line && demands line.5
    && is_none (setting config line.4)) lines)

-- whether a device is one of those that are meant
abbrev pub is_meant : Which → Settings → Bool
is_meant which.Any device = true
is_meant which.WithoutPool device = is_none (setting device (codes "pool"))
is_meant which.NotRoot device = not (is_root_disk device)
is_meant which.WithoutNetwork device = is_none (setting device (codes "network"))

-- whether a name is one of those that are joined by commas
abbrev pub is_listed : List ℕ → List ℕ → Bool
is_listed list name = list_any (λ listed. bytes_eq listed name) (slice_split (λ sign. sign == byte ",") list)

-- whether a network is none of those that are listed; without a list none is
abbrev pub is_outside : Option (List ℕ) → Option (List ℕ) → Bool
is_outside None network = false
is_outside (Some list) None = false
is_outside (Some list) (Some network) = not (is_listed list network)

-- the rule that a device breaks by the lines
abbrev pub device_rule_in : List DeviceLine → Restrictions → Settings → Option ℕ
device_rule_in lines policy device =
    option_map (λ line. line.0) (find (λ line. is_word (word_in policy line.1) line.2
    && has_setting device (codes "type") line.3 && is_meant line.4 device) lines)

-- the rule on networks
abbrev pub network_rule : Restrictions → Settings → Option ℕ
network_rule policy device = if has_setting device (codes "type") (codes "nic")
    && is_outside policy.access (setting device (codes "network")) then Some 7 else None

-- the rule that a device breaks
unfoldable pub device_rule : Restrictions → Settings → Option ℕ
device_rule policy device = option_or (device_rule_in device_lines policy device) (network_rule policy device)

-- the rule that a setting breaks
unfoldable pub setting_rule : Restrictions → Subject → List ℕ → List ℕ → Option ℕ
setting_rule policy subject key value = setting_rule_in setting_lines policy subject key value

-- what is forbidden at a place
abbrev pub forbidden_at : ℕ → Option ℕ → Option Forbidden
forbidden_at place rule = option_map (λ number. record { rule = number; place = place }) rule

-- the one of the lower rule, or else the first
abbrev pub earlier : Option Forbidden → Option Forbidden → Option Forbidden
earlier None other = other
earlier (Some first) None = Some first
earlier (Some first) (Some second) = if nat_le first.rule second.rule then Some first else Some second

-- the first of the lowest rule
abbrev pub lowest : List (Option Forbidden) → Option Forbidden
lowest [] = None
lowest (found ∷ rest) = earlier found (lowest rest)

-- what settings break, each at its place
unfoldable pub broken_settings : Restrictions → Subject → Settings → List (Option Forbidden)
broken_settings policy subject config =
    map (λ (setting : ℕ × (List ℕ × List ℕ)).
    forbidden_at setting.0 (setting_rule policy subject setting.1.0 setting.1.1))
    (enumerate_from 0 config)

-- a demanded key that is not set, after all settings
unfoldable pub missing_setting : Restrictions → Subject → Settings → Option Forbidden
missing_setting policy subject config =
    forbidden_at (length config) (missing_rule_in setting_lines policy subject config)

-- what devices break, each at its place
unfoldable pub broken_devices : Restrictions → NamedDevices → List (Option Forbidden)
broken_devices policy devices =
    map (λ (device : ℕ × Settings). forbidden_at device.0 (device_rule policy device.1))
    (enumerate_from 0 (values_of devices))

-- the first thing that a policy forbids: of the lowest rule, and of those the first
unfoldable pub first_forbidden : Restrictions → Subject → Settings → NamedDevices → Option Forbidden
first_forbidden policy subject config devices =
    if policy.restricted
    then lowest (broken_settings policy subject config
    ++ missing_setting policy subject config ∷ broken_devices policy devices) else None

-- whether a policy forbids snapshots
unfoldable pub snapshots_forbidden : Restrictions → Bool
snapshots_forbidden policy = policy.restricted && is_word policy.snapshots Block
