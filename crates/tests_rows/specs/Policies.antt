-- What restricted projects forbid.
use Prim.Native.String.{String}
use Rattle.std.specs.Prelude.{ℕ, ◌==◌, Bool, true, false, List, [], ◌∷◌, map, length, Option, Some, None, codes}
use Rattle.std.specs.Prelude.{if◌then◌else◌}
use Rattle.restrictions.specs.Forbids.{first_forbidden, snapshots_forbidden}
use Rattle.restrictions.specs.Policies.{policy_of}
use Rattle.restrictions.specs.Words.{word_named}
use Rattle.config_lists.specs.Devices.{NamedDevices}
use Rattle.config_lists.specs.Entries.{put, without}
use Rattle.config_lists.specs.Settings.{Settings}
use Rattle.restrictions.specs.declared.forbidden.Forbidden.{Forbidden}
use Rattle.restrictions.specs.declared.rows.Subject.TheVariants as subject
use Rattle.restrictions.specs.declared.rows.Word.{Word}
use Rattle.restrictions.specs.declared.rows.Word.TheVariants as word_of
use Rattle.tests_rows.specs.Tables.{Agree, Gives, entry, settings, devices}

-- a restricted project that allows all
abbrev pub allowing : Settings
allowing = settings (
    entry "restricted" "true"
    ∷ entry "restricted.containers.interception" "full"
    ∷ entry "restricted.containers.nesting" "allow"
    ∷ entry "restricted.containers.privilege" "allow"
    ∷ entry "restricted.containers.lowlevel" "allow"
    ∷ entry "restricted.virtual-machines.lowlevel" "allow"
    ∷ entry "restricted.devices.disk" "allow"
    ∷ entry "restricted.devices.nic" "allow"
    ∷ entry "restricted.devices.gpu" "allow"
    ∷ entry "restricted.devices.proxy" "allow"
    ∷ entry "restricted.devices.unix-block" "allow"
    ∷ entry "restricted.devices.unix-char" "allow"
    ∷ entry "restricted.devices.usb" "allow"
    ∷ entry "restricted.snapshots" "allow"
    ∷ [])

-- such a project, but for this key: it has this word, or is not set where that is empty
abbrev pub project_of : List ℕ → List ℕ → Settings
project_of key word = if length word == 0 then without allowing key else put (without allowing key) key word

-- this rule is broken at this place; the rule 0 stands for none
abbrev pub forbidden : ℕ → ℕ → Option Forbidden
forbidden rule place = if rule == 0 then None else Some (record { rule = rule; place = place })

-- what is forbidden first to a profile, a container and a virtual machine
abbrev pub first_of_each : Settings → Settings → NamedDevices → List (Option Forbidden)
first_of_each project config devices =
    map (λ whose. first_forbidden (policy_of project) whose config devices)
    (subject.Profile ∷ subject.Container ∷ subject.Machine ∷ [])

-- ---- settings

-- a word, and the rules that a profile, a container and a virtual machine break under it
abbrev pub Judged : Type 0
Judged = List ℕ × ℕ × ℕ × ℕ

abbrev pub word : String → ℕ → ℕ → ℕ → Judged
word text profile container machine = (codes text, profile, container, machine)

-- a restriction, a setting, and how it is judged under words of the restriction
abbrev pub on_settings : List (List ℕ × (List ℕ × List ℕ) × List Judged)
on_settings = (
  codes "restricted.containers.nesting",
  entry "security.nesting" "true",
  word "" 1 1 0 ∷ word "block" 1 1 0 ∷ word "allow" 0 0 0 ∷ [],
)
    ∷ (
      codes "restricted.containers.nesting",
      entry "security.nesting" "false",
      word "block" 0 0 0 ∷ [],
    )
    ∷ (
      codes "restricted.containers.privilege",
      entry "security.privileged" "on",
      word "" 2 2 0 ∷ word "unprivileged" 2 2 0 ∷ word "isolated" 2 2 0 ∷ word "allow" 0 0 0 ∷ [],
    )
    ∷ (
      codes "restricted.containers.privilege",
      entry "security.privileged" "0",
      word "" 0 0 0 ∷ word "unprivileged" 0 0 0 ∷ [],
    )
    ∷ (
      codes "restricted.containers.privilege",
      entry "security.idmap.isolated" "false",
      word "" 0 0 0 ∷ word "unprivileged" 0 0 0 ∷ word "isolated" 0 2 0 ∷ word "allow" 0 0 0 ∷ [],
    )
    ∷ (
      codes "restricted.containers.privilege",
      entry "security.idmap.isolated" "true",
      word "isolated" 0 0 0 ∷ [],
    )
    ∷ (
      codes "restricted.containers.lowlevel",
      entry "linux.kernel_modules" "x",
      word "" 3 3 0 ∷ word "block" 3 3 0 ∷ word "allow" 0 0 0 ∷ [],
    )
    ∷ (
      codes "restricted.containers.lowlevel",
      entry "raw.apparmor" "x",
      word "" 3 3 0 ∷ word "block" 3 3 0 ∷ word "allow" 0 0 0 ∷ [],
    )
    ∷ (
      codes "restricted.containers.lowlevel",
      entry "raw.idmap" "x",
      word "" 3 3 0 ∷ word "block" 3 3 0 ∷ word "allow" 0 0 0 ∷ [],
    )
    ∷ (
      codes "restricted.containers.lowlevel",
      entry "raw.lxc" "x",
      word "" 3 3 0 ∷ word "block" 3 3 0 ∷ word "allow" 0 0 0 ∷ [],
    )
    ∷ (
      codes "restricted.containers.lowlevel",
      entry "raw.seccomp" "x",
      word "" 3 3 0 ∷ word "block" 3 3 0 ∷ word "allow" 0 0 0 ∷ [],
    )
    ∷ (
      codes "restricted.virtual-machines.lowlevel",
      entry "raw.qemu" "x",
      word "" 4 0 4 ∷ word "block" 4 0 4 ∷ word "allow" 0 0 0 ∷ [],
    )
    ∷ (
      codes "restricted.virtual-machines.lowlevel",
      entry "raw.apparmor" "x",
      word "" 0 0 4 ∷ word "block" 0 0 4 ∷ word "allow" 0 0 0 ∷ [],
    )
    ∷ (
      codes "restricted.virtual-machines.lowlevel",
      entry "raw.idmap" "x",
      word "" 0 0 4 ∷ word "block" 0 0 4 ∷ word "allow" 0 0 0 ∷ [],
    )
    ∷ (
      codes "restricted.containers.interception",
      entry "security.syscalls.intercept.mknod" "true",
      word "" 5 5 0 ∷ word "block" 5 5 0 ∷ word "allow" 0 0 0 ∷ word "full" 0 0 0 ∷ [],
    )
    ∷ (
      codes "restricted.containers.interception",
      entry "security.syscalls.intercept.setxattr" "true",
      word "block" 5 5 0 ∷ word "allow" 0 0 0 ∷ [],
    )
    ∷ (
      codes "restricted.containers.interception",
      entry "security.syscalls.intercept.mount" "true",
      word "" 5 5 0 ∷ word "block" 5 5 0 ∷ word "allow" 5 5 0 ∷ word "full" 0 0 0 ∷ [],
    )
    ∷ (
      codes "restricted.containers.interception",
      entry "security.syscalls.intercept.mount" "no",
      word "block" 0 0 0 ∷ word "allow" 0 0 0 ∷ [],
    )
    ∷ []

-- ---- devices

abbrev pub root_disk : Settings
root_disk = entry "type" "disk" ∷ entry "path" "/" ∷ entry "pool" "p0" ∷ []

abbrev pub volume_disk : Settings
volume_disk = entry "type" "disk" ∷ entry "path" "/srv" ∷ entry "pool" "p0" ∷ entry "source" "v" ∷ []

-- a restriction, a device, and the rule that it breaks under words of the restriction
abbrev pub on_devices : List (List ℕ × Settings × List (List ℕ × ℕ))
on_devices = (
  codes "restricted.devices.disk",
  root_disk,
  (codes "", 0) ∷ (codes "managed", 0) ∷ (codes "block", 0) ∷ (codes "allow", 0) ∷ [],
)
    ∷ (
      codes "restricted.devices.disk",
      volume_disk,
      (codes "", 0) ∷ (codes "managed", 0) ∷ (codes "block", 6) ∷ (codes "allow", 0) ∷ [],
    )
    ∷ (
      codes "restricted.devices.disk",
      entry "type" "disk" ∷ entry "path" "/srv" ∷ entry "source" "/x" ∷ [],
      (codes "", 6) ∷ (codes "managed", 6) ∷ (codes "block", 6) ∷ (codes "allow", 0) ∷ [],
    )
    ∷ (
      codes "restricted.devices.nic",
      entry "type" "nic" ∷ entry "network" "br0" ∷ [],
      (codes "", 0) ∷ (codes "managed", 0) ∷ (codes "block", 6) ∷ (codes "allow", 0) ∷ [],
    )
    ∷ (
      codes "restricted.devices.nic",
      entry "type" "nic" ∷ entry "nictype" "bridged" ∷ entry "parent" "br0" ∷ [],
      (codes "", 6) ∷ (codes "managed", 6) ∷ (codes "block", 6) ∷ (codes "allow", 0) ∷ [],
    )
    ∷ (
      codes "restricted.devices.gpu",
      entry "type" "gpu" ∷ [],
      (codes "", 6) ∷ (codes "block", 6) ∷ (codes "allow", 0) ∷ [],
    )
    ∷ (
      codes "restricted.devices.proxy",
      entry "type" "proxy" ∷ [],
      (codes "", 6) ∷ (codes "block", 6) ∷ (codes "allow", 0) ∷ [],
    )
    ∷ (
      codes "restricted.devices.unix-block",
      entry "type" "unix-block" ∷ [],
      (codes "", 6) ∷ (codes "block", 6) ∷ (codes "allow", 0) ∷ [],
    )
    ∷ (
      codes "restricted.devices.unix-char",
      entry "type" "unix-char" ∷ [],
      (codes "", 6) ∷ (codes "block", 6) ∷ (codes "allow", 0) ∷ [],
    )
    ∷ (
      codes "restricted.devices.usb",
      entry "type" "usb" ∷ [],
      (codes "", 6) ∷ (codes "block", 6) ∷ (codes "allow", 0) ∷ [],
    )
    ∷ (
      codes "restricted.devices.gpu",
      entry "type" "usb" ∷ [],
      (codes "block", 0) ∷ [],
    )
    ∷ (
      codes "restricted.devices.disk",
      entry "type" "none" ∷ [],
      (codes "block", 0) ∷ [],
    )
    ∷ (
      codes "restricted.networks.access",
      entry "type" "nic" ∷ entry "network" "br1" ∷ [],
      (codes "", 0) ∷ (codes "br0,br1", 0) ∷ (codes "br0", 7) ∷ (codes "br0,br11", 7) ∷ [],
    )
    ∷ (
      codes "restricted.networks.access",
      entry "type" "nic" ∷ entry "nictype" "bridged" ∷ entry "parent" "br1" ∷ [],
      (codes "br0", 0) ∷ [],
    )
    ∷ []

-- what the device has beside it: a setting and a device that no rule is against
abbrev pub free : Settings
free = entry "security.idmap.isolated" "true" ∷ []

abbrev pub beside : Settings → NamedDevices
beside device = (codes "a", entry "type" "none" ∷ []) ∷ (codes "b", settings device) ∷ []

-- ---- the lowest rule and its first place

abbrev pub restricted : Settings
restricted = entry "restricted" "1" ∷ []

abbrev pub isolated : Settings
isolated = entry "restricted" "1" ∷ entry "restricted.containers.privilege" "isolated" ∷ []

abbrev pub access : Settings
access = entry "restricted" "1" ∷ entry "restricted.networks.access" "br0" ∷ []

abbrev pub unrestricted : Settings
unrestricted = entry "restricted" "0" ∷ entry "restricted.networks.access" "br0" ∷ []

-- settings of which each breaks a rule of its own
abbrev pub all_three : Settings
all_three = entry "raw.lxc" "x" ∷ entry "security.nesting" "1" ∷ entry "security.privileged" "1" ∷ []

-- a project and the settings of a container, and what is forbidden first
abbrev pub lowest : List (Settings × Settings × Option Forbidden)
lowest =
    (restricted, all_three, forbidden 1 1)
    ∷ (restricted, entry "raw.lxc" "x" ∷ entry "raw.seccomp" "x" ∷ [], forbidden 3 0)
    ∷ (isolated, entry "raw.lxc" "x" ∷ entry "user.a" "x" ∷ [], forbidden 2 2)
    ∷ (isolated, entry "raw.lxc" "x" ∷ entry "security.privileged" "1" ∷ [], forbidden 2 1)
    ∷ (isolated, entry "security.idmap.isolated" "0" ∷ entry "security.privileged" "1" ∷ [], forbidden 2 0)
    ∷ (access, entry "security.privileged" "0" ∷ [], forbidden 6 1)
    ∷ (access, [], forbidden 6 1)
    ∷ (unrestricted, entry "security.privileged" "1" ∷ [], forbidden 0 0)
    ∷ []

-- what the container has beside its settings
abbrev pub nic_and_gpu : NamedDevices
nic_and_gpu =
    (codes "eth0", settings (entry "type" "nic" ∷ entry "network" "br1" ∷ []))
    ∷ (codes "gpu", entry "type" "gpu" ∷ [])
    ∷ []

-- ---- snapshots and words

-- a project, and whether it forbids snapshots
abbrev pub snapshots : List (Settings × Bool)
snapshots =
    ([], false)
    ∷ (entry "restricted" "true" ∷ [], true)
    ∷ (entry "restricted" "true" ∷ entry "restricted.snapshots" "block" ∷ [], true)
    ∷ (entry "restricted" "true" ∷ entry "restricted.snapshots" "allow" ∷ [], false)
    ∷ (entry "restricted.snapshots" "block" ∷ [], false)
    ∷ []

-- each word by its text, and texts that are no words
abbrev pub words : List (List ℕ × Option Word)
words =
    (codes "block", Some word_of.Block)
    ∷ (codes "allow", Some word_of.Allow)
    ∷ (codes "managed", Some word_of.Managed)
    ∷ (codes "unprivileged", Some word_of.Unprivileged)
    ∷ (codes "isolated", Some word_of.Isolated)
    ∷ (codes "full", Some word_of.Full)
    ∷ (codes "Block", None)
    ∷ (codes "", None)
    ∷ []

-- every case
pub record PoliciesHold : Type 0 where
  pub settings_are_judged : Agree
      (λ row. map (λ judged. first_of_each (project_of row.0 judged.0) (row.1 ∷ []) []) row.2)
      (λ row. map (λ judged. forbidden judged.1 0 ∷ forbidden judged.2 0 ∷ forbidden judged.3 0 ∷ []) row.2)
      on_settings
  pub devices_are_judged : Agree
      (λ row. map (λ judged. first_of_each (project_of row.0 judged.0) free (beside row.1)) row.2)
      (λ row. map (λ judged. forbidden judged.1 1 ∷ forbidden judged.1 1 ∷ forbidden judged.1 1 ∷ []) row.2)
      on_devices
  pub lowest_is_told : Agree
      (λ row. first_forbidden (policy_of (settings row.0)) subject.Container (settings row.1) nic_and_gpu)
      (λ row. row.2) lowest
  pub snapshots_are_judged : Gives (λ rows. snapshots_forbidden (policy_of (settings rows))) snapshots
  pub words_are_named : Gives word_named words
