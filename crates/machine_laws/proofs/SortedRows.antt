-- The rows that commands make have their settings and devices in order.
use Rattle.std.proofs.Common.{ℕ, Option, Some, None, List, []}
use Rattle.std.specs.Prelude.{IfSome, unwrap_or}
use Rattle.std.specs.Option.{option_map_or}
use Rattle.std.proofs.lemmas.List.Elements.{All-nil}
use Rattle.config_lists.specs.Settings.{Settings, IsConfig, IsFull}
use Rattle.config_lists.specs.Devices.{NamedDevices, IsDevices}
use Rattle.config_lists.specs.Changes.{IsChanges, settled, patched}
use Rattle.config_lists.specs.Entries.{replaced}
use Rattle.config_lists.proofs.Keys.{KeysRise-nil}
use Rattle.config_lists.proofs.Lookups.{IsConfig-patched, IsConfig-settled, KeysRise-replaced}
use Rattle.records.specs.declared.commands.Body.{Body}
use Rattle.records.specs.declared.rows.Profile.{Profile}
use Rattle.records.specs.declared.rows.Instance.{Instance}
use Rattle.records.specs.declared.rows.Snapshot.{Snapshot}
use Rattle.records.specs.declared.rows.Row.TheVariants as row
use Rattle.row_machine.specs.machine.NewRows.{Source, new_config, new_devices, patched_config, patched_devices, made_profile, default_profile, put_profile, patched_profile, made_instance, copied_instance, put_instance, patched_instance, restored_instance, made_snapshot}
use Rattle.machine_laws.specs.Sorted.{IsSortedBody, IsSortedRow}

-- ---- parts of a body

no-config : IsConfig []
no-config = record { rising = KeysRise-nil (List ℕ); full = All-nil IsFull }

no-devices : IsDevices []
no-devices = record { rising = KeysRise-nil Settings }

new-config : (body : Body) → IsSortedBody body → IsConfig (new_config body)
new-config body h = by body.config h.config where
  by : (c : Option Settings) → IfSome c IsChanges → IsConfig (option_map_or settled c [])
  by None tells = no-config
  by (Some changes) tells = IsConfig-settled changes tells

new-devices : (body : Body) → IsSortedBody body → IsDevices (new_devices body)
new-devices body h = by body.devices h.devices where
  by : (d : Option NamedDevices) → IfSome d IsDevices → IsDevices (unwrap_or d [])
  by None tells = no-devices
  by (Some devices) tells = tells

patched-config : (old : Settings) (body : Body) → IsSortedBody body → IsConfig old → IsConfig (patched_config old body)
patched-config old body h is = by body.config h.config where
  by : (c : Option Settings) → IfSome c IsChanges → IsConfig (option_map_or (patched old) c old)
  by None tells = is
  by (Some changes) tells = IsConfig-patched old changes is tells

patched-devices : (old : NamedDevices) (body : Body) → IsDevices old → IsDevices (patched_devices old body)
patched-devices old body is = by body.devices where
  by : (d : Option NamedDevices) → IsDevices (option_map_or (replaced old) d old)
  by None = is
  by (Some devices) = record { rising = KeysRise-replaced old devices is.rising }

-- ---- rows

pub sorted-default : (project : List ℕ) → IsSortedRow (row.Profile (default_profile project))
sorted-default project = record { config = no-config; devices = no-devices }

pub sorted-made_profile : (project name : List ℕ) (body : Body) → IsSortedBody body → IsSortedRow (row.Profile (made_profile project name body))
sorted-made_profile project name body h = record { config = new-config body h; devices = new-devices body h }

pub sorted-put_profile : (r : Profile) (body : Body) → IsSortedBody body → IsSortedRow (row.Profile (put_profile r body))
sorted-put_profile r body h = record { config = new-config body h; devices = new-devices body h }

pub sorted-patched_profile : (r : Profile) (body : Body) → IsSortedBody body → IsSortedRow (row.Profile r) → IsSortedRow (row.Profile (patched_profile r body))
sorted-patched_profile r body h is = record { config = patched-config r.config body h is.config; devices = patched-devices r.devices body is.devices }

pub sorted-made_instance : (project name : List ℕ) (body : Body) (moment : ℕ) → IsSortedBody body → IsSortedRow (row.Instance (made_instance project name body moment))
sorted-made_instance project name body moment h = record { config = new-config body h; devices = new-devices body h }

pub sorted-copied_instance : (project name : List ℕ) (body : Body) (moment : ℕ) (source : Source) → IsSortedBody body → IsConfig source.config → IsDevices source.devices
    → IsSortedRow (row.Instance (copied_instance project name body moment source))
sorted-copied_instance project name body moment source h config devices =
    record { config = patched-config source.config body h config; devices = patched-devices source.devices body devices }

pub sorted-put_instance : (i : Instance) (body : Body) → IsSortedBody body → IsSortedRow (row.Instance (put_instance i body))
sorted-put_instance i body h = record { config = new-config body h; devices = new-devices body h }

pub sorted-patched_instance : (i : Instance) (body : Body) → IsSortedBody body → IsSortedRow (row.Instance i) → IsSortedRow (row.Instance (patched_instance i body))
sorted-patched_instance i body h is = record { config = patched-config i.config body h is.config; devices = patched-devices i.devices body is.devices }

pub sorted-restored : (i : Instance) (r : Snapshot) → IsSortedRow (row.Snapshot r) → IsSortedRow (row.Instance (restored_instance i r))
sorted-restored i r is = record { config = is.config; devices = is.devices }

pub sorted-snapshot : (i : Instance) (name : List ℕ) (moment : ℕ) → IsSortedRow (row.Instance i) → IsSortedRow (row.Snapshot (made_snapshot i name moment))
sorted-snapshot i name moment is = record { config = is.config; devices = is.devices }
