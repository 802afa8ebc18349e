-- Examples of opening, which the machine itself computes: rows, and the exact state, rule or damage to which their
-- entries open.
use Rattle.std.specs.Prelude.{◌≡◌, ℕ, zero, suc, false, List, [], ◌∷◌, ◌++◌, map, codes}
use Rattle.std.specs.List.{flat_map}
use Rattle.row_machine.specs.Words.{Entry, Kind, Container, Machine, Settings, NamedDevices, Row, entry_of}
use Rattle.row_machine.specs.Words.rule
use Rattle.row_machine.specs.Words.driver
use Rattle.row_machine.specs.Words.row
use Rattle.row_machine.specs.opening.Records.{records_of}
use Rattle.row_machine.specs.machine.NewRows.{default_profile}
use Rattle.row_machine.specs.opening.Opening.{Opening, opened, damaged, broken, default_project, first_rows, with_rows}
use Rattle.row_machine.specs.opening.Opening.{opening_of}
use Rattle.row_machine.specs.examples.Scenes.{default, root_disk}
use Rattle.row_machine.specs.examples.Worked.{lab, a, b, root_on, setting_of}

-- ---- rows

-- a project with these settings
abbrev pub project : List ℕ → Settings → Row
project name config = row.Project (record { name = name; description = []; config = config })

-- a profile
abbrev pub profile : List ℕ → List ℕ → Settings → NamedDevices → Row
profile of name config devices = row.Profile
    (record { project = of; name = name; description = []; config = config; devices = devices })

-- a network without settings
abbrev pub network : List ℕ → List ℕ → Row
network of name = row.Network (record { project = of; name = name; description = []; config = [] })

-- a pool of the driver `dir`
abbrev pub pool : List ℕ → Row
pool name = row.Pool (record { name = name; driver = driver.Dir; description = []; config = [] })

-- a volume in the pool `p0`
abbrev pub volume : List ℕ → List ℕ → Row
volume of name = row.Volume (record {
  project = of;
  pool = codes "p0";
  name = name;
  description = [];
  config = [];
  created = 0;
})

-- an instance of this kind, with these profiles and settings
abbrev pub instance : Kind → List ℕ → List ℕ → List (List ℕ) → Settings → Row
instance kind of name profiles config = row.Instance (record {
  project = of;
  name = name;
  kind = kind;
  ephemeral = false;
  description = [];
  origin = [];
  created = 0;
  profiles = profiles;
  config = config;
  devices = [];
})

-- a snapshot of an instance
abbrev pub snapshot : List ℕ → List ℕ → List ℕ → Row
snapshot of from name = row.Snapshot (record {
  project = of;
  instance = from;
  name = name;
  created = 0;
  expires = 0;
  profiles = default ∷ [];
  config = [];
  devices = [];
})

-- what the entries of rows open to
abbrev pub opens : List Row → Opening
opens rows = opening_of (map entry_of rows)

-- ---- what is kept opens again

-- the settings of a project that has profiles and networks of its own, and these besides
abbrev pub own_profiles : Settings → Settings
own_profiles config = (codes "features.networks", codes "true") ∷ (codes "features.profiles", codes "true") ∷ config

-- rows of all kinds
abbrev pub of_all_kinds : List Row
of_all_kinds =
    row.Project default_project
    ∷ project lab (own_profiles [])
    ∷ profile default default [] root_disk
    ∷ profile lab default [] []
    ∷ network default (codes "br0")
    ∷ pool (codes "p0")
    ∷ volume default (codes "v")
    ∷ instance Container default a (default ∷ []) []
    ∷ snapshot default a (codes "snap0")
    ∷ []

-- the records of a state open to that state, and no entries to a new server
pub record OpensAgain : Type 0 where
  pub again : opening_of (records_of (with_rows of_all_kinds)) ≡ opened (with_rows of_all_kinds)
  pub new : opening_of [] ≡ opened (with_rows first_rows)

-- ---- damaged entries

-- the first rows' entries, the second with a byte after its end
abbrev pub with_a_byte_more : List Entry
with_a_byte_more =
    entry_of (row.Project default_project) ∷ longer (entry_of (row.Profile (default_profile default))) ∷ [] where
      longer : Entry → Entry
      longer entry = record entry { body = entry.body ++ 0 ∷ [] }

-- an entry that spells no row is told by its kind and key
abbrev pub DamageIsTold : Type 0
DamageIsTold = opening_of with_a_byte_more ≡ damaged 2 (codes "default/default")

-- ---- one rule after the other

-- the first rows, and the project `lab` with these settings, and with these in its profile `default`
abbrev pub lab_rows : Settings → Settings → NamedDevices → List Row
lab_rows config of_profile devices =
    row.Project default_project
    ∷ project lab (own_profiles config)
    ∷ row.Profile (default_profile default)
    ∷ profile lab default of_profile devices
    ∷ []

-- the first rows, with these devices in the profile
abbrev pub with_devices : NamedDevices → List Row
with_devices devices = row.Project default_project ∷ profile default default [] devices ∷ []

-- names and defaults
pub record OpensByNames : Type 0 where
  pub n1_default : opens (project lab [] ∷ []) ≡ broken rule.N1 1 default
  pub n1 : opens (first_rows ++ profile lab a [] [] ∷ []) ≡ broken rule.N1 2 (codes "lab/a")
  pub n1_home : opens (row.Project default_project ∷ project lab [] ∷ row.Profile (default_profile default)
      ∷ network lab (codes "br0") ∷ []) ≡ broken rule.N1 3 (codes "lab/br0")
  pub n2 : opens (first_rows ++ volume default (codes "v") ∷ []) ≡ broken rule.N2 5 (codes "default/p0/v")
  pub n2_snapshot : opens (first_rows ++ snapshot default a b ∷ []) ≡ broken rule.N2 7 (codes "default/a/b")
  pub n3 : opens (first_rows ++ instance Container default a (default ∷ default ∷ []) [] ∷ [])
      ≡ broken rule.N3 6 (codes "default/a")
  pub b3 : opens (row.Project default_project ∷ project lab (own_profiles []) ∷ row.Profile (default_profile default)
      ∷ []) ≡ broken rule.B3 1 lab
  pub b3_default : opens (project default (own_profiles []) ∷ row.Profile (default_profile default) ∷ [])
      ≡ broken rule.B3 1 default

-- settings and devices
pub record OpensBySettings : Type 0 where
  pub v1 : opens (lab_rows (setting_of (codes "none") (codes "x")) [] []) ≡ broken rule.V1 1 lab
  pub v2 : opens (lab_rows (setting_of (codes "limits.instances") (codes "x")) [] []) ≡ broken rule.V2 1 lab
  pub v3 : opens (with_devices ((codes "root", (codes "path", codes "/") ∷ []) ∷ []))
      ≡ broken rule.V3 2 (codes "default/default")
  pub v4 : opens (first_rows ++ instance Container default a (default ∷ []) [] ∷ [])
      ≡ broken rule.V4 6 (codes "default/a")
  pub v5 : opens (with_devices root_disk) ≡ broken rule.V5 2 (codes "default/default")
  pub v5_profile : opens (with_devices root_disk ++ pool (codes "p0")
      ∷ instance Container default a (default ∷ b ∷ []) [] ∷ []) ≡ broken rule.V5 6 (codes "default/a")

-- the project `lab` is restricted, and besides says this
abbrev pub restricted_rows : Settings → Settings → NamedDevices → List Row
restricted_rows config of_profile devices = lab_rows ((codes "restricted", codes "true") ∷ config) of_profile devices

-- a nic on the network `br0`
abbrev pub on_br0 : NamedDevices
on_br0 = (codes "eth0", (codes "network", codes "br0") ∷ (codes "type", codes "nic") ∷ []) ∷ []

-- policy
pub record OpensByPolicy : Type 0 where
  pub f1 : opens (restricted_rows [] (setting_of (codes "security.nesting") (codes "true")) [])
      ≡ broken rule.F1 2 (codes "lab/default")
  pub f2 : opens (restricted_rows [] (setting_of (codes "security.privileged") (codes "true")) [])
      ≡ broken rule.F2 2 (codes "lab/default")
  pub f3 : opens (restricted_rows [] (setting_of (codes "raw.lxc") (codes "x")) [])
      ≡ broken rule.F3 2 (codes "lab/default")
  pub f4 : opens (restricted_rows [] (setting_of (codes "raw.qemu") (codes "x")) [])
      ≡ broken rule.F4 2 (codes "lab/default")
  pub f5 : opens (restricted_rows [] (setting_of (codes "security.syscalls.intercept.mknod") (codes "true")) [])
      ≡ broken rule.F5 2 (codes "lab/default")
  pub f6 : opens (restricted_rows [] [] ((codes "gpu0", (codes "type", codes "gpu") ∷ []) ∷ []))
      ≡ broken rule.F6 2 (codes "lab/default")
  pub f7 : opens (restricted_rows (setting_of (codes "restricted.networks.access") (codes "br1")) [] on_br0
      ++ network lab (codes "br0") ∷ []) ≡ broken rule.F7 2 (codes "lab/default")

-- an instance in `lab`, which has one limit, with a root disk of 1 GiB from its profile
abbrev pub limited : List ℕ → List ℕ → Kind → Settings → List Row
limited key limit kind config =
    lab_rows (setting_of key limit) [] root_disk ++ pool (codes "p0") ∷ instance kind lab a (default ∷ []) config ∷ []

-- limits: a sum without a number at the object, a limit that is exceeded at the project
pub record OpensByLimits : Type 0 where
  pub l0 : opens (limited (codes "limits.cpu") (codes "8") Container []) ≡ broken rule.L0 6 (codes "lab/a")
  pub l1 : opens (limited (codes "limits.instances") (codes "0") Container []) ≡ broken rule.L1 1 lab
  pub l2 : opens (limited (codes "limits.containers") (codes "0") Container []) ≡ broken rule.L2 1 lab
  pub l3 : opens (limited (codes "limits.virtual-machines") (codes "0") Machine []) ≡ broken rule.L3 1 lab
  pub l4 : opens (limited (codes "limits.cpu") (codes "1") Container (setting_of (codes "limits.cpu") (codes "2")))
      ≡ broken rule.L4 1 lab
  pub l5 : opens (limited (codes "limits.memory") (codes "1GiB") Container
      (setting_of (codes "limits.memory") (codes "2GiB"))) ≡ broken rule.L5 1 lab
  pub l6 : opens (limited (codes "limits.processes") (codes "1") Container
      (setting_of (codes "limits.processes") (codes "2"))) ≡ broken rule.L6 1 lab
  pub l7 : opens (limited (codes "limits.disk") (codes "1MiB") Container []) ≡ broken rule.L7 1 lab
  pub l8 : opens (lab_rows (setting_of (codes "limits.networks") (codes "0")) [] [] ++ network lab (codes "br0") ∷ [])
      ≡ broken rule.L8 1 lab
  pub l9 : opens (limited (codes "limits.disk.pool.p0") (codes "1MiB") Container []) ≡ broken rule.L9 1 lab
  pub l0_pool : opens
      (lab_rows (setting_of (codes "limits.disk.pool.p0") (codes "1GiB")) [] (root_on (codes "p0") [])
      ++ pool (codes "p0") ∷ instance Container lab a (default ∷ []) [] ∷ []) ≡ broken rule.L0 6 (codes "lab/a")

-- the digits
abbrev pub digits : List ℕ
digits = codes "0123456789"

-- seventy pools, in the order of their names
abbrev pub seventy_pools : List Row
seventy_pools = flat_map (λ first. map (λ second. pool (first ∷ second ∷ [])) digits) (codes "0123456")

-- a text twice, n times over
abbrev pub doubled : ℕ → List ℕ → List ℕ
doubled zero text = text
doubled (suc n) text = doubled n (text ++ text)

-- the first rows, with a description of 65,536 bytes in the profile
abbrev pub too_large_profile : List Row
too_large_profile =
    row.Project default_project ∷ row.Profile (record (default_profile default) { description = doubled 16 a }) ∷ []

-- the 65th pool is one too many, and a body of more than 65,536 bytes is too large
pub record OpensByTables : Type 0 where
  pub c1 : opens (first_rows ++ seventy_pools) ≡ broken rule.C1 4 (codes "64")
  pub c2 : opens too_large_profile ≡ broken rule.C2 2 (codes "default/default")

-- every example
pub record AreOpened : Type 0 where
  pub opens_again : OpensAgain
  pub damage_is_told : DamageIsTold
  pub opens_by_names : OpensByNames
  pub opens_by_settings : OpensBySettings
  pub opens_by_policy : OpensByPolicy
  pub opens_by_limits : OpensByLimits
  pub opens_by_tables : OpensByTables
