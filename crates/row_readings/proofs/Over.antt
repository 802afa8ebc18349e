-- What an instance counts for over what its profiles lay.
use Rattle.std.proofs.Common.{◌≡◌, ℕ, Bool, true, false, cond, Option, Some, None, List, map, length, codes, unwrap_or, refl, sym, ap, ap₂, ◌∙◌}
use Rattle.std.specs.Prelude.{is_some}
use Rattle.std.specs.Option.{option_and_then, option_or}
use Rattle.std.specs.Str.{bytes_eq}
use Rattle.std.proofs.lemmas.List.{nil_from_length}
use Rattle.std.proofs.lemmas.Slice.Eq.{bytes_eq-Decides}
use Rattle.config_lists.specs.Devices.{NamedDevices}
use Rattle.config_lists.specs.Entries.{replaced, KeysRise}
use Rattle.config_lists.specs.Settings.{Settings, setting}
use Rattle.config_lists.proofs.Lookups.{value_of-replaced}
use Rattle.expansion.specs.Layers.{laid}
use Rattle.expansion.specs.declared.expanded.Expanded.{Expanded}
use Rattle.project_limits.specs.Instance.{cpu_in, memory_in, processes_in, instance_amounts}
use Rattle.project_limits.specs.Limits.{count_in}
use Rattle.records.specs.declared.rows.Instance.{Instance}
use Rattle.records.specs.declared.rows.Profile.{Profile}
use Rattle.records.specs.declared.rows.Project.{Project}
use Rattle.row_machine.specs.machine.Claims.{amounts_of_instance}
use Rattle.row_machine.specs.machine.Expansions.{layer_of, own_layer, expanded_of}
use Rattle.row_machine.specs.machine.Homes.{home_of}
use Rattle.row_machine.specs.machine.Rows.{profile_named}
use Rattle.row_machine.specs.machine.State.{State}
use Rattle.row_readings.proofs.Layered.{expanded-push, profiles_of-same}
use Rattle.size_values.specs.Amounts.{part}
use Rattle.size_values.specs.declared.amounts.Amounts.{Amounts}
use Rattle.size_values.specs.declared.amounts.Part.{Part}
use Rattle.size_values.specs.declared.kinds.Kind.{Kind}
use Rattle.size_values.specs.declared.kinds.Kind.TheVariants.{Container, Machine}
use Rattle.size_values.specs.declared.kinds.ObjectKind.TheVariants as kind
use Rattle.row_readings.specs.Counted.{instance_part}
use Rattle.row_readings.specs.Layered.{profiles_of, amounts_over}

-- ---- nothing laid over

pub replaced-by_none : {V : Type 0} (old by : List (List ℕ × V)) → length by ≡ 0 → replaced old by ≡ old
unfolding replaced
replaced-by_none old by none = ap (replaced old) (nil_from_length by none)

pub own-devices_none : (below : Expanded) (row : Instance) → length row.devices ≡ 0
    → instance_amounts row.kind (replaced below.config row.config) below.devices ≡ amounts_over below row
unfolding laid
own-devices_none below row none = ap (instance_amounts row.kind (replaced below.config row.config)) (sym (replaced-by_none below.devices row.devices none))

-- ---- settings over others, number by number

-- a number that is read off a setting, which is one's own or else that below
read-over : (read : List ℕ → Option ℕ) (config own : Settings) (key : List ℕ) → KeysRise own
    → cond (is_some (setting own key)) (unwrap_or (option_and_then read (setting own key)) 0) (unwrap_or (option_and_then read (setting config key)) 0)
    ≡ unwrap_or (option_and_then read (setting (replaced config own) key)) 0
read-over read config own key rising =
    at (setting own key) (setting config key) ∙ ap (λ o. unwrap_or (option_and_then read o) 0) (sym (value_of-replaced config own key rising)) where
      at : (o below : Option (List ℕ))
          → cond (is_some o) (unwrap_or (option_and_then read o) 0) (unwrap_or (option_and_then read below) 0) ≡ unwrap_or (option_and_then read (option_or o below)) 0
      at None below = refl
      at (Some text) below = refl

-- one's own number if one has the setting, and else the one below
abbrev pub own_or : Settings → List ℕ → ℕ → ℕ → ℕ
own_or own key first second = cond (is_some (setting own key)) first second

cpu-over : (config own : Settings) → KeysRise own → own_or own (codes "limits.cpu") (unwrap_or (cpu_in own) 0) (unwrap_or (cpu_in config) 0) ≡ unwrap_or (cpu_in (replaced config own)) 0
unfolding cpu_in
cpu-over config own rising = read-over _ config own (codes "limits.cpu") rising

memory-over : (config own : Settings) → KeysRise own → own_or own (codes "limits.memory") (unwrap_or (memory_in own) 0) (unwrap_or (memory_in config) 0) ≡ unwrap_or (memory_in (replaced config own)) 0
unfolding memory_in
memory-over config own rising = read-over _ config own (codes "limits.memory") rising

same-either : (t : Bool) (n : ℕ) → cond t n n ≡ n
same-either true n = refl
same-either false n = refl

processes-over : (kind : Kind) (config own : Settings) → KeysRise own
    → own_or own (codes "limits.processes") (unwrap_or (processes_in kind own) 0) (unwrap_or (processes_in kind config) 0) ≡ unwrap_or (processes_in kind (replaced config own)) 0
unfolding count_in
processes-over Container config own rising = read-over _ config own (codes "limits.processes") rising
processes-over Machine config own rising = same-either (is_some (setting own (codes "limits.processes"))) 0

pub amounts-over : (kind : Kind) (config own : Settings) (devices : NamedDevices) → KeysRise own
    → record (instance_amounts kind config devices) {
      cpu = own_or own (codes "limits.cpu") (instance_amounts kind own devices).cpu (instance_amounts kind config devices).cpu;
      memory = own_or own (codes "limits.memory") (instance_amounts kind own devices).memory (instance_amounts kind config devices).memory;
      processes = own_or own (codes "limits.processes") (instance_amounts kind own devices).processes (instance_amounts kind config devices).processes;
    }
    ≡ instance_amounts kind (replaced config own) devices
unfolding instance_amounts
amounts-over kind config own devices rising = λ i. record (instance_amounts kind config devices) {
  cpu = cpu-over config own rising i;
  memory = memory-over config own rising i;
  processes = processes-over kind config own rising i;
}

-- the same of what was computed of either
pub amounts-laid : (kind : Kind) (config own : Settings) (devices : NamedDevices) (below mine : Amounts) (cpu memory processes : ℕ) → KeysRise own
    → below ≡ instance_amounts kind config devices → mine ≡ instance_amounts kind own devices
    → cpu ≡ own_or own (codes "limits.cpu") mine.cpu below.cpu
    → memory ≡ own_or own (codes "limits.memory") mine.memory below.memory
    → processes ≡ own_or own (codes "limits.processes") mine.processes below.processes
    → record below { cpu = cpu; memory = memory; processes = processes } ≡ instance_amounts kind (replaced config own) devices
amounts-laid kind config own devices below mine cpu memory processes rising below_is mine_is cpu_is memory_is processes_is =
    let cpus = cpu_is ∙ ap₂ (own_or own (codes "limits.cpu")) (ap (λ (a : Amounts). a.cpu) mine_is) (ap (λ (a : Amounts). a.cpu) below_is) in
    let memories = memory_is ∙ ap₂ (own_or own (codes "limits.memory")) (ap (λ (a : Amounts). a.memory) mine_is) (ap (λ (a : Amounts). a.memory) below_is) in
    let counts = processes_is ∙ ap₂ (own_or own (codes "limits.processes")) (ap (λ (a : Amounts). a.processes) mine_is) (ap (λ (a : Amounts). a.processes) below_is) in
    (λ i. record (below_is i) { cpu = cpus i; memory = memories i; processes = counts i }) ∙ amounts-over kind config own devices rising

-- ---- an instance of the project

pub counted : (s : State) (project : List ℕ) (k : Part) (row : Instance) → bytes_eq row.project project ≡ true
    → part k (amounts_over (profiles_of s.profiles (home_of s.projects project kind.Profile) row.profiles) row) ≡ instance_part s project k row
unfolding amounts_of_instance expanded_of
counted s project k row here =
    let home = (bytes_eq-Decides row.project project).0 here in
    ap (λ name. part k (amounts_over (profiles_of s.profiles (home_of s.projects name kind.Profile) row.profiles) row)) (sym home)
    ∙ ap (λ (e : Expanded). part k (instance_amounts row.kind e.config e.devices))
    (sym (expanded-push (map (λ name. layer_of (profile_named s.profiles (home_of s.projects row.project kind.Profile) name)) row.profiles) (own_layer row)))
    ∙ ap (λ t. cond t (part k (amounts_of_instance s row)) 0) (sym here)

-- the same over what the profiles lay, as it was computed
pub counted-over : (s : State) (project : List ℕ) (k : Part) (row : Instance) (projects : List Project) (profiles : List Profile) (home : List ℕ) (names : List (List ℕ)) (below : Expanded) (more : Amounts)
    → bytes_eq row.project project ≡ true → projects ≡ s.projects → profiles ≡ s.profiles
    → home ≡ home_of projects project kind.Profile → names ≡ row.profiles
    → below ≡ profiles_of profiles home names → more ≡ amounts_over below row → part k more ≡ instance_part s project k row
counted-over s project k row projects profiles home names below more here projects_are profiles_are home_is names_are below_is more_is =
    let at_home = home_is ∙ ap (λ rows. home_of rows project kind.Profile) projects_are in
    ap (part k) more_is
    ∙ ap (λ e. part k (amounts_over e row)) (below_is ∙ profiles_of-same profiles _ home _ names _ profiles_are at_home names_are)
    ∙ counted s project k row here
