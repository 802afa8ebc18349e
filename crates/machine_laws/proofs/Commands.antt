-- Commands by their parts: their forms, and the plans that they have not.
use Rattle.std.proofs.Common.{◌≡◌, ℕ, true, ◌&&◌, Option, Some, None, List, [], sym, ap, subst, ◌∙◌}
use Rattle.std.specs.Prelude.{unwrap_or}
use Rattle.std.specs.Option.{option_map_or, is_some}
use Rattle.plain_lists.proofs.Elements.{Mem-left}
use Rattle.plain_lists.proofs.Searches.{find-some}
use Rattle.records.specs.Forms.{is_empty, are_profiles, has_forms, is_creation, is_change, are_settings, are_devices, has_only, may_come_from, has_needed, created_fields, changed_fields, is_none_origin}
use Rattle.size_values.specs.declared.kinds.ObjectKind.{ObjectKind}
use Rattle.records.specs.declared.commands.Body.{Body}
use Rattle.records.specs.declared.commands.Command.{Command}
use Rattle.records.specs.declared.commands.What.{What}
use Rattle.records.specs.declared.commands.Target.{Target}
use Rattle.records.specs.declared.rows.Instance.{Instance}
use Rattle.row_codec.proofs.Fields.{both_true}
use Rattle.row_machine.specs.declared.changes.RowChange.{RowChange}
use Rattle.row_machine.specs.machine.Task.{Task}
use Rattle.row_machine.specs.machine.State.{State}
use Rattle.row_machine.specs.machine.Rows.{is_instance, instance_named, project_named}
use Rattle.row_machine.specs.machine.Claims.{judged_instances, of_live, claimed_instance}
use Rattle.row_machine.specs.machine.Plans.{Plan, nothing, changes, starts}
use Rattle.row_machine.specs.machine.Holders.{busy_with}
use Rattle.row_machine.specs.facts.Whole.{IsWhole}
use Rattle.machine_laws.proofs.Cases.{IsAccepted, IsIdle}
use Rattle.machine_laws.proofs.Found.{instance-found, instance-itself}
use Rattle.machine_laws.proofs.Judged.{groups}
use Rattle.machine_laws.proofs.Told.{AreNamesRight, IsWayFree, names-right, way-free, empty-is}

-- the command of a request in a project
abbrev pub command_of : List ℕ → Option (List ℕ) → What → Command
command_of project expects w = record { project = project; what = w; expects = expects }

-- an object, by its parts
abbrev pub target : ObjectKind → List ℕ → List ℕ → List ℕ → Target
target k pool instance name = record { kind = k; pool = pool; instance = instance; name = name }

-- ---- plans

pub changes-are : {cs ds : List RowChange} → changes cs ≡ changes ds → cs ≡ ds
changes-are e = cc

pub starts-are : {a b : Task} → starts a ≡ starts b → a ≡ b
starts-are e = cc

pub never_nothing : {cs : List RowChange} {X : Type 0} → nothing ≡ changes cs → X
never_nothing e = cc

pub never_starts : {task : Task} {cs : List RowChange} {X : Type 0} → starts task ≡ changes cs → X
never_starts e = cc

pub nothing_begins : {task : Task} {X : Type 0} → nothing ≡ starts task → X
nothing_begins e = cc

pub never_changes : {task : Task} {cs : List RowChange} {X : Type 0} → changes cs ≡ starts task → X
never_changes e = cc

-- ---- rules

pub accepted-names : {s : State} {c : Command} {moment : ℕ} {p : Plan} → IsAccepted s c moment p → AreNamesRight s c
accepted-names {s} {c} {moment} {p} h = names-right s c (groups s c moment p h.unbroken h.plan).0

pub accepted-way : {s : State} {c : Command} {moment : ℕ} {p : Plan} → IsAccepted s c moment p → IsWayFree s c
accepted-way {s} {c} {moment} {p} h = way-free s c (groups s c moment p h.unbroken h.plan).1.0

-- ---- forms

-- both parts are empty
pub no-parts : (pool instance : List ℕ) → (is_empty pool && is_empty instance) ≡ true → (pool ≡ []) × (instance ≡ [])
no-parts pool instance e = let parts = both_true (is_empty pool) (is_empty instance) e in (empty-is pool parts.0, empty-is instance parts.1)

-- the profiles of a body that has the forms
pub forms-profiles : (body : Body) → has_forms body ≡ true → option_map_or are_profiles body.profiles true ≡ true
forms-profiles body e = (both_true (option_map_or are_settings body.config true && option_map_or are_devices body.devices true) _ e).1

pub creation-profiles : (k : ObjectKind) (body : Body) → is_creation k body ≡ true → option_map_or are_profiles body.profiles true ≡ true
creation-profiles k body e =
    let fields = has_only (created_fields k body.origin) body in
    let needed = both_true (fields && has_forms body && may_come_from k body.origin) (has_needed k body) e in
    let origin = both_true (fields && has_forms body) (may_come_from k body.origin) needed.0 in
    forms-profiles body (both_true fields (has_forms body) origin.0).1

pub change-profiles : (k : ObjectKind) (body : Body) → is_change k body ≡ true → option_map_or are_profiles body.profiles true ≡ true
change-profiles k body e =
    let fields = has_only (changed_fields k) body in
    let origin = both_true (fields && has_forms body) (is_none_origin body.origin) e in
    forms-profiles body (both_true fields (has_forms body) origin.0).1

-- a list of profiles that a body gives, or that there was
pub profiles-or : (given : Option (List (List ℕ))) (old : List (List ℕ)) → option_map_or are_profiles given true ≡ true → are_profiles old ≡ true
    → are_profiles (unwrap_or given old) ≡ true
profiles-or None old e h = h
profiles-or (Some ps) old e h = e

-- ---- instances

-- the profiles of an instance that is there
pub few-profiles : (s : State) (project name : List ℕ) (i : Instance) → IsWhole s → instance_named s.instances project name ≡ Some i → are_profiles i.profiles ≡ true
unfolding judged_instances
few-profiles s project name i h e =
    (h.references.instances.at i (Mem-left i s.instances (of_live claimed_instance s) (find-some (is_instance project name) s.instances i e).0)).few

-- an instance that was found, and is not busy
pub idle-found : (s : State) (project name : List ℕ) (i : Instance) → instance_named s.instances project name ≡ Some i
    → is_some (project_named s.projects project) ≡ true → busy_with s project name ≡ None → IsIdle s i
idle-found s project name i e there idle =
    let names = instance-found s.instances project name i e in
    record {
      project = subst (λ p. is_some (project_named s.projects p) ≡ true) (sym names.0) there;
      there = instance-itself s.instances project name i e;
      idle = ap (λ p. busy_with s p i.name) names.0 ∙ ap (busy_with s project) names.1 ∙ idle;
    }
