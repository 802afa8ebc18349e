-- Changes of rows at once keep the defaults.
use Rattle.std.proofs.Common.{List, refl}
use Rattle.records.specs.declared.rows.Row.TheVariants as row
use Rattle.records.specs.declared.commands.Command.{Command}
use Rattle.row_machine.specs.declared.changes.RowChange.{RowChange}
use Rattle.row_machine.specs.machine.State.{State}
use Rattle.row_machine.specs.machine.Rows.{default_name}
use Rattle.row_machine.specs.machine.Changes.{applied}
use Rattle.row_machine.specs.facts.Whole.{IsWhole, HasDefaults}
use Rattle.machine_laws.proofs.Cases.{AtOnce, IsJudged}
use Rattle.machine_laws.proofs.Cases.AtOnce.{makes_project, changes_project, renames_project, deletes_project, makes_profile, changes_profile, renames_profile, deletes_profile, makes_network, changes_network, renames_network, deletes_network, makes_pool, changes_pool, deletes_pool, makes_volume, changes_volume, renames_volume, deletes_volume, changes_instance}
use Rattle.machine_laws.proofs.DefaultsAside.{defaults-same}
use Rattle.machine_laws.proofs.DefaultsProjects.{profile-still, profiles-changed, profile-gone, made-defaults, deleted-defaults, renamed-defaults}
use Rattle.machine_laws.proofs.DefaultsSwitched.{changed-project}
use Rattle.machine_laws.proofs.DefaultsSettled.{first-settled, project-accepted}

pub changed-defaults : {s : State} {c : Command} {cs : List RowChange} → IsWhole s → AtOnce s cs → IsJudged s c cs
    → HasDefaults (applied s cs)
changed-defaults {s} h (makes_project r good fresh) judged = made-defaults s r h fresh
changed-defaults {s} h (changes_project old r found names protected) judged =
    changed-project s old r h found names (λ e. (protected e).1)
    (project-accepted _ r (first-settled _ (row.Project r) _ judged.settings))
changed-defaults {s} h (renames_project old to found differs empty good fresh) judged =
    renamed-defaults s old to h found differs fresh
changed-defaults {s} h (deletes_project old found differs empty) judged = deleted-defaults s old h found differs
changed-defaults {s} h (makes_profile r home free) judged =
    profiles-changed refl (λ project there. profile-still r s.profiles project default_name there) h.defaults
changed-defaults {s} h (changes_profile old r home found project name held) judged =
    profiles-changed refl (λ project there. profile-still r s.profiles project default_name there) h.defaults
changed-defaults {s} h (renames_profile old to home found differs used held free) judged =
    profiles-changed refl
    (λ project there. profile-still (record old { name = to }) _ project default_name (profile-gone old project h.names found differs there))
    h.defaults
changed-defaults {s} h (deletes_profile old home found differs used held) judged =
    profiles-changed refl (λ project there. profile-gone old project h.names found differs there) h.defaults
changed-defaults h (makes_network r home free) judged = defaults-same refl refl h.defaults
changed-defaults h (changes_network old r home found project name) judged = defaults-same refl refl h.defaults
changed-defaults h (renames_network old to home found used free) judged = defaults-same refl refl h.defaults
changed-defaults h (deletes_network old home found used) judged = defaults-same refl refl h.defaults
changed-defaults h (makes_pool home r free) judged = defaults-same refl refl h.defaults
changed-defaults h (changes_pool old r found name) judged = defaults-same refl refl h.defaults
changed-defaults h (deletes_pool home old found used) judged = defaults-same refl refl h.defaults
changed-defaults h (makes_volume r home there free early) judged = defaults-same refl refl h.defaults
changed-defaults h (changes_volume old r home found project pool name created) judged =
    defaults-same refl refl h.defaults
changed-defaults h (renames_volume old to home found used free) judged = defaults-same refl refl h.defaults
changed-defaults h (deletes_volume old home found used) judged = defaults-same refl refl h.defaults
changed-defaults h (changes_instance old i idle alike) judged = defaults-same refl refl h.defaults
