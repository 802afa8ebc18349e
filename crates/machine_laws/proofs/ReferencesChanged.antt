-- Changes of rows at once keep the references.
use Rattle.std.proofs.Common.{List, [], refl, ap, ◌∙◌}
use Rattle.std.specs.Option.{is_some}
use Rattle.plain_lists.proofs.Searches.{find-some}
use Rattle.records.specs.declared.rows.Row.TheVariants as row
use Rattle.records.specs.declared.commands.Command.{Command}
use Rattle.row_machine.specs.declared.changes.RowChange.{RowChange}
use Rattle.row_machine.specs.machine.State.{State}
use Rattle.row_machine.specs.machine.Rows.{is_volume, pool_named}
use Rattle.row_machine.specs.machine.Changes.{applied}
use Rattle.row_machine.specs.facts.Whole.{IsWhole, ReferencesExist}
use Rattle.machine_laws.proofs.Cases.{AtOnce, IsJudged}
use Rattle.machine_laws.proofs.Cases.AtOnce.{makes_project, changes_project, renames_project, deletes_project, makes_profile, changes_profile, renames_profile, deletes_profile, makes_network, changes_network, renames_network, deletes_network, makes_pool, changes_pool, deletes_pool, makes_volume, changes_volume, renames_volume, deletes_volume, changes_instance}
use Rattle.machine_laws.proofs.DefaultsSettled.{first-settled}
use Rattle.machine_laws.proofs.ReferencesProjects.{project-made_references, project-moved_references, project-removed_references}
use Rattle.machine_laws.proofs.ReferencesFeatures.{project-changed_references}
use Rattle.machine_laws.proofs.ReferencesProfiles.{profile-home, profile-put_references, profile-moved_references, profile-removed_references}
use Rattle.machine_laws.proofs.ReferencesNetworks.{network-put_references, network-moved_references, network-removed_references}
use Rattle.machine_laws.proofs.ReferencesPools.{pool-put_references, pool-removed_references}
use Rattle.machine_laws.proofs.ReferencesVolumes.{volume-home, volume-put_references, volume-moved_references, volume-removed_references}
use Rattle.machine_laws.proofs.ReferencesGuests.{instance-patched_references}

pub changed-references : {s : State} {c : Command} {cs : List RowChange} → IsWhole s → AtOnce s cs → IsJudged s c cs
    → ReferencesExist (applied s cs)
changed-references {s} h (makes_project r good fresh) judged = project-made_references s r h fresh
changed-references {s} h (changes_project old r found name free) judged =
    project-changed_references s old r h found name free judged.settings
changed-references {s} h (renames_project old to found differs empty good fresh) judged =
    project-moved_references s old to h found differs empty fresh judged.settings
changed-references {s} h (deletes_project old found differs empty) judged =
    project-removed_references s old h found differs empty
changed-references {s} h (makes_profile r home free) judged =
    profile-put_references s r h (profile-home s r r.project home refl)
    (first-settled _ (row.Profile r) [] judged.settings)
changed-references {s} h (changes_profile old r home found project name held) judged =
    profile-put_references s r h (profile-home s r old.project home project)
    (first-settled _ (row.Profile r) [] judged.settings)
changed-references {s} h (renames_profile old to home found differs used held free) judged =
    profile-moved_references s old to h home found used held
    (first-settled _ (row.Profile (record old { name = to })) [] judged.settings)
changed-references {s} h (deletes_profile old home found differs used held) judged =
    profile-removed_references s old h found used held
changed-references {s} h (makes_network r home free) judged = network-put_references s r r.project h home refl
changed-references {s} h (changes_network old r home found project name) judged =
    network-put_references s r old.project h home project
changed-references {s} h (renames_network old to home found used free) judged =
    network-moved_references s old to h home found used
changed-references {s} h (deletes_network old home found used) judged = network-removed_references s old h found used
changed-references {s} h (makes_pool home r free) judged = pool-put_references s r h
changed-references {s} h (changes_pool old r found name) judged = pool-put_references s r h
changed-references {s} h (deletes_pool home old found used) judged = pool-removed_references s home old h found used
changed-references {s} h (makes_volume r home there free early) judged =
    volume-put_references s r h.references h.operations.deeds (volume-home s r r.project home refl) there
changed-references {s} h (changes_volume old r home found project pool name created) judged =
    volume-put_references s r h.references h.operations.deeds (volume-home s r old.project home project)
    (ap (λ p. is_some (pool_named s.pools p)) pool ∙ h.references.volumes.at old (find-some (is_volume old.project old.pool old.name) s.volumes old found).0)
changed-references {s} h (renames_volume old to home found used free) judged =
    volume-moved_references s old to h home found used
changed-references {s} h (deletes_volume old home found used) judged = volume-removed_references s old h found used
changed-references {s} h (changes_instance old i idle alike) judged =
    instance-patched_references s old i h idle alike (first-settled _ (row.Instance i) [] judged.settings)
