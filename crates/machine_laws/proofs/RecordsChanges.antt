-- A row put or removed, as a change of its entry.
use Rattle.std.proofs.Common.{◌≡◌, ℕ, ◌<◌, List, [], ◌∷◌, ◌++◌, refl, sym, ap, ◌∙◌, arith}
use Rattle.plain_lists.specs.Members.{Each}
use Rattle.plain_lists.proofs.Elements.{Each-append}
use Rattle.size_values.specs.declared.entry.Entry.{Entry}
use Rattle.size_values.specs.declared.kinds.ObjectKind.{ObjectKind}
use Rattle.size_values.specs.declared.kinds.ObjectKind.TheVariants as kind
use Rattle.record_keeper.specs.Entries.{put_entry, remove_entry, after_change, after_changes}
use Rattle.records.specs.declared.rows.Row.{Row}
use Rattle.records.specs.declared.rows.Row.TheVariants as row
use Rattle.row_codec.specs.Spelling.{entry_of}
use Rattle.row_machine.specs.declared.changes.RowChange.{RowChange}
use Rattle.row_machine.specs.declared.changes.RowChange.TheVariants as change
use Rattle.row_machine.specs.machine.State.{State}
use Rattle.row_machine.specs.opening.Records.{records_of}
use Rattle.row_machine.specs.machine.Changes.{with_row, without_row, changed}
use Rattle.row_machine.specs.facts.Whole.{AreNamed}
use Rattle.machine_laws.specs.Entries.{number_of, entry_change, entry_changes}
use Rattle.machine_laws.specs.Records.{RecordsFollow}
use Rattle.machine_laws.proofs.RecordsPlaces.{put-front, put-back, remove-front, remove-back, remove-none}
use Rattle.machine_laws.proofs.RecordsOrdered.{project_entry, profile_entry, network_entry, pool_entry, volume_entry, instance_entry, snapshot_entry, Sections, sections_of, all_of, records-are, up_to_profiles, up_to_networks, up_to_pools, up_to_volumes, up_to_instances, below_profiles, below_networks, below_pools, below_volumes, below_instances, AreOfKinds, of-kinds, below, above}
use Rattle.machine_laws.proofs.RecordsRows.{project-section, project-gone, profile-section, profile-gone, network-section, network-gone, pool-section, pool-gone, volume-section, volume-gone, instance-section, instance-gone, snapshot-section, snapshot-gone}

-- ---- among entries of other kinds

put-past : (e : Entry) (es new back : List Entry) → Each (λ x. e.kind < x.kind) back → put_entry e es ≡ new → put_entry e (es ++ back) ≡ new ++ back
put-past e es new back high is = put-back e es back high ∙ ap (λ z. z ++ back) is

put-after : (e : Entry) (front es new : List Entry) → Each (λ x. x.kind < e.kind) front → put_entry e es ≡ new → put_entry e (front ++ es) ≡ front ++ new
put-after e front es new low is = put-front e front es low ∙ ap (λ z. front ++ z) is

remove-past : (k : ℕ) (key : List ℕ) (es new back : List Entry) → Each (λ x. k < x.kind) back → remove_entry k key es ≡ new → remove_entry k key (es ++ back) ≡ new ++ back
remove-past k key es new back high is = remove-back k key es back high ∙ ap (λ z. z ++ back) is

remove-after : (k : ℕ) (key : List ℕ) (front es new : List Entry) → Each (λ x. x.kind < k) front → remove_entry k key es ≡ new → remove_entry k key (front ++ es) ≡ front ++ new
remove-after k key front es new low is = remove-front k key front es low ∙ ap (λ z. front ++ z) is

-- ---- in all the records

pub put-all : (r : Row) (s : State) → AreNamed s → AreNamed (with_row r s)
    → put_entry (entry_of r) (all_of (sections_of s)) ≡ all_of (sections_of (with_row r s))
put-all (row.Project r) s h after =
    put-past (project_entry r) (up_to_instances t) (up_to_instances new) t.snapshots (above 7 1 (omega arith) kinds.snapshots)
    (put-past (project_entry r) (up_to_volumes t) (up_to_volumes new) t.instances (above 6 1 (omega arith) kinds.instances)
    (put-past (project_entry r) (up_to_pools t) (up_to_pools new) t.volumes (above 5 1 (omega arith) kinds.volumes)
    (put-past (project_entry r) (up_to_networks t) (up_to_networks new) t.pools (above 4 1 (omega arith) kinds.pools)
    (put-past (project_entry r) (up_to_profiles t) (up_to_profiles new) t.networks (above 3 1 (omega arith) kinds.networks)
    (put-past (project_entry r) t.projects new.projects t.profiles (above 2 1 (omega arith) kinds.profiles)
    (project-section s r h after))))))
  where
    t : Sections
    t = sections_of s

    new : Sections
    new = sections_of (with_row (row.Project r) s)

    kinds : AreOfKinds t
    kinds = of-kinds s
put-all (row.Profile r) s h after =
    put-past (profile_entry r) (up_to_instances t) (up_to_instances new) t.snapshots (above 7 2 (omega arith) kinds.snapshots)
    (put-past (profile_entry r) (up_to_volumes t) (up_to_volumes new) t.instances (above 6 2 (omega arith) kinds.instances)
    (put-past (profile_entry r) (up_to_pools t) (up_to_pools new) t.volumes (above 5 2 (omega arith) kinds.volumes)
    (put-past (profile_entry r) (up_to_networks t) (up_to_networks new) t.pools (above 4 2 (omega arith) kinds.pools)
    (put-past (profile_entry r) (up_to_profiles t) (up_to_profiles new) t.networks (above 3 2 (omega arith) kinds.networks)
    (put-after (profile_entry r) t.projects t.profiles new.profiles (below 1 2 (omega arith) kinds.projects)
    (profile-section s r h after))))))
  where
    t : Sections
    t = sections_of s

    new : Sections
    new = sections_of (with_row (row.Profile r) s)

    kinds : AreOfKinds t
    kinds = of-kinds s
put-all (row.Network r) s h after =
    put-past (network_entry r) (up_to_instances t) (up_to_instances new) t.snapshots (above 7 3 (omega arith) kinds.snapshots)
    (put-past (network_entry r) (up_to_volumes t) (up_to_volumes new) t.instances (above 6 3 (omega arith) kinds.instances)
    (put-past (network_entry r) (up_to_pools t) (up_to_pools new) t.volumes (above 5 3 (omega arith) kinds.volumes)
    (put-past (network_entry r) (up_to_networks t) (up_to_networks new) t.pools (above 4 3 (omega arith) kinds.pools)
    (put-after (network_entry r) (up_to_profiles t) t.networks new.networks (below_profiles t 3 (omega arith) kinds)
    (network-section s r h after)))))
  where
    t : Sections
    t = sections_of s

    new : Sections
    new = sections_of (with_row (row.Network r) s)

    kinds : AreOfKinds t
    kinds = of-kinds s
put-all (row.Pool r) s h after =
    put-past (pool_entry r) (up_to_instances t) (up_to_instances new) t.snapshots (above 7 4 (omega arith) kinds.snapshots)
    (put-past (pool_entry r) (up_to_volumes t) (up_to_volumes new) t.instances (above 6 4 (omega arith) kinds.instances)
    (put-past (pool_entry r) (up_to_pools t) (up_to_pools new) t.volumes (above 5 4 (omega arith) kinds.volumes)
    (put-after (pool_entry r) (up_to_networks t) t.pools new.pools (below_networks t 4 (omega arith) kinds)
    (pool-section s r h after))))
  where
    t : Sections
    t = sections_of s

    new : Sections
    new = sections_of (with_row (row.Pool r) s)

    kinds : AreOfKinds t
    kinds = of-kinds s
put-all (row.Volume r) s h after =
    put-past (volume_entry r) (up_to_instances t) (up_to_instances new) t.snapshots (above 7 5 (omega arith) kinds.snapshots)
    (put-past (volume_entry r) (up_to_volumes t) (up_to_volumes new) t.instances (above 6 5 (omega arith) kinds.instances)
    (put-after (volume_entry r) (up_to_pools t) t.volumes new.volumes (below_pools t 5 (omega arith) kinds)
    (volume-section s r h after)))
  where
    t : Sections
    t = sections_of s

    new : Sections
    new = sections_of (with_row (row.Volume r) s)

    kinds : AreOfKinds t
    kinds = of-kinds s
put-all (row.Instance r) s h after =
    put-past (instance_entry r) (up_to_instances t) (up_to_instances new) t.snapshots (above 7 6 (omega arith) kinds.snapshots)
    (put-after (instance_entry r) (up_to_volumes t) t.instances new.instances (below_volumes t 6 (omega arith) kinds)
    (instance-section s r h after))
  where
    t : Sections
    t = sections_of s

    new : Sections
    new = sections_of (with_row (row.Instance r) s)

    kinds : AreOfKinds t
    kinds = of-kinds s
put-all (row.Snapshot r) s h after =
    put-after (snapshot_entry r) (up_to_instances t) t.snapshots new.snapshots (below_instances t 7 (omega arith) kinds)
    (snapshot-section s r h after)
  where
    t : Sections
    t = sections_of s

    new : Sections
    new = sections_of (with_row (row.Snapshot r) s)

    kinds : AreOfKinds t
    kinds = of-kinds s

pub remove-all : (of : ObjectKind) (key : List ℕ) (s : State) → AreNamed s → AreNamed (without_row of key s)
    → remove_entry (number_of of) key (all_of (sections_of s)) ≡ all_of (sections_of (without_row of key s))
remove-all kind.Project key s h after =
    remove-past 1 key (up_to_instances t) (up_to_instances new) t.snapshots (above 7 1 (omega arith) kinds.snapshots)
    (remove-past 1 key (up_to_volumes t) (up_to_volumes new) t.instances (above 6 1 (omega arith) kinds.instances)
    (remove-past 1 key (up_to_pools t) (up_to_pools new) t.volumes (above 5 1 (omega arith) kinds.volumes)
    (remove-past 1 key (up_to_networks t) (up_to_networks new) t.pools (above 4 1 (omega arith) kinds.pools)
    (remove-past 1 key (up_to_profiles t) (up_to_profiles new) t.networks (above 3 1 (omega arith) kinds.networks)
    (remove-past 1 key t.projects new.projects t.profiles (above 2 1 (omega arith) kinds.profiles)
    (project-gone s key h after))))))
  where
    t : Sections
    t = sections_of s

    new : Sections
    new = sections_of (without_row kind.Project key s)

    kinds : AreOfKinds t
    kinds = of-kinds s
remove-all kind.Profile key s h after =
    remove-past 2 key (up_to_instances t) (up_to_instances new) t.snapshots (above 7 2 (omega arith) kinds.snapshots)
    (remove-past 2 key (up_to_volumes t) (up_to_volumes new) t.instances (above 6 2 (omega arith) kinds.instances)
    (remove-past 2 key (up_to_pools t) (up_to_pools new) t.volumes (above 5 2 (omega arith) kinds.volumes)
    (remove-past 2 key (up_to_networks t) (up_to_networks new) t.pools (above 4 2 (omega arith) kinds.pools)
    (remove-past 2 key (up_to_profiles t) (up_to_profiles new) t.networks (above 3 2 (omega arith) kinds.networks)
    (remove-after 2 key t.projects t.profiles new.profiles (below 1 2 (omega arith) kinds.projects)
    (profile-gone s key h after))))))
  where
    t : Sections
    t = sections_of s

    new : Sections
    new = sections_of (without_row kind.Profile key s)

    kinds : AreOfKinds t
    kinds = of-kinds s
remove-all kind.Network key s h after =
    remove-past 3 key (up_to_instances t) (up_to_instances new) t.snapshots (above 7 3 (omega arith) kinds.snapshots)
    (remove-past 3 key (up_to_volumes t) (up_to_volumes new) t.instances (above 6 3 (omega arith) kinds.instances)
    (remove-past 3 key (up_to_pools t) (up_to_pools new) t.volumes (above 5 3 (omega arith) kinds.volumes)
    (remove-past 3 key (up_to_networks t) (up_to_networks new) t.pools (above 4 3 (omega arith) kinds.pools)
    (remove-after 3 key (up_to_profiles t) t.networks new.networks (below_profiles t 3 (omega arith) kinds)
    (network-gone s key h after)))))
  where
    t : Sections
    t = sections_of s

    new : Sections
    new = sections_of (without_row kind.Network key s)

    kinds : AreOfKinds t
    kinds = of-kinds s
remove-all kind.Pool key s h after =
    remove-past 4 key (up_to_instances t) (up_to_instances new) t.snapshots (above 7 4 (omega arith) kinds.snapshots)
    (remove-past 4 key (up_to_volumes t) (up_to_volumes new) t.instances (above 6 4 (omega arith) kinds.instances)
    (remove-past 4 key (up_to_pools t) (up_to_pools new) t.volumes (above 5 4 (omega arith) kinds.volumes)
    (remove-after 4 key (up_to_networks t) t.pools new.pools (below_networks t 4 (omega arith) kinds)
    (pool-gone s key h after))))
  where
    t : Sections
    t = sections_of s

    new : Sections
    new = sections_of (without_row kind.Pool key s)

    kinds : AreOfKinds t
    kinds = of-kinds s
remove-all kind.Volume key s h after =
    remove-past 5 key (up_to_instances t) (up_to_instances new) t.snapshots (above 7 5 (omega arith) kinds.snapshots)
    (remove-past 5 key (up_to_volumes t) (up_to_volumes new) t.instances (above 6 5 (omega arith) kinds.instances)
    (remove-after 5 key (up_to_pools t) t.volumes new.volumes (below_pools t 5 (omega arith) kinds)
    (volume-gone s key h after)))
  where
    t : Sections
    t = sections_of s

    new : Sections
    new = sections_of (without_row kind.Volume key s)

    kinds : AreOfKinds t
    kinds = of-kinds s
remove-all kind.Instance key s h after =
    remove-past 6 key (up_to_instances t) (up_to_instances new) t.snapshots (above 7 6 (omega arith) kinds.snapshots)
    (remove-after 6 key (up_to_volumes t) t.instances new.instances (below_volumes t 6 (omega arith) kinds)
    (instance-gone s key h after))
  where
    t : Sections
    t = sections_of s

    new : Sections
    new = sections_of (without_row kind.Instance key s)

    kinds : AreOfKinds t
    kinds = of-kinds s
remove-all kind.Snapshot key s h after =
    remove-after 7 key (up_to_instances t) t.snapshots new.snapshots (below_instances t 7 (omega arith) kinds)
    (snapshot-gone s key h after)
  where
    t : Sections
    t = sections_of s

    new : Sections
    new = sections_of (without_row kind.Snapshot key s)

    kinds : AreOfKinds t
    kinds = of-kinds s
remove-all kind.Operation key s h after =
    remove-back 0 key [] (all_of t) high ∙ ap (λ z. z ++ all_of t) (remove-none 0 key)
  where
    t : Sections
    t = sections_of s

    kinds : AreOfKinds t
    kinds = of-kinds s

    high : Each (λ x. 0 < x.kind) (all_of t)
    high =
        Each-append (Each-append (Each-append (Each-append (Each-append (Each-append
        (above 1 0 (omega arith) kinds.projects)
        (above 2 0 (omega arith) kinds.profiles))
        (above 3 0 (omega arith) kinds.networks))
        (above 4 0 (omega arith) kinds.pools))
        (above 5 0 (omega arith) kinds.volumes))
        (above 6 0 (omega arith) kinds.instances))
        (above 7 0 (omega arith) kinds.snapshots)

-- ---- one change, and several

pub change-follows : (s : State) (c : RowChange) → AreNamed s → AreNamed (changed s c) → after_change (entry_change c) (records_of s) ≡ records_of (changed s c)
change-follows s (change.Put r) h after = ap (put_entry (entry_of r)) (records-are s) ∙ put-all r s h after ∙ sym (records-are (with_row r s))
change-follows s (change.Remove of key) h after = ap (remove_entry (number_of of) key) (records-are s) ∙ remove-all of key s h after ∙ sym (records-are (without_row of key s))

pub records-after : RecordsFollow
records-after s [] h stays = refl
records-after s (c ∷ cs) h stays =
    ap (after_changes (entry_changes cs)) (change-follows s c h stays.0) ∙ records-after (changed s c) cs stays.0 stays.1
