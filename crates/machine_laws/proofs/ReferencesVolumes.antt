-- Changes of volumes keep the references.
use Rattle.std.proofs.Common.{◌≡◌, ◌≢◌, ℕ, true, false, Some, None, List, [], ◌∷◌, refl, sym, ap, subst, ◌∙◌, true≢false}
use Rattle.std.specs.Option.{option_map_or, is_some}
use Rattle.std.specs.Str.{bytes_eq}
use Rattle.std.proofs.lemmas.Bool.{and_from}
use Rattle.plain_lists.specs.Members.{Mem, Each}
use Rattle.plain_lists.specs.Edits.{dropped}
use Rattle.plain_lists.proofs.Elements.{Each-map}
use Rattle.plain_lists.proofs.Searches.{find-some}
use Rattle.plain_lists.proofs.EditLemmas.{Each-dropped}
use Rattle.config_lists.proofs.Keys.{bytes_eq-itself}
use Rattle.config_lists.specs.Devices.{NamedDevices}
use Rattle.estate_rules.specs.Uses.{names_volume}
use Rattle.size_values.specs.declared.kinds.Deed.{Deed}
use Rattle.size_values.specs.declared.kinds.Deed.TheVariants as deed
use Rattle.size_values.specs.declared.kinds.ObjectKind.TheVariants as kind
use Rattle.operations.specs.declared.operation.Operation.{Operation}
use Rattle.records.specs.declared.rows.Volume.{Volume}
use Rattle.records.specs.declared.rows.Row.TheVariants as row
use Rattle.records.specs.declared.commands.Target.{Target}
use Rattle.row_codec.specs.Spelling.{key_of}
use Rattle.row_machine.specs.machine.Task.{Task}
use Rattle.row_machine.specs.machine.State.{State}
use Rattle.row_machine.specs.machine.Rows.{is_volume, volume_names, volume_named, pool_named, with_volume}
use Rattle.row_machine.specs.machine.Homes.{home_of}
use Rattle.row_machine.specs.machine.Expansions.{expanded_of}
use Rattle.row_machine.specs.machine.Claims.{judged_instances}
use Rattle.row_machine.specs.machine.Changes.{applied, has_key, removal}
use Rattle.row_machine.specs.shown.Urls.{target_of}
use Rattle.row_machine.specs.machine.Holders.{devices_name, source_uses, first_user_of}
use Rattle.row_machine.specs.machine.Plans.{moved_row}
use Rattle.row_machine.specs.opening.Opening.{home_missing}
use Rattle.row_machine.specs.facts.Whole.{IsWhole, ReferencesExist, IsPlaced, IsByDeed}
use Rattle.row_machine.specs.machine.Deeds.{has_source, claim_kind}
use Rattle.machine_laws.proofs.Cases.{IsHome}
use Rattle.machine_laws.proofs.NamesRows.{each-row}
use Rattle.machine_laws.proofs.ReferencesClaims.{volume-claimed}
use Rattle.machine_laws.proofs.ReferencesHomes.{at-home, home-at}
use Rattle.machine_laws.proofs.ReferencesDevices.{volume_there}
use Rattle.machine_laws.proofs.ReferencesRows.{volume-each, volume-still, volume-unremoved}
use Rattle.machine_laws.proofs.ReferencesStores.{stores-references, leaves-stores, is-home}
use Rattle.machine_laws.proofs.ReferencesUnused.{IsUnused, unused-volume, unused-claim}

-- ---- the copy of a volume

-- a deed that has a volume as its source claims a volume
source_deed : (d : Deed) (of : Target) → of.kind ≡ kind.Volume → has_source d (Some of) ≡ true
    → claim_kind d ≡ Some kind.Volume
source_deed d of is = at d where
  at : (d : Deed) → has_source d (Some of) ≡ true → claim_kind d ≡ Some kind.Volume
  at deed.CopyVolume e = refl
  at deed.Copy e = let not_instance : has_source deed.Copy (Some (record of { kind = kind.Volume })) ≡ true =
      subst (λ k. has_source deed.Copy (Some (record of { kind = k })) ≡ true) is e in cc
  at deed.Create e = cc
  at deed.Update e = cc
  at deed.Restore e = cc
  at deed.Rename e = cc
  at deed.Delete e = cc
  at (deed.Act does ephemeral) e = cc
  at deed.Snap e = cc
  at deed.Unsnap e = cc

-- the copy of a volume claims a volume of its project, which is its own home
copy_claim : (s : State) (task : Task) (of : Target) → IsByDeed task → IsPlaced s task → task.source ≡ Some of
    → of.kind ≡ kind.Volume
    → (v : Volume) × ((task.claim ≡ Some (row.Volume v)) × (home_of s.projects task.project kind.Volume ≡ task.project))
copy_claim s task of by placed is same =
    let claimed = volume-claimed task.claim (by.kind ∙ source_deed task.deed of same (ap (has_source task.deed) (sym is) ∙ by.source)) in
    let project = placed.claim_project (row.Volume claimed.0) claimed.1 in
    let own = (home-at s.projects claimed.0.project kind.Volume (placed.claim_home (row.Volume claimed.0) claimed.1)).own in
    (claimed.0, (claimed.1, ap (λ p. home_of s.projects p kind.Volume) (sym project) ∙ own ∙ project))

-- ---- other volumes

-- the volumes are others, each in its pool, and what is named is there
record AreEnough (s : State) (vs : List Volume) : Type 0 where
  homes : Each (λ v. home_missing s (row.Volume v) ≡ None) vs
  pools : Each (λ v. is_some (pool_named s.pools v.pool) ≡ true) vs
  profiles : Each (λ r. (pool name : List ℕ) → names_volume r.devices pool name ≡ true → volume_there s r.project pool name
      → volume_there (record s { volumes = vs }) r.project pool name) s.profiles
  instances : Each (λ i. (pool name : List ℕ) → names_volume (expanded_of s.projects s.profiles i).devices pool name ≡ true → volume_there s i.project pool name
      → volume_there (record s { volumes = vs }) i.project pool name) (judged_instances s)
  sources : Each (λ o. (of : Target) → o.work.source ≡ Some of → of.kind ≡ kind.Volume → volume_there s o.work.project of.pool of.name
      → volume_there (record s { volumes = vs }) o.work.project of.pool of.name) s.operations.live

serving : (s : State) (vs : List Volume) → ReferencesExist s → Each (λ o. IsByDeed o.work) s.operations.live
    → AreEnough s vs → ReferencesExist (record s { volumes = vs })
serving s vs h deeds enough = stores-references s s.networks s.pools vs h deeds (record {
  networks = (each-row s h.homes).networks;
  volumes = enough.homes;
  pools = enough.pools;
  profiles =
      Each-map
      (λ r stays. record { networks = λ name names there. there; pools = λ name names there. there; volumes = stays })
      enough.profiles;
  instances =
      Each-map
      (λ i stays. record { networks = λ name names there. there; pools = λ name names there. there; volumes = stays })
      enough.instances;
  operations =
      Each-map (λ o stays. leaves-stores s s.networks s.pools vs o.work stays (λ v is there. there)) enough.sources;
})

-- where each but one stays, which nothing names
fewer : (s : State) (old : Volume) (vs : List Volume) → IsWhole s
    → first_user_of s old.project (target_of (row.Volume old)) ≡ None
    → Each (λ v. home_missing s (row.Volume v) ≡ None) vs → Each (λ v. is_some (pool_named s.pools v.pool) ≡ true) vs
    → ((home pool name : List ℕ) → volume_names old ≢ home ∷ pool ∷ name ∷ [] → is_some (volume_named s.volumes home pool name) ≡ true
    → is_some (volume_named vs home pool name) ≡ true)
    → ReferencesExist (record s { volumes = vs })
fewer s old vs h used homes pools stay = serving s vs h.references h.operations.deeds (record {
  homes = homes;
  pools = pools;
  profiles = record {
    at = λ r m pool name names there.
        stay (home_of s.projects r.project kind.Volume) pool name
        (other r.project r.devices (unused.profiles.at r m) pool name names) there;
  };
  instances = record {
    at = λ i m pool name names there.
        stay (home_of s.projects i.project kind.Volume) pool name
        (other i.project (expanded_of s.projects s.profiles i).devices (unused.instances.at i m) pool name names)
        there;
  };
  sources = record { at = λ o m of is same there. stay (home_of s.projects o.work.project kind.Volume) of.pool of.name (source o m of is same) there };
}) where
  unused : IsUnused s old.project (target_of (row.Volume old))
  unused = unused-volume s old h.references used

  other : (project : List ℕ) (devices : NamedDevices)
      → devices_name s old.project (target_of (row.Volume old)) project devices ≡ false
      → (pool name : List ℕ) → names_volume devices pool name ≡ true
      → volume_names old ≢ home_of s.projects project kind.Volume ∷ pool ∷ name ∷ []
  other project devices none pool name names e =
      let home : old.project ≡ home_of s.projects project kind.Volume = cc in
      let same_pool : old.pool ≡ pool = cc in
      let same_name : old.name ≡ name = cc in
      let at : bytes_eq (home_of s.projects project kind.Volume) old.project ≡ true = ap (λ p. bytes_eq p old.project) (sym home) ∙ bytes_eq-itself old.project in
      true≢false
      (sym (and_from _ _ at (ap (λ p. names_volume devices p old.name) same_pool ∙ ap (names_volume devices pool) same_name ∙ names)) ∙ none)

  source : (o : Operation Task) → Mem o s.operations.live → (of : Target) → o.work.source ≡ Some of
      → of.kind ≡ kind.Volume
      → volume_names old ≢ home_of s.projects o.work.project kind.Volume ∷ of.pool ∷ of.name ∷ []
  source o m of is same e =
      let claim = copy_claim s o.work of (h.operations.deeds.at o m) (h.references.operations.at o m) is same in
      let none = (unused-claim unused o m (row.Volume claim.0) claim.1.0).1 in
      let home : old.project ≡ home_of s.projects o.work.project kind.Volume = cc in
      let same_pool : old.pool ≡ of.pool = cc in
      let same_name : old.name ≡ of.name = cc in
      let project : bytes_eq o.work.project old.project ≡ true = ap (λ p. bytes_eq p old.project) (sym (home ∙ claim.1.1)) ∙ bytes_eq-itself old.project in
      let pool : bytes_eq of.pool old.pool ≡ true = ap (λ p. bytes_eq p old.pool) (sym same_pool) ∙ bytes_eq-itself old.pool in
      let name : bytes_eq of.name old.name ≡ true = ap (λ p. bytes_eq p old.name) (sym same_name) ∙ bytes_eq-itself old.name in
      let uses : source_uses old.project (target_of (row.Volume old)) o.work.project (record of { kind = kind.Volume }) ≡ true = and_from _ _ (and_from _ _ project pool) name in
      let used_so : source_uses old.project (target_of (row.Volume old)) o.work.project of ≡ true =
      subst (λ k. source_uses old.project (target_of (row.Volume old)) o.work.project (record of { kind = k }) ≡ true)
      (sym same) uses in
      true≢false
      (sym used_so ∙ ap (λ c. option_map_or (source_uses old.project (target_of (row.Volume old)) o.work.project) c false) (sym is) ∙ none)

-- ---- the changes

-- A volume is put.
pub volume-put_references : (s : State) (r : Volume) → ReferencesExist s → Each (λ o. IsByDeed o.work) s.operations.live
    → home_missing s (row.Volume r) ≡ None
    → is_some (pool_named s.pools r.pool) ≡ true → ReferencesExist (record s { volumes = with_volume r s.volumes })
volume-put_references s r h deeds home pool = serving s (with_volume r s.volumes) h deeds (record {
  homes = volume-each _ r s.volumes home (each-row s h.homes).volumes;
  pools = volume-each _ r s.volumes pool h.volumes;
  profiles = record { at = λ x m pool name names there. volume-still r s.volumes (home_of s.projects x.project kind.Volume) pool name there };
  instances = record { at = λ i m pool name names there. volume-still r s.volumes (home_of s.projects i.project kind.Volume) pool name there };
  sources = record { at = λ o m of is same there. volume-still r s.volumes (home_of s.projects o.work.project kind.Volume) of.pool of.name there };
})

pub volume-home : (s : State) (r : Volume) (home : List ℕ) → IsHome s home kind.Volume → r.project ≡ home
    → home_missing s (row.Volume r) ≡ None
volume-home s r home is same =
    at-home s.projects r.project kind.Volume
    (is-home s r.project kind.Volume (subst (λ p. IsHome s p kind.Volume) (sym same) is))

-- the others stay where one is removed
undropped : (s : State) (old : Volume) → IsWhole s → volume_named s.volumes old.project old.pool old.name ≡ Some old
    → (home pool name : List ℕ) → volume_names old ≢ home ∷ pool ∷ name ∷ []
    → is_some (volume_named s.volumes home pool name) ≡ true
    → is_some (volume_named (dropped (λ y. has_key (key_of (row.Volume old)) (row.Volume y)) s.volumes) home pool name) ≡ true
undropped s old h found home pool name other there =
    ap is_some
    (volume-unremoved old home pool name h.names (find-some (is_volume old.project old.pool old.name) s.volumes old found).0 other)
    ∙ there

pub volume-moved_references : (s : State) (old : Volume) (to : List ℕ) → IsWhole s → IsHome s old.project kind.Volume
    → volume_named s.volumes old.project old.pool old.name ≡ Some old
    → first_user_of s old.project (target_of (row.Volume old)) ≡ None
    → ReferencesExist (applied s (moved_row (row.Volume old) (row.Volume (record old { name = to }))))
volume-moved_references s old to h is found used =
    let new : Volume = record old { name = to } in
    let rest : List Volume = dropped (λ y. has_key (key_of (row.Volume old)) (row.Volume y)) s.volumes in
    fewer s old (with_volume new rest) h used
    (volume-each _ new rest (volume-home s new old.project is refl) (Each-dropped _ (each-row s h.references.homes).volumes))
    (volume-each _ new rest (h.references.volumes.at old (find-some (is_volume old.project old.pool old.name) s.volumes old found).0) (Each-dropped _ h.references.volumes))
    (λ home pool name other there. volume-still new rest home pool name (undropped s old h found home pool name other there))

pub volume-removed_references : (s : State) (old : Volume) → IsWhole s
    → volume_named s.volumes old.project old.pool old.name ≡ Some old
    → first_user_of s old.project (target_of (row.Volume old)) ≡ None
    → ReferencesExist (applied s (removal (row.Volume old) ∷ []))
volume-removed_references s old h found used =
    fewer s old (dropped (λ y. has_key (key_of (row.Volume old)) (row.Volume y)) s.volumes) h used
    (Each-dropped _ (each-row s h.references.homes).volumes)
    (Each-dropped _ h.references.volumes)
    (undropped s old h found)
