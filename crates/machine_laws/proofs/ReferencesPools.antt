-- Changes of pools keep the references.
use Rattle.std.proofs.Common.{◌≡◌, ◌≢◌, ℕ, true, false, Some, None, List, [], ◌∷◌, sym, ap, ◌∙◌, true≢false}
use Rattle.std.specs.Option.{option_map_or, is_some}
use Rattle.std.specs.Str.{bytes_eq}
use Rattle.plain_lists.specs.Members.{Mem, Each}
use Rattle.plain_lists.specs.Edits.{dropped}
use Rattle.plain_lists.proofs.Elements.{Each-map}
use Rattle.plain_lists.proofs.Searches.{find-some}
use Rattle.config_lists.proofs.Keys.{bytes_eq-itself}
use Rattle.config_lists.specs.Devices.{NamedDevices}
use Rattle.estate_rules.specs.Uses.{names_pool}
use Rattle.operations.specs.declared.operation.Operation.{Operation}
use Rattle.records.specs.declared.rows.Pool.{Pool}
use Rattle.records.specs.declared.rows.Volume.{Volume}
use Rattle.records.specs.declared.rows.Row.TheVariants as row
use Rattle.row_codec.specs.Spelling.{key_of}
use Rattle.row_machine.specs.machine.Task.{Task}
use Rattle.row_machine.specs.machine.State.{State}
use Rattle.row_machine.specs.machine.Rows.{is_pool, pool_names, pool_named, with_pool}
use Rattle.row_machine.specs.machine.Expansions.{expanded_of}
use Rattle.row_machine.specs.machine.Claims.{judged_instances, claimed_volume}
use Rattle.row_machine.specs.machine.Changes.{applied, has_key, removal}
use Rattle.row_machine.specs.shown.Urls.{target_of}
use Rattle.row_machine.specs.machine.Holders.{volume_uses, first_user_of}
use Rattle.row_machine.specs.machine.Plans.{put_all}
use Rattle.row_machine.specs.facts.Whole.{IsWhole, ReferencesExist}
use Rattle.machine_laws.proofs.NamesRows.{each-row}
use Rattle.machine_laws.proofs.ReferencesDevices.{pool_there}
use Rattle.machine_laws.proofs.ReferencesClaims.{claim-volume}
use Rattle.machine_laws.proofs.ReferencesRows.{pool-still, pool-unremoved}
use Rattle.machine_laws.proofs.ReferencesStores.{stores-references, leaves-stores}
use Rattle.machine_laws.proofs.ReferencesUnused.{IsUnused, unused-pool, unused-claim}

-- the pools are others, and each that is named is there
serving : (s : State) (ps : List Pool) → IsWhole s
    → Each (λ v. is_some (pool_named s.pools v.pool) ≡ true → is_some (pool_named ps v.pool) ≡ true) s.volumes
    → Each (λ r. (name : List ℕ) → names_pool r.devices name ≡ true → pool_there s name → is_some (pool_named ps name) ≡ true) s.profiles
    → Each (λ i. (name : List ℕ) → names_pool (expanded_of s.projects s.profiles i).devices name ≡ true → pool_there s name → is_some (pool_named ps name) ≡ true) (judged_instances s)
    → Each (λ o. (v : Volume) → claimed_volume o.work ≡ Some v → is_some (pool_named s.pools v.pool) ≡ true → is_some (pool_named ps v.pool) ≡ true) s.operations.live
    → ReferencesExist (record s { pools = ps })
serving s ps h volumes profiles instances claims =
    stores-references s s.networks ps s.volumes h.references h.operations.deeds (record {
      networks = (each-row s h.references.homes).networks;
      volumes = (each-row s h.references.homes).volumes;
      pools = record { at = λ v m. volumes.at v m (h.references.volumes.at v m) };
      profiles =
          Each-map
          (λ r stays. record { networks = λ name names there. there; pools = stays; volumes = λ pool name names there. there })
          profiles;
      instances =
          Each-map
          (λ i stays. record { networks = λ name names there. there; pools = stays; volumes = λ pool name names there. there })
          instances;
      operations =
          Each-map (λ o stays. leaves-stores s s.networks ps s.volumes o.work (λ of is same there. there) stays) claims;
    })

-- Pools are put.
pub pool-put_references : (s : State) (r : Pool) → IsWhole s → ReferencesExist (applied s (put_all (row.Pool r ∷ [])))
pool-put_references s r h = serving s (with_pool r s.pools) h
    (record { at = λ v m. pool-still r s.pools v.pool })
    (record { at = λ x m name names. pool-still r s.pools name })
    (record { at = λ i m name names. pool-still r s.pools name })
    (record { at = λ o m v is. pool-still r s.pools v.pool })

-- A pool that nothing names is removed.
pub pool-removed_references : (s : State) (home : List ℕ) (old : Pool) → IsWhole s → pool_named s.pools old.name ≡ Some old
    → first_user_of s home (target_of (row.Pool old)) ≡ None → ReferencesExist (applied s (removal (row.Pool old) ∷ []))
pool-removed_references s home old h found used = serving s rest h
    (record { at = λ v m. stays v.pool (other v (unused.volumes.at v m)) })
    (record { at = λ r m name names. stays name (named r.devices (unused.profiles.at r m) name names) })
    (record { at = λ i m name names. stays name (named (expanded_of s.projects s.profiles i).devices (unused.instances.at i m) name names) })
    (record { at = λ o m v is. stays v.pool (other v (claimed o m v is)) })
  where
    rest : List Pool
    rest = dropped (λ y. has_key (key_of (row.Pool old)) (row.Pool y)) s.pools

    unused : IsUnused s home (target_of (row.Pool old))
    unused = unused-pool s home old h.references used

    stays : (name : List ℕ) → pool_names old ≢ name ∷ [] → is_some (pool_named s.pools name) ≡ true
        → is_some (pool_named rest name) ≡ true
    stays name differs there =
        ap is_some (pool-unremoved old name h.names (find-some (is_pool old.name) s.pools old found).0 differs) ∙
        there

    other : (v : Volume) → volume_uses (target_of (row.Pool old)) v ≡ false → pool_names old ≢ v.pool ∷ []
    other v none e = let same : old.name ≡ v.pool = cc in true≢false (sym (ap (λ n. bytes_eq n old.name) (sym same) ∙ bytes_eq-itself old.name) ∙ none)

    named : (devices : NamedDevices) → names_pool devices old.name ≡ false → (name : List ℕ)
        → names_pool devices name ≡ true → pool_names old ≢ name ∷ []
    named devices none name names e = let same : old.name ≡ name = cc in true≢false (sym (ap (names_pool devices) same ∙ names) ∙ none)

    claimed : (o : Operation Task) → Mem o s.operations.live → (v : Volume) → claimed_volume o.work ≡ Some v
        → volume_uses (target_of (row.Pool old)) v ≡ false
    claimed o m v is =
        ap (λ c. option_map_or (volume_uses (target_of (row.Pool old))) c false) (sym is)
        ∙ (unused-claim unused o m (row.Volume v) (claim-volume o.work v is)).0
