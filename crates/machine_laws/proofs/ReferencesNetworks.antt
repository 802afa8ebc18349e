-- Changes of networks keep the references.
use Rattle.std.proofs.Common.{◌≡◌, ◌≢◌, ℕ, true, false, Some, None, List, [], ◌∷◌, refl, sym, ap, subst, ◌∙◌, true≢false}
use Rattle.std.specs.Option.{is_some}
use Rattle.std.specs.Str.{bytes_eq}
use Rattle.std.proofs.lemmas.Bool.{and_from}
use Rattle.plain_lists.specs.Members.{Each}
use Rattle.plain_lists.specs.Edits.{dropped}
use Rattle.plain_lists.proofs.Elements.{Each-map}
use Rattle.plain_lists.proofs.Searches.{find-some}
use Rattle.plain_lists.proofs.EditLemmas.{Each-dropped}
use Rattle.config_lists.proofs.Keys.{bytes_eq-itself}
use Rattle.config_lists.specs.Devices.{NamedDevices}
use Rattle.estate_rules.specs.Uses.{names_network}
use Rattle.size_values.specs.declared.kinds.ObjectKind.TheVariants as kind
use Rattle.records.specs.declared.rows.Network.{Network}
use Rattle.records.specs.declared.rows.Row.TheVariants as row
use Rattle.row_codec.specs.Spelling.{key_of}
use Rattle.row_machine.specs.machine.State.{State}
use Rattle.row_machine.specs.machine.Rows.{is_network, network_names, network_named, with_network}
use Rattle.row_machine.specs.machine.Homes.{home_of}
use Rattle.row_machine.specs.machine.Expansions.{expanded_of}
use Rattle.row_machine.specs.machine.Claims.{judged_instances}
use Rattle.row_machine.specs.machine.Changes.{applied, has_key, removal}
use Rattle.row_machine.specs.shown.Urls.{target_of}
use Rattle.row_machine.specs.machine.Holders.{devices_name, first_user_of}
use Rattle.row_machine.specs.machine.Plans.{put_all, moved_row}
use Rattle.row_machine.specs.opening.Opening.{home_missing}
use Rattle.row_machine.specs.facts.Whole.{IsWhole, ReferencesExist}
use Rattle.machine_laws.proofs.Cases.{IsHome}
use Rattle.machine_laws.proofs.NamesRows.{each-row}
use Rattle.machine_laws.proofs.ReferencesHomes.{at-home}
use Rattle.machine_laws.proofs.ReferencesDevices.{network_there}
use Rattle.machine_laws.proofs.ReferencesRows.{network-each, network-still, network-unremoved}
use Rattle.machine_laws.proofs.ReferencesStores.{stores-references, leaves-stores, is-home}
use Rattle.machine_laws.proofs.ReferencesUnused.{IsUnused, unused-network}

homes : {s : State} → IsWhole s → Each (λ r. home_missing s (row.Network r) ≡ None) s.networks
homes {s} h = (each-row s h.references.homes).networks

at_home : (s : State) (r : Network) (home : List ℕ) → IsHome s home kind.Network → r.project ≡ home
    → home_missing s (row.Network r) ≡ None
at_home s r home is same =
    at-home s.projects r.project kind.Network
    (is-home s r.project kind.Network (subst (λ p. IsHome s p kind.Network) (sym same) is))

-- the networks are others, and what devices name is there
serving : (s : State) (ns : List Network) → IsWhole s → Each (λ r. home_missing s (row.Network r) ≡ None) ns
    → Each (λ r. (name : List ℕ) → names_network r.devices name ≡ true → network_there s r.project name
    → network_there (record s { networks = ns }) r.project name) s.profiles
    → Each (λ i. (name : List ℕ) → names_network (expanded_of s.projects s.profiles i).devices name ≡ true → network_there s i.project name
    → network_there (record s { networks = ns }) i.project name) (judged_instances s)
    → ReferencesExist (record s { networks = ns })
serving s ns h at_homes profiles instances = stores-references s ns s.pools s.volumes h.references h.operations.deeds (record {
  networks = at_homes;
  volumes = (each-row s h.references.homes).volumes;
  pools = h.references.volumes;
  profiles =
      Each-map
      (λ r stays. record { networks = stays; pools = λ name names there. there; volumes = λ pool name names there. there })
      profiles;
  instances =
      Each-map
      (λ i stays. record { networks = stays; pools = λ name names there. there; volumes = λ pool name names there. there })
      instances;
  operations = record { at = λ o m. leaves-stores s ns s.pools s.volumes o.work (λ of is same there. there) (λ v is there. there) };
})

-- where each network stays
more : (s : State) (ns : List Network) → IsWhole s → Each (λ r. home_missing s (row.Network r) ≡ None) ns
    → ((home name : List ℕ) → is_some (network_named s.networks home name) ≡ true → is_some (network_named ns home name) ≡ true)
    → ReferencesExist (record s { networks = ns })
more s ns h at_homes stay = serving s ns h at_homes
    (record { at = λ r m name names there. stay (home_of s.projects r.project kind.Network) name there })
    (record { at = λ i m name names there. stay (home_of s.projects i.project kind.Network) name there })

-- where each but one stays, which nothing names
fewer : (s : State) (old : Network) (ns : List Network) → IsWhole s
    → first_user_of s old.project (target_of (row.Network old)) ≡ None
    → Each (λ r. home_missing s (row.Network r) ≡ None) ns
    → ((home name : List ℕ) → network_names old ≢ home ∷ name ∷ [] → is_some (network_named s.networks home name) ≡ true → is_some (network_named ns home name) ≡ true)
    → ReferencesExist (record s { networks = ns })
fewer s old ns h used at_homes stay = serving s ns h at_homes
    (record { at = λ r m name names there. stay (home_of s.projects r.project kind.Network) name (other r.project r.devices (unused.profiles.at r m) name names) there })
    (record {
      at = λ i m name names there. stay (home_of s.projects i.project kind.Network) name
          (other i.project (expanded_of s.projects s.profiles i).devices (unused.instances.at i m) name names) there;
    })
  where
    unused : IsUnused s old.project (target_of (row.Network old))
    unused = unused-network s old h.references used

    other : (project : List ℕ) (devices : NamedDevices)
        → devices_name s old.project (target_of (row.Network old)) project devices ≡ false
        → (name : List ℕ) → names_network devices name ≡ true
        → network_names old ≢ home_of s.projects project kind.Network ∷ name ∷ []
    other project devices none name names e =
        let home : old.project ≡ home_of s.projects project kind.Network = cc in
        let same_name : old.name ≡ name = cc in
        let at : bytes_eq (home_of s.projects project kind.Network) old.project ≡ true = ap (λ p. bytes_eq p old.project) (sym home) ∙ bytes_eq-itself old.project in
        true≢false (sym (and_from _ _ at (ap (names_network devices) same_name ∙ names)) ∙ none)

-- ---- the changes

pub network-put_references : (s : State) (r : Network) (home : List ℕ) → IsWhole s → IsHome s home kind.Network
    → r.project ≡ home
    → ReferencesExist (applied s (put_all (row.Network r ∷ [])))
network-put_references s r home h is same =
    more s (with_network r s.networks) h (network-each _ r s.networks (at_home s r home is same) (homes h))
    (network-still r s.networks)

-- the others stay where one is removed
undropped : (s : State) (old : Network) → IsWhole s → network_named s.networks old.project old.name ≡ Some old
    → (home name : List ℕ) → network_names old ≢ home ∷ name ∷ []
    → is_some (network_named s.networks home name) ≡ true
    → is_some (network_named (dropped (λ y. has_key (key_of (row.Network old)) (row.Network y)) s.networks) home name) ≡ true
undropped s old h found home name other there =
    ap is_some
    (network-unremoved old home name h.names (find-some (is_network old.project old.name) s.networks old found).0 other)
    ∙ there

pub network-moved_references : (s : State) (old : Network) (to : List ℕ) → IsWhole s → IsHome s old.project kind.Network
    → network_named s.networks old.project old.name ≡ Some old
    → first_user_of s old.project (target_of (row.Network old)) ≡ None
    → ReferencesExist (applied s (moved_row (row.Network old) (row.Network (record old { name = to }))))
network-moved_references s old to h is found used =
    let new : Network = record old { name = to } in
    let rest : List Network = dropped (λ y. has_key (key_of (row.Network old)) (row.Network y)) s.networks in
    fewer s old (with_network new rest) h used
    (network-each _ new rest (at_home s new old.project is refl) (Each-dropped _ (homes h)))
    (λ home name other there. network-still new rest home name (undropped s old h found home name other there))

pub network-removed_references : (s : State) (old : Network) → IsWhole s
    → network_named s.networks old.project old.name ≡ Some old
    → first_user_of s old.project (target_of (row.Network old)) ≡ None
    → ReferencesExist (applied s (removal (row.Network old) ∷ []))
network-removed_references s old h found used =
    fewer s old (dropped (λ y. has_key (key_of (row.Network old)) (row.Network y)) s.networks) h used
    (Each-dropped _ (homes h)) (undropped s old h found)
