-- An entry that is read as a row is the spelling of the row, and the spelling of a row is read as the row.
use Rattle.std.proofs.Common.{◌≡◌, ℕ, Bool, true, false, cond, eqb, List, [], length, Result, Ok, Err, refl, sym, ap, subst, ◌∙◌}
use Rattle.std.specs.Prelude.{IfOk}
use Rattle.std.proofs.lemmas.Bool.{eqb-true}
use Rattle.std.proofs.lemmas.List.{append-nil}
use Rattle.size_values.specs.declared.kinds.ObjectKind.TheVariants as kind
use Rattle.size_values.specs.declared.entry.Entry.{Entry}
use Rattle.size_values.specs.declared.memory.Or.{Or}
use Rattle.records.specs.declared.rows.Project.{Project}
use Rattle.records.specs.declared.rows.Profile.{Profile}
use Rattle.records.specs.declared.rows.Network.{Network}
use Rattle.records.specs.declared.rows.Pool.{Pool}
use Rattle.records.specs.declared.rows.Volume.{Volume}
use Rattle.records.specs.declared.rows.Instance.{Instance}
use Rattle.records.specs.declared.rows.Snapshot.{Snapshot}
use Rattle.records.specs.declared.rows.Row.{Row}
use Rattle.records.specs.declared.rows.Row.TheVariants as row
use Rattle.estate_rules.specs.Names.{good_name_of}
use Rattle.row_codec.specs.declared.damage.Damaged.{Damaged}
use Rattle.row_codec.specs.declared.damage.Damaged.TheVariants as damaged
use Rattle.row_codec.specs.declared.unreadable.Unreadable.{Unreadable}
use Rattle.row_codec.specs.Spelling.{two_names, three_names, entry_of, project_bytes, profile_bytes, network_bytes, pool_bytes, volume_bytes, instance_bytes, snapshot_bytes}
use Rattle.row_codec.specs.Rows.{IsGood, IsRow, Spells}
use Rattle.row_codec.specs.Reading.{Gives, placed, mapped, two_names_in, three_names_in, project_in, profile_in, network_in, pool_in, volume_in, instance_in, snapshot_in, read_project, read_profile, read_network, read_pool, read_volume, read_instance, read_snapshot, row_at, row_of}
use Rattle.row_codec.proofs.Fields.{IsBytes, went}
use Rattle.row_codec.proofs.Names.{passed_then, two_took, two_again, three_took, three_again}
use Rattle.row_codec.proofs.Bodies.{FitsProject, project_took, project_again, FitsProfile, profile_took, profile_again, FitsNetwork, network_took, network_again, FitsPool, pool_took, pool_again, FitsVolume, volume_took, volume_again, FitsInstance, instance_took, instance_again, FitsSnapshot, snapshot_took, snapshot_again}

placed_ok : {A : Type 0} (len : ℕ) (read : Result A Unreadable) (x : A) → placed len read ≡ Ok x → read ≡ Ok x
placed_ok len (Ok y) x e = let same : y ≡ x = cc in ap Ok same
placed_ok len (Err u) x e = absurd cc

entry_is : (e : Entry) (number : ℕ) (key body : List ℕ) → e.kind ≡ number → e.key ≡ key → e.body ≡ body → e ≡ record { kind = number; key = key; body = body }
entry_is e number key body k n b = λ i. record { kind = k i; key = n i; body = b i }

-- ---- projects

project_row : (r : Project) → IsGood kind.Project r.name → FitsProject r → IsRow (row.Project r)
project_row r name_good fits = record { keyed = name_good; timely = tt; short = (fits.description.short, fits.config.short); typed = (fits.description.utf8, fits.config.typed) }

pub project_fits : (r : Project) → IsRow (row.Project r) → FitsProject r
project_fits r is = record {
  description = record { short = is.short.0; utf8 = is.typed.0 };
  config = record { short = is.short.1; typed = is.typed.1 };
}

project_found : (e : Entry) (r : Project) → IsBytes e.body → e.kind ≡ 1 → read_project e.key e.body ≡ Ok r → Spells (row.Project r) e
unfolding read_project
project_found e r all number h =
    let p = passed_then (good_name_of kind.Project e.key) (placed (length e.body) (project_in e.key e.body)) r damaged.Key h in
    let t = project_took e.key e.body r all (placed_ok (length e.body) (project_in e.key e.body) r p.1) in
    record {
      row = project_row r (subst (IsGood kind.Project) (sym t.0) p.0) t.2;
      entry = entry_is e 1 r.name (project_bytes r) number (sym t.0) t.1;
    }

project_spelled : (r : Project) → IsRow (row.Project r) → read_project (entry_of (row.Project r)).key (entry_of (row.Project r)).body ≡ Ok r
unfolding read_project
project_spelled r is =
    let body : project_in r.name (project_bytes r) ≡ Ok r = ap (project_in r.name) (sym (append-nil (project_bytes r))) ∙ project_again r.name [] r (project_fits r is) in
    rw (is.keyed, body) refl

-- ---- profiles

profile_row : (r : Profile) → IsGood kind.Project r.project → IsGood kind.Profile r.name → FitsProfile r → IsRow (row.Profile r)
profile_row r project_good name_good fits = record { keyed = (project_good, name_good); timely = tt; short = (fits.description.short, fits.config.short, fits.devices.short); typed = (fits.description.utf8, fits.config.typed, fits.devices.typed) }

pub profile_fits : (r : Profile) → IsRow (row.Profile r) → FitsProfile r
profile_fits r is = record {
  description = record { short = is.short.0; utf8 = is.typed.0 };
  config = record { short = is.short.1; typed = is.typed.1 };
  devices = record { short = is.short.2; typed = is.typed.2 };
}

profile_found : (e : Entry) (r : Profile) → IsBytes e.body → e.kind ≡ 2 → read_profile e.key e.body ≡ Ok r → Spells (row.Profile r) e
unfolding read_profile
profile_found e r all number h =
    let k = went (two_names_in kind.Project kind.Profile e.key) _ r h in
    let names = two_took kind.Project kind.Profile e.key k.got k.read_is in
    let t = profile_took k.got.0 k.got.1 e.body r all (placed_ok (length e.body) (profile_in k.got.0 k.got.1 e.body) r k.next_is) in
    record {
      row = profile_row r (subst (IsGood kind.Project) (sym t.0) names.0) (subst (IsGood kind.Profile) (sym t.1) names.1) t.3;
      entry = entry_is e 2 (two_names r.project r.name) (profile_bytes r) number (names.2 ∙ ap (λ (x : List ℕ). two_names x k.got.1) (sym t.0) ∙ ap (λ (x : List ℕ). two_names r.project x) (sym t.1)) t.2;
    }

profile_spelled : (r : Profile) → IsRow (row.Profile r) → read_profile (entry_of (row.Profile r)).key (entry_of (row.Profile r)).body ≡ Ok r
unfolding read_profile
profile_spelled r is =
    let body : profile_in r.project r.name (profile_bytes r) ≡ Ok r = ap (profile_in r.project r.name) (sym (append-nil (profile_bytes r))) ∙ profile_again r.project r.name [] r (profile_fits r is) in
    rw (two_again kind.Project kind.Profile r.project r.name is.keyed.0 is.keyed.1, body) refl

-- ---- networks

network_row : (r : Network) → IsGood kind.Project r.project → IsGood kind.Network r.name → FitsNetwork r → IsRow (row.Network r)
network_row r project_good name_good fits = record { keyed = (project_good, name_good); timely = tt; short = (fits.description.short, fits.config.short); typed = (fits.description.utf8, fits.config.typed) }

pub network_fits : (r : Network) → IsRow (row.Network r) → FitsNetwork r
network_fits r is = record {
  description = record { short = is.short.0; utf8 = is.typed.0 };
  config = record { short = is.short.1; typed = is.typed.1 };
}

network_found : (e : Entry) (r : Network) → IsBytes e.body → e.kind ≡ 3 → read_network e.key e.body ≡ Ok r → Spells (row.Network r) e
unfolding read_network
network_found e r all number h =
    let k = went (two_names_in kind.Project kind.Network e.key) _ r h in
    let names = two_took kind.Project kind.Network e.key k.got k.read_is in
    let t = network_took k.got.0 k.got.1 e.body r all (placed_ok (length e.body) (network_in k.got.0 k.got.1 e.body) r k.next_is) in
    record {
      row = network_row r (subst (IsGood kind.Project) (sym t.0) names.0) (subst (IsGood kind.Network) (sym t.1) names.1) t.3;
      entry = entry_is e 3 (two_names r.project r.name) (network_bytes r) number (names.2 ∙ ap (λ (x : List ℕ). two_names x k.got.1) (sym t.0) ∙ ap (λ (x : List ℕ). two_names r.project x) (sym t.1)) t.2;
    }

network_spelled : (r : Network) → IsRow (row.Network r) → read_network (entry_of (row.Network r)).key (entry_of (row.Network r)).body ≡ Ok r
unfolding read_network
network_spelled r is =
    let body : network_in r.project r.name (network_bytes r) ≡ Ok r = ap (network_in r.project r.name) (sym (append-nil (network_bytes r))) ∙ network_again r.project r.name [] r (network_fits r is) in
    rw (two_again kind.Project kind.Network r.project r.name is.keyed.0 is.keyed.1, body) refl

-- ---- pools

pool_row : (r : Pool) → IsGood kind.Pool r.name → FitsPool r → IsRow (row.Pool r)
pool_row r name_good fits = record { keyed = name_good; timely = tt; short = (fits.description.short, fits.config.short); typed = (fits.description.utf8, fits.config.typed) }

pub pool_fits : (r : Pool) → IsRow (row.Pool r) → FitsPool r
pool_fits r is = record {
  description = record { short = is.short.0; utf8 = is.typed.0 };
  config = record { short = is.short.1; typed = is.typed.1 };
}

pool_found : (e : Entry) (r : Pool) → IsBytes e.body → e.kind ≡ 4 → read_pool e.key e.body ≡ Ok r → Spells (row.Pool r) e
unfolding read_pool
pool_found e r all number h =
    let p = passed_then (good_name_of kind.Pool e.key) (placed (length e.body) (pool_in e.key e.body)) r damaged.Key h in
    let t = pool_took e.key e.body r all (placed_ok (length e.body) (pool_in e.key e.body) r p.1) in
    record {
      row = pool_row r (subst (IsGood kind.Pool) (sym t.0) p.0) t.2;
      entry = entry_is e 4 r.name (pool_bytes r) number (sym t.0) t.1;
    }

pool_spelled : (r : Pool) → IsRow (row.Pool r) → read_pool (entry_of (row.Pool r)).key (entry_of (row.Pool r)).body ≡ Ok r
unfolding read_pool
pool_spelled r is =
    let body : pool_in r.name (pool_bytes r) ≡ Ok r = ap (pool_in r.name) (sym (append-nil (pool_bytes r))) ∙ pool_again r.name [] r (pool_fits r is) in
    rw (is.keyed, body) refl

-- ---- volumes

volume_row : (r : Volume) → IsGood kind.Project r.project → IsGood kind.Pool r.pool → IsGood kind.Volume r.name → FitsVolume r → IsRow (row.Volume r)
volume_row r project_good pool_good name_good fits = record { keyed = (project_good, pool_good, name_good); timely = fits.created; short = (fits.description.short, fits.config.short); typed = (fits.description.utf8, fits.config.typed) }

pub volume_fits : (r : Volume) → IsRow (row.Volume r) → FitsVolume r
volume_fits r is = record {
  description = record { short = is.short.0; utf8 = is.typed.0 };
  config = record { short = is.short.1; typed = is.typed.1 };
  created = is.timely;
}

volume_found : (e : Entry) (r : Volume) → IsBytes e.body → e.kind ≡ 5 → read_volume e.key e.body ≡ Ok r → Spells (row.Volume r) e
unfolding read_volume
volume_found e r all number h =
    let k = went (three_names_in kind.Project kind.Pool kind.Volume e.key) _ r h in
    let names = three_took kind.Project kind.Pool kind.Volume e.key k.got k.read_is in
    let t = volume_took k.got.0 k.got.1 k.got.2 e.body r all (placed_ok (length e.body) (volume_in k.got.0 k.got.1 k.got.2 e.body) r k.next_is) in
    record {
      row = volume_row r (subst (IsGood kind.Project) (sym t.0) names.0) (subst (IsGood kind.Pool) (sym t.1) names.1) (subst (IsGood kind.Volume) (sym t.2) names.2) t.4;
      entry = entry_is e 5 (three_names r.project r.pool r.name) (volume_bytes r) number (names.3 ∙ ap (λ (x : List ℕ). three_names x k.got.1 k.got.2) (sym t.0) ∙ ap (λ (x : List ℕ). three_names r.project x k.got.2) (sym t.1) ∙ ap (λ (x : List ℕ). three_names r.project r.pool x) (sym t.2)) t.3;
    }

volume_spelled : (r : Volume) → IsRow (row.Volume r) → read_volume (entry_of (row.Volume r)).key (entry_of (row.Volume r)).body ≡ Ok r
unfolding read_volume
volume_spelled r is =
    let body : volume_in r.project r.pool r.name (volume_bytes r) ≡ Ok r = ap (volume_in r.project r.pool r.name) (sym (append-nil (volume_bytes r))) ∙ volume_again r.project r.pool r.name [] r (volume_fits r is) in
    rw (three_again kind.Project kind.Pool kind.Volume r.project r.pool r.name is.keyed.0 is.keyed.1 is.keyed.2, body) refl

-- ---- instances

instance_row : (r : Instance) → IsGood kind.Project r.project → IsGood kind.Instance r.name → FitsInstance r → IsRow (row.Instance r)
instance_row r project_good name_good fits = record { keyed = (project_good, name_good); timely = fits.created; short = (fits.description.short, fits.origin.short, fits.profiles.short, fits.config.short, fits.devices.short); typed = (fits.description.utf8, fits.origin.utf8, fits.profiles.utf8, fits.config.typed, fits.devices.typed) }

pub instance_fits : (r : Instance) → IsRow (row.Instance r) → FitsInstance r
instance_fits r is = record {
  description = record { short = is.short.0; utf8 = is.typed.0 };
  origin = record { short = is.short.1; utf8 = is.typed.1 };
  created = is.timely;
  profiles = record { short = is.short.2; utf8 = is.typed.2 };
  config = record { short = is.short.3; typed = is.typed.3 };
  devices = record { short = is.short.4; typed = is.typed.4 };
}

instance_found : (e : Entry) (r : Instance) → IsBytes e.body → e.kind ≡ 6 → read_instance e.key e.body ≡ Ok r → Spells (row.Instance r) e
unfolding read_instance
instance_found e r all number h =
    let k = went (two_names_in kind.Project kind.Instance e.key) _ r h in
    let names = two_took kind.Project kind.Instance e.key k.got k.read_is in
    let t = instance_took k.got.0 k.got.1 e.body r all (placed_ok (length e.body) (instance_in k.got.0 k.got.1 e.body) r k.next_is) in
    record {
      row = instance_row r (subst (IsGood kind.Project) (sym t.0) names.0) (subst (IsGood kind.Instance) (sym t.1) names.1) t.3;
      entry = entry_is e 6 (two_names r.project r.name) (instance_bytes r) number (names.2 ∙ ap (λ (x : List ℕ). two_names x k.got.1) (sym t.0) ∙ ap (λ (x : List ℕ). two_names r.project x) (sym t.1)) t.2;
    }

instance_spelled : (r : Instance) → IsRow (row.Instance r) → read_instance (entry_of (row.Instance r)).key (entry_of (row.Instance r)).body ≡ Ok r
unfolding read_instance
instance_spelled r is =
    let body : instance_in r.project r.name (instance_bytes r) ≡ Ok r = ap (instance_in r.project r.name) (sym (append-nil (instance_bytes r))) ∙ instance_again r.project r.name [] r (instance_fits r is) in
    rw (two_again kind.Project kind.Instance r.project r.name is.keyed.0 is.keyed.1, body) refl

-- ---- snapshots

snapshot_row : (r : Snapshot) → IsGood kind.Project r.project → IsGood kind.Instance r.instance → IsGood kind.Snapshot r.name → FitsSnapshot r → IsRow (row.Snapshot r)
snapshot_row r project_good instance_good name_good fits = record { keyed = (project_good, instance_good, name_good); timely = (fits.created, fits.expires); short = (fits.profiles.short, fits.config.short, fits.devices.short); typed = (fits.profiles.utf8, fits.config.typed, fits.devices.typed) }

pub snapshot_fits : (r : Snapshot) → IsRow (row.Snapshot r) → FitsSnapshot r
snapshot_fits r is = record {
  created = is.timely.0;
  expires = is.timely.1;
  profiles = record { short = is.short.0; utf8 = is.typed.0 };
  config = record { short = is.short.1; typed = is.typed.1 };
  devices = record { short = is.short.2; typed = is.typed.2 };
}

snapshot_found : (e : Entry) (r : Snapshot) → IsBytes e.body → e.kind ≡ 7 → read_snapshot e.key e.body ≡ Ok r → Spells (row.Snapshot r) e
unfolding read_snapshot
snapshot_found e r all number h =
    let k = went (three_names_in kind.Project kind.Instance kind.Snapshot e.key) _ r h in
    let names = three_took kind.Project kind.Instance kind.Snapshot e.key k.got k.read_is in
    let t = snapshot_took k.got.0 k.got.1 k.got.2 e.body r all (placed_ok (length e.body) (snapshot_in k.got.0 k.got.1 k.got.2 e.body) r k.next_is) in
    record {
      row = snapshot_row r (subst (IsGood kind.Project) (sym t.0) names.0) (subst (IsGood kind.Instance) (sym t.1) names.1) (subst (IsGood kind.Snapshot) (sym t.2) names.2) t.4;
      entry = entry_is e 7 (three_names r.project r.instance r.name) (snapshot_bytes r) number (names.3 ∙ ap (λ (x : List ℕ). three_names x k.got.1 k.got.2) (sym t.0) ∙ ap (λ (x : List ℕ). three_names r.project x k.got.2) (sym t.1) ∙ ap (λ (x : List ℕ). three_names r.project r.instance x) (sym t.2)) t.3;
    }

snapshot_spelled : (r : Snapshot) → IsRow (row.Snapshot r) → read_snapshot (entry_of (row.Snapshot r)).key (entry_of (row.Snapshot r)).body ≡ Ok r
unfolding read_snapshot
snapshot_spelled r is =
    let body : snapshot_in r.project r.instance r.name (snapshot_bytes r) ≡ Ok r = ap (snapshot_in r.project r.instance r.name) (sym (append-nil (snapshot_bytes r))) ∙ snapshot_again r.project r.instance r.name [] r (snapshot_fits r is) in
    rw (three_again kind.Project kind.Instance kind.Snapshot r.project r.instance r.name is.keyed.0 is.keyed.1 is.keyed.2, body) refl

-- ---- rows

mapped_ok : {A B : Type 0} (f : A → B) (r : Result A Damaged) (y : B) → mapped f r ≡ Ok y → (x : A) × (r ≡ Ok x) × (f x ≡ y)
mapped_ok f (Ok x) y e = (x, refl, cc)
mapped_ok f (Err d) y e = absurd cc

pub row_spelled : (r : Row) → IsRow r → row_of (entry_of r) ≡ Ok r
unfolding row_at
row_spelled (row.Project r) is = ap (mapped row.Project) (project_spelled r is)
row_spelled (row.Profile r) is = ap (mapped row.Profile) (profile_spelled r is)
row_spelled (row.Network r) is = ap (mapped row.Network) (network_spelled r is)
row_spelled (row.Pool r) is = ap (mapped row.Pool) (pool_spelled r is)
row_spelled (row.Volume r) is = ap (mapped row.Volume) (volume_spelled r is)
row_spelled (row.Instance r) is = ap (mapped row.Instance) (instance_spelled r is)
row_spelled (row.Snapshot r) is = ap (mapped row.Snapshot) (snapshot_spelled r is)

either : {A : Type 0} (e : Entry) (r : Row) (number : ℕ) (to : A → Row) (of : Result A Damaged) (others : Result Row Damaged) → ((x : A) → e.kind ≡ number → of ≡ Ok x → Spells (to x) e) → (others ≡ Ok r → Spells r e)
    → cond (eqb e.kind number) (mapped to of) others ≡ Ok r → Spells r e
either {A} e r number to of others found rest h = by (eqb e.kind number) refl h
  where
    by : (b : Bool) → eqb e.kind number ≡ b → cond b (mapped to of) others ≡ Ok r → Spells r e
    by true is h = let m = mapped_ok to of r h in subst (λ (y : Row). Spells y e) m.2 (found m.0 (eqb-true e.kind number is) m.1)
    by false is h = rest h

pub row_found : (e : Entry) (r : Row) → IsBytes e.body → row_of e ≡ Ok r → Spells r e
unfolding row_at
row_found e r all h =
    either e r 1 row.Project (read_project e.key e.body) _ (λ x k h. project_found e x all k h)
    (either e r 2 row.Profile (read_profile e.key e.body) _ (λ x k h. profile_found e x all k h)
    (either e r 3 row.Network (read_network e.key e.body) _ (λ x k h. network_found e x all k h)
    (either e r 4 row.Pool (read_pool e.key e.body) _ (λ x k h. pool_found e x all k h)
    (either e r 5 row.Volume (read_volume e.key e.body) _ (λ x k h. volume_found e x all k h)
    (either e r 6 row.Instance (read_instance e.key e.body) _ (λ x k h. instance_found e x all k h)
    (either e r 7 row.Snapshot (read_snapshot e.key e.body) (Err damaged.Kind) (λ x k h. snapshot_found e x all k h) (λ h. absurd cc)))))))
    h

-- ---- what a reader of entries returned

pub is_found : (e : Entry) (result : Result Row (Or Damaged)) → IsBytes e.body → Gives (λ r. r) result (row_of e) → IfOk result (λ r. Spells r e)
is_found e (Ok r) all given = row_found e r all given
is_found e (Err why) all given = tt

pub is_read : (e : Entry) (r : Row) (result : Result Row (Or Damaged)) → Spells r e → Gives (λ r. r) result (row_of e) → Gives (λ r. r) result (Ok r)
is_read e r result spelled given = subst (Gives (λ r. r) result) (ap row_of spelled.entry ∙ row_spelled r spelled.row) given

-- ---- what the readings of spellings tell

pub read_as : (r : Row) (e : Entry) → Spells r e → row_of e ≡ Ok r
read_as r e spelled = ap row_of spelled.entry ∙ row_spelled r spelled.row

pub only_row : (a b : Row) (e : Entry) → Spells a e → Spells b e → a ≡ b
only_row a b e p q = let one = read_as a e p in let other = read_as b e q in cc

pub not_damaged : (r : Row) (e : Entry) (why : Damaged) → row_of e ≡ Err why → ¬ (Spells r e)
not_damaged r e why damage spelled = let read = read_as r e spelled in absurd cc
