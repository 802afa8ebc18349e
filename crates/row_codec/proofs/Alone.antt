-- No spelling of a body goes on after another one of the same kind.
use Rattle.std.proofs.Common.{◌≡◌, ℕ, List, [], ◌∷◌, ◌++◌, sym, refl, ap, ◌∙◌, arith}
use Rattle.std.proofs.lemmas.List.{append-nil}
use Rattle.records.specs.declared.rows.Project.{Project}
use Rattle.records.specs.declared.rows.Profile.{Profile}
use Rattle.records.specs.declared.rows.Network.{Network}
use Rattle.records.specs.declared.rows.Pool.{Pool}
use Rattle.records.specs.declared.rows.Volume.{Volume}
use Rattle.records.specs.declared.rows.Instance.{Instance}
use Rattle.records.specs.declared.rows.Snapshot.{Snapshot}
use Rattle.records.specs.declared.rows.Row.{Row}
use Rattle.records.specs.declared.rows.Row.TheVariants as row
use Rattle.row_codec.specs.Spelling.{body_of, kind_of, project_bytes, profile_bytes, network_bytes, pool_bytes, volume_bytes, instance_bytes, snapshot_bytes}
use Rattle.size_values.specs.declared.entry.Entry.{Entry}
use Rattle.row_codec.specs.Rows.{IsRow, Spells}
use Rattle.row_codec.specs.Reading.{◌>>=◌, ended, project_in, profile_in, network_in, pool_in, volume_in, instance_in, snapshot_in}
use Rattle.row_codec.proofs.Fields.{done}
use Rattle.row_codec.proofs.Bodies.{FitsProject, project_again, FitsProfile, profile_again, FitsNetwork, network_again, FitsPool, pool_again, FitsVolume, volume_again, FitsInstance, instance_again, FitsSnapshot, snapshot_again}
use Rattle.row_codec.proofs.Entries.{project_fits, profile_fits, network_fits, pool_fits, volume_fits, instance_fits, snapshot_fits}

nothing_more : {A : Type 0} (more : List ℕ) (x y : A) → (ended more >>= λ end. done x) ≡ done y → more ≡ []
nothing_more [] x y e = refl
nothing_more (b ∷ bs) x y e = absurd cc

project_alone : (a b : Project) (more : List ℕ) → FitsProject a → FitsProject b → project_bytes b ≡ project_bytes a ++ more → more ≡ []
project_alone a b more a_fits b_fits e =
    nothing_more more (record a { name = [] }) (record b { name = [] })
    (sym (project_again [] more a a_fits) ∙ ap (project_in []) (sym e ∙ sym (append-nil (project_bytes b))) ∙ project_again [] [] b b_fits)

profile_alone : (a b : Profile) (more : List ℕ) → FitsProfile a → FitsProfile b → profile_bytes b ≡ profile_bytes a ++ more → more ≡ []
profile_alone a b more a_fits b_fits e =
    nothing_more more (record a { project = []; name = [] }) (record b { project = []; name = [] })
    (sym (profile_again [] [] more a a_fits) ∙ ap (profile_in [] []) (sym e ∙ sym (append-nil (profile_bytes b))) ∙ profile_again [] [] [] b b_fits)

network_alone : (a b : Network) (more : List ℕ) → FitsNetwork a → FitsNetwork b → network_bytes b ≡ network_bytes a ++ more → more ≡ []
network_alone a b more a_fits b_fits e =
    nothing_more more (record a { project = []; name = [] }) (record b { project = []; name = [] })
    (sym (network_again [] [] more a a_fits) ∙ ap (network_in [] []) (sym e ∙ sym (append-nil (network_bytes b))) ∙ network_again [] [] [] b b_fits)

pool_alone : (a b : Pool) (more : List ℕ) → FitsPool a → FitsPool b → pool_bytes b ≡ pool_bytes a ++ more → more ≡ []
pool_alone a b more a_fits b_fits e =
    nothing_more more (record a { name = [] }) (record b { name = [] })
    (sym (pool_again [] more a a_fits) ∙ ap (pool_in []) (sym e ∙ sym (append-nil (pool_bytes b))) ∙ pool_again [] [] b b_fits)

volume_alone : (a b : Volume) (more : List ℕ) → FitsVolume a → FitsVolume b → volume_bytes b ≡ volume_bytes a ++ more → more ≡ []
volume_alone a b more a_fits b_fits e =
    nothing_more more (record a { project = []; pool = []; name = [] }) (record b { project = []; pool = []; name = [] })
    (sym (volume_again [] [] [] more a a_fits) ∙ ap (volume_in [] [] []) (sym e ∙ sym (append-nil (volume_bytes b))) ∙ volume_again [] [] [] [] b b_fits)

instance_alone : (a b : Instance) (more : List ℕ) → FitsInstance a → FitsInstance b → instance_bytes b ≡ instance_bytes a ++ more → more ≡ []
instance_alone a b more a_fits b_fits e =
    nothing_more more (record a { project = []; name = [] }) (record b { project = []; name = [] })
    (sym (instance_again [] [] more a a_fits) ∙ ap (instance_in [] []) (sym e ∙ sym (append-nil (instance_bytes b))) ∙ instance_again [] [] [] b b_fits)

snapshot_alone : (a b : Snapshot) (more : List ℕ) → FitsSnapshot a → FitsSnapshot b → snapshot_bytes b ≡ snapshot_bytes a ++ more → more ≡ []
snapshot_alone a b more a_fits b_fits e =
    nothing_more more (record a { project = []; instance = []; name = [] }) (record b { project = []; instance = []; name = [] })
    (sym (snapshot_again [] [] [] more a a_fits) ∙ ap (snapshot_in [] [] []) (sym e ∙ sym (append-nil (snapshot_bytes b))) ∙ snapshot_again [] [] [] [] b b_fits)

pub alone : (a b : Row) (more : List ℕ) → IsRow a → IsRow b → kind_of a ≡ kind_of b → body_of b ≡ body_of a ++ more → more ≡ []
alone (row.Project a) (row.Project b) more a_is b_is same e = project_alone a b more (project_fits a a_is) (project_fits b b_is) e
alone (row.Profile a) (row.Profile b) more a_is b_is same e = profile_alone a b more (profile_fits a a_is) (profile_fits b b_is) e
alone (row.Network a) (row.Network b) more a_is b_is same e = network_alone a b more (network_fits a a_is) (network_fits b b_is) e
alone (row.Pool a) (row.Pool b) more a_is b_is same e = pool_alone a b more (pool_fits a a_is) (pool_fits b b_is) e
alone (row.Volume a) (row.Volume b) more a_is b_is same e = volume_alone a b more (volume_fits a a_is) (volume_fits b b_is) e
alone (row.Instance a) (row.Instance b) more a_is b_is same e = instance_alone a b more (instance_fits a a_is) (instance_fits b b_is) e
alone (row.Snapshot a) (row.Snapshot b) more a_is b_is same e = snapshot_alone a b more (snapshot_fits a a_is) (snapshot_fits b b_is) e
alone a b more a_is b_is same e = absurd (omega (arith, same))

pub entries_alone : (r s : Row) (a b : Entry) (more : List ℕ) → Spells r a → Spells s b → a.kind ≡ b.kind → b.body ≡ a.body ++ more → more ≡ []
entries_alone r s a b more p q kinds bodies =
    alone r s more p.row q.row (sym (ap (λ (e : Entry). e.kind) p.entry) ∙ kinds ∙ ap (λ (e : Entry). e.kind) q.entry)
    (sym (ap (λ (e : Entry). e.body) q.entry) ∙ bodies ∙ ap (λ (e : Entry). e.body ++ more) p.entry)
