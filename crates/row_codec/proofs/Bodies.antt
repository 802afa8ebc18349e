-- A body that is read as a row is the spelling of the row, and a spelling with nothing after it is read as its row.
use Rattle.std.proofs.Common.{◌≡◌, ℕ, Bool, true, false, cond, eqb, List, [], ◌∷◌, ◌++◌, Some, Ok, refl, ap, subst, ◌∙◌, append_assoc, arith}
use Rattle.std.proofs.lemmas.Bool.Decides.{nat_tests}
use Rattle.std.proofs.lemmas.List.{append-nil}
use Rattle.size_values.specs.declared.kinds.Kind.{Kind}
use Rattle.size_values.specs.declared.kinds.Kind.TheVariants as kind
use Rattle.records.specs.declared.rows.Driver.{Driver}
use Rattle.records.specs.declared.rows.Driver.TheVariants as driver
use Rattle.records.specs.declared.rows.Project.{Project}
use Rattle.records.specs.declared.rows.Profile.{Profile}
use Rattle.records.specs.declared.rows.Network.{Network}
use Rattle.records.specs.declared.rows.Pool.{Pool}
use Rattle.records.specs.declared.rows.Volume.{Volume}
use Rattle.records.specs.declared.rows.Instance.{Instance}
use Rattle.records.specs.declared.rows.Snapshot.{Snapshot}
use Rattle.row_codec.specs.declared.parts.Shape.{Shape}
use Rattle.row_codec.specs.Rows.{IsMoment}
use Rattle.row_codec.specs.Spelling.{text_bytes, number_bytes, boolean_byte, kind_byte, driver_byte, settings_bytes, devices_bytes, texts_bytes, project_bytes, profile_bytes, network_bytes, pool_bytes, volume_bytes, instance_bytes, snapshot_bytes}
use Rattle.row_codec.specs.Reading.{◌>>=◌, stops_at, code_at, boolean_of, instance_kind_of, driver_of, text_at, moment_at, settings_at, texts_at, devices_at, shape_at, version_at, ended, project_in, profile_in, network_in, pool_in, volume_in, instance_in, snapshot_in}
use Rattle.row_codec.proofs.Fields.{IsBytes, IsBytes-tail, went, ok_is, Takes, Takes-then, IsPart, IsText, text_part, moment_part, code_part}
use Rattle.row_codec.proofs.Settings.{FitsTexts, FitsSettings, FitsDevices, texts_part, settings_part, devices_part}

boolean_part : IsPart (code_at boolean_of) (λ b. boolean_byte b ∷ []) (λ b. Unit {0})
boolean_part = code_part boolean_of boolean_byte back again
  where
    back : (b : ℕ) (x : Bool) → boolean_of b ≡ Some x → boolean_byte x ≡ b
    back b false e = grind (arith, nat_tests)
    back b true e = grind (arith, nat_tests)

    again : (x : Bool) → boolean_of (boolean_byte x) ≡ Some x
    again false = refl
    again true = refl

kind_part : IsPart (code_at instance_kind_of) (λ k. kind_byte k ∷ []) (λ k. Unit {0})
kind_part = code_part instance_kind_of kind_byte back again
  where
    back : (b : ℕ) (x : Kind) → instance_kind_of b ≡ Some x → kind_byte x ≡ b
    back b kind.Container e = grind (arith, nat_tests)
    back b kind.Machine e = grind (arith, nat_tests)

    again : (x : Kind) → instance_kind_of (kind_byte x) ≡ Some x
    again kind.Container = refl
    again kind.Machine = refl

driver_part : IsPart (code_at driver_of) (λ d. driver_byte d ∷ []) (λ d. Unit {0})
driver_part = code_part driver_of driver_byte back again
  where
    back : (b : ℕ) (x : Driver) → driver_of b ≡ Some x → driver_byte x ≡ b
    back b driver.Dir e = grind (arith, nat_tests)
    back b driver.Btrfs e = grind (arith, nat_tests)
    back b driver.Lvm e = grind (arith, nat_tests)
    back b driver.Zfs e = grind (arith, nat_tests)

    again : (x : Driver) → driver_of (driver_byte x) ≡ Some x
    again driver.Dir = refl
    again driver.Btrfs = refl
    again driver.Lvm = refl
    again driver.Zfs = refl

-- ---- the version, and the end

version_took : (body rest : List ℕ) → IsBytes body → version_at body ≡ Ok rest → Takes body (1 ∷ []) rest
version_took [] rest all e = absurd cc
version_took (version ∷ following) rest all e = by (eqb version 1) refl e
  where
    by : (b : Bool) → eqb version 1 ≡ b → cond b (Ok following) (stops_at (version ∷ following)) ≡ Ok rest → Takes (version ∷ following) (1 ∷ []) rest
    by false is e = absurd cc
    by true is e =
        let one : version ≡ 1 = grind (arith, nat_tests) in
        let same : following ≡ rest = cc in
        subst (λ (r : List ℕ). Takes (version ∷ following) (1 ∷ []) r) same (record { parts = ap (λ v. v ∷ following) one; rest_fits = IsBytes-tail version following all })

ended_took : (rest : List ℕ) (done : Unit {0}) → ended rest ≡ Ok done → rest ≡ []
ended_took [] done e = refl
ended_took (b ∷ rest) done e = absurd cc

whole : {body text rest : List ℕ} → Takes body text rest → rest ≡ [] → body ≡ text
whole {body} {text} {rest} t e = t.parts ∙ ap (λ (r : List ℕ). text ++ r) e ∙ append-nil text

-- appended parts, grouped as they are read
pub regroup_3 : (a b c more : List ℕ) → ((a ++ b) ++ c) ++ more ≡ a ++ (b ++ (c ++ more))
regroup_3 a b c more = simp append_assoc

pub regroup_5 : (a b c d e more : List ℕ) → ((((a ++ b) ++ c) ++ d) ++ e) ++ more ≡ a ++ (b ++ (c ++ (d ++ (e ++ more))))
regroup_5 a b c d e more = simp append_assoc

pub regroup_6 : (a b c d e f more : List ℕ) → (((((a ++ b) ++ c) ++ d) ++ e) ++ f) ++ more ≡ a ++ (b ++ (c ++ (d ++ (e ++ (f ++ more)))))
regroup_6 a b c d e f more = simp append_assoc

-- ---- the profiles, settings and devices of an instance or a snapshot

pub record ShapeTook (bytes : List ℕ) (s : Shape) (rest : List ℕ) : Type 0 where
  pub past_profiles : List ℕ
  pub after_config : List ℕ
  pub profiles_took : Takes bytes (texts_bytes s.profiles) past_profiles
  pub config_took : Takes past_profiles (settings_bytes s.config) after_config
  pub devices_took : Takes after_config (devices_bytes s.devices) rest
  pub profiles_fit : FitsTexts s.profiles
  pub config_fits : FitsSettings s.config
  pub devices_fit : FitsDevices s.devices

shape_took : (bytes : List ℕ) (x : Shape × List ℕ) → IsBytes bytes → shape_at bytes ≡ Ok x → ShapeTook bytes x.0 x.1
unfolding shape_at
shape_took bytes x all e =
    let p = went (texts_at bytes) _ x e in
    let c = went (settings_at p.got.1) _ x p.next_is in
    let d = went (devices_at c.got.1) _ x c.next_is in
    let t0 = texts_part.takes bytes p.got all p.read_is in
    let t1 = settings_part.takes p.got.1 c.got t0.rest_fits c.read_is in
    let t2 = devices_part.takes c.got.1 d.got t1.rest_fits d.read_is in
    let made : Shape = record { profiles = p.got.0; config = c.got.0; devices = d.got.0 } in
    let took : ShapeTook bytes made d.got.1 = record {
      past_profiles = p.got.1;
      after_config = c.got.1;
      profiles_took = t0;
      config_took = t1;
      devices_took = t2;
      profiles_fit = texts_part.fits bytes p.got all p.read_is;
      config_fits = settings_part.fits p.got.1 c.got t0.rest_fits c.read_is;
      devices_fit = devices_part.fits c.got.1 d.got t1.rest_fits d.read_is;
    } in
    subst (λ (y : Shape × List ℕ). ShapeTook bytes y.0 y.1) (ok_is (made, d.got.1) x d.next_is) took

shape_again : (s : Shape) (rest : List ℕ) → FitsTexts s.profiles → FitsSettings s.config → FitsDevices s.devices
    → shape_at (texts_bytes s.profiles ++ (settings_bytes s.config ++ (devices_bytes s.devices ++ rest))) ≡ Ok (s, rest)
unfolding shape_at
shape_again s rest profiles config devices =
    let after_config : List ℕ = devices_bytes s.devices ++ rest in
    let past_profiles : List ℕ = settings_bytes s.config ++ after_config in
    rw (texts_part.again s.profiles past_profiles profiles, settings_part.again s.config after_config config, devices_part.again s.devices rest devices) refl

-- ---- projects

pub record FitsProject (r : Project) : Type 0 where
  pub description : IsText r.description
  pub config : FitsSettings r.config

pub project_took : (name body : List ℕ) (r : Project) → IsBytes body → project_in name body ≡ Ok r → (r.name ≡ name) × (body ≡ project_bytes r) × FitsProject r
unfolding project_in
project_took name body r all e =
    let s0 = went (version_at body) _ r e in
    let s1 = went (text_at s0.got) _ r s0.next_is in
    let s2 = went (settings_at s1.got.1) _ r s1.next_is in
    let end = went (ended s2.got.1) _ r s2.next_is in
    let t0 = version_took body s0.got all s0.read_is in
    let t1 = text_part.takes s0.got s1.got t0.rest_fits s1.read_is in
    let t2 = settings_part.takes s1.got.1 s2.got t1.rest_fits s2.read_is in
    let made : Project = record { name = name; description = s1.got.0; config = s2.got.0 } in
    subst (λ (y : Project). (y.name ≡ name) × (body ≡ project_bytes y) × FitsProject y) (ok_is made r end.next_is) (
      refl,
      whole (Takes-then (Takes-then t0 t1) t2) (ended_took s2.got.1 end.got end.read_is),
      record {
        description = text_part.fits s0.got s1.got t0.rest_fits s1.read_is;
        config = settings_part.fits s1.got.1 s2.got t1.rest_fits s2.read_is;
      },
    )

pub project_again : (name more : List ℕ) (r : Project) → FitsProject r → project_in name (project_bytes r ++ more) ≡ (ended more >>= λ end. Ok (record r { name = name }))
unfolding project_in
project_again name more r fits =
    let from_config : List ℕ = settings_bytes r.config ++ more in
    ap (project_in name) (append_assoc (1 ∷ text_bytes r.description) (settings_bytes r.config) more)
    ∙ rw (text_part.again r.description from_config fits.description, settings_part.again r.config more fits.config) refl

-- ---- profiles

pub record FitsProfile (r : Profile) : Type 0 where
  pub description : IsText r.description
  pub config : FitsSettings r.config
  pub devices : FitsDevices r.devices

pub profile_took : (project name body : List ℕ) (r : Profile) → IsBytes body → profile_in project name body ≡ Ok r → (r.project ≡ project) × (r.name ≡ name) × (body ≡ profile_bytes r) × FitsProfile r
unfolding profile_in
profile_took project name body r all e =
    let s0 = went (version_at body) _ r e in
    let s1 = went (text_at s0.got) _ r s0.next_is in
    let s2 = went (settings_at s1.got.1) _ r s1.next_is in
    let s3 = went (devices_at s2.got.1) _ r s2.next_is in
    let end = went (ended s3.got.1) _ r s3.next_is in
    let t0 = version_took body s0.got all s0.read_is in
    let t1 = text_part.takes s0.got s1.got t0.rest_fits s1.read_is in
    let t2 = settings_part.takes s1.got.1 s2.got t1.rest_fits s2.read_is in
    let t3 = devices_part.takes s2.got.1 s3.got t2.rest_fits s3.read_is in
    let made : Profile = record { project = project; name = name; description = s1.got.0; config = s2.got.0; devices = s3.got.0 } in
    subst (λ (y : Profile). (y.project ≡ project) × (y.name ≡ name) × (body ≡ profile_bytes y) × FitsProfile y) (ok_is made r end.next_is) (
      refl,
      refl,
      whole (Takes-then (Takes-then (Takes-then t0 t1) t2) t3) (ended_took s3.got.1 end.got end.read_is),
      record {
        description = text_part.fits s0.got s1.got t0.rest_fits s1.read_is;
        config = settings_part.fits s1.got.1 s2.got t1.rest_fits s2.read_is;
        devices = devices_part.fits s2.got.1 s3.got t2.rest_fits s3.read_is;
      },
    )

pub profile_again : (project name more : List ℕ) (r : Profile) → FitsProfile r → profile_in project name (profile_bytes r ++ more) ≡ (ended more >>= λ end. Ok (record r { project = project; name = name }))
unfolding profile_in
profile_again project name more r fits =
    let from_devices : List ℕ = devices_bytes r.devices ++ more in
    let from_config : List ℕ = settings_bytes r.config ++ from_devices in
    ap (profile_in project name) (regroup_3 (1 ∷ text_bytes r.description) (settings_bytes r.config) (devices_bytes r.devices) more)
    ∙ rw (text_part.again r.description from_config fits.description, settings_part.again r.config from_devices fits.config, devices_part.again r.devices more fits.devices) refl

-- ---- networks

pub record FitsNetwork (r : Network) : Type 0 where
  pub description : IsText r.description
  pub config : FitsSettings r.config

pub network_took : (project name body : List ℕ) (r : Network) → IsBytes body → network_in project name body ≡ Ok r → (r.project ≡ project) × (r.name ≡ name) × (body ≡ network_bytes r) × FitsNetwork r
unfolding network_in
network_took project name body r all e =
    let s0 = went (version_at body) _ r e in
    let s1 = went (text_at s0.got) _ r s0.next_is in
    let s2 = went (settings_at s1.got.1) _ r s1.next_is in
    let end = went (ended s2.got.1) _ r s2.next_is in
    let t0 = version_took body s0.got all s0.read_is in
    let t1 = text_part.takes s0.got s1.got t0.rest_fits s1.read_is in
    let t2 = settings_part.takes s1.got.1 s2.got t1.rest_fits s2.read_is in
    let made : Network = record { project = project; name = name; description = s1.got.0; config = s2.got.0 } in
    subst (λ (y : Network). (y.project ≡ project) × (y.name ≡ name) × (body ≡ network_bytes y) × FitsNetwork y) (ok_is made r end.next_is) (
      refl,
      refl,
      whole (Takes-then (Takes-then t0 t1) t2) (ended_took s2.got.1 end.got end.read_is),
      record {
        description = text_part.fits s0.got s1.got t0.rest_fits s1.read_is;
        config = settings_part.fits s1.got.1 s2.got t1.rest_fits s2.read_is;
      },
    )

pub network_again : (project name more : List ℕ) (r : Network) → FitsNetwork r → network_in project name (network_bytes r ++ more) ≡ (ended more >>= λ end. Ok (record r { project = project; name = name }))
unfolding network_in
network_again project name more r fits =
    let from_config : List ℕ = settings_bytes r.config ++ more in
    ap (network_in project name) (append_assoc (1 ∷ text_bytes r.description) (settings_bytes r.config) more)
    ∙ rw (text_part.again r.description from_config fits.description, settings_part.again r.config more fits.config) refl

-- ---- pools

pub record FitsPool (r : Pool) : Type 0 where
  pub description : IsText r.description
  pub config : FitsSettings r.config

pub pool_took : (name body : List ℕ) (r : Pool) → IsBytes body → pool_in name body ≡ Ok r → (r.name ≡ name) × (body ≡ pool_bytes r) × FitsPool r
unfolding pool_in
pool_took name body r all e =
    let s0 = went (version_at body) _ r e in
    let s1 = went (code_at driver_of s0.got) _ r s0.next_is in
    let s2 = went (text_at s1.got.1) _ r s1.next_is in
    let s3 = went (settings_at s2.got.1) _ r s2.next_is in
    let end = went (ended s3.got.1) _ r s3.next_is in
    let t0 = version_took body s0.got all s0.read_is in
    let t1 = driver_part.takes s0.got s1.got t0.rest_fits s1.read_is in
    let t2 = text_part.takes s1.got.1 s2.got t1.rest_fits s2.read_is in
    let t3 = settings_part.takes s2.got.1 s3.got t2.rest_fits s3.read_is in
    let made : Pool = record { name = name; driver = s1.got.0; description = s2.got.0; config = s3.got.0 } in
    subst (λ (y : Pool). (y.name ≡ name) × (body ≡ pool_bytes y) × FitsPool y) (ok_is made r end.next_is) (
      refl,
      whole (Takes-then (Takes-then (Takes-then t0 t1) t2) t3) (ended_took s3.got.1 end.got end.read_is),
      record {
        description = text_part.fits s1.got.1 s2.got t1.rest_fits s2.read_is;
        config = settings_part.fits s2.got.1 s3.got t2.rest_fits s3.read_is;
      },
    )

pub pool_again : (name more : List ℕ) (r : Pool) → FitsPool r → pool_in name (pool_bytes r ++ more) ≡ (ended more >>= λ end. Ok (record r { name = name }))
unfolding pool_in
pool_again name more r fits =
    let from_config : List ℕ = settings_bytes r.config ++ more in
    let from_description : List ℕ = text_bytes r.description ++ from_config in
    ap (pool_in name) (append_assoc (1 ∷ driver_byte r.driver ∷ text_bytes r.description) (settings_bytes r.config) more)
    ∙ rw (driver_part.again r.driver from_description tt, text_part.again r.description from_config fits.description, settings_part.again r.config more fits.config) refl

-- ---- volumes

pub record FitsVolume (r : Volume) : Type 0 where
  pub description : IsText r.description
  pub config : FitsSettings r.config
  pub created : IsMoment r.created

pub volume_took : (project pool name body : List ℕ) (r : Volume) → IsBytes body → volume_in project pool name body ≡ Ok r → (r.project ≡ project) × (r.pool ≡ pool) × (r.name ≡ name) × (body ≡ volume_bytes r) × FitsVolume r
unfolding volume_in
volume_took project pool name body r all e =
    let s0 = went (version_at body) _ r e in
    let s1 = went (text_at s0.got) _ r s0.next_is in
    let s2 = went (settings_at s1.got.1) _ r s1.next_is in
    let s3 = went (moment_at s2.got.1) _ r s2.next_is in
    let end = went (ended s3.got.1) _ r s3.next_is in
    let t0 = version_took body s0.got all s0.read_is in
    let t1 = text_part.takes s0.got s1.got t0.rest_fits s1.read_is in
    let t2 = settings_part.takes s1.got.1 s2.got t1.rest_fits s2.read_is in
    let t3 = moment_part.takes s2.got.1 s3.got t2.rest_fits s3.read_is in
    let made : Volume = record { project = project; pool = pool; name = name; description = s1.got.0; config = s2.got.0; created = s3.got.0 } in
    subst (λ (y : Volume). (y.project ≡ project) × (y.pool ≡ pool) × (y.name ≡ name) × (body ≡ volume_bytes y) × FitsVolume y) (ok_is made r end.next_is) (
      refl,
      refl,
      refl,
      whole (Takes-then (Takes-then (Takes-then t0 t1) t2) t3) (ended_took s3.got.1 end.got end.read_is),
      record {
        description = text_part.fits s0.got s1.got t0.rest_fits s1.read_is;
        config = settings_part.fits s1.got.1 s2.got t1.rest_fits s2.read_is;
        created = moment_part.fits s2.got.1 s3.got t2.rest_fits s3.read_is;
      },
    )

pub volume_again : (project pool name more : List ℕ) (r : Volume) → FitsVolume r → volume_in project pool name (volume_bytes r ++ more) ≡ (ended more >>= λ end. Ok (record r { project = project; pool = pool; name = name }))
unfolding volume_in
volume_again project pool name more r fits =
    let from_created : List ℕ = number_bytes r.created ++ more in
    let from_config : List ℕ = settings_bytes r.config ++ from_created in
    ap (volume_in project pool name) (regroup_3 (1 ∷ text_bytes r.description) (settings_bytes r.config) (number_bytes r.created) more)
    ∙ rw (text_part.again r.description from_config fits.description, settings_part.again r.config from_created fits.config, moment_part.again r.created more fits.created) refl

-- ---- instances

pub record FitsInstance (r : Instance) : Type 0 where
  pub description : IsText r.description
  pub origin : IsText r.origin
  pub created : IsMoment r.created
  pub profiles : FitsTexts r.profiles
  pub config : FitsSettings r.config
  pub devices : FitsDevices r.devices

pub instance_took : (project name body : List ℕ) (r : Instance) → IsBytes body → instance_in project name body ≡ Ok r → (r.project ≡ project) × (r.name ≡ name) × (body ≡ instance_bytes r) × FitsInstance r
unfolding instance_in
instance_took project name body r all e =
    let s0 = went (version_at body) _ r e in
    let s1 = went (code_at instance_kind_of s0.got) _ r s0.next_is in
    let s2 = went (code_at boolean_of s1.got.1) _ r s1.next_is in
    let s3 = went (text_at s2.got.1) _ r s2.next_is in
    let s4 = went (text_at s3.got.1) _ r s3.next_is in
    let s5 = went (moment_at s4.got.1) _ r s4.next_is in
    let s6 = went (shape_at s5.got.1) _ r s5.next_is in
    let end = went (ended s6.got.1) _ r s6.next_is in
    let t0 = version_took body s0.got all s0.read_is in
    let t1 = kind_part.takes s0.got s1.got t0.rest_fits s1.read_is in
    let t2 = boolean_part.takes s1.got.1 s2.got t1.rest_fits s2.read_is in
    let t3 = text_part.takes s2.got.1 s3.got t2.rest_fits s3.read_is in
    let t4 = text_part.takes s3.got.1 s4.got t3.rest_fits s4.read_is in
    let t5 = moment_part.takes s4.got.1 s5.got t4.rest_fits s5.read_is in
    let t6 = shape_took s5.got.1 s6.got t5.rest_fits s6.read_is in
    let made : Instance = record { project = project; name = name; kind = s1.got.0; ephemeral = s2.got.0; description = s3.got.0; origin = s4.got.0; created = s5.got.0; profiles = s6.got.0.profiles; config = s6.got.0.config; devices = s6.got.0.devices } in
    subst (λ (y : Instance). (y.project ≡ project) × (y.name ≡ name) × (body ≡ instance_bytes y) × FitsInstance y) (ok_is made r end.next_is) (
      refl,
      refl,
      whole (Takes-then (Takes-then (Takes-then (Takes-then (Takes-then (Takes-then (Takes-then (Takes-then t0 t1) t2) t3) t4) t5) t6.profiles_took) t6.config_took) t6.devices_took) (ended_took s6.got.1 end.got end.read_is),
      record {
        description = text_part.fits s2.got.1 s3.got t2.rest_fits s3.read_is;
        origin = text_part.fits s3.got.1 s4.got t3.rest_fits s4.read_is;
        created = moment_part.fits s4.got.1 s5.got t4.rest_fits s5.read_is;
        profiles = t6.profiles_fit;
        config = t6.config_fits;
        devices = t6.devices_fit;
      },
    )

pub instance_again : (project name more : List ℕ) (r : Instance) → FitsInstance r → instance_in project name (instance_bytes r ++ more) ≡ (ended more >>= λ end. Ok (record r { project = project; name = name }))
unfolding instance_in
instance_again project name more r fits =
    let from_devices : List ℕ = devices_bytes r.devices ++ more in
    let from_config : List ℕ = settings_bytes r.config ++ from_devices in
    let from_profiles : List ℕ = texts_bytes r.profiles ++ from_config in
    let from_created : List ℕ = number_bytes r.created ++ from_profiles in
    let from_origin : List ℕ = text_bytes r.origin ++ from_created in
    let from_description : List ℕ = text_bytes r.description ++ from_origin in
    let from_ephemeral : List ℕ = boolean_byte r.ephemeral ∷ from_description in
    ap (instance_in project name) (regroup_6 (1 ∷ kind_byte r.kind ∷ boolean_byte r.ephemeral ∷ text_bytes r.description) (text_bytes r.origin) (number_bytes r.created) (texts_bytes r.profiles) (settings_bytes r.config) (devices_bytes r.devices) more)
    ∙ rw (kind_part.again r.kind from_ephemeral tt, boolean_part.again r.ephemeral from_description tt, text_part.again r.description from_origin fits.description, text_part.again r.origin from_created fits.origin, moment_part.again r.created from_profiles fits.created, shape_again (record { profiles = r.profiles; config = r.config; devices = r.devices }) more fits.profiles fits.config fits.devices) refl

-- ---- snapshots

pub record FitsSnapshot (r : Snapshot) : Type 0 where
  pub created : IsMoment r.created
  pub expires : IsMoment r.expires
  pub profiles : FitsTexts r.profiles
  pub config : FitsSettings r.config
  pub devices : FitsDevices r.devices

pub snapshot_took : (project instance name body : List ℕ) (r : Snapshot) → IsBytes body → snapshot_in project instance name body ≡ Ok r → (r.project ≡ project) × (r.instance ≡ instance) × (r.name ≡ name) × (body ≡ snapshot_bytes r) × FitsSnapshot r
unfolding snapshot_in
snapshot_took project instance name body r all e =
    let s0 = went (version_at body) _ r e in
    let s1 = went (moment_at s0.got) _ r s0.next_is in
    let s2 = went (moment_at s1.got.1) _ r s1.next_is in
    let s3 = went (shape_at s2.got.1) _ r s2.next_is in
    let end = went (ended s3.got.1) _ r s3.next_is in
    let t0 = version_took body s0.got all s0.read_is in
    let t1 = moment_part.takes s0.got s1.got t0.rest_fits s1.read_is in
    let t2 = moment_part.takes s1.got.1 s2.got t1.rest_fits s2.read_is in
    let t3 = shape_took s2.got.1 s3.got t2.rest_fits s3.read_is in
    let made : Snapshot = record { project = project; instance = instance; name = name; created = s1.got.0; expires = s2.got.0; profiles = s3.got.0.profiles; config = s3.got.0.config; devices = s3.got.0.devices } in
    subst (λ (y : Snapshot). (y.project ≡ project) × (y.instance ≡ instance) × (y.name ≡ name) × (body ≡ snapshot_bytes y) × FitsSnapshot y) (ok_is made r end.next_is) (
      refl,
      refl,
      refl,
      whole (Takes-then (Takes-then (Takes-then (Takes-then (Takes-then t0 t1) t2) t3.profiles_took) t3.config_took) t3.devices_took) (ended_took s3.got.1 end.got end.read_is),
      record {
        created = moment_part.fits s0.got s1.got t0.rest_fits s1.read_is;
        expires = moment_part.fits s1.got.1 s2.got t1.rest_fits s2.read_is;
        profiles = t3.profiles_fit;
        config = t3.config_fits;
        devices = t3.devices_fit;
      },
    )

pub snapshot_again : (project instance name more : List ℕ) (r : Snapshot) → FitsSnapshot r → snapshot_in project instance name (snapshot_bytes r ++ more) ≡ (ended more >>= λ end. Ok (record r { project = project; instance = instance; name = name }))
unfolding snapshot_in
snapshot_again project instance name more r fits =
    let from_devices : List ℕ = devices_bytes r.devices ++ more in
    let from_config : List ℕ = settings_bytes r.config ++ from_devices in
    let from_profiles : List ℕ = texts_bytes r.profiles ++ from_config in
    let from_expires : List ℕ = number_bytes r.expires ++ from_profiles in
    ap (snapshot_in project instance name) (regroup_5 (1 ∷ number_bytes r.created) (number_bytes r.expires) (texts_bytes r.profiles) (settings_bytes r.config) (devices_bytes r.devices) more)
    ∙ rw (moment_part.again r.created from_expires fits.created, moment_part.again r.expires from_profiles fits.expires, shape_again (record { profiles = r.profiles; config = r.config; devices = r.devices }) more fits.profiles fits.config fits.devices) refl
