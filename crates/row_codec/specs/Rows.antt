-- Which rows have a spelling, and what it means that an entry spells a row.
use Rattle.std.specs.Prelude.{◌≡◌, ℕ, true, List}
use Rattle.std.specs.Str.{IsUtf8}
use Rattle.size_values.specs.declared.kinds.ObjectKind.{ObjectKind}
use Rattle.size_values.specs.declared.kinds.ObjectKind.TheVariants as kind
use Rattle.size_values.specs.declared.entry.Entry.{Entry}
use Rattle.estate_rules.specs.Names.{good_name_of}
use Rattle.records.specs.declared.rows.Row.{Row}
use Rattle.records.specs.declared.rows.Row.TheVariants as row
use Rattle.row_codec.specs.Spelling.{entry_of}
pub use Rattle.row_codec.specs.Parts.{
  IsMoment,
  IsShort,
  AreShortTexts,
  AreShortSettings,
  AreShortDevices,
  AreUtf8,
  AreTypedSettings,
  AreTypedDevices,
}

-- ---- its key

-- a name that an object of this kind may get
abbrev pub IsGood : ObjectKind → List ℕ → Type 0
IsGood kind name = good_name_of kind name ≡ true

-- each part of the key is a good name of its kind
abbrev pub HasGoodKey : Row → Type 0
HasGoodKey (row.Project project) = IsGood kind.Project project.name
HasGoodKey (row.Profile profile) = IsGood kind.Project profile.project × IsGood kind.Profile profile.name
HasGoodKey (row.Network network) = IsGood kind.Project network.project × IsGood kind.Network network.name
HasGoodKey (row.Pool pool) = IsGood kind.Pool pool.name
HasGoodKey (row.Volume volume) =
    IsGood kind.Project volume.project × IsGood kind.Pool volume.pool × IsGood kind.Volume volume.name
HasGoodKey (row.Instance instance) = IsGood kind.Project instance.project × IsGood kind.Instance instance.name
HasGoodKey (row.Snapshot snapshot) = IsGood kind.Project snapshot.project × IsGood kind.Instance snapshot.instance
    × IsGood kind.Snapshot snapshot.name

-- ---- its moments

-- each moment lies below the bound
abbrev pub HasMoments : Row → Type 0
HasMoments (row.Project project) = Unit {0}
HasMoments (row.Profile profile) = Unit {0}
HasMoments (row.Network network) = Unit {0}
HasMoments (row.Pool pool) = Unit {0}
HasMoments (row.Volume volume) = IsMoment volume.created
HasMoments (row.Instance instance) = IsMoment instance.created
HasMoments (row.Snapshot snapshot) = IsMoment snapshot.created × IsMoment snapshot.expires

-- ---- its lengths

-- each text and each list is short
abbrev pub HasShortParts : Row → Type 0
HasShortParts (row.Project project) = IsShort project.description × AreShortSettings project.config
HasShortParts (row.Profile profile) =
    IsShort profile.description × AreShortSettings profile.config × AreShortDevices profile.devices
HasShortParts (row.Network network) = IsShort network.description × AreShortSettings network.config
HasShortParts (row.Pool pool) = IsShort pool.description × AreShortSettings pool.config
HasShortParts (row.Volume volume) = IsShort volume.description × AreShortSettings volume.config
HasShortParts (row.Instance instance) =
    IsShort instance.description × IsShort instance.origin × AreShortTexts instance.profiles
    × AreShortSettings instance.config × AreShortDevices instance.devices
HasShortParts (row.Snapshot snapshot) =
    AreShortTexts snapshot.profiles × AreShortSettings snapshot.config × AreShortDevices snapshot.devices

-- ---- what each row of the program has by its type

-- texts are UTF-8, keys of settings and names of devices rise, and no key or value of a setting is empty
abbrev pub HasTypedParts : Row → Type 0
HasTypedParts (row.Project project) = IsUtf8 project.description × AreTypedSettings project.config
HasTypedParts (row.Profile profile) =
    IsUtf8 profile.description × AreTypedSettings profile.config × AreTypedDevices profile.devices
HasTypedParts (row.Network network) = IsUtf8 network.description × AreTypedSettings network.config
HasTypedParts (row.Pool pool) = IsUtf8 pool.description × AreTypedSettings pool.config
HasTypedParts (row.Volume volume) = IsUtf8 volume.description × AreTypedSettings volume.config
HasTypedParts (row.Instance instance) =
    IsUtf8 instance.description × IsUtf8 instance.origin × AreUtf8 instance.profiles
    × AreTypedSettings instance.config × AreTypedDevices instance.devices
HasTypedParts (row.Snapshot snapshot) =
    AreUtf8 snapshot.profiles × AreTypedSettings snapshot.config × AreTypedDevices snapshot.devices

-- ---- what has a spelling

-- a row that can be kept
pub record IsRow (row : Row) : Type 0 where
  pub keyed : HasGoodKey row
  pub timely : HasMoments row
  pub short : HasShortParts row
  pub typed : HasTypedParts row

-- the entry is the spelling of this row
pub record Spells (spelled : Row) (spelling : Entry) : Type 0 where
  pub row : IsRow spelled
  pub entry : spelling ≡ entry_of spelled
