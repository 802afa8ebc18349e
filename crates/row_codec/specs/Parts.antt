-- What parts of rows have: moments below the bound, lengths that fit, and what the types of the program give.
use Rattle.std.specs.Prelude.{ℕ, ◌<◌, ◌^◌, List, length}
use Rattle.std.specs.List.{AllByRecursion}
use Rattle.std.specs.Str.{IsUtf8}
use Rattle.size_values.specs.Moments.{moment_limit}
use Rattle.config_lists.specs.Settings.{Settings, IsConfig}
use Rattle.config_lists.specs.Devices.{NamedDevices, IsDevices}

-- ---- moments

-- a second before the end of the year 9999
abbrev pub IsMoment : ℕ → Type 0
IsMoment moment = moment < moment_limit

-- ---- lengths

-- a text or a list whose length fits four bytes
abbrev pub IsShort : {X : Type 0} → List X → Type 0
IsShort items = length items < 2 ^ 32

-- the list is short, and each text
abbrev pub AreShortTexts : List (List ℕ) → Type 0
AreShortTexts texts = IsShort texts × AllByRecursion IsShort texts

-- the list is short, and each key and value
abbrev pub AreShortSettings : Settings → Type 0
AreShortSettings settings =
    IsShort settings × AllByRecursion (λ setting. IsShort setting.0 × IsShort setting.1) settings

-- the list is short, and each name and the settings of each device
abbrev pub AreShortDevices : NamedDevices → Type 0
AreShortDevices devices =
    IsShort devices × AllByRecursion (λ device. IsShort device.0 × AreShortSettings device.1) devices

-- ---- what each part of the program has by its type

-- each text is UTF-8
abbrev pub AreUtf8 : List (List ℕ) → Type 0
AreUtf8 texts = AllByRecursion IsUtf8 texts

-- keys rise, no key or value is empty, and each is UTF-8
abbrev pub AreTypedSettings : Settings → Type 0
AreTypedSettings settings = IsConfig settings × AllByRecursion (λ setting. IsUtf8 setting.0 × IsUtf8 setting.1) settings

-- names rise, and each name and all settings are as they are by their types
abbrev pub AreTypedDevices : NamedDevices → Type 0
AreTypedDevices devices =
    IsDevices devices × AllByRecursion (λ device. IsUtf8 device.0 × AreTypedSettings device.1) devices
