-- Words for tables of cases.
use Prim.Native.String.{String}
use Rattle.std.specs.Prelude.{◌≡◌, ℕ, List, [], map, codes}
use Rattle.config_lists.specs.Devices.{NamedDevices}
use Rattle.config_lists.specs.Entries.{replaced}
use Rattle.config_lists.specs.Settings.{Settings}

-- in each row what is answered is what is wanted
abbrev pub Agree : {Row Answer : Type 0} → (Row → Answer) → (Row → Answer) → List Row → Type 0
Agree answered wanted rows = map answered rows ≡ map wanted rows

-- the same of rows that end in what is wanted
abbrev pub Gives : {Case Answer : Type 0} → (Case → Answer) → List (Case × Answer) → Type 0
Gives answered rows = map (λ row. answered row.0) rows ≡ map (λ row. row.1) rows

-- a key and its value
abbrev pub entry : String → String → List ℕ × List ℕ
entry key value = (codes key, codes value)

-- the settings that are set in this order
abbrev pub settings : List (List ℕ × List ℕ) → Settings
settings rows = replaced [] rows

-- the devices that are put in this order
abbrev pub devices : NamedDevices → NamedDevices
devices rows = replaced [] rows
