-- The fault of a key, told of settings or of a device.
use Rattle.option_tables.specs.declared.faults.SettingFault.{SettingFault}
use Rattle.option_tables.specs.declared.faults.SettingFault.TheVariants as setting
use Rattle.option_tables.specs.declared.faults.DeviceFault.{DeviceFault}
use Rattle.option_tables.specs.declared.faults.DeviceFault.TheVariants as device
use Rattle.option_tables.specs.declared.faults.KeyFault.{KeyFault}
use Rattle.option_tables.specs.declared.faults.KeyFault.TheVariants as key

-- of settings
abbrev pub setting_fault : KeyFault → SettingFault
setting_fault (key.Unknown place) = setting.Unknown place
setting_fault (key.Bad place why) = setting.Bad place why

-- of a device
abbrev pub key_fault : KeyFault → DeviceFault
key_fault (key.Unknown place) = device.UnknownKey place
key_fault (key.Bad place why) = device.BadValue place why
