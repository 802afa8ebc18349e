-- What counts for limits is small, so that sums of it stay in range.
use Rattle.std.specs.Prelude.{◌<◌, ◌^◌, List, All}
use Rattle.size_values.specs.Amounts.{part}
use Rattle.size_values.specs.declared.amounts.Part.{Part}
use Rattle.row_machine.specs.machine.Usage.{Load}

-- no part of it reaches 2^63, as no value of a setting does, nor does what is on a pool
pub record IsSmall (load : Load) : Type 0 where
  pub parts : (a_part : Part) → part a_part load.amounts < 2 ^ 63
  pub on : load.on.disk < 2 ^ 63

-- the same of each
abbrev pub AreSmall : List Load → Type 0
AreSmall loads = All IsSmall loads
