use Rattle.std.specs.Prelude.{ℕ}
use Rattle.size_values.specs.declared.fault.ValueFault.{ValueFault}
use Rattle.size_values.specs.declared.fault.ValueFault.TheVariants.{Empty, BadByte, UnknownSuffix, TooLarge, OutOfRange}

-- the number of a fault, from 1 on, in the order in which faults are answered
abbrev pub fault_number : ValueFault → ℕ
fault_number Empty = 1
fault_number (BadByte place) = 2
fault_number (UnknownSuffix place) = 3
fault_number TooLarge = 4
fault_number OutOfRange = 5
