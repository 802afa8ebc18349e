-- What contracts see of a serial server, and what is true of its fields.
use Rattle.machine_laws.specs.Waits.{IsAlone}
use Rattle.serial_steps.specs.Steps.{Serial, number_in}
use Rattle.serial_steps.specs.declared.serial.SerialDaemon.TheInside.{Inside}

abbrev pub serial_of : Inside → Serial
serial_of serial = record { state = serial.daemon; hand = serial.hand }

-- all live operations wait but for the one whose call is in hand, and that one does not wait
abbrev pub IsAtWork : Inside → Type 0
IsAtWork serial = IsAlone serial.daemon (number_in serial.hand)
