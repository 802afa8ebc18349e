use Rattle.std.specs.Prelude.{Bool, true, false, Result, Ok, Err, if◌then◌else◌}
use Rattle.operations.specs.declared.status.Status.{Status}
use Rattle.operations.specs.declared.status.Status.TheVariants.{Pending, Running, Cancelling, Success, Failure}
use Rattle.operations.specs.declared.status.Status.TheVariants.{Cancelled}
use Rattle.operations.specs.declared.faults.CancelFault.{CancelFault}
use Rattle.operations.specs.declared.faults.CancelFault.TheVariants.{Ended, Fixed, Already}

-- whether an operation of this status has not ended
abbrev pub is_live : Status → Bool
is_live Pending = true
is_live Running = true
is_live Cancelling = true
is_live Success = false
is_live Failure = false
is_live Cancelled = false

-- whether it waits for its first call
abbrev pub is_pending : Status → Bool
is_pending Pending = true
is_pending Running = false
is_pending Cancelling = false
is_pending Success = false
is_pending Failure = false
is_pending Cancelled = false

-- What a cancel makes of an operation that may be cancelled or not, by its status. One that waits ends at once; one
-- that runs goes on to its undoing.
abbrev pub cancel_of : Bool → Status → Result Status CancelFault
cancel_of may_cancel Pending = if may_cancel then Ok Cancelled else Err Fixed
cancel_of may_cancel Running = if may_cancel then Ok Cancelling else Err Fixed
cancel_of may_cancel Cancelling = if may_cancel then Err Already else Err Fixed
cancel_of may_cancel Success = Err (Ended Success)
cancel_of may_cancel Failure = Err (Ended Failure)
cancel_of may_cancel Cancelled = Err (Ended Cancelled)
