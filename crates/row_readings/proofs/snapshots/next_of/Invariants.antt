use Rattle.std.proofs.Common.{◌≡◌, fold, filter, if◌then◌else◌, false, take}
use Rattle.std.specs.Str.{bytes_eq}
use Rattle.instance_states.specs.Numbers.{seen, unseen}
use Rattle.row_readings.proofs.snapshots.next_of.Given as goal

abbrev pub invariant-loop-snapshot : goal.invariant-loop-snapshot
invariant-loop-snapshot l =
    l.numbers ≡ fold (λ numbers r. seen r.name numbers) (unseen l.pattern)
    (filter (λ r. if bytes_eq r.project l.row.project then bytes_eq r.instance l.row.name else false) (take l.snapshot-index l.snapshots))
