-- A disk that tells nothing of its contents: a crash may leave anything.
use Rattle.std.specs.Prelude.{ℕ, None}
use Rattle.disk_model.specs.Disk.{DiskState}

abbrev pub silent_disk : ℕ → DiskState
silent_disk failures = record {
  contents = None;
  moment = 0;
  may_leave = λ left. Unit {0};
  left_since = λ since left. Unit {0};
  failures = failures;
}
