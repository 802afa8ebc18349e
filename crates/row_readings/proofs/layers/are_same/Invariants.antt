use Rattle.std.proofs.Common.{◌≡◌, take}
use Rattle.row_readings.proofs.layers.are_same.Given as goal

abbrev pub invariant-loop-place : goal.invariant-loop-place
invariant-loop-place l = take l.place l.texts ≡ take l.place l.others
