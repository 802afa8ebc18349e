use Rattle.std.specs.Prelude.{◌≡◌, length}
use Rattle.file_disk.specs.Headers.{fresh_file, is_begun}
use Rattle.file_disk.proofs.header.is_begun.Given as goal

-- what is left of both decides
abbrev pub invariant-loop-left : goal.invariant-loop-left
invariant-loop-left l = is_begun l.fresh l.left ≡ is_begun fresh_file l.bytes

abbrev pub decreases-loop-left : goal.decreases-loop-left
decreases-loop-left l = length l.left
