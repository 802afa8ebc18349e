use Rattle.std.proofs.Common.{take}
use Rattle.plain_lists.specs.Members.{Each}
use Rattle.machine_laws.specs.Openings.{HasBytes}
use Rattle.core_rows.proofs.kept_rows.have_bytes.Given as goal

-- those before have bytes
abbrev pub invariant-loop-entry : goal.invariant-loop-entry
invariant-loop-entry l = Each HasBytes (take l.entry-index l.entries)
