use Rattle.std.proofs.Common.{take}
use Rattle.plain_lists.specs.Members.{Each}
use Rattle.records.specs.declared.rows.Profile.{Profile}
use Rattle.records.specs.declared.rows.Row.TheVariants as row
use Rattle.machine_laws.specs.Sorted.{IsSortedRow}
use Rattle.core_turns.proofs.promise.profiles_are_ordered.Given as goal

abbrev pub invariant-loop-profile : goal.invariant-loop-profile
invariant-loop-profile l = Each (λ (r : Profile). IsSortedRow (row.Profile r)) (take l.profile-index l.profiles)
