-- The count of failures of a keeper is the sum of three.
use Rattle.std.proofs.Common.{ℕ, ◌≤◌, Option, Some, None, List, IfSome, Result, Ok, Err, refl, arith}
use Rattle.size_values.specs.CallCounts.{CountsFailure}
use Rattle.size_values.specs.Calls.{last_number}
use Rattle.size_values.specs.declared.memory.Or.{Or}
use Rattle.size_values.specs.declared.memory.Or.TheVariants as or
use Rattle.record_keeper.specs.declared.keeper.KeeperFailed.{KeeperFailed}
use Rattle.journal_keeper.specs.Chain.{HasBadRecord}
use Rattle.journal_keeper.specs.Keeping.{CountsLoad, CountsBad, bad_after, faults_of}

-- a call that the disk counts
pub counts_disk : {T E : Type 0} (before now bad refused : ℕ) (result : Result T (Or E)) → CountsFailure before now result → CountsFailure (faults_of before bad refused) (faults_of now bad refused) result
counts_disk before now bad refused (Ok value) is = omega (arith, is)
counts_disk before now bad refused (Err or.NoMemory) is = omega (arith, is)
counts_disk before now bad refused (Err (or.Why why)) is = (omega (arith, is.0, is.1), omega (arith, is.0, is.1))

pub counts_load : {T E : Type 0} (before now bad_loads refused : ℕ) (bad : Option ℕ) (result : Result T (Or E)) → bad_loads ≤ last_number → CountsLoad before now bad result
    → CountsFailure (faults_of before bad_loads refused) (faults_of now (bad_after bad_loads bad) refused) result
counts_load before now bad_loads refused None result le is = counts_disk before now bad_loads refused result is
counts_load before now bad_loads refused (Some place) (Ok value) le is = absurd is
counts_load before now bad_loads refused (Some place) (Err or.NoMemory) le is = absurd is
counts_load before now bad_loads refused (Some place) (Err (or.Why why)) le is = (omega (arith, is, le), omega (arith, is, le))

pub counts_bad : {T : Type 0} (contents : Option (List ℕ)) (before now bad_loads : ℕ) (bad : Option ℕ) (result : Result T (Or KeeperFailed)) → CountsLoad before now bad result
    → IfSome bad (λ place. IfSome contents (λ file. HasBadRecord file place)) → CountsBad contents bad_loads (bad_after bad_loads bad) bad result
counts_bad contents before now bad_loads None result is bad = refl
counts_bad contents before now bad_loads (Some place) (Ok value) is bad = absurd is
counts_bad contents before now bad_loads (Some place) (Err or.NoMemory) is bad = absurd is
counts_bad contents before now bad_loads (Some place) (Err (or.Why why)) is bad = (refl, bad, tt)
