-- Which troubles a call may tell of.
use Rattle.std.specs.Prelude.{Bool, true, false, nat_lt}
use Rattle.size_values.specs.declared.memory.Or.{Or}
use Rattle.size_values.specs.declared.memory.Or.TheVariants as or
use Rattle.sqlite_keeper.specs.declared.content.Content.{Content}
use Rattle.sqlite_keeper.specs.declared.content.Content.TheVariants as content
use Rattle.sqlite_keeper.specs.declared.content.TheConstants.{VERSION}
use Rattle.sqlite_keeper.specs.declared.trouble.Trouble.{Trouble}
use Rattle.sqlite_keeper.specs.declared.trouble.Trouble.TheVariants as trouble

-- what stands in a database is not said to be of a newer version where it is not
abbrev pub is_well_said : Content → Bool
is_well_said (content.NewerVersion version) = nat_lt VERSION version
is_well_said other = true

-- a file of the first version has the table `records` alone
abbrev pub lacks_version : Content → Bool
lacks_version content.RecordsAlone = true
lacks_version other = false

-- An opening is refused for this: a newer version has a greater number than this one, and nothing was to be written.
abbrev pub is_refusal : Or Trouble → Bool
is_refusal (or.Why (trouble.NewerVersion version)) = nat_lt VERSION version
is_refusal (or.Why trouble.NotLoaded) = false
is_refusal other = true

-- An open file fails for this: its tables were found, and it was loaded.
abbrev pub is_failure : Or Trouble → Bool
is_failure (or.Why trouble.Missing) = false
is_failure (or.Why trouble.AutoVacuum) = false
is_failure (or.Why trouble.OtherTables) = false
is_failure (or.Why (trouble.NewerVersion version)) = false
is_failure (or.Why trouble.NotLoaded) = false
is_failure other = true
