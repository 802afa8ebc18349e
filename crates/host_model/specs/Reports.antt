use Rattle.std.specs.Prelude.{◌≡◌, ℕ, List, Option}
use Rattle.std.specs.Option.{option_map}
use Rattle.host_model.specs.declared.root.HostRoot.{HostRoot}
use Rattle.host_model.specs.declared.call.HostCall.{HostCall}
use Rattle.host_model.specs.declared.report.Report.{Report}
use Rattle.host_model.specs.declared.report.Report.TheVariants.{Done, Failed, NoMemory}
use Rattle.host_model.specs.Effects.{effect_of}

-- the roots that a host shows after a call of this report: those of the effect where it was done, and else as they were
abbrev pub roots_after : Report → HostCall → Option (List HostRoot) → Option (List HostRoot)
roots_after Done call contents = option_map (effect_of call) contents
roots_after (Failed rise) call contents = contents
roots_after NoMemory call contents = contents

-- a failed report carries the counts before and after
abbrev pub CarriesCounts : Report → ℕ → ℕ → Type 0
CarriesCounts Done before after = Unit {0}
CarriesCounts (Failed rise) before after = (rise.before ≡ before) × (rise.after ≡ after)
CarriesCounts NoMemory before after = Unit {0}
