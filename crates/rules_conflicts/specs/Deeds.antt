-- What contracts see of a deed that is asked for.
use Rattle.std.specs.Prelude.{ℕ, List}
use Rattle.size_values.specs.declared.kinds.Deed.{Deed}
use Rattle.rules_conflicts.specs.declared.powers.Asked.{Asked}

-- the deed, and the name of the instance
abbrev pub deed_of : Asked → Deed × List ℕ
deed_of asked = (asked.deed, asked.name.now)
