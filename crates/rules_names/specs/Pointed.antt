-- What contracts see of a place: the target of its kind and names.
use Rattle.std.specs.Prelude.{ℕ, ◌&&◌, Bool, List}
use Rattle.std.specs.Str.{bytes_eq}
use Rattle.records.specs.declared.commands.Target.{Target}
use Rattle.rules_names.specs.declared.target_refs.TargetRef.{TargetRef}

-- the target
abbrev pub target_at : TargetRef → Target
target_at place =
    record { kind = place.kind; pool = place.pool.now; instance = place.instance.now; name = place.name.now }

-- whether an object has these names
abbrev pub has_names : List ℕ → List ℕ → List ℕ → Target → Bool
has_names pool instance name of = bytes_eq pool of.pool && bytes_eq instance of.instance && bytes_eq name of.name
