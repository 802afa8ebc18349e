use Rattle.std.specs.Prelude.{List}
use Rattle.size_values.specs.Calls.{Calls}
use Rattle.host_model.specs.declared.root.HostRoot.{HostRoot}

-- what the modelled host holds: its roots, and its calls so far
pub record Modelled : Type 0 where
  pub roots : List HostRoot
  pub calls : Calls
