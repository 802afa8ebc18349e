-- What is done for each command, by what it asks for.
use Rattle.records.specs.declared.commands.What.{What}
use Rattle.records.specs.declared.commands.What.TheVariants as what
use Rattle.core_instances.specs.declared.ways.Way.{Way}
use Rattle.core_instances.specs.declared.ways.Way.TheVariants as way

-- a read is answered, a cancel is made, a PATCH changes a row at once, and all else begins in the background
abbrev pub way_of : What → Way
way_of what.Root = way.Read
way_of what.Server = way.Read
way_of (what.List of recursion) = way.Read
way_of (what.Get of) = way.Read
way_of (what.State of) = way.Read
way_of (what.GetOp op) = way.Read
way_of (what.Wait op timeout) = way.Read
way_of (what.Cancel op) = way.Cancel op
way_of (what.Patch of body) = way.Change
way_of other = way.Begin
