use Rattle.std.specs.Prelude.{Bool, true, false, Result, Ok, Err, is_ok}
use Rattle.size_values.specs.declared.kinds.Power.{Power}
use Rattle.size_values.specs.declared.kinds.Power.TheVariants.{Stopped, Running, Frozen, Error}
use Rattle.size_values.specs.declared.kinds.Action.{Action}
use Rattle.size_values.specs.declared.kinds.Action.TheVariants.{Start, Stop, Restart, Freeze, Unfreeze}
use Rattle.size_values.specs.declared.kinds.Deed.{Deed}
use Rattle.size_values.specs.declared.kinds.Deed.TheVariants as deed
use Rattle.instance_states.specs.declared.states.WrongState.{WrongState}

-- the status that an action leads to, from each status that allows it
abbrev pub after_of : Power → Action → Result Power WrongState
after_of Stopped Start = Ok Running
after_of Running Stop = Ok Stopped
after_of Frozen Stop = Ok Stopped
after_of Error Stop = Ok Stopped
after_of Running Restart = Ok Running
after_of Running Freeze = Ok Frozen
after_of Frozen Unfreeze = Ok Running
after_of power action = Err (record {})

-- whether a deed may be done to an instance of this status
abbrev pub is_allowed : Deed → Power → Bool
is_allowed deed.Restore Stopped = true
is_allowed deed.Restore power = false
is_allowed deed.Rename Stopped = true
is_allowed deed.Rename power = false
is_allowed deed.Delete Stopped = true
is_allowed deed.Delete Error = true
is_allowed deed.Delete power = false
is_allowed deed.Snap Error = false
is_allowed deed.Snap power = true
is_allowed (deed.Act action ephemeral) power = is_ok (after_of power action)
is_allowed deed.Create power = true
is_allowed deed.Copy power = true
is_allowed deed.Update power = true
is_allowed deed.Unsnap power = true
is_allowed deed.CopyVolume power = true
