-- What the text of a schedule says.
use Rattle.std.specs.Prelude.{ℕ, List, Result, Err, ok_or, length, ◌==◌, if◌then◌else◌}
use Rattle.std.specs.Option.{option_map, option_or}
use Rattle.size_values.specs.declared.fault.ValueFault.{ValueFault}
use Rattle.size_values.specs.declared.fault.ValueFault.TheVariants.{Empty, OutOfRange}
use Rattle.schedule_texts.specs.Fields.{fields_of}
use Rattle.schedule_texts.specs.Aliases.{aliases_of}
use Rattle.schedule_texts.specs.declared.schedule.Schedule.{Schedule}
use Rattle.schedule_texts.specs.declared.schedule.Schedule.TheVariants.{Fields, Aliases}

-- five fields or aliases; the empty text has a fault of its own
unfoldable pub schedule_of : List ℕ → Result Schedule ValueFault
schedule_of text = if length text == 0 then Err Empty
    else ok_or (option_or (option_map Fields (fields_of text)) (option_map Aliases (aliases_of text))) OutOfRange
