-- What a kept notice tells.
use Rattle.records.specs.declared.notices.Untold.{Untold}
use Rattle.event_hub.specs.declared.slot.Content.{Content}
use Rattle.event_hub.specs.declared.slot.Content.TheVariants as content
use Rattle.event_hub.specs.Telling.{told_by}

abbrev pub content_of : Content → Untold
content_of (content.Whole untold) = untold
content_of (content.Operation at project target) = told_by at project target
