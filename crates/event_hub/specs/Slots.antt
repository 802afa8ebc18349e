-- What a kept notice is seen as.
use Rattle.records.specs.declared.notices.Notice.{Notice}
use Rattle.event_hub.specs.declared.slot.Slot.TheInside.{Inside}
use Rattle.event_hub.specs.Contents.{content_of}
use Rattle.event_hub.specs.Recent.{numbered}

-- what it tells, under its number
abbrev pub notice_in : Inside → Notice
notice_in slot = numbered slot.number (content_of slot.content)
