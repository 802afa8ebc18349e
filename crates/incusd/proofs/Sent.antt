-- A keeper that is told of may go to another thread, and so may a log of requests.
use denote.Param.Send.{IsSend, sendable}
use denote.Param.SendFields.{declared_send}
use Rattle.program_start.proofs.Sent.{rows_send}
use Rattle.serving.proofs.stop.Stop.TheSendSync as stop_crosses
use Rattle.incusd.specs.contracts.alarm.Alarm as alarm
use Rattle.incusd.specs.contracts.request_log.RequestLog as log
use Rattle.incusd.specs.contracts.told_keeper.ToldKeeper as told

-- its alarm
alarm_send : IsSend alarm.the_row
alarm_send = declared_send alarm.the_type (
  search (sendable, stop_crosses.the_send) depth 9,
  (search (sendable, stop_crosses.the_send) depth 9, tt),
)

pub told_send : IsSend told.the_row
told_send = declared_send told.the_type (
  search sendable depth 9,
  (
    search (sendable, rows_send) depth 9,
    (search sendable depth 9, (search sendable depth 9, (search (sendable, alarm_send) depth 9, tt))),
  ),
)

pub log_send : IsSend log.the_row
log_send = declared_send log.the_type (
  search sendable depth 9,
  (search sendable depth 9, (search sendable depth 9, (search sendable depth 9, (search sendable depth 9, tt)))),
)
