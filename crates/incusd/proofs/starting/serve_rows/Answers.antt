use denote.Param.Send.{sendable}
use Rattle.incusd.proofs.Sent.{log_send, told_send}
use Rattle.incusd.proofs.starting.serve_rows.Goals as goal

pub serve_over-status-requires-send-R : goal.serve_over-status-requires-send-R
serve_over-status-requires-send-R g c κs within = search (sendable, told_send) depth 9

pub serve_over-status-requires-send-O : goal.serve_over-status-requires-send-O
serve_over-status-requires-send-O g c κs within = search (sendable, log_send) depth 9
