use Rattle.std.proofs.Common.{ℕ, ◌+◌, ◌*◌, ◌/◌, ◌%◌, Option, Some, ◌∙◌, ap, arith}
use Rattle.schedule_texts.specs.Expires.{later_day}
use Rattle.snapshot_clock.specs.Days.{if_day}
use Rattle.snapshot_clock.proofs.Calendar.{expires_then, expires_never, expires_beyond}
use Rattle.snapshot_clock.proofs.expiry.expires_at.Goals as goal

pub returns-in_default : goal.returns-in_default
returns-in_default c =
    expires_beyond c.args.created c.args.expiry.now
    (c.in_default.ensures ∙ ap (λ (months : ℕ). if_day (later_day months (c.args.created / 86400))) c.months_in.ensures)

pub returns-then-end-lt-MOMENT_LIMIT : goal.returns-then-end-lt-MOMENT_LIMIT
returns-then-end-lt-MOMENT_LIMIT c =
    let end : ℕ → Option ℕ = λ seconds. Some (c.in-Some.day * 86400 + c.args.created % 86400 + seconds) in
    ap end c.seconds_in.ensures.seconds
    ∙ expires_then c.args.created c.in-Some.day c.args.expiry.now
    (c.in-Some.ensures ∙ ap (λ (months : ℕ). if_day (later_day months (c.args.created / 86400))) c.months_in.ensures)
    (omega (arith, c.seconds_in.ensures.seconds, c.if-end-lt-MOMENT_LIMIT.true))

pub returns-else-end-lt-MOMENT_LIMIT : goal.returns-else-end-lt-MOMENT_LIMIT
returns-else-end-lt-MOMENT_LIMIT c =
    expires_never c.args.created c.in-Some.day c.args.expiry.now
    (c.in-Some.ensures ∙ ap (λ (months : ℕ). if_day (later_day months (c.args.created / 86400))) c.months_in.ensures)
    (omega (arith, c.seconds_in.ensures.seconds, c.if-end-lt-MOMENT_LIMIT.false))
