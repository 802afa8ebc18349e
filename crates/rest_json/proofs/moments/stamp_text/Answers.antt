use Rattle.std.proofs.Common.{◌∙◌}
use Rattle.rest_json.proofs.Calendar.{stamp_is}
use Rattle.rest_json.proofs.moments.stamp_text.Goals as goal

pub returns : goal.returns
returns c =
    c.from_string.ensures ∙ c.in_ok-format.ensures.ok
    ∙ stamp_is c.from_parts-civil.result c.date_of-date.result c.time_of-time.result c.args.moment c.from_parts-civil.ensures.date c.from_parts-civil.ensures.time c.date_of-date.ensures
    c.time_of-time.ensures.hour c.time_of-time.ensures.minute c.time_of-time.ensures.second c.time_of-time.ensures.whole
