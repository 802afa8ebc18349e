use Rattle.std.proofs.Common.{refl}
use Rattle.std.specs.Fmt.{digits}
use Rattle.json.specs.Print.{escape_byte}
use Rattle.uuid.specs.Text.{by_index}
use Rattle.jiff_fmt.specs.Text.{places}
use Rattle.rest_json.specs.Ids.{high_half, low_half, id_bytes, id_text}
use Rattle.rest_json.specs.Moments.{year_of, year_at, month_of, month_at, date_text, time_text, stamp_text, moment_text}
use Rattle.rest_json.specs.Operations.{resources_data, operation_data}
use Rattle.rest_replies.specs.Notices.{life_data, notice_data, notice_text}
use Rattle.serve_loop.proofs.frame_laws.notices_by_example.Goals as goal

pub returns : goal.returns
unfolding life_data notice_data notice_text resources_data operation_data digits escape_byte by_index places high_half low_half id_bytes id_text year_of year_at month_of month_at date_text time_text stamp_text moment_text
returns c = record { lifecycle = refl; operation = refl }
