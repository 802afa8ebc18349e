use Rattle.std.proofs.Common.{refl}
use Rattle.std.specs.Fmt.{digits}
use Rattle.json.specs.Print.{escape_byte}
use Rattle.http_front.specs.Replies.{reply_text}
use Rattle.rest_json.specs.Views.{server_data}
use Rattle.rest_replies.specs.Replies.{printed_of, success_data}
use Rattle.rest_replies.proofs.known.server_text.Goals as goal

pub returns-in-Plain : goal.returns-in-Plain
unfolding printed_of reply_text success_data server_data digits escape_byte
returns-in-Plain c = rw c.in-Plain.is refl

pub returns-in-Client : goal.returns-in-Client
unfolding printed_of reply_text success_data server_data digits escape_byte
returns-in-Client c = rw c.in-Client.is refl
