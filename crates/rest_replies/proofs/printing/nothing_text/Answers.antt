use Rattle.std.proofs.Common.{refl}
use Rattle.std.specs.Fmt.{digits}
use Rattle.json.specs.Print.{escape_byte}
use Rattle.rest_replies.proofs.printing.nothing_text.Goals as goal

pub returns-in-Plain : goal.returns-in-Plain
returns-in-Plain c = rw c.in-Plain.is refl

pub returns-in-Client : goal.returns-in-Client
unfolding digits escape_byte
returns-in-Client c = rw c.in-Client.is refl
