use Rattle.std.proofs.Common.{refl}
use Rattle.json.specs.Print.{escape_byte}
use Rattle.rest_json.specs.Views.{server_data}
use Rattle.rest_json.proofs.texts.server_text.Goals as goal

pub returns-in-Client : goal.returns-in-Client
unfolding server_data escape_byte
returns-in-Client c = rw c.in-Client.is refl
