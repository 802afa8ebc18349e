use Rattle.rest_routes.proofs.InPlain.{client_asks, plain_asks}
use Rattle.rest_routes.proofs.laws.dialects_ask_in_plain.Goals as goal

pub returns : goal.returns
returns c = record { plain = plain_asks; client = client_asks }
