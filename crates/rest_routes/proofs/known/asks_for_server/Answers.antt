use Rattle.std.proofs.Common.{sym, ◌∙◌}
use Rattle.rest_routes.proofs.ByGet.{known}
use Rattle.rest_routes.proofs.known.asks_for_server.Goals as goal

pub returns-clause-command : goal.returns-clause-command
returns-clause-command c = λ told terms. known c.args.request.now terms (sym c.is_server_asked.ensures ∙ told)
