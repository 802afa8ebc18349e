use Rattle.rest_routes.proofs.FormedCommands.{formed_due}
use Rattle.rest_routes.proofs.router.Router.route.Goals as goal

pub returns-clause-formed : goal.returns-clause-formed
returns-clause-formed c = formed_due _ c.args.request.now c.args.terms c.command_of.ensures
