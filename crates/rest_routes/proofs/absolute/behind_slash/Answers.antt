use Rattle.std.proofs.Common.{arith}
use Rattle.std.proofs.lemmas.Str.Pattern.{strip_prefix_char}
use Rattle.rest_routes.proofs.Hosts.{behind}
use Rattle.rest_routes.proofs.absolute.behind_slash.Goals as goal

pub returns : goal.returns
returns c = behind c.args.text.now c.strip_prefix.result
    (strip_prefix_char 47 c.args.text.now c.strip_prefix.result c.strip_prefix.ensures.cases (omega arith))
