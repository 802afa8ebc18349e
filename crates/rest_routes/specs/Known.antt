-- A request whose reply depends on no row.
use Rattle.std.specs.Prelude.{Bool, ◌&&◌, None, is_none, codes}
use Rattle.std.specs.Str.{bytes_eq}
use Rattle.http_heads.specs.declared.request.Request.{Request}
use Rattle.records.specs.declared.commands.Command.{Command}
use Rattle.records.specs.declared.commands.What.TheVariants as what

-- it is GET /1.0, without a query and without an If-Match
abbrev pub is_server_asked : Request → Bool
is_server_asked request =
    bytes_eq request.method (codes "GET") && bytes_eq request.target (codes "/1.0") && is_none request.if_match

-- what it asks for
abbrev pub server_asked : Command
server_asked = record { project = codes "default"; what = what.Server; expects = None }
