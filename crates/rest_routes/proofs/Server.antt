-- The server stands at one path, where GET alone is offered, and a target without a query says nothing more.
use Rattle.std.proofs.Common.{◌≡◌, [], Some, Ok, refl, codes}
use Rattle.form_urlencoded.specs.Form.{split, raw_pairs}
use Rattle.matchit.proofs.OnLiterals.{matchit_on_literals}
use Rattle.rest_routes.specs.Endpoints.{routes, rows, line_of, server_line}
use Rattle.rest_routes.specs.Queries.{no_query, query_from_text}

pub server-stands : line_of (codes "/1.0") ≡ Some server_line
unfolding matchit_on_literals routes rows line_of
server-stands = refl

pub nothing-said : query_from_text [] ≡ Ok no_query
unfolding query_from_text split raw_pairs
nothing-said = refl
