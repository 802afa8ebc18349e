-- Where there is no filter.
use Rattle.std.proofs.Common.{◌≡◌, Bool, true, false, cond, Some, None, Result, Ok, Err, refl}
use Rattle.std.specs.Prelude.{◌↔◌}
use Rattle.http_heads.specs.declared.request.Request.{Request}
use Rattle.records.specs.declared.refusals.Refusal.{Refusal}
use Rattle.rest_routes.specs.Answers.{mapped}
use Rattle.rest_routes.specs.Paths.{query_of}
use Rattle.rest_routes.specs.Queries.{query_from_text}
use Rattle.rest_routes.specs.declared.query.Query.{Query}
use Rattle.serve_loop.specs.Filters.{asks_events, filter_from, filter_of}

pub none_where_none : (request : Request) → (filter_of request ≡ Ok None) ↔ (asks_events request ≡ false)
unfolding filter_of
none_where_none request = by (asks_events request) (query_from_text (query_of request.target))
  where
    by : (asks : Bool) (query : Result Query Refusal)
        → (cond asks (mapped (λ q. Some (filter_from q)) query) (Ok None) ≡ Ok None) ↔ (asks ≡ false)
    by false query = (λ e. refl, λ e. refl)
    by true (Ok q) = (λ e. cc, λ e. cc)
    by true (Err refusal) = (λ e. cc, λ e. cc)
