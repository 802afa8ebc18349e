-- Requests that subscribe.
use Rattle.std.proofs.Common.{◌≡◌, ◌&&◌, ℕ, List, Bool, true, false, cond, Option, Some, None, Result, Ok, is_some, refl, sym, subst}
use Rattle.std.specs.Prelude.{codes}
use Rattle.std.specs.Str.{bytes_eq}
use Rattle.http_heads.specs.declared.request.Request.{Request}
use Rattle.records.specs.declared.notices.Filter.{Filter}
use Rattle.records.specs.declared.refusals.Refusal.{Refusal}
use Rattle.rest_routes.specs.Answers.{mapped}
use Rattle.rest_routes.specs.Paths.{path_of, query_of}
use Rattle.rest_routes.specs.Queries.{query_from_text}
use Rattle.rest_routes.specs.declared.query.Query.{Query}
use Rattle.serve_loop.specs.Filters.{filter_from, filter_of}
use Rattle.serve_loop.specs.Subscriptions.{subscribed_by, subscription_of}

-- a request for events has the key of a handshake
has_key : (request : Request) (filter : Filter) → filter_of request ≡ Ok (Some filter)
    → (key : List ℕ) × (request.upgrade ≡ Some key)
unfolding filter_of
has_key request filter is = by (bytes_eq request.method (codes "GET"))
    (bytes_eq (path_of request.target) (codes "/1.0/events")) request.upgrade
    (query_from_text (query_of request.target)) is where
      by : (get events : Bool) (upgrade : Option (List ℕ)) (query : Result Query Refusal)
          → cond (get && events && is_some upgrade) (mapped (λ q. Some (filter_from q)) query) (Ok None)
          ≡ Ok (Some filter)
          → (key : List ℕ) × (upgrade ≡ Some key)
      by get events (Some key) query is = (key, refl)
      by true true None query is = cc
      by true false None query is = cc
      by false events None query is = cc

pub subscribes : (request : Request) (filter : Filter) → filter_of request ≡ Ok (Some filter)
    → (key : List ℕ) × (request.upgrade ≡ Some key)
    × (subscription_of request ≡ Some (record { key = key; filter = filter }))
unfolding subscription_of
subscribes request filter is =
    let has : (key : List ℕ) × (request.upgrade ≡ Some key) = has_key request filter is in (
      has.0,
      has.1,
      subst (λ upgrade. subscribed_by (filter_of request) upgrade ≡ Some (record { key = has.0; filter = filter }))
          (sym has.1)
          (subst (λ answer. subscribed_by answer (Some has.0) ≡ Some (record { key = has.0; filter = filter })) (sym is)
          refl),
    )

pub subscribes_to_nothing : (request : Request) → filter_of request ≡ Ok None → subscription_of request ≡ None
unfolding subscription_of
subscribes_to_nothing request is =
    subst (λ answer. subscribed_by answer request.upgrade ≡ None) (sym is) refl
