-- Requests for events, each with the events that it asks for.
use Rattle.std.specs.Prelude.{◌≡◌, ℕ, Bool, true, false, List, [], ◌++◌, Option, Some, None, Result, Ok, Err, codes}
use Rattle.http_heads.specs.declared.request.Request.{Request}
use Rattle.records.specs.declared.notices.Filter.{Filter}
use Rattle.records.specs.declared.refusals.Rule.TheVariants as rule
use Rattle.records.specs.declared.refusals.Refusal.{Refusal}
use Rattle.rest_routes.specs.Refusals.{on_key}
use Rattle.serve_loop.specs.Filters.{filter_of}

-- a GET of this target that asks for the WebSocket protocol by this key
abbrev pub get : List ℕ → List ℕ → Request
get target key = record {
  method = codes "GET";
  target = target;
  body = [];
  last = false;
  expects = false;
  upgrade = Some key;
  origin = false;
  if_match = None;
}

-- lifecycle events or not, operation events or not, and of which project
abbrev pub events : Bool → Bool → List ℕ → Result (Option Filter) Refusal
events life op project = Ok (Some (record { life = life; op = op; project = project }))

-- the filter of a GET of `/1.0/events` with this query and key
abbrev pub filter_for : List ℕ → List ℕ → Result (Option Filter) Refusal
filter_for query key = filter_of (get (codes "/1.0/events" ++ query) key)

-- requests of this key, each with the events that it asks for
pub record AreExamples (key : List ℕ) : Type 0 where
  pub all : filter_for [] key ≡ events true true (codes "default")
  pub operations : filter_for (codes "?type=operation&project=lab") key ≡ events false true (codes "lab")
  pub first_counts : filter_for (codes "?type=lifecycle&type=operation") key ≡ events true false (codes "default")
  pub both : filter_for (codes "?type=operation,lifecycle") key ≡ events true true (codes "default")
  pub other_type : filter_for (codes "?type=logging") key ≡ Err (on_key rule.A3 (codes "type"))
  pub all_projects : filter_for (codes "?all-projects=true") key ≡ Err (on_key rule.A3 (codes "all-projects"))
  pub elsewhere : filter_of (get (codes "/1.0/operations?type=logging") key) ≡ Ok None
