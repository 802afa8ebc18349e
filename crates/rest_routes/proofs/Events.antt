-- Events stand at one path.
use Rattle.std.proofs.Common.{◌≡◌, ℕ, Bool, true, false, not, ◌||◌, ◌&&◌, List, [], ◌∷◌, Option, Some, None, option_map, inl, inr, refl, sym, ap, ap₂, ◌∙◌, codes}
use Rattle.std.specs.Str.{bytes_eq}
use Rattle.std.proofs.lemmas.Slice.Eq.{bytes_eq-Decides}
use Rattle.matchit.proofs.OnLiterals.{matchit_on_literals}
use Rattle.matchit.specs.Level.{IsText}
use Rattle.matchit.specs.Router.{RouteOf}
use Rattle.matchit.specs.Rows.{RowsOf}
use Rattle.matchit.specs.Seek.{first}
use Rattle.rest_routes.specs.Filled.{filled, names_in}
use Rattle.rest_routes.specs.Endpoints.{routes, rows, line_of, EventsStandAtOnePath}
use Rattle.rest_routes.specs.declared.endpoints.Line.{Line}
use Rattle.rest_routes.specs.declared.endpoints.Endpoint.{Endpoint}
use Rattle.rest_routes.specs.declared.endpoints.Endpoint.TheVariants as endpoint
use Rattle.rest_routes.proofs.Matching.{In, sound}
use Rattle.rest_routes.proofs.Names.{names-fill}

abbrev is_events : Endpoint → Bool
is_events endpoint.Events = true
is_events other = false

-- a line of events has their pattern
abbrev is_right : RouteOf Line → Bool
is_right route = not (is_events route.value.endpoint) || bytes_eq route.pattern (codes "/1.0/events")

abbrev are_right : RowsOf (RouteOf Line) → Bool
are_right [] = true
are_right ((t, route) ∷ more) = is_right route && are_right more

rows-right : are_right rows ≡ true
unfolding matchit_on_literals routes rows
rows-right = refl

both : (a b : Bool) → (a && b) ≡ true → (a ≡ true) × (b ≡ true)
both true true e = (refl, refl)
both true false e = cc
both false b e = cc

row-right : (all : RowsOf (RouteOf Line)) → are_right all ≡ true → (t : List ℕ) (route : RouteOf Line) → In t route all → is_right route ≡ true
row-right [] right t route h = absurd h
row-right ((u, k) ∷ more) right t route (inl h) = ap is_right (sym h.1) ∙ (both (is_right k) (are_right more) right).0
row-right ((u, k) ∷ more) right t route (inr h) = row-right more (both (is_right k) (are_right more) right).1 t route h

pattern-is : (route : RouteOf Line) → is_right route ≡ true → route.value.endpoint ≡ endpoint.Events → route.pattern ≡ codes "/1.0/events"
pattern-is route right is =
    (bytes_eq-Decides route.pattern (codes "/1.0/events")).0 (sym (ap (λ p. not (is_events p) || bytes_eq route.pattern (codes "/1.0/events")) is) ∙ right)

path-is : (path : List ℕ) (route : RouteOf Line) → IsText path → first rows path ≡ Some route → route.value.endpoint ≡ endpoint.Events
    → path ≡ codes "/1.0/events"
path-is path route text e is =
    let found = sound path 0 rows route text e in
    let pattern = pattern-is route (row-right rows rows-right found.pattern route found.there) is in
    names-fill path route text e ∙ ap₂ (λ t p. filled t (names_in p path)) pattern is

stand-there : option_map (λ line. line.endpoint) (line_of (codes "/1.0/events")) ≡ Some endpoint.Events
unfolding matchit_on_literals routes rows line_of
stand-there = refl

pub events-stand : EventsStandAtOnePath
unfolding line_of
events-stand path text = (by (first rows path) refl, λ is. ap (λ p. option_map (λ line. line.endpoint) (line_of p)) is ∙ stand-there)
  where
    by : (o : Option (RouteOf Line)) → first rows path ≡ o → option_map (λ line. line.endpoint) (option_map (λ route. route.value) o) ≡ Some endpoint.Events
        → path ≡ codes "/1.0/events"
    by None e h = cc
    by (Some route) e h = path-is path route text e (same route.value.endpoint endpoint.Events h)
      where
        same : (a b : Endpoint) → Some a ≡ Some b → a ≡ b
        same a b s = cc
