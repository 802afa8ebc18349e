-- A connection: a link, and then a session where a request subscribes to events.
use Rattle.std.specs.Prelude.{ℕ}
use Rattle.http_front.specs.Clocks.{Readings}
use Rattle.rest_json.specs.declared.terms.Terms.{Terms}
use Rattle.gates.specs.Gates.{Seen}
use Rattle.gates.specs.rest_answers.specs.Links.{Outlet}
use Rattle.serve_loop.specs.declared.subscriptions.Subscription.{Subscription}
use Rattle.serve_loop.specs.Serving.{LinkWorld, ServingFrom}
use Rattle.serve_loop.specs.declared.link.LinkEnd.{LinkEnd}
use Rattle.serve_loop.specs.declared.link.LinkEnd.TheVariants as end
use Rattle.serve_loop.specs.Sessions.{Session}
use Rattle.serve_loop.specs.Sources.{Feed}
use Rattle.serve_loop.specs.declared.session.SessionEnd.{SessionEnd}
use Rattle.serve_loop.specs.declared.connection.ConnectionEnd.{ConnectionEnd}
use Rattle.serve_loop.specs.declared.connection.ConnectionEnd.TheVariants as ended

-- the link ended at no subscription
abbrev pub IsNoSubscription : LinkEnd → Type 0
IsNoSubscription (end.Events wanted) = ⊥
IsNoSubscription other = Unit {0}

-- a link that ended at a subscription, and then a session of this subscription
pub record Subscribes (terms : Terms) (start : LinkWorld) (source : Feed) (sink : Outlet) (gate : Seen) (clock : Readings)
    (ends : SessionEnd) : Type 0 where
  pub wanted : Subscription
  pub source_between : Feed
  pub sink_between : Outlet
  pub gate_between : Seen
  pub link : ServingFrom terms start source_between.inlet sink_between gate_between clock (end.Events wanted)
  pub session : Session terms wanted.key wanted.filter source_between gate_between sink_between source gate sink ends

-- A connection from this world on, with the outside seen so at its end.
abbrev pub Connects : Terms → LinkWorld → Feed → Outlet → Seen → Readings → ConnectionEnd → Type 0
Connects terms start source sink gate clock (ended.Link ends) =
    IsNoSubscription ends × ServingFrom terms start source.inlet sink gate clock ends
Connects terms start source sink gate clock (ended.Session ends) = Subscribes terms start source sink gate clock ends
