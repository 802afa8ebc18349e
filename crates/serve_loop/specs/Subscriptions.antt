-- The subscription of a request for events, and what it asks for before its session begins.
use Rattle.std.specs.Prelude.{ℕ, List, [], Bool, true, false, if◌then◌else◌, Option, Some, None, Result, Ok, Err}
use Rattle.size_values.specs.declared.kinds.ObjectKind.TheVariants.{Operation}
use Rattle.http_heads.specs.declared.request.Request.{Request}
use Rattle.records.specs.declared.notices.Filter.{Filter}
use Rattle.records.specs.declared.commands.Command.{Command}
use Rattle.records.specs.declared.commands.What.TheVariants as what
use Rattle.records.specs.declared.refusals.Refusal.{Refusal}
use Rattle.records.specs.declared.replies.Reply.{Reply}
use Rattle.records.specs.declared.replies.Reply.TheVariants as reply
use Rattle.rest_json.specs.declared.terms.Terms.{Terms}
use Rattle.rest_routes.specs.Commands.{command_of}
use Rattle.serve_loop.specs.Filters.{filter_of}
use Rattle.serve_loop.specs.declared.subscriptions.Subscription.{Subscription}

-- the events that were asked for, by the key of the handshake
abbrev pub subscribed : Option Filter → Option (List ℕ) → Option Subscription
subscribed (Some filter) (Some key) = Some (record { key = key; filter = filter })
subscribed (Some filter) None = None
subscribed None upgrade = None

-- a refused request subscribes to nothing
abbrev pub subscribed_by : Result (Option Filter) Refusal → Option (List ℕ) → Option Subscription
subscribed_by (Ok filter) upgrade = subscribed filter upgrade
subscribed_by (Err refusal) upgrade = None

-- The subscription of a request: none where it asks for no events, and where its query is refused.
unfoldable pub subscription_of : Request → Option Subscription
subscription_of request = subscribed_by (filter_of request) request.upgrade

-- ---- what is asked for at the gate

-- What a subscription asks for before its session begins: the operations of its project, of which nothing is told. Where
-- there is no such project, that is refused as any read in it (N1).
abbrev pub looked_for : Subscription → Command
looked_for wanted = record {
  project = wanted.filter.project;
  what = what.List (record { kind = Operation; pool = []; instance = []; name = [] }) false;
  expects = None;
}

-- what a request asks for at the gate: what its subscription does, or else its command
abbrev pub asks_by : Option Subscription → Result Command Reply → Result Command Reply
asks_by (Some wanted) other = Ok (looked_for wanted)
asks_by None other = other

abbrev pub asks_of : Request → Terms → Result Command Reply
asks_of request terms = asks_by (subscription_of request) (command_of request terms)

-- whether a reply refuses what was asked for
abbrev pub is_refusal : Reply → Bool
is_refusal (reply.Refused refusal) = true
is_refusal reply.NoMemory = true
is_refusal other = false

-- The subscription whose session begins after this reply: none where the request subscribes to nothing, or was refused.
abbrev pub let_in : Option Subscription → Bool → Option Subscription
let_in (Some wanted) refused = if refused then None else Some wanted
let_in None refused = None

abbrev pub begins : Request → Reply → Option Subscription
begins request a_reply = let_in (subscription_of request) (is_refusal a_reply)
