-- What a session works on.
use Rattle.std.specs.Prelude.{ℕ, List, Option}
use Rattle.std.specs.Io.KnownBytes.{prepend_known}
use Rattle.http_front.specs.Clocks.{Readings}
use Rattle.record_keeper.specs.Store.{Store}
use Rattle.serial_steps.specs.Steps.{Hosted, Serial, SerialWorld, serial_world}
pub use Rattle.rest_answers.specs.Links.{Inlet, inlet, Outlet, outlet}

-- what a program sees of the outside at one moment: a source, a sink, a keeper, a host, and what a clock tells of its
-- readings to come
pub record Outside : Type 0 where
  pub source : Inlet
  pub sink : Outlet
  pub keeper : Store
  pub host : Hosted
  pub clock : Readings

abbrev pub outside : Inlet → Outlet → Store → Hosted → Readings → Outside
outside source sink keeper host clock =
    record { source = source; sink = sink; keeper = keeper; host = host; clock = clock }

-- the server at one moment, with these rows and this call in hand, and with what it works on of the outside
abbrev pub within : Outside → Serial → SerialWorld
within out serial = serial_world serial out.keeper out.host out.clock

-- what a session works on at one moment: the bytes that its buffer holds, the source and the sink, and the server
pub record SessionWorld : Type 0 where
  pub held : List ℕ
  pub source : Inlet
  pub sink : Outlet
  pub serial_world : SerialWorld

abbrev pub session_world : List ℕ → Outside → Serial → SessionWorld
session_world held out serial =
    record { held = held; source = out.source; sink = out.sink; serial_world = within out serial }

-- the bytes to come: those held, and then those that the source has left
abbrev pub input : SessionWorld → Option (List ℕ)
input world = prepend_known world.held world.source.left
