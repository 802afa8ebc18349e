-- What a link is served by, from its door.
use Rattle.std.specs.Prelude.{ℕ, true, false}
use Rattle.rest_json.specs.declared.terms.Dialect.TheVariants.{Plain, Client}
use Rattle.rest_json.specs.declared.terms.Terms.{Terms}
use Rattle.serving.specs.declared.link.DoorKind.{DoorKind}
use Rattle.serving.specs.declared.link.DoorKind.TheVariants.{Port, Socket}
use Rattle.server_main.specs.declared.door_terms.ServerLogs.{ServerLogs}

-- over TCP the plain dialect, and no request with an `Origin`; at a socket file the dialect of the command `incus`
abbrev pub terms_at : ℕ → DoorKind → Terms
terms_at boot Port = record { boot = boot; dialect = Plain; refuses_origin = true }
terms_at boot Socket = record { boot = boot; dialect = Client; refuses_origin = false }

-- the log of its own that each door has
abbrev pub log_at : {O : Type 0} → ServerLogs O → DoorKind → O
log_at logs Port = logs.port
log_at logs Socket = logs.socket
