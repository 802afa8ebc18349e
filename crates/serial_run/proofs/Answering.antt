-- One request comes to its reply, from what its parts ensure.
use Rattle.std.proofs.Common.{◌≡◌, ◌⊎◌, ◌≤◌, ◌<◌, ℕ, Bool, true, false, ◌&&◌, is_none, List, [], ◌∷◌, length, Some, None, Result, Ok, Err}
use Rattle.std.proofs.Common.{refl, sym, subst, ap, codes, inl, inr}
use Rattle.std.specs.Str.{bytes_eq}
use Rattle.std.proofs.lemmas.Slice.Eq.{bytes_eq-Decides}
use Rattle.size_values.specs.Moments.{moment_limit}
use Rattle.http_front.specs.Clocks.{Reads}
use Rattle.http_heads.specs.declared.request.Request.{Request}
use Rattle.records.specs.declared.commands.Command.{Command}
use Rattle.records.specs.declared.replies.Reply.{Reply}
use Rattle.records.specs.declared.replies.Reply.TheVariants as reply
use Rattle.records.specs.declared.replies.View.TheVariants as view
use Rattle.row_machine.specs.declared.events.Answer.{Answer}
use Rattle.row_machine.specs.declared.events.Answer.TheVariants as answer
use Rattle.row_machine.specs.declared.events.Event.TheVariants as event
use Rattle.row_machine.specs.machine.State.{State}
use Rattle.row_machine.specs.machine.Accept.{and_then}
use Rattle.row_machine.specs.machine.Step.{well, no_memory}
use Rattle.rest_json.specs.declared.terms.Terms.{Terms}
use Rattle.start_faults.specs.core_rows.specs.Asked.{answered}
use Rattle.serial_steps.specs.core_turns.specs.Turns.{IsTurn}
use Rattle.serial_steps.specs.Steps.{SerialWorld, Step, WaitsFor, most_steps}
use Rattle.rest_answers.specs.Asked.{showing}
use Rattle.rest_answers.specs.Texts.{HasText, asks_head}
use Rattle.rest_answers.specs.declared.answers.PrintedReply.{PrintedReply}
use Rattle.rest_routes.specs.Commands.{command_of}
use Rattle.rest_routes.specs.Known.{is_server_asked, server_asked}
use Rattle.serial_run.specs.Answers.{Answers, Reaches, Shows}
use Rattle.serial_run.specs.Exchanges.{Carries, carried_out}

-- a command was asked at the next moment of the clock, and was answered so
pub record Asks (w : SerialWorld) (c : Command) (moment : ℕ) (a : Answer) (w' : SerialWorld) : Type 0 where
  pub turn : IsTurn w.serial.state w.store (event.Ask c moment) a w'.serial.state w'.store
  pub hand : w'.serial.hand ≡ w.serial.hand
  pub host : w'.host ≡ w.host
  pub read : Reads w.clock (moment ∷ []) w'.clock
  pub early : moment < moment_limit

carries : {w w' : SerialWorld} {c : Command} {moment : ℕ} {a : Answer} (asks : Asks w c moment a w')
    → Carries w (Ok c) (Some moment) asks.turn.outcome a w'
carries {w} {w'} {c} {moment} {a} asks = record {
  is = asks.turn.turns.is;
  stored = asks.turn.turns.stored;
  caused = asks.turn.caused;
  kept = asks.turn.kept;
  hand = asks.hand;
  host = asks.host;
  clock = record { read = asks.read; early = asks.early };
}

-- a command that was answered at once
pub replied : {w w' : SerialWorld} {c : Command} {moment : ℕ} {a : Answer} (r : Reply) → Asks w c moment a w'
    → answered r ≡ a → Reaches w (Ok c) r w'
replied {w} {w'} {c} {moment} {a} r asks is = record {
  moment = Some moment;
  outcome = asks.turn.outcome;
  held = None;
  comes = subst (λ b. Carries w (Ok c) (Some moment) asks.turn.outcome b w') (sym is) (carries asks);
}

both : (a b : Bool) → (a && b) ≡ true → (a ≡ true) × (b ≡ true)
both true true e = (refl, refl)
both true false e = cc
both false b e = cc

-- who asks for the server does so by GET
pub asked_by_get : (request : Request) → is_server_asked request ≡ true → asks_head request ≡ false
asked_by_get request is =
    let line = (both (bytes_eq request.method (codes "GET") && bytes_eq request.target (codes "/1.0")) (is_none request.if_match) is).0 in
    ap (λ m. bytes_eq m (codes "HEAD")) ((bytes_eq-Decides request.method (codes "GET")).0
    (both (bytes_eq request.method (codes "GET")) (bytes_eq request.target (codes "/1.0")) line).0)

-- who asks for the server was told of it, by the text that stands ready
pub server-replied : (terms : Terms) (w w' : SerialWorld) (request : Request) (result : PrintedReply) (moment : ℕ)
    → command_of request terms ≡ Ok server_asked
    → IsTurn w.serial.state w.store (event.Ask server_asked moment) (answer.Reply (reply.One view.Server)) w'.serial.state w'.store
    → w'.serial.hand ≡ w.serial.hand → w'.host ≡ w.host → Reads w.clock (moment ∷ []) w'.clock → moment < moment_limit
    → HasText result (reply.One view.Server) terms request → Answers terms w w' request result
server-replied terms w w' request result moment asked turn hand host read early text = record {
  reply = reply.One view.Server;
  reaches =
      subst (λ asks. Reaches w asks (reply.One view.Server) w') (sym asked)
      (replied (reply.One view.Server) (record { turn = turn; hand = hand; host = host; read = read; early = early }) refl);
  text = text;
}

-- an operation was asked for in the project of a command
abbrev shows_asks : (u w' : SerialWorld) (c : Command) (op : ℕ) (r : Reply)
    (shows : Shows c.project op u.serial u.store u.clock r w'.serial w'.store w'.clock)
    → w'.host ≡ u.host → Asks u (showing op c) shows.moment (answered r) w'
shows_asks u w' c op r shows host = record {
  turn = shows.turn;
  hand = shows.hand;
  host = host;
  read = shows.read;
  early = shows.early;
}

-- a command whose answer was held back
pub held_back : {w v u w' : SerialWorld} {c : Command} {moment : ℕ} {a : Answer} {op : ℕ} (steps : List Step) (r : Reply)
    → Asks w c moment a v → answer.Hold op ≡ a
    → WaitsFor op v steps u → length steps ≤ most_steps
    → Shows c.project op u.serial u.store u.clock r w'.serial w'.store w'.clock → w'.host ≡ u.host
    → Reaches w (Ok c) r w'
held_back {w} {v} {u} {w'} {c} {moment} {a} {op} steps r asks is waits few shows host = record {
  moment = Some moment;
  outcome = asks.turn.outcome;
  held = Some (record { steps = steps; moment = shows.moment; outcome = shows.turn.outcome });
  comes = record {
    command = c;
    op = op;
    waiting = v;
    ended = u;
    asks = refl;
    holds = subst (λ b. Carries w (Ok c) (Some moment) asks.turn.outcome b v) (sym is) (carries asks);
    waits = waits;
    few = few;
    shows = carries (shows_asks u w' c op r shows host);
  };
}

-- ---- requests that ask for no command

-- a request that was read as this reply
read_replies : (w : SerialWorld) (said : Reply) → Reaches w (Err said) said w
read_replies w said = record {
  moment = None;
  outcome = well;
  held = None;
  comes = record {
    is = refl;
    stored = refl;
    caused = refl;
    kept = λ start is. is;
    hand = refl;
    host = refl;
    clock = record { read = refl; early = tt };
  };
}

-- memory may be refused before the command of any request is known, and then nothing changes
refused_memory : (s : State) (asked : Result Command Reply)
    → carried_out s None no_memory asked ≡ Some (and_then answer.NoMemory s)
refused_memory s (Ok c) = refl
refused_memory s (Err said) = refl

memory_replies : (w : SerialWorld) (asked : Result Command Reply) → Reaches w asked reply.NoMemory w
memory_replies w asked = record {
  moment = None;
  outcome = no_memory;
  held = None;
  comes = record {
    is = refused_memory w.serial.state asked;
    stored = refl;
    caused = refl;
    kept = λ start is. is;
    hand = refl;
    host = refl;
    clock = record { read = refl; early = tt };
  };
}

-- whatever its reason
pub unrouted : (w : SerialWorld) (asked : Result Command Reply) (said : Reply)
    → (said ≡ reply.NoMemory) ⊎ (asked ≡ Err said) → Reaches w asked said w
unrouted w asked said (inl none) = subst (λ r. Reaches w asked r w) (sym none) (memory_replies w asked)
unrouted w asked said (inr is) = subst (λ x. Reaches w x said w) (sym is) (read_replies w said)
