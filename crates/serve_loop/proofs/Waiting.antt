-- How a command comes to its reply, from what its parts ensure.
use Rattle.std.proofs.Common.{◌≡◌, ◌==◌, ◌<◌, ◌+◌, ◌||◌, ℕ, Bool, true, false, cond, List, [], ◌∷◌, Option, Some, None}
use Rattle.std.proofs.Common.{refl, ap, sym, ◌∙◌, subst}
use Rattle.size_values.specs.Moments.{moment_limit}
use Rattle.http_front.specs.Clocks.{Readings, Reads}
use Rattle.records.specs.declared.commands.Command.{Command}
use Rattle.records.specs.declared.commands.What.{What}
use Rattle.records.specs.declared.commands.What.TheVariants as what
use Rattle.records.specs.declared.replies.Reply.{Reply}
use Rattle.records.specs.declared.replies.Reply.TheVariants as reply
use Rattle.row_machine.specs.declared.events.Answer.{Answer}
use Rattle.row_machine.specs.declared.events.Answer.TheVariants as answer
use Rattle.row_machine.specs.declared.events.Event.TheVariants as event
use Rattle.gates.specs.core_rows.specs.Asked.{answered}
use Rattle.gates.specs.Gates.{Seen, Walk}
use Rattle.gates.specs.History.{GateIdle, GateTurn, capped, idled_after}
use Rattle.gates.proofs.Walking.{walk-append, walk-idle, walk-turn}
use Rattle.serve_loop.specs.Moments.{IsLate, deadline_by, deadline_of}
use Rattle.serve_loop.specs.Waits.{Brings, Looked, CommandStage, Sees, ServeBy, CommandWorld, after_idle, due, goes_on, going_on}
use Rattle.serve_loop.specs.Waits.{idles_after, looking, most_idles, replied}
use Rattle.serve_loop.specs.Waits.{command_world, unasked, wait_in, wait_of, waiting}
use Rattle.serve_loop.specs.declared.wait.Waiting.{Waiting}

-- ---- looks

looked_sees : (op : ℕ) (deadline : Option ℕ) (idles : ℕ) (a : Answer) (live : Bool) → Looked a live
    → Sees op deadline idles a (cond live (waiting op deadline idles) (due op))
looked_sees op deadline idles (answer.NotYet number) live is = ap (λ b. cond b (waiting op deadline idles) (due op)) is
looked_sees op deadline idles (answer.Ended number) live is = ap (λ b. cond b (waiting op deadline idles) (due op)) is
looked_sees op deadline idles (answer.Reply r) live is = absurd is
looked_sees op deadline idles (answer.Hold number) live is = absurd is
looked_sees op deadline idles (answer.Job number call) live is = absurd is
looked_sees op deadline idles answer.NoJob live is = absurd is
looked_sees op deadline idles (answer.Stray number) live is = absurd is
looked_sees op deadline idles (answer.Fetched fetched) live is = absurd is
looked_sees op deadline idles answer.Closed live is = absurd is
looked_sees op deadline idles answer.NoMemory live is = absurd is

pub looks : {old new : Seen} {op : ℕ} {a : Answer} (c : Command) (deadline : Option ℕ) (idles : ℕ)
    (clock : Readings) (live : Bool)
    → GateTurn old.contents (event.Look op) a new.contents → new.turned ≡ capped (old.turned + 1)
    → new.idled ≡ old.idled → Looked a live
    → Walk (ServeBy c) old new (command_world (looking op deadline idles) clock)
    (command_world (cond live (waiting op deadline idles) (due op)) clock)
looks {old} {new} {op} {a} c deadline idles clock live turn turned idled looked =
    walk-turn (ServeBy c) (command_world (looking op deadline idles) clock)
    (command_world (cond live (waiting op deadline idles) (due op)) clock) turn turned idled (record {
      looks = refl;
      clock = refl;
      sees = looked_sees op deadline idles a live looked;
    })

-- ---- idling

-- where it goes on, and where it is over
idled_so : (op : ℕ) (deadline : Option ℕ) (more : ℕ) (late : Bool)
    → after_idle op deadline more late
    ≡ going_on op deadline (goes_on late more)
idled_so op deadline more late = by (late || more == most_idles) where
  by : (over : Bool) → cond over (due op) (looking op deadline more) ≡ going_on op deadline (cond over None (Some more))
  by true = refl
  by false = refl

pub idles : {old new : Seen} {told told' : Readings} {is_up : Bool} {op : ℕ} {deadline : Option ℕ} {made more : ℕ}
    (c : Command) (late : Bool) (next : Option ℕ)
    → GateIdle is_up old.contents new.contents → new.turned ≡ old.turned → new.idled ≡ idled_after is_up old.idled
    → IsLate deadline told late told' → more ≡ idles_after is_up made → next ≡ goes_on late more
    → Walk (ServeBy c) old new (command_world (waiting op deadline made) told)
    (command_world (going_on op deadline next) told')
idles {old} {new} {told} {told'} {is_up} {op} {deadline} {made} {more} c late next idle turned idled is counted on =
    walk-idle (ServeBy c) (command_world (waiting op deadline made) told)
    (command_world (going_on op deadline next) told') idle turned idled
    (record { late = late; clock = is; stage = stage }) where
      stage : going_on op deadline next ≡ after_idle op deadline (idles_after is_up made) late
      stage = subst (λ n. going_on op deadline next ≡ after_idle op deadline n late) counted
          (ap (going_on op deadline) on ∙ sym (idled_so op deadline more late))

-- ---- one round of a wait

-- the operation was not live
pub round_ends : {a b d : Seen} {from : CommandWorld} {op : ℕ} {deadline : Option ℕ} {made : ℕ} {clock : Readings}
    {live : Bool} (c : Command)
    → Walk (ServeBy c) a b from (command_world (looking op deadline made) clock)
    → Walk (ServeBy c) b d (command_world (looking op deadline made) clock)
    (command_world (cond live (waiting op deadline made) (due op)) clock) → live ≡ false
    → Walk (ServeBy c) a d from (command_world (due op) clock)
round_ends {a} {b} {d} {from} {op} {deadline} {made} {clock} {live} c before look is =
    walk-append before
    (subst (λ l. Walk (ServeBy c) b d (command_world (looking op deadline made) clock)
    (command_world (cond l (waiting op deadline made) (due op)) clock)) is look)

-- it was live, and the gate idled
pub round_idles : {a b d e : Seen} {from to : CommandWorld} {op : ℕ} {deadline : Option ℕ} {made : ℕ} {clock : Readings}
    {live : Bool} (c : Command)
    → Walk (ServeBy c) a b from (command_world (looking op deadline made) clock)
    → Walk (ServeBy c) b d (command_world (looking op deadline made) clock)
    (command_world (cond live (waiting op deadline made) (due op)) clock) → live ≡ true
    → Walk (ServeBy c) d e (command_world (waiting op deadline made) clock) to
    → Walk (ServeBy c) a e from to
round_idles {a} {b} {d} {e} {from} {to} {op} {deadline} {made} {clock} {live} c before look is idle =
    walk-append before
    (walk-append (subst (λ l. Walk (ServeBy c) b d (command_world (looking op deadline made) clock)
    (command_world (cond l (waiting op deadline made) (due op)) clock)) is look) idle)

-- ---- the reply after a wait

pub shows : {old new : Seen} {told told' : Readings} {moment op : ℕ} {a : Answer} {r : Reply} {project : List ℕ}
    (c : Command) → c.project ≡ project
    → Reads told (moment ∷ []) told' → moment < moment_limit
    → GateTurn old.contents (event.Ask (record { project = project; what = what.GetOp op; expects = None }) moment) a new.contents
    → new.turned ≡ capped (old.turned + 1) → new.idled ≡ old.idled → answered r ≡ a
    → Walk (ServeBy c) old new (command_world (due op) told) (command_world (replied r) told')
shows {old} {new} {told} {told'} {moment} {op} {a} {r} {project} c is read early turn turned idled answers =
    walk-turn (ServeBy c) (command_world (due op) told) (command_world (replied r) told') turn turned idled (record {
      moment = moment;
      reply = r;
      asks = ap (λ p. event.Ask (record { project = p; what = what.GetOp op; expects = None }) moment) (sym is);
      clock = record { read = read; early = early };
      answers = answers;
      stage = refl;
    })

-- ---- the first answer

-- a command was asked, and was answered so
pub asks : {old new : Seen} {told told' : Readings} {moment : ℕ} {a : Answer} {p : CommandStage} (c : Command)
    → Reads told (moment ∷ []) told' → moment < moment_limit → GateTurn old.contents (event.Ask c moment) a new.contents
    → new.turned ≡ capped (old.turned + 1) → new.idled ≡ old.idled → Brings c.what moment a p
    → Walk (ServeBy c) old new (command_world unasked told) (command_world p told')
asks {old} {new} {told} {told'} {moment} {a} {p} c read early turn turned idled brings =
    walk-turn (ServeBy c) (command_world unasked told) (command_world p told') turn turned idled (record {
      moment = moment;
      asks = refl;
      clock = record { read = read; early = early };
      brings = brings;
    })

-- a command that has a reply is where its answer brings it
reply_brings : (c : Command) (moment : ℕ) (r : Reply) → Brings c.what moment (answered r) (replied r)
reply_brings c moment reply.Empty = refl
reply_brings c moment (reply.Links xs) = refl
reply_brings c moment (reply.One v) = refl
reply_brings c moment (reply.Many vs) = refl
reply_brings c moment (reply.OpLinks xs) = refl
reply_brings c moment (reply.OpMany xs) = refl
reply_brings c moment (reply.Started v) = refl
reply_brings c moment (reply.Refused x) = refl
reply_brings c moment reply.NoMemory = refl

pub replies : (c : Command) (moment : ℕ) (r : Reply) (a : Answer) → answered r ≡ a
    → Brings c.what moment a (replied r)
replies c moment r a is = subst (λ b. Brings c.what moment b (replied r)) is (reply_brings c moment r)

-- a command whose answer is held back is where its answer brings it
pub holds : (c : Command) (moment op : ℕ) (a : Answer) → answer.Hold op ≡ a
    → Brings c.what moment a (looking op (deadline_by moment c.what) 0)
holds c moment op a is =
    subst (λ b. Brings c.what moment b (looking op (deadline_by moment c.what) 0)) is refl

-- ---- what is kept of a wait

-- the command has its project, and its deadline at each moment
pub record IsKept (c : Command) (w : Waiting) : Type 0 where
  pub project : c.project ≡ w.project
  pub deadline : (moment : ℕ) → deadline_by moment c.what ≡ deadline_of moment w.timeout

pub kept_is : (c : Command) (w : Waiting) → Some w ≡ wait_of c → IsKept c w
kept_is c w is = record { project = (by c.what is).0; deadline = (by c.what is).1 } where
  by : (asks : What) → Some w ≡ wait_in c.project asks
      → (c.project ≡ w.project) × ((moment : ℕ) → deadline_by moment asks ≡ deadline_of moment w.timeout)
  by (what.Wait op timeout) is = let same : w ≡ record { project = c.project; timeout = timeout } = cc in
      (ap (λ (v : Waiting). v.project) (sym same), λ moment. ap (λ (v : Waiting). deadline_of moment v.timeout) (sym same))
  by what.Root is = cc
  by what.Server is = cc
  by (what.List of recursion) is = cc
  by (what.Get of) is = cc
  by (what.State of) is = cc
  by (what.Create of body) is = cc
  by (what.Put of body) is = cc
  by (what.Patch of body) is = cc
  by (what.Move of to) is = cc
  by (what.Delete of) is = cc
  by (what.Act of action) is = cc
  by (what.Restore of snapshot) is = cc
  by (what.GetOp op) is = cc
  by (what.Cancel op) is = cc

-- the answer of a wait was held back, and then its operation was asked for
pub held_back : {a b d : Seen} {told mid told' : Readings} {r : Reply} (c : Command) (w : Waiting) (op moment : ℕ)
    (deadline : Option ℕ) → Some w ≡ wait_of c → deadline ≡ deadline_of moment w.timeout
    → Walk (ServeBy c) a b (command_world (looking op deadline 0) told) (command_world (due op) mid)
    → (c.project ≡ w.project → Walk (ServeBy c) b d (command_world (due op) mid) (command_world (replied r) told'))
    → Walk (ServeBy c) a d (command_world (looking op (deadline_by moment c.what) 0) told) (command_world (replied r) told')
held_back {a} {b} {d} {told} {mid} {told'} {r} c w op moment deadline is due_is waits shows =
    let kept : IsKept c w = kept_is c w is in
    walk-append
    (subst (λ at. Walk (ServeBy c) a b (command_world (looking op at 0) told) (command_world (due op) mid))
    (due_is ∙ sym (kept.deadline moment)) waits)
    (shows kept.project)
