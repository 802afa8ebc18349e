-- A turn, from what its parts ensure.
use Rattle.std.proofs.Common.{◌≡◌, ◌≢◌, ◌⊎◌, ℕ, List, [], refl, sym, subst, inl, inr}
use Rattle.http_heads.specs.declared.request.HeadFault.{HeadFault}
use Rattle.http_heads.specs.declared.request.Request.{Request}
use Rattle.http_front.specs.declared.read.Got.TheVariants as got
use Rattle.rest_json.specs.declared.terms.Terms.{Terms}
use Rattle.rest_answers.proofs.Printing.{takes_memory, text_is}
use Rattle.rest_answers.specs.Links.{BreaksOff, Takes}
use Rattle.rest_answers.specs.Texts.{IsUnprinted, printed, text_for}
use Rattle.rest_answers.specs.declared.answers.PrintedReply.{PrintedReply}
use Rattle.serial_run.specs.Answers.{Answers}
use Rattle.serial_steps.specs.Steps.{SerialWorld, Step}
use Rattle.command_words.specs.declared.run_words.Pace.{Pace}
use Rattle.serial_run.specs.Exchanges.{Comes, Exchange, IsPaced}
use Rattle.serial_run.specs.declared.session.SessionEnd.{SessionEnd}
use Rattle.serial_run.specs.declared.session.SessionEnd.TheVariants as end
use Rattle.serial_run.specs.declared.session.Turn.{Turn}
use Rattle.serial_run.specs.declared.session.Turn.TheVariants as turn
use Rattle.serial_run.specs.Worlds.{SessionWorld}
use Rattle.serial_run.specs.Sessions.{Asks, CarriesOut, GoesOn, KeepsRows, RefusesPlace, Serves, Stops, Turns}
use Rattle.serial_run.specs.Sessions.{WritesAnswer}

-- A turn that takes the next request and has it answered goes on after its reply and the steps of the pace, or ends
-- after them, or stops at a failed write, or where memory for the reply was refused.
pub turn_answers : (terms : Terms) (pace : Pace) (w w' : SessionWorld) (v : SerialWorld) (request : Request) (result : PrintedReply)
    (comes : Turn)
    → Asks w w' (got.Request request) → Answers terms w.serial_world v request result
    → WritesAnswer comes result request w.sink w'.sink → GoesOn pace comes v w'.serial_world → Turns terms pace comes w w'
turn_answers terms pace w w' v request result comes asks answers writes goes = by comes writes goes where
  e : List Step → Exchange
  e steps = record {
    request = request;
    moment = answers.reaches.moment;
    outcome = answers.reaches.outcome;
    held = answers.reaches.held;
    reply = answers.reply;
    steps = steps;
  }

  text : ¬ IsUnprinted result → text_for result request ≡ printed answers.reply terms request
  text has = text_is result answers.reply terms request answers.text has

  serves : (steps : List Step) → IsPaced pace v steps w'.serial_world → ¬ IsUnprinted result
      → Takes w.sink w'.sink (text_for result request) → Serves terms pace w w' (e steps)
  serves steps paced has takes = record {
    asked = asks;
    leads = record { replied = v; comes = answers.reaches.comes; paced = paced };
    replied = subst (Takes w.sink w'.sink) (text has) takes;
  }

  carried : w'.serial_world ≡ v → CarriesOut terms w w' (e [])
  carried same = record {
    asked = asks;
    comes = subst (λ s. Comes terms w.serial_world (e []) s) (sym same) answers.reaches.comes;
    still = refl;
  }

  by : (comes : Turn) → WritesAnswer comes result request w.sink w'.sink → GoesOn pace comes v w'.serial_world
      → Turns terms pace comes w w'
  by turn.GoOn writes goes = (e goes.0, serves goes.0 goes.1 writes.1 writes.2, writes.0)
  by turn.Final writes goes = (e goes.0, serves goes.0 goes.1 writes.1 writes.2, writes.0)
  by (turn.Stop end.WriteFault) writes same =
      (inl (e [], carried same, subst (BreaksOff w.sink w'.sink) (text writes.0) writes.1), λ e. cc)
  by (turn.Stop end.NoMemory) writes same = (
    inr (inr (
      e [],
      carried same,
      takes_memory result answers.reply terms request answers.text writes.0,
      writes.1,
    )),
    λ e. cc,
  )
  by (turn.Stop end.Ended) writes same = absurd writes
  by (turn.Stop end.Cut) writes same = absurd writes
  by (turn.Stop (end.Malformed fault)) writes same = absurd writes
  by (turn.Stop end.ReadFault) writes same = absurd writes
  by (turn.Stop end.Spent) writes same = absurd writes

-- a turn that refuses a malformed place
pub turn_refuses : (terms : Terms) (pace : Pace) (w w' : SessionWorld) (fault : HeadFault) (ends : SessionEnd)
    → Asks w w' (got.Malformed fault) → KeepsRows w w'
    → RefusesPlace fault ends w.sink w'.sink → Turns terms pace (turn.Stop ends) w w'
turn_refuses terms pace w w' fault ends asks rows refuses = by ends refuses where
  by : (ends : SessionEnd) → RefusesPlace fault ends w.sink w'.sink → Turns terms pace (turn.Stop ends) w w'
  by (end.Malformed other) refuses =
      (subst (λ f. Stops terms (end.Malformed f) w w') (sym refuses.0) (asks, rows, refuses.1), λ e. cc)
  by end.WriteFault refuses = (inr (fault, asks, rows, refuses), λ e. cc)
  by end.NoMemory refuses = (inr (inl (fault, asks, rows, refuses)), λ e. cc)
  by end.Ended refuses = absurd refuses
  by end.Cut refuses = absurd refuses
  by end.ReadFault refuses = absurd refuses
  by end.Spent refuses = absurd refuses
