-- What a run comes to, told of its whole input: the requests that are answered, the exit status, and what the outside
-- sees.
use Rattle.std.specs.Prelude.{◌≡◌, ◌<◌, ◌++◌, ◌==◌, ℕ, List, [], ◌∷◌, Bool, length, map, take, None, option_map}
use Rattle.std.specs.Prelude.{if◌then◌else◌}
use Rattle.std.specs.List.{All, list_any}
use Rattle.std.specs.Io.KnownBytes.{Appends}
use Rattle.http_front.specs.Clocks.{Reads}
use Rattle.http_heads.specs.Messages.{Ending, ended, cut, malformed}
use Rattle.http_heads.specs.declared.request.Request.{Request}
use Rattle.size_values.specs.Causes.{RoseBy}
use Rattle.size_values.specs.Moments.{moment_limit}
use Rattle.size_values.specs.declared.entry.Entry.{Entry}
use Rattle.row_machine.specs.machine.State.{State}
use Rattle.row_machine.specs.opening.Opening.{opened, opening_of}
use Rattle.row_machine.specs.opening.Records.{records_of}
use Rattle.rest_json.specs.declared.terms.Terms.{Terms}
use Rattle.start_faults.specs.core_rows.specs.Opening.{AreContents, opened_store}
use Rattle.serial_steps.specs.Steps.{Serial, serial}
use Rattle.command_words.specs.declared.run_words.Pace.{Pace}
use Rattle.serial_run.specs.Exchanges.{Exchange, LeadTo, moments_of, printed_replies}
use Rattle.serial_run.specs.Exchanges.{host_failures_of, keeper_failures_of}
use Rattle.serial_run.specs.Most.{most_requests}
use Rattle.serial_run.specs.Inputs.{requests_of, answered, end_due}
use Rattle.serial_run.specs.Worlds.{Outside, within}

-- The run did what its input asks, and nothing else. The requests that are answered, each with its moment, its outcome,
-- its reply and the steps of the worker, lead from the rows that the keeper's entries open to, with no call in hand, to
-- some rows and some call, and with them the store from the one after the opening to the one at the end, and the host
-- from its roots before to those at the end. The moments are the readings that the clock told, in their order, one
-- for each command that was asked, each call that was asked for and each report, and all before the year 10000. The
-- exit status is the one that is due, the sink took the replies in their order, the keeper has the records of the
-- rows at the end, its count rose at least once for each outcome in which it failed, and the host's for each report
-- of a failed call.
pub record RunsText (terms : Terms) (pace : Pace) (messages : List Request) (ending : Ending) (status : ℕ)
    (before after : Outside)
    : Type 0 where
  pub entries : List Entry
  pub contents : AreContents entries before.keeper
  pub state : State
  pub opens : opening_of entries ≡ opened state
  pub exchanges : List Exchange
  pub last : Serial
  pub requests_are : requests_of exchanges ≡ answered messages
  pub leads : LeadTo terms pace
      (within (record before { keeper = opened_store entries state before.keeper }) (serial state None)) exchanges
      (within after last)
  pub moments : Reads before.clock (moments_of exchanges) after.clock
  pub early : All (λ moment. moment < moment_limit) (moments_of exchanges)
  pub status_is : status ≡ (end_due messages ending).status
  pub written : Appends before.sink.held after.sink.held
      (printed_replies terms exchanges ++ (end_due messages ending).text)
  pub kept : after.keeper.contents ≡ option_map (λ _. records_of last.state) before.keeper.contents
  pub keeper_failed : RoseBy (keeper_failures_of exchanges) before.keeper.failures after.keeper.failures
  pub host_failed : RoseBy (host_failures_of exchanges) before.host.failures after.host.failures

-- whether an exit status is that of a fault of the outside, of entries that open to no rows, of words that are not
-- read, or of refused memory
abbrev pub is_fault : ℕ → Bool
is_fault status = list_any (λ fault. fault == status) (4 ∷ 5 ∷ 6 ∷ 7 ∷ 8 ∷ 9 ∷ [])
