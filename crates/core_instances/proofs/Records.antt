-- An operation that begins changes no row, so the records stay.
use Rattle.std.proofs.Common.{◌≡◌, ◌<◌, ℕ, true, List, [], ◌∷◌, Option, Some, None, refl, ap, sym, ◌∙◌}
use Rattle.std.specs.Option.{option_map, option_map_or}
use Rattle.plain_lists.specs.Firsts.{first}
use Rattle.size_values.specs.Moments.{moment_limit}
use Rattle.size_values.specs.declared.entry.Entry.{Entry}
use Rattle.record_keeper.specs.Store.{Store}
use Rattle.records.specs.Forms.{is_formed}
use Rattle.records.specs.declared.commands.Command.{Command}
use Rattle.records.specs.declared.notices.Untold.{Untold}
use Rattle.records.specs.declared.refusals.Refusal.{Refusal}
use Rattle.records.specs.declared.replies.Reply.{Reply}
use Rattle.row_machine.specs.declared.events.Event.TheVariants as event
use Rattle.row_machine.specs.machine.Accept.{After, accepted, begun, carried_out}
use Rattle.row_machine.specs.machine.Plans.{starts, plan_of}
use Rattle.row_machine.specs.machine.Rules.{broken, names_broken, standing_broken}
use Rattle.row_machine.specs.machine.State.{State}
use Rattle.row_machine.specs.machine.Step.{Outcome, well, keeper_failed, no_memory, after_command, step, unavailable}
use Rattle.row_machine.specs.machine.Task.{Task}
use Rattle.row_machine.specs.machine.Operations.{entered}
use Rattle.row_machine.specs.opening.Records.{records_of}
use Rattle.row_machine.specs.shown.Notices.{operation_notice, telling}
use Rattle.machine_laws.proofs.BooksSteps.{telling-keeps}
use Rattle.core_objects.specs.core_rows.specs.Asked.{IsAsked}
use Rattle.core_objects.specs.core_rows.specs.Planned.{Follows, IsToStart}
use Rattle.core_objects.proofs.FirstRules.{both-free}

-- a command with its task is to be started
pub to-start : (s : State) (c : Command) (moment : ℕ) (task : Task) → is_formed c ≡ true → moment < moment_limit
    → first (names_broken s c ∷ standing_broken s c ∷ []) ≡ None → plan_of s c moment ≡ starts task → IsToStart s c moment task
to-start s c moment task formed early free plan = record {
  formed = formed;
  early = early;
  names = (both-free s c free).0;
  standing = (both-free s c free).1;
  plan = plan;
}

-- ---- the records stay

records-told : (ns : List Untold) (s : State) → records_of (telling ns s) ≡ records_of s
unfolding records_of
records-told ns s = telling-keeps (λ t. records_of t ≡ records_of s) (λ t some next e. e) ns s refl

records-begun : (s : State) (task : Task) (moment : ℕ) → records_of (begun s task moment).state ≡ records_of s
unfolding records_of entered
records-begun s task moment = records-told (operation_notice (entered s task moment) s.operations.next moment) (entered s task moment)

-- the records of the state after a step
abbrev records_after : State → Option After → List Entry
records_after s found = option_map_or (λ (a : After). records_of a.state) found (records_of s)

module _ (s : State) (c : Command) (moment : ℕ) (task : Task) (plan : plan_of s c moment ≡ starts task) where
  asked-same : (outcome : Outcome) (breaks : Option Refusal) → records_after s (after_command s c moment outcome breaks) ≡ records_of s
  unfolding accepted
  asked-same well (Some r) = refl
  asked-same well None = ap (λ p. records_of (carried_out s c moment p).state) plan ∙ records-begun s task moment
  asked-same (keeper_failed rise) (Some r) = refl
  asked-same (keeper_failed rise) None = ap (λ p. records_after s (unavailable s p)) plan
  asked-same no_memory None = refl
  asked-same no_memory (Some r) = refl

  step-same : (outcome : Outcome) → records_after s (step s (event.Ask c moment) outcome) ≡ records_of s
  unfolding step
  step-same outcome = asked-same outcome (broken s c moment)

  -- an operation was begun as one step of the machine, and the records are those of the rows as before
  pub begun-follows : (s' : State) (untold : List Untold) (r : Reply) (store : Store) → IsAsked s c moment s' untold r store store
      → Follows s c moment s' untold r store store
  begun-follows s' untold r store h = record {
    asked = h;
    kept = λ start told. told ∙ ap (λ rs. option_map (λ _. rs) start) (sym same);
  } where
    same : records_of s' ≡ records_of s
    same = sym (records-told untold s') ∙ ap (records_after s) (sym h.is) ∙ step-same h.outcome
