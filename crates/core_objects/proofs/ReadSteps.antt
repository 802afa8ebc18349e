-- A read as one step of the machine.
use Rattle.std.proofs.Common.{◌≡◌, ℕ, true, List, [], ◌∷◌, Option, Some, None, refl, ap, sym, subst, ◌∙◌}
use Rattle.size_values.specs.declared.memory.Or.TheVariants as or
use Rattle.record_keeper.specs.Store.{Store}
use Rattle.records.specs.declared.commands.Command.{Command}
use Rattle.records.specs.declared.commands.What.{What}
use Rattle.records.specs.declared.commands.What.TheVariants as what
use Rattle.records.specs.declared.notices.Untold.{Untold}
use Rattle.records.specs.declared.refusals.Refusal.{Refusal}
use Rattle.records.specs.declared.replies.Reply.{Reply}
use Rattle.records.specs.declared.replies.Reply.TheVariants as reply
use Rattle.plain_lists.specs.Firsts.{first}
use Rattle.row_machine.specs.declared.events.Answer.TheVariants as answer
use Rattle.row_machine.specs.declared.events.Event.TheVariants as event
use Rattle.row_machine.specs.machine.State.{State}
use Rattle.row_machine.specs.machine.Accept.{and_then, accepted, carried_out, cancel_or_read}
use Rattle.row_machine.specs.machine.Rules.{names_broken}
use Rattle.row_machine.specs.shown.Notices.{telling}
use Rattle.row_machine.specs.machine.Plans.{nothing, plan_of}
use Rattle.row_machine.specs.machine.Rules.{broken, plan_broken}
use Rattle.row_machine.specs.machine.Rules.{standing_broken}
use Rattle.row_machine.specs.machine.Step.{well, after_command, step}
use Rattle.row_machine.specs.machine.TableRules.{cancel_broken}
use Rattle.row_machine.specs.shown.Views.{read}
use Rattle.core_rows.specs.Asked.{answered, changes_of, unless_refused}
use Rattle.core_rows.specs.Planned.{Follows}
use Rattle.core_rows.specs.core_reports.specs.Stores.{Stores}
use Rattle.core_rows.proofs.Following.{follows-why}
use Rattle.core_objects.specs.Answers.{is_read, IsAnswer}

-- a command in a project
abbrev asks : List ℕ → Option (List ℕ) → What → Command
asks project expects asked = record { project = project; what = asked; expects = expects }

-- of a command that makes nothing of the state, refused or not
none-of : (o : Option Refusal) → unless_refused o nothing ≡ []
none-of None = refl
none-of (Some r) = refl

-- A command that only reads: its plan makes nothing of the state, it is no cancel, and it is answered by what it reads.
pub record ReadsOnly (s : State) (c : Command) (moment : ℕ) : Type 0 where
  pub plan : plan_of s c moment ≡ nothing
  pub uncancelled : cancel_broken s c.what ≡ None
  pub answers : cancel_or_read s c moment c.what ≡ and_then (answer.Reply (read s c.project c.what)) s

-- each read is one
reads-only : (s : State) (project : List ℕ) (expects : Option (List ℕ)) (w : What) (moment : ℕ) → is_read w ≡ true → ReadsOnly s (asks project expects w) moment
unfolding plan_of cancel_broken
reads-only s project expects what.Root moment is = record { plan = refl; uncancelled = refl; answers = refl }
reads-only s project expects what.Server moment is = record { plan = refl; uncancelled = refl; answers = refl }
reads-only s project expects (what.List of recursion) moment is = record { plan = refl; uncancelled = refl; answers = refl }
reads-only s project expects (what.Get of) moment is = record { plan = refl; uncancelled = refl; answers = refl }
reads-only s project expects (what.State of) moment is = record { plan = refl; uncancelled = refl; answers = refl }
reads-only s project expects (what.GetOp op) moment is = record { plan = refl; uncancelled = refl; answers = refl }
reads-only s project expects other moment is = cc

pub reads : (s : State) (c : Command) (moment : ℕ) → is_read c.what ≡ true → ReadsOnly s c moment
reads s c moment is = reads-only s c.project c.expects c.what moment is

module _ (s : State) (c : Command) (moment : ℕ) (h : ReadsOnly s c moment) where
  -- a read changes nothing
  pub changes_of-read : changes_of s c moment ≡ []
  unfolding changes_of
  changes_of-read = ap (unless_refused (broken s c moment)) h.plan ∙ none-of (broken s c moment)

  -- it breaks rules on names and on what stands in the way alone
  pub read-free : (names_broken s c ≡ None) × (standing_broken s c ≡ None) → broken s c moment ≡ None
  unfolding broken
  read-free free =
      ap (λ o. first (o ∷ standing_broken s c ∷ plan_broken s c (plan_of s c moment) moment ∷ [])) free.0
      ∙ ap (λ o. first (o ∷ plan_broken s c (plan_of s c moment) moment ∷ [])) free.1
      ∙ ap (λ p. first (plan_broken s c p moment ∷ [])) h.plan
      ∙ ap (λ o. first (o ∷ [])) h.uncancelled

  -- its step
  pub read-step : broken s c moment ≡ None → step s (event.Ask c moment) well ≡ Some (and_then (answer.Reply (read s c.project c.what)) s)
  unfolding step accepted
  read-step unbroken = ap (after_command s c moment well) unbroken ∙ ap (λ p. Some (carried_out s c moment p)) h.plan ∙ ap Some h.answers

-- a read that breaks no rule was answered
module _ (s : State) (c : Command) (moment : ℕ) (untold : List Untold) (store : Store) (h : ReadsOnly s c moment) (free : broken s c moment ≡ None) (none : untold ≡ []) where
  plainly : (r : Reply) → answered r ≡ answer.Reply r → r ≡ read s c.project c.what → Follows s c moment s untold r store store
  plainly r same is = record {
    asked = record {
      outcome = well;
      caused = refl;
      stored = subst (λ cs. Stores cs well store store) (sym (changes_of-read s c moment h)) refl;
      is =
          read-step s c moment h free
          ∙ ap (λ x. Some (and_then (answer.Reply x) s)) (sym is)
          ∙ ap (λ a. Some (and_then a s)) (sym same)
          ∙ ap (λ ns. Some (and_then (answered r) (telling ns s))) (sym none);
    };
    kept = λ start same_start. same_start;
  }

  pub read-follows : (r : Reply) → IsAnswer r (read s c.project c.what) → Follows s c moment s untold r store store
  read-follows reply.Empty is = plainly reply.Empty refl is
  read-follows (reply.Links xs) is = plainly (reply.Links xs) refl is
  read-follows (reply.One v) is = plainly (reply.One v) refl is
  read-follows (reply.Many vs) is = plainly (reply.Many vs) refl is
  read-follows (reply.OpLinks xs) is = plainly (reply.OpLinks xs) refl is
  read-follows (reply.OpMany xs) is = plainly (reply.OpMany xs) refl is
  read-follows (reply.Started v) is = plainly (reply.Started v) refl is
  read-follows (reply.Refused x) is = plainly (reply.Refused x) refl is
  read-follows reply.NoMemory is = follows-why s c moment untold or.NoMemory store tt none

-- what was read is the answer
pub answer-is : (r answer : Reply) → r ≡ answer → IsAnswer r answer
answer-is reply.Empty answer h = h
answer-is (reply.Links xs) answer h = h
answer-is (reply.One v) answer h = h
answer-is (reply.Many vs) answer h = h
answer-is (reply.OpLinks xs) answer h = h
answer-is (reply.OpMany xs) answer h = h
answer-is (reply.Started v) answer h = h
answer-is (reply.Refused x) answer h = h
answer-is reply.NoMemory answer h = tt
