-- What the parts of a change come to, as one step of the machine.
use Rattle.std.proofs.Common.{◌≡◌, ◌≢◌, ℕ, true, false, Bool, cond, List, [], ◌∷◌, Option, Some, None, option_map, Err, refl, ap, sym, ◌∙◌, subst, inr}
use Rattle.std.specs.Prelude.{codes}
use Rattle.size_values.specs.Causes.{Refuses}
use Rattle.size_values.specs.declared.memory.Or.{Or}
use Rattle.size_values.specs.declared.memory.Or.TheVariants as or
use Rattle.size_values.specs.declared.entry.Entry.{Entry}
use Rattle.size_values.specs.declared.rise.Rise.{Rise}
use Rattle.record_keeper.specs.Entries.{after_changes}
use Rattle.record_keeper.specs.Store.{Store, FailsAtCall, IsAfterUpTo, after_commit}
use Rattle.records.specs.declared.commands.Command.{Command}
use Rattle.records.specs.declared.notices.Untold.{Untold}
use Rattle.records.specs.declared.refusals.Refusal.{Refusal}
use Rattle.records.specs.declared.replies.Reply.TheVariants as reply
use Rattle.records.specs.declared.rows.Project.{Project}
use Rattle.records.specs.declared.rows.Row.TheVariants as row
use Rattle.row_machine.specs.declared.changes.RowChange.{RowChange}
use Rattle.row_machine.specs.declared.events.Answer.TheVariants as answer
use Rattle.row_machine.specs.machine.State.{State}
use Rattle.row_machine.specs.machine.Homes.{is_on}
use Rattle.row_machine.specs.machine.Changes.{applied, rows_put}
use Rattle.row_machine.specs.machine.NewRows.{default_profile}
use Rattle.row_machine.specs.machine.Plans.{plan_of, changes, put_all}
use Rattle.row_machine.specs.opening.Records.{records_of}
use Rattle.row_machine.specs.machine.Rules.{broken}
use Rattle.row_machine.specs.shown.Notices.{telling, change_notices}
use Rattle.row_machine.specs.machine.Accept.{and_then}
use Rattle.row_machine.specs.machine.Step.{well, keeper_failed, no_memory}
use Rattle.machine_laws.specs.Entries.{entry_changes}
use Rattle.machine_laws.proofs.Cases.{IsAccepted, AtOnce}
use Rattle.machine_laws.proofs.AtOnceCases.{at_once}
use Rattle.machine_laws.proofs.RecordsKept.{records-follow}
use Rattle.core_rows.specs.Asked.{IsAsked, changes_at_once, changes_of, unless_refused}
use Rattle.core_judging.specs.Judged.{changes_judged, reply_for}
use Rattle.core_rows.specs.Planned.{Follows, IsToDo}
use Rattle.core_judging.specs.core_reports.specs.Stores.{Stores}
use Rattle.core_judging.specs.core_reports.proofs.Stores.{failures-same, contents-same}
use Rattle.core_judging.specs.Commits.{Commits}
use Rattle.core_rows.proofs.Judging.{left-broken}
use Rattle.core_rows.proofs.Stepping.{changes-step, refused-step, failed-step, no_memory-step}

-- ---- the changes of a command

-- of one that breaks no rule and makes changes at once
changes_of-free : (s : State) (c : Command) (moment : ℕ) (cs : List RowChange) → plan_of s c moment ≡ changes cs → broken s c moment ≡ None → changes_of s c moment ≡ cs
unfolding changes_of
changes_of-free s c moment cs plan free = ap (λ o. unless_refused o (plan_of s c moment)) free ∙ ap changes_at_once plan

-- of one that breaks a rule
changes_of-refused : (s : State) (c : Command) (moment : ℕ) (r : Refusal) → broken s c moment ≡ Some r → changes_of s c moment ≡ []
unfolding changes_of
changes_of-refused s c moment r is = ap (λ o. unless_refused o (plan_of s c moment)) is

-- there are some
creates-some : (b : Bool) (r : Project)
    → cond b (put_all (row.Project r ∷ row.Profile (default_profile r.name) ∷ [])) (put_all (row.Project r ∷ [])) ≢ []
creates-some true r = λ e. cc
creates-some false r = λ e. cc

some-changes : (s : State) (cs : List RowChange) → AtOnce s cs → cs ≢ []
some-changes s cs (AtOnce.makes_project r a b) = creates-some (is_on r.config (codes "features.profiles")) r
some-changes s cs other = λ e. cc

-- ---- what they do to the store

-- nothing where memory was refused before the keeper was called
unstored : (cs : List RowChange) (store : Store) → Stores cs no_memory store store
unstored [] store = refl
unstored (c ∷ cs) store = inr refl

-- they were committed
stored-well : (cs : List RowChange) (store store' : Store) → cs ≢ [] → store' ≡ after_commit (entry_changes cs) store → Stores cs well store store'
stored-well [] store store' some is = absurd (some refl)
stored-well (c ∷ cs) store store' some is = is

-- the keeper failed
stored-failed : (cs : List RowChange) (rise : Rise) (store store' : Store) → cs ≢ [] → FailsAtCall 1 store store' → rise.before ≡ store.failures → rise.after ≡ store'.failures
    → Stores cs (keeper_failed rise) store store'
stored-failed [] rise store store' some fails before after = absurd (some refl)
stored-failed (c ∷ cs) rise store store' some fails before after = (fails, before, after)

-- memory was refused before that call or in it
stored-no-memory : (cs : List RowChange) (store store' : Store) → cs ≢ [] → IsAfterUpTo 1 store store' → Stores cs no_memory store store'
stored-no-memory [] store store' some h = absurd (some refl)
stored-no-memory (c ∷ cs) store store' some h = h

-- ---- steps

-- nothing was done: the command breaks this rule
asked-refused : (s : State) (c : Command) (moment : ℕ) (untold : List Untold) (r : Refusal) (store : Store)
    → broken s c moment ≡ Some r → untold ≡ [] → IsAsked s c moment s untold (reply.Refused r) store store
asked-refused s c moment untold r store breaks none = record {
  outcome = well;
  caused = refl;
  stored = subst (λ cs. Stores cs well store store) (sym (changes_of-refused s c moment r breaks)) refl;
  is = refused-step s c moment r breaks ∙ ap (λ ns. Some (and_then (answer.Reply (reply.Refused r)) (telling ns s))) (sym none);
}

-- nothing was done: memory was refused
asked-no-memory : (s : State) (c : Command) (moment : ℕ) (s' : State) (untold : List Untold) (store store' : Store)
    → s' ≡ s → untold ≡ [] → store'.failures ≡ store.failures → Stores (changes_of s c moment) no_memory store store' → IsAsked s c moment s' untold reply.NoMemory store store'
asked-no-memory s c moment s' untold store store' same none failures stored = record {
  outcome = no_memory;
  caused = failures;
  stored = stored;
  is = no_memory-step s c moment ∙ ap (λ t. Some (and_then answer.NoMemory t)) (sym same)
      ∙ ap (λ ns. Some (and_then answer.NoMemory (telling ns s'))) (sym none);
}

-- ---- with the records

-- nothing was done: a rule is broken, or memory was refused
pub follows-why : (s : State) (c : Command) (moment : ℕ) (untold : List Untold) (why : Or Refusal) (store : Store)
    → Refuses why (broken s c moment) → untold ≡ [] → Follows s c moment s untold (reply_for why) store store
follows-why s c moment untold or.NoMemory store refuses none = record {
  asked = asked-no-memory s c moment s untold store store refl none refl (unstored (changes_of s c moment) store);
  kept = λ start is. is;
}
follows-why s c moment untold (or.Why r) store refuses none = record { asked = asked-refused s c moment untold r store refuses none; kept = λ start is. is }

-- the changes were judged, and break a rule
pub follows-judged : (s : State) (c : Command) (moment : ℕ) (cs : List RowChange) (n : Untold) (untold : List Untold) (why : Or Refusal) (store : Store)
    → IsToDo s c moment cs n → Refuses why (changes_judged s (applied s cs) (rows_put cs)) → untold ≡ []
    → Follows s c moment s untold (reply_for why) store store
follows-judged s c moment cs n untold why store d refuses none =
    follows-why s c moment untold why store (subst (Refuses why) (sym (left-broken s c moment cs n d)) refuses) none

-- the changes were not committed: the keeper failed, or memory was refused
pub follows-uncommitted : (s : State) (c : Command) (moment : ℕ) (cs : List RowChange) (untold : List Untold) (why : Or Refusal) (store store' : Store)
    → IsAccepted s c moment (changes cs) → Commits {T = Unit {0}} (Err why) (entry_changes cs) store store' → untold ≡ []
    → Follows s c moment s untold (reply_for why) store store'
follows-uncommitted s c moment cs untold (or.Why r) store store' h failed none = record {
  asked = record {
    outcome = keeper_failed rise;
    caused = (refl, refl, failed.1.later);
    stored = subst (λ xs. Stores xs (keeper_failed rise) store store') (sym (changes_of-free s c moment cs h.plan h.unbroken))
        (stored-failed cs rise store store' (some-changes s cs (at_once h)) failed.1 refl refl);
    is =
        failed-step s c moment cs rise h.plan h.unbroken
        ∙ ap (λ x. Some (and_then (answer.Reply (reply.Refused x)) s)) (sym failed.0)
        ∙ ap (λ ns. Some (and_then (answer.Reply (reply.Refused r)) (telling ns s))) (sym none);
  };
  kept = λ start is. failed.1.contents ∙ is;
} where
  rise : Rise
  rise = record { before = store.failures; after = store'.failures; rose = failed.1.rose }
follows-uncommitted s c moment cs untold or.NoMemory store store' h after none = record {
  asked = asked-no-memory s c moment s untold store store' refl none (failures-same store store' after)
      (subst (λ xs. Stores xs no_memory store store') (sym (changes_of-free s c moment cs h.plan h.unbroken))
      (stored-no-memory cs store store' (some-changes s cs (at_once h)) after));
  kept = λ start is. contents-same store store' after ∙ is;
}

-- entries that are the records of the old state, after these changes
tells-after : (s : State) (c : Command) (moment : ℕ) (cs : List RowChange) (start : Option (List Entry)) → IsAccepted s c moment (changes cs)
    → option_map (after_changes (entry_changes cs)) (option_map (λ _. records_of s) start) ≡ option_map (λ _. records_of (applied s cs)) start
tells-after s c moment cs None h = refl
tells-after s c moment cs (Some entries) h = ap Some (records-follow h)

-- the changes were committed and made
pub follows-made : (s : State) (c : Command) (moment : ℕ) (cs : List RowChange) (n : Untold) (s' : State) (untold : List Untold) (store store' : Store)
    → IsAccepted s c moment (changes cs) → change_notices s c moment ≡ n ∷ [] → store' ≡ after_commit (entry_changes cs) store
    → s' ≡ applied s cs → untold ≡ n ∷ [] → Follows s c moment s' untold reply.Empty store store'
follows-made s c moment cs n s' untold store store' h notices committed made told = record {
  asked = record {
    outcome = well;
    caused = ap (λ (x : Store). x.failures) committed;
    stored = subst (λ xs. Stores xs well store store') (sym (changes_of-free s c moment cs h.plan h.unbroken))
        (stored-well cs store store' (some-changes s cs (at_once h)) committed);
    is =
        changes-step s c moment cs h.plan h.unbroken
        ∙ ap (λ ns. Some (and_then (answer.Reply reply.Empty) (telling ns (applied s cs)))) (notices ∙ sym told)
        ∙ ap (λ t. Some (and_then (answer.Reply reply.Empty) (telling untold t))) (sym made);
  };
  kept = λ start is.
      ap (λ (x : Store). x.contents) committed
      ∙ ap (option_map (after_changes (entry_changes cs))) is
      ∙ tells-after s c moment cs start h
      ∙ ap (λ t. option_map (λ _. records_of t) start) (sym made);
}
