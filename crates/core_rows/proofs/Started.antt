-- The background operation that a command begins: what it breaks, and what its entry comes to.
use Rattle.std.proofs.Common.{◌≡◌, ℕ, ◌+◌, ◌^◌, ◌<◌, ◌≤◌, Bool, cond, List, [], ◌∷◌, ◌++◌, find, Option, Some, None, option_map, refl, ap, sym, ◌∙◌, subst, arith}
use Rattle.std.specs.Prelude.{option_and_then}
use Rattle.std.specs.Option.{option_map_or, option_or, option_to_list}
use Rattle.std.proofs.lemmas.Bool.{eq-eqb, ne_eqb}
use Rattle.std.proofs.lemmas.List.Folds.{find-append}
use Rattle.plain_lists.specs.Firsts.{first}
use Rattle.plain_lists.proofs.Elements.{Each-left, Each-map}
use Rattle.plain_lists.proofs.Searches.{none-find}
use Rattle.size_values.specs.Causes.{Refuses}
use Rattle.size_values.specs.declared.kinds.ObjectKind.{ObjectKind}
use Rattle.size_values.specs.declared.kinds.ObjectKind.TheVariants as kind
use Rattle.size_values.specs.declared.memory.Or.{Or}
use Rattle.operations.specs.Facts.{AreKept}
use Rattle.operations.specs.OperationTable.{has_number, kept_at, enter_fault}
use Rattle.operations.specs.declared.faults.EnterFault.{EnterFault}
use Rattle.operations.specs.declared.operation.Operation.{Operation}
use Rattle.record_keeper.specs.Store.{Store}
use Rattle.records.specs.declared.commands.Body.{Body}
use Rattle.records.specs.declared.commands.Command.{Command}
use Rattle.records.specs.declared.commands.What.{What}
use Rattle.records.specs.declared.commands.What.TheVariants as what
use Rattle.records.specs.declared.notices.EventBody.TheVariants as event_body
use Rattle.records.specs.declared.notices.Untold.{Untold}
use Rattle.records.specs.declared.refusals.Refusal.{Refusal}
use Rattle.records.specs.declared.replies.Reply.{Reply}
use Rattle.records.specs.declared.replies.Reply.TheVariants as reply
use Rattle.core_drafts.specs.Background.{pending_of, holding}
use Rattle.core_drafts.proofs.Entering.{claim-held}
use Rattle.row_machine.specs.declared.events.Answer.TheVariants as answer
use Rattle.row_machine.specs.declared.events.Event.TheVariants as event
use Rattle.row_machine.specs.facts.Whole.{IsWhole}
use Rattle.row_machine.specs.machine.Accept.{After, and_then, accepted, carried_out, begun}
use Rattle.row_machine.specs.machine.LimitRules.{counts_broken, limits_broken, instance_without_amount}
use Rattle.row_machine.specs.machine.Plans.{starts, plan_of}
use Rattle.row_machine.specs.machine.PolicyRules.{policy_broken, snapshot_blocked, forbids_instance}
use Rattle.row_machine.specs.machine.Rules.{broken, plan_broken, standing_broken}
use Rattle.row_machine.specs.machine.SettingRules.{settings_broken}
use Rattle.row_machine.specs.machine.State.{State}
use Rattle.row_machine.specs.machine.Step.{well, after_command, step}
use Rattle.row_machine.specs.machine.TableRules.{enter_refusal, entry_broken, tables_broken}
use Rattle.row_machine.specs.machine.Task.{Task}
use Rattle.row_machine.specs.machine.Claims.{share_of, part_of_share}
use Rattle.row_machine.specs.machine.Operations.{claiming, entered, project_of_task}
use Rattle.row_machine.specs.shown.Notices.{telling, view_of}
use Rattle.row_readings.specs.Footprints.{share_footprint}
use Rattle.row_readings.specs.declared.amounts.Footprint.{Footprint}
use Rattle.machine_laws.proofs.Cases.{IsAccepted}
use Rattle.rules_limits.specs.OneProject.{claim_lacks_amount, share_broken}
use Rattle.rules_limits.specs.declared.one_operation.Beside.{Beside}
use Rattle.rules_policy.specs.Alone.{claim_forbidden}
use Rattle.core_judging.specs.core_totals.specs.Alone.{all_beside, beside_share, IsJudgedAlone}
use Rattle.core_judging.specs.core_totals.proofs.Alone.{judged-alone}
use Rattle.core_rows.specs.Asked.{IsAsked, answered, changes_at_once, changes_of, unless_refused}
use Rattle.core_judging.specs.core_reports.specs.Waiting.{IsSilent}
use Rattle.core_judging.specs.Judged.{claim_judged, reply_for}
use Rattle.core_rows.specs.Planned.{IsToStart}
use Rattle.core_judging.specs.core_reports.specs.Stores.{Stores}
use Rattle.core_rows.proofs.Following.{follows-why}

-- ---- the operation that was entered last

-- is found by its number
pub found-entered : (s : State) (task : Task) (moment : ℕ) → AreKept s.operations
    → kept_at (claiming s task moment).operations s.operations.next ≡ Some (pending_of s.operations.next task moment)
found-entered s task moment kept =
    find-append test (s.operations.live ++ last ∷ []) s.operations.ended
    ∙ ap (λ x. option_or x (find test s.operations.ended))
    (find-append test s.operations.live (last ∷ []) ∙ ap (λ x. option_or x (find test (last ∷ []))) others ∙ own)
  where
    test : Operation Task → Bool
    test = has_number s.operations.next

    last : Operation Task
    last = pending_of s.operations.next task moment

    others : find test s.operations.live ≡ None
    others = none-find test s.operations.live
        (Each-map (λ o below. ne_eqb o.number s.operations.next (λ same. let b : o.number < s.operations.next = below in let e : o.number ≡ s.operations.next = same in absurd (omega arith)))
        (Each-left s.operations.ended kept.numbered.below_next))

    own : find test (last ∷ []) ≡ Some last
    own = ap (λ b. cond b (Some last) None) (eq-eqb s.operations.next s.operations.next refl)

-- ---- the rules that it breaks

abbrev asks : List ℕ → Option (List ℕ) → What → Command
asks project expects asked = record { project = project; what = asked; expects = expects }

-- the rule on new snapshots reads no operations
snapshot-alike : (s : State) (task : Task) (moment : ℕ) (project : List ℕ) (expects : Option (List ℕ)) (k : ObjectKind) (pool instance name : List ℕ) (body : Body)
    → snapshot_blocked (claiming s task moment) (asks project expects (what.Create (record { kind = k; pool = pool; instance = instance; name = name }) body))
    ≡ snapshot_blocked s (asks project expects (what.Create (record { kind = k; pool = pool; instance = instance; name = name }) body))
unfolding snapshot_blocked
snapshot-alike s task moment project expects kind.Project pool instance name body = refl
snapshot-alike s task moment project expects kind.Profile pool instance name body = refl
snapshot-alike s task moment project expects kind.Network pool instance name body = refl
snapshot-alike s task moment project expects kind.Pool pool instance name body = refl
snapshot-alike s task moment project expects kind.Volume pool instance name body = refl
snapshot-alike s task moment project expects kind.Instance pool instance name body = refl
snapshot-alike s task moment project expects kind.Snapshot pool instance name body = refl
snapshot-alike s task moment project expects kind.Operation pool instance name body = refl

alike : (s : State) (task : Task) (moment : ℕ) (project : List ℕ) (expects : Option (List ℕ)) (asked : What)
    → snapshot_blocked (claiming s task moment) (asks project expects asked) ≡ snapshot_blocked s (asks project expects asked)
unfolding snapshot_blocked
alike s task moment project expects (what.Create of body) = snapshot-alike s task moment project expects of.kind of.pool of.instance of.name body
alike s task moment project expects other = refl

-- a list of rules within lists, as one list
flat : {R : Type 0} (a b x c d e t : Option R)
    → first (first (first (a ∷ b ∷ x ∷ c ∷ d ∷ []) ∷ e ∷ t ∷ []) ∷ []) ≡ first (a ∷ b ∷ x ∷ c ∷ d ∷ e ∷ t ∷ [])
flat (Some r) b x c d e t = refl
flat None (Some r) x c d e t = refl
flat None None (Some r) c d e t = refl
flat None None None (Some r) d e t = refl
flat None None None None (Some r) e t = refl
flat None None None None None (Some r) t = refl
flat None None None None None None (Some r) = refl
flat None None None None None None None = refl

-- of the others, those that what is claimed breaks alone are those that the state with it breaks
module _ (s : State) (task : Task) (moment : ℕ) (alone : IsJudgedAlone s task moment) where
  counts-alone : counts_broken (claiming s task moment) ≡ claim_lacks_amount (claiming s task moment) (project_of_task task) task
  unfolding instance_without_amount
  counts-alone = alone.counts

  policy-alone : policy_broken (claiming s task moment) ≡ claim_forbidden (claiming s task moment) task
  unfolding forbids_instance claim_forbidden
  policy-alone = alone.policy

-- those that are left are judged over the state with the claim
left-claim : (s : State) (c : Command) (moment : ℕ) (task : Task) (used : Beside) → IsWhole s → IsToStart s c moment task
    → share_broken s.projects (project_of_task task) used (share_footprint s task)
    ≡ share_broken s.projects (project_of_task task) (beside_share s task) (share_footprint s task)
    → broken s c moment
    ≡ claim_judged c (claiming s task moment) (enter_fault s.operations) (project_of_task task) used (share_footprint s task) task
unfolding broken claim_judged entry_broken
left-claim s c moment task used whole d serves =
    let later = claiming s task moment in
    let rows = option_to_list task.claim in
    let settings = settings_broken later rows in
    let policy = policy_broken later in
    let counts = counts_broken later in
    let limits = limits_broken s later in
    let blocked = snapshot_blocked later c in
    let entry = option_map enter_refusal (enter_fault s.operations) in
    let tables = tables_broken later rows in
    let alone = judged-alone s task moment whole in
    ap (λ o. first (o ∷ standing_broken s c ∷ plan_broken s c (plan_of s c moment) moment ∷ [])) d.names
    ∙ ap (λ o. first (o ∷ plan_broken s c (plan_of s c moment) moment ∷ [])) d.standing
    ∙ ap (λ p. first (plan_broken s c p moment ∷ [])) d.plan
    ∙ flat settings policy (snapshot_blocked s c) counts limits entry tables
    ∙ ap (λ o. first (settings ∷ policy ∷ o ∷ counts ∷ limits ∷ entry ∷ tables ∷ [])) (sym (alike s task moment c.project c.expects c.what))
    ∙ ap (λ o. first (settings ∷ o ∷ blocked ∷ counts ∷ limits ∷ entry ∷ tables ∷ [])) (policy-alone s task moment alone)
    ∙ ap (λ o. first (settings ∷ claim_forbidden later task ∷ blocked ∷ o ∷ limits ∷ entry ∷ tables ∷ [])) (counts-alone s task moment alone)
    ∙ ap (λ o. first (settings ∷ claim_forbidden later task ∷ blocked ∷ claim_lacks_amount later (project_of_task task) task ∷ o ∷ entry ∷ tables ∷ [])) (alone.limits ∙ sym serves)

-- what is judged of a kept operation
abbrev pub judged_at : Command → State → Option EnterFault → List ℕ → Beside → Footprint → ℕ → Option Refusal
judged_at c later fault project used share number =
    option_and_then (λ (o : Operation Task). claim_judged c later fault project used share o.work) (kept_at later.operations number)

-- what was judged is what the command breaks
pub judged-claim : (s : State) (c : Command) (moment : ℕ) (task : Task) (later : State) (fault : Option EnterFault) (number : ℕ)
    (project : List ℕ) (used : Beside) (share : Footprint)
    → IsWhole s → IsToStart s c moment task → later ≡ claiming s task moment → fault ≡ enter_fault s.operations
    → number ≡ s.operations.next → project ≡ project_of_task task → share ≡ share_footprint s task
    → share_broken s.projects (project_of_task task) used share
    ≡ share_broken s.projects (project_of_task task) (all_beside s (project_of_task task) share.on.pool) share
    → judged_at c later fault project used share number ≡ broken s c moment
judged-claim s c moment task later fault number project used share whole d made same numbered counted held serves =
    let claimed = claiming s task moment in
    let of = project_of_task task in
    ap (λ t. judged_at c t fault project used share number) made
    ∙ ap (λ f. judged_at c claimed f project used share number) same
    ∙ ap (judged_at c claimed (enter_fault s.operations) project used share) numbered
    ∙ ap (λ p. judged_at c claimed (enter_fault s.operations) p used share s.operations.next) counted
    ∙ ap (λ a. judged_at c claimed (enter_fault s.operations) of used a s.operations.next) held
    ∙ ap (option_and_then (λ (o : Operation Task). claim_judged c claimed (enter_fault s.operations) of used (share_footprint s task) o.work))
    (found-entered s task moment whole.operations.kept)
    ∙ sym (left-claim s c moment task used whole d
    (subst (λ (a : Footprint). share_broken s.projects of used a ≡ share_broken s.projects of (all_beside s of a.on.pool) a) held serves))

-- ---- what becomes of the command

-- the operation breaks a rule, or memory was refused, and nothing was done
pub start-refused : (s : State) (c : Command) (moment : ℕ) (s' : State) (untold : List Untold) (why : Or Refusal) (r : Reply) (store : Store)
    → Refuses why (broken s c moment) → s' ≡ s → untold ≡ [] → r ≡ reply_for why → IsAsked s c moment s' untold r store store
start-refused s c moment s' untold why r store refuses back none tells =
    subst (λ t. IsAsked s c moment t untold r store store) (sym back)
    (subst (λ x. IsAsked s c moment s untold x store store) (sym tells)
    (follows-why s c moment untold why store refuses none).asked)

-- an operation that breaks none is accepted
pub start-accepted : (s : State) (c : Command) (moment : ℕ) (task : Task) → IsWhole s → IsToStart s c moment task → broken s c moment ≡ None
    → IsAccepted s c moment (starts task)
start-accepted s c moment task whole d none = record { whole = whole; formed = d.formed; early = d.early; unbroken = none; plan = d.plan }

-- it commits nothing
start-commits : (s : State) (c : Command) (moment : ℕ) (task : Task) → IsAccepted s c moment (starts task) → changes_of s c moment ≡ []
unfolding changes_of
start-commits s c moment task h = ap (λ o. unless_refused o (plan_of s c moment)) h.unbroken ∙ ap changes_at_once h.plan

-- the notice of an operation that waits for its first call
abbrev pub notice_of : Operation Task → ℕ → Untold
notice_of o moment = record { moment = moment; project = o.work.project; body = event_body.Op (view_of o) }

-- what is answered and told of the operation that was entered, by what is found of it
abbrev begun_by : State → ℕ → Option (Operation Task) → After
begun_by later moment found = and_then
    (answer.Reply (option_map_or (λ o. reply.Started (view_of o)) found reply.Empty))
    (telling (option_to_list (option_map (λ o. notice_of o moment) found)) later)

begun-is : (s : State) (task : Task) (moment : ℕ) → AreKept s.operations
    → begun s task moment ≡ begun_by (entered s task moment) moment (Some (pending_of s.operations.next task moment))
unfolding entered
begun-is s task moment kept = ap (begun_by (entered s task moment) moment) (found-entered s task moment kept)

start-step : (s : State) (c : Command) (moment : ℕ) (task : Task) → IsAccepted s c moment (starts task)
    → step s (event.Ask c moment) well ≡ Some (begun s task moment)
unfolding step accepted
start-step s c moment task h = ap (after_command s c moment well) h.unbroken ∙ ap (λ p. Some (carried_out s c moment p)) h.plan

-- the operation was entered, and is told
pub start-made : (s : State) (c : Command) (moment : ℕ) (task : Task) (s' : State) (untold : List Untold) (r : Reply) (store : Store)
    → IsAccepted s c moment (starts task) → s' ≡ entered s task moment
    → untold ≡ notice_of (pending_of s.operations.next task moment) moment ∷ []
    → r ≡ reply.Started (view_of (pending_of s.operations.next task moment)) → IsAsked s c moment s' untold r store store
start-made s c moment task s' untold r store h made tells replies = record {
  outcome = well;
  caused = refl;
  stored = subst (λ cs. Stores cs well store store) (sym (start-commits s c moment task h)) refl;
  is =
      start-step s c moment task h
      ∙ ap Some (begun-is s task moment h.whole.operations.kept)
      ∙ ap (λ x. Some (and_then (answered x) (telling (notice_of (pending_of s.operations.next task moment) moment ∷ []) (entered s task moment)))) (sym replies)
      ∙ ap (λ ns. Some (and_then (answered r) (telling ns (entered s task moment)))) (sym tells)
      ∙ ap (λ t. Some (and_then (answered r) (telling untold t))) (sym made);
}

-- ---- the state afterwards

-- a claim whose share is held is an entry
pub entered-from : (s : State) (task : Task) (moment : ℕ) (later claimed : State) (project : List ℕ) (share : Footprint)
    → claimed ≡ claiming s task moment → project ≡ project_of_task task → share ≡ share_footprint s task → later ≡ holding project share.amounts share.on claimed
    → later ≡ entered s task moment
entered-from s task moment later claimed project share made counts holds is =
    is
    ∙ ap (λ p. holding p share.amounts share.on claimed) counts
    ∙ ap (λ (a : Footprint). holding (project_of_task task) a.amounts a.on claimed) holds
    ∙ ap (holding (project_of_task task) (share_of s task) (part_of_share s task)) made
    ∙ claim-held s task moment

-- its number is one
pub number-left : (s : State) (task : Task) (moment : ℕ) → IsWhole (entered s task moment) → s.operations.next < 2 ^ 40
unfolding entered
number-left s task moment h = let k : s.operations.next + 1 ≤ 2 ^ 40 = h.operations.kept.next_limit in omega (arith, k)

-- an entry alone tells nothing
pub entered-silent : (s : State) (task : Task) (moment : ℕ) → IsSilent s → IsSilent (entered s task moment)
unfolding entered
entered-silent s task moment h = record { notices = h.notices; next = h.next }
