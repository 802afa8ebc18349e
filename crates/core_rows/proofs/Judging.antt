-- The rules that changes at once break, once names and what stands in the way break none; and an accepted command whose changes can be committed.
use Rattle.std.proofs.Common.{◌≡◌, ℕ, List, [], ◌∷◌, Option, Some, None, refl, ap, ◌∙◌}
use Rattle.std.specs.List.{AllByRecursion}
use Rattle.plain_lists.specs.Firsts.{first}
use Rattle.size_values.specs.declared.kinds.ObjectKind.{ObjectKind}
use Rattle.size_values.specs.declared.kinds.ObjectKind.TheVariants as kind
use Rattle.records.specs.declared.notices.Untold.{Untold}
use Rattle.records.specs.declared.commands.Body.{Body}
use Rattle.records.specs.declared.commands.Command.{Command}
use Rattle.records.specs.declared.commands.What.{What}
use Rattle.records.specs.declared.commands.What.TheVariants as what
use Rattle.row_codec.proofs.ShortParts.{short-parts}
use Rattle.row_machine.specs.declared.changes.RowChange.{RowChange}
use Rattle.row_machine.specs.machine.State.{State}
use Rattle.row_machine.specs.machine.Task.{Task}
use Rattle.row_machine.specs.machine.Rows.{instance_named}
use Rattle.row_machine.specs.machine.Changes.{applied, rows_put}
use Rattle.row_machine.specs.machine.Asked.{with_name}
use Rattle.row_machine.specs.machine.Plans.{changes, starts, if_there, plan_of}
use Rattle.row_machine.specs.machine.Tasks.{snapshot_creation}
use Rattle.row_machine.specs.machine.Rules.{standing_broken}
use Rattle.row_machine.specs.machine.SettingRules.{settings_broken}
use Rattle.row_machine.specs.machine.PolicyRules.{policy_broken, snapshot_blocked}
use Rattle.row_machine.specs.machine.LimitRules.{counts_broken, limits_broken}
use Rattle.row_machine.specs.machine.TableRules.{tables_broken}
use Rattle.row_machine.specs.machine.Rules.{broken, plan_broken}
use Rattle.row_machine.specs.facts.Whole.{IsWhole}
use Rattle.machine_laws.proofs.Cases.{IsAccepted}
use Rattle.machine_laws.proofs.Judged.{judged}
use Rattle.machine_laws.proofs.NamesKept.{puts-named}
use Rattle.machine_laws.proofs.SizesTables.{tables-judged}
use Rattle.core_judging.specs.core_reports.specs.Entries.{HasEntry}
use Rattle.core_judging.specs.core_reports.proofs.Writable.{entries-of}
use Rattle.core_judging.specs.Judged.{changes_judged}
use Rattle.core_rows.specs.Planned.{IsToDo}

-- ---- a policy blocks snapshots alone, which begin an operation

-- a command in a project
abbrev asks : List ℕ → Option (List ℕ) → What → Command
asks project expects asked = record { project = project; what = asked; expects = expects }

-- a plan that is made where an object is there, and begins an operation, makes no changes at once
begins-none : {X : Type 0} (o : Option X) (task : X → Task) (cs : List RowChange) → if_there (λ x. starts (task x)) o ≡ changes cs → ⊥
begins-none None task cs e = cc
begins-none (Some x) task cs e = cc

-- a creation, by the kind of the object
creation-unblocked : (s : State) (project : List ℕ) (expects : Option (List ℕ)) (k : ObjectKind) (pool instance name : List ℕ) (body : Body) (moment : ℕ) (cs : List RowChange)
    → plan_of s (asks project expects (what.Create (record { kind = k; pool = pool; instance = instance; name = name }) body)) moment ≡ changes cs
    → snapshot_blocked s (asks project expects (what.Create (record { kind = k; pool = pool; instance = instance; name = name }) body)) ≡ None
unfolding snapshot_blocked plan_of
creation-unblocked s project expects kind.Project pool instance name body moment cs e = refl
creation-unblocked s project expects kind.Profile pool instance name body moment cs e = refl
creation-unblocked s project expects kind.Network pool instance name body moment cs e = refl
creation-unblocked s project expects kind.Pool pool instance name body moment cs e = refl
creation-unblocked s project expects kind.Volume pool instance name body moment cs e = refl
creation-unblocked s project expects kind.Instance pool instance name body moment cs e = refl
creation-unblocked s project expects kind.Snapshot pool instance name body moment cs e =
    absurd (begins-none (instance_named s.instances project instance)
    (λ i. snapshot_creation project (with_name s project (record { kind = kind.Snapshot; pool = pool; instance = instance; name = name })) moment i) cs e)
creation-unblocked s project expects kind.Operation pool instance name body moment cs e = refl

unblocked : (s : State) (project : List ℕ) (expects : Option (List ℕ)) (asked : What) (moment : ℕ) (cs : List RowChange)
    → plan_of s (asks project expects asked) moment ≡ changes cs → snapshot_blocked s (asks project expects asked) ≡ None
unfolding snapshot_blocked
unblocked s project expects (what.Create of body) moment cs e = creation-unblocked s project expects of.kind of.pool of.instance of.name body moment cs e
unblocked s project expects other moment cs e = refl

-- ---- the rules that are left

-- a list of rules within lists, as one list
flat : {R : Type 0} (a b c d t : Option R) → first (first (first (a ∷ b ∷ None ∷ c ∷ d ∷ []) ∷ None ∷ t ∷ []) ∷ []) ≡ first (a ∷ b ∷ c ∷ d ∷ t ∷ [])
flat (Some r) b c d t = refl
flat None (Some r) c d t = refl
flat None None (Some r) d t = refl
flat None None None (Some r) t = refl
flat None None None None (Some r) = refl
flat None None None None None = refl

-- what a command breaks that breaks no rule on names and on what stands in the way
pub left-broken : (s : State) (c : Command) (moment : ℕ) (cs : List RowChange) (n : Untold) → IsToDo s c moment cs n
    → broken s c moment ≡ changes_judged s (applied s cs) (rows_put cs)
unfolding broken changes_judged
left-broken s c moment cs n d =
    let settings = settings_broken (applied s cs) (rows_put cs) in
    let policy = policy_broken (applied s cs) in
    let counts = counts_broken (applied s cs) in
    let limits = limits_broken s (applied s cs) in
    let tables = tables_broken (applied s cs) (rows_put cs) in
    ap (λ o. first (o ∷ standing_broken s c ∷ plan_broken s c (plan_of s c moment) moment ∷ [])) d.names
    ∙ ap (λ o. first (o ∷ plan_broken s c (plan_of s c moment) moment ∷ [])) d.standing
    ∙ ap (λ p. first (plan_broken s c p moment ∷ [])) d.plan
    ∙ ap (λ o. first (first (first (settings ∷ policy ∷ o ∷ counts ∷ limits ∷ []) ∷ None ∷ tables ∷ []) ∷ [])) (unblocked s c.project c.expects c.what moment cs d.plan)
    ∙ flat settings policy counts limits tables

-- a command that breaks none is accepted
pub accepted-so : (s : State) (c : Command) (moment : ℕ) (cs : List RowChange) (n : Untold) → IsWhole s → IsToDo s c moment cs n
    → changes_judged s (applied s cs) (rows_put cs) ≡ None → IsAccepted s c moment (changes cs)
accepted-so s c moment cs n whole d none = record {
  whole = whole;
  formed = d.formed;
  early = d.early;
  unbroken = left-broken s c moment cs n d ∙ none;
  plan = d.plan;
}

-- ---- what is accepted can be committed

pub entries-ready : (s : State) (c : Command) (moment : ℕ) (cs : List RowChange) → IsAccepted s c moment (changes cs) → AllByRecursion HasEntry cs
entries-ready s c moment cs h =
    let named = puts-named h in
    let small = (tables-judged (applied s cs) (rows_put cs) (judged h).tables).1 in
    entries-of cs named.0 named.1 (record { at = λ r m. short-parts r (small.at r m) })
