-- What it says that rows break no rule at opening.
use Rattle.std.proofs.Common.{◌≡◌, ℕ, ◌≤◌, Bool, true, false, cond, Option, Some, None, List, [], ◌∷◌, length, sym, ◌∙◌, inl, inr}
use Rattle.std.specs.List.{slice_get}
use Rattle.std.specs.Option.{option_map, option_or, is_none}
use Rattle.std.proofs.lemmas.Option.{slice_get_cases}
use Rattle.plain_lists.specs.Firsts.{first_of}
use Rattle.plain_lists.specs.Members.{Mem, Each}
use Rattle.plain_lists.proofs.Elements.{Each-none, Each-cons, Each-map}
use Rattle.plain_lists.proofs.FirstLemmas.{none_both, told_if, not_mapped, first_of-none, none-first_of}
use Rattle.project_limits.specs.Admission.{parts}
use Rattle.size_values.specs.declared.kinds.ObjectKind.{ObjectKind}
use Rattle.size_values.specs.declared.kinds.ObjectKind.TheVariants as kind
use Rattle.std.proofs.lemmas.Bool.{ltb-false}
use Rattle.records.specs.declared.refusals.Rule.{Rule}
use Rattle.records.specs.declared.refusals.Rule.TheVariants as rule
use Rattle.records.specs.declared.refusals.Refusal.{Refusal}
use Rattle.records.specs.declared.rows.Project.{Project}
use Rattle.records.specs.declared.rows.Row.{Row}
use Rattle.row_machine.specs.machine.State.{State}
use Rattle.row_machine.specs.machine.Rows.{default_name, project_named}
use Rattle.row_machine.specs.machine.LimitRules.{part_exceeds, networks_exceed, pools_exceed, limits_broken}
use Rattle.row_machine.specs.machine.TableRules.{row_kinds, too_large, size_of, largest_row}
use Rattle.row_machine.specs.machine.Kinds.{cap_of}
use Rattle.row_machine.specs.opening.Opening.{Opening, opened, broken, broken_at, home_missing, parent_row_missing, profiles_malformed, defaults_missing, settings_invalid, devices_invalid, root_disk_missing, named_row_missing, forbidden, row_lacks_amount, row_rules, row_breaks, default_missing, limit_breaks, past_cap, size_breaks, rows_break}
use Rattle.machine_laws.proofs.SizesTables.{IsSmall}
use Rattle.machine_laws.proofs.OpeningRows.{of_kind}

-- each row meets each rule
pub record AreAccepted (s : State) (rows : List Row) : Type 0 where
  pub default : is_none (project_named s.projects default_name) ≡ false
  pub homes : Each (λ r. home_missing s r ≡ None) rows
  pub parents : Each (λ r. parent_row_missing s r ≡ None) rows
  pub profiles : Each (λ r. profiles_malformed s r ≡ None) rows
  pub defaults : Each (λ r. defaults_missing s r ≡ None) rows
  pub settings : Each (λ r. settings_invalid s r ≡ None) rows
  pub devices : Each (λ r. devices_invalid s r ≡ None) rows
  pub roots : Each (λ r. root_disk_missing s r ≡ None) rows
  pub references : Each (λ r. named_row_missing s r ≡ None) rows
  pub policy : (number : ℕ) → Mem number (1 ∷ 2 ∷ 3 ∷ 4 ∷ 5 ∷ 6 ∷ 7 ∷ []) → Each (λ r. forbidden number s r ≡ None) rows
  pub counts : Each (λ r. row_lacks_amount s r ≡ None) rows
  pub limits : limits_broken s s ≡ None
  pub tables : (k : ObjectKind) → Mem k row_kinds → length (of_kind k rows) ≤ cap_of k
  pub small : Each IsSmall rows

-- ---- a rule of rows

rule-none : (s : State) (rows : List Row) (rule : State → Row → Option Rule) → row_breaks s rows rule ≡ None → Each (λ r. rule s r ≡ None) rows
rule-none s rows rule h = Each-map (λ r none. not_mapped (broken_at r) (rule s r) none) (first_of-none (λ r. option_map (broken_at r) (rule s r)) rows h)

-- ---- limits

mapped-none : {X Y R : Type 0} (f : X → R → Y) (rule : X → Option R) (xs : List X) → first_of (λ x. option_map (f x) (rule x)) xs ≡ None → first_of rule xs ≡ None
mapped-none f rule xs h = none-first_of rule xs (Each-map (λ x none. not_mapped (f x) (rule x) none) (first_of-none (λ x. option_map (f x) (rule x)) xs h))

limits-none : (s : State) (rows : List Row) → limit_breaks s rows ≡ None → limits_broken s s ≡ None
unfolding limits_broken
limits-none s rows h =
    let both = none_both (first_of (λ k. first_of (λ p. option_map (at_project p) (part_exceeds s s k p)) s.projects) parts) _ h in
    let more = none_both (first_of (λ p. option_map (at_project p) (networks_exceed s s p)) s.projects) _ both.1 in
    let last = none_both (first_of (λ p. option_map (at_project p) (pools_exceed s s p)) s.projects) None more.1 in
    let of_parts : first_of (λ k. first_of (part_exceeds s s k) s.projects) parts ≡ None =
    none-first_of (λ k. first_of (part_exceeds s s k) s.projects) parts
    (Each-map (λ k none. mapped-none at_project (part_exceeds s s k) s.projects none)
    (first_of-none (λ k. first_of (λ p. option_map (at_project p) (part_exceeds s s k p)) s.projects) parts both.0)) in
    let of_networks : first_of (networks_exceed s s) s.projects ≡ None = mapped-none at_project (networks_exceed s s) s.projects more.0 in
    let of_pools : first_of (pools_exceed s s) s.projects ≡ None = mapped-none at_project (pools_exceed s s) s.projects last.0 in
    none-first_of (λ (o : Option Refusal). o) _ (Each-cons _ of_parts (Each-cons _ of_networks (Each-cons _ of_pools Each-none)))
  where
    at_project : Project → Refusal → Opening
    at_project p r = broken r.rule 1 p.name

-- ---- tables

not-past : {X : Type 0} (xs : List X) (n : ℕ) → slice_get xs n ≡ None → length xs ≤ n
not-past xs n none = elim (slice_get_cases xs n).1 [ inl found ↦ absurd (let x : Some found.0 ≡ None = sym found.2 ∙ none in cc) | inr past ↦ past.0 ]

cap-none : (rows : List Row) (k : ObjectKind) → past_cap rows k ≡ None → length (of_kind k rows) ≤ cap_of k
cap-none rows kind.Project h = not-past (of_kind kind.Project rows) (cap_of kind.Project) (not_mapped _ _ h)
cap-none rows kind.Profile h = not-past (of_kind kind.Profile rows) (cap_of kind.Profile) (not_mapped _ _ h)
cap-none rows kind.Network h = not-past (of_kind kind.Network rows) (cap_of kind.Network) (not_mapped _ _ h)
cap-none rows kind.Pool h = not-past (of_kind kind.Pool rows) (cap_of kind.Pool) (not_mapped _ _ h)
cap-none rows kind.Volume h = not-past (of_kind kind.Volume rows) (cap_of kind.Volume) (not_mapped _ _ h)
cap-none rows kind.Instance h = not-past (of_kind kind.Instance rows) (cap_of kind.Instance) (not_mapped _ _ h)
cap-none rows kind.Snapshot h = not-past (of_kind kind.Snapshot rows) (cap_of kind.Snapshot) (not_mapped _ _ h)
cap-none rows kind.Operation h = not-past (of_kind kind.Operation rows) (cap_of kind.Operation) (not_mapped _ _ h)

-- ---- all of them

pub rows-accepted : (s : State) (rows : List Row) → rows_break s rows ≡ None → AreAccepted s rows
unfolding rows_break
rows-accepted s rows h =
    let a = none_both (default_missing s) _ h in
    let b = none_both (first_of (row_breaks s rows) row_rules) _ a.1 in
    let c = none_both (limit_breaks s rows) _ b.1 in
    let d = none_both (first_of (past_cap rows) row_kinds) _ c.1 in
    let e = none_both (size_breaks rows) None d.1 in
    let r1 = none_both (row_breaks s rows home_missing) _ b.0 in
    let r2 = none_both (row_breaks s rows parent_row_missing) _ r1.1 in
    let r3 = none_both (row_breaks s rows profiles_malformed) _ r2.1 in
    let r4 = none_both (row_breaks s rows defaults_missing) _ r3.1 in
    let r5 = none_both (row_breaks s rows settings_invalid) _ r4.1 in
    let r6 = none_both (row_breaks s rows devices_invalid) _ r5.1 in
    let r7 = none_both (row_breaks s rows root_disk_missing) _ r6.1 in
    let r8 = none_both (row_breaks s rows named_row_missing) _ r7.1 in
    let f1 = none_both (row_breaks s rows (forbidden 1)) _ r8.1 in
    let f2 = none_both (row_breaks s rows (forbidden 2)) _ f1.1 in
    let f3 = none_both (row_breaks s rows (forbidden 3)) _ f2.1 in
    let f4 = none_both (row_breaks s rows (forbidden 4)) _ f3.1 in
    let f5 = none_both (row_breaks s rows (forbidden 5)) _ f4.1 in
    let f6 = none_both (row_breaks s rows (forbidden 6)) _ f5.1 in
    let f7 = none_both (row_breaks s rows (forbidden 7)) _ f6.1 in
    let last = none_both (row_breaks s rows row_lacks_amount) None f7.1 in
    let policy : Each (λ n. row_breaks s rows (forbidden n) ≡ None) (1 ∷ 2 ∷ 3 ∷ 4 ∷ 5 ∷ 6 ∷ 7 ∷ []) =
    Each-cons _ f1.0 (Each-cons _ f2.0 (Each-cons _ f3.0 (Each-cons _ f4.0 (Each-cons _ f5.0 (Each-cons _ f6.0 (Each-cons _ f7.0 Each-none)))))) in
    record {
      default = told_if _ _ a.0;
      homes = rule-none s rows home_missing r1.0;
      parents = rule-none s rows parent_row_missing r2.0;
      profiles = rule-none s rows profiles_malformed r3.0;
      defaults = rule-none s rows defaults_missing r4.0;
      settings = rule-none s rows settings_invalid r5.0;
      devices = rule-none s rows devices_invalid r6.0;
      roots = rule-none s rows root_disk_missing r7.0;
      references = rule-none s rows named_row_missing r8.0;
      policy = λ number m. rule-none s rows (forbidden number) (policy.at number m);
      counts = rule-none s rows row_lacks_amount last.0;
      limits = limits-none s rows c.0;
      tables = λ k m. cap-none rows k ((first_of-none (past_cap rows) row_kinds d.0).at k m);
      small = Each-map (λ r none. ltb-false largest_row (size_of r) (told_if _ _ (not_mapped _ (too_large r) none)))
          (first_of-none (λ r. option_map (λ why. broken_at r rule.C2) (too_large r)) rows e.0);
    }

-- ---- a rule that is broken opens nothing

-- no answer is a state
abbrev pub OpensNone : Option Opening → Type 0
OpensNone None = Unit {0}
OpensNone (Some (opened s)) = ⊥
OpensNone (Some other) = Unit {0}

or-opens : (a b : Option Opening) → OpensNone a → OpensNone b → OpensNone (option_or a b)
or-opens None b x y = y
or-opens (Some o) b x y = x

first-opens : {X : Type 0} (rule : X → Option Opening) (xs : List X) → ((x : X) → OpensNone (rule x)) → OpensNone (first_of rule xs)
first-opens rule [] each = tt
first-opens rule (x ∷ xs) each = or-opens (rule x) (first_of rule xs) (each x) (first-opens rule xs each)

mapped-opens : {X : Type 0} (f : X → Opening) (o : Option X) → ((x : X) → OpensNone (Some (f x))) → OpensNone (option_map f o)
mapped-opens f None each = tt
mapped-opens f (Some x) each = each x

pub rows-open_none : (s : State) (rows : List Row) → OpensNone (rows_break s rows)
unfolding rows_break
rows-open_none s rows =
    or-opens (default_missing s) _ (if-opens (is_none (project_named s.projects default_name)))
    (or-opens (first_of (row_breaks s rows) row_rules) _
    (first-opens (row_breaks s rows) row_rules (λ rule. first-opens (λ r. option_map (broken_at r) (rule s r)) rows (λ r. mapped-opens (broken_at r) (rule s r) (λ why. tt))))
    (or-opens (limit_breaks s rows) _
    (or-opens (first_of (λ k. first_of (λ p. option_map (at_project p) (part_exceeds s s k p)) s.projects) parts) _
    (first-opens (λ k. first_of (λ p. option_map (at_project p) (part_exceeds s s k p)) s.projects) parts
    (λ k. first-opens (λ p. option_map (at_project p) (part_exceeds s s k p)) s.projects (λ p. mapped-opens (at_project p) (part_exceeds s s k p) (λ r. tt))))
    (or-opens (first_of (λ p. option_map (at_project p) (networks_exceed s s p)) s.projects) _
    (first-opens (λ p. option_map (at_project p) (networks_exceed s s p)) s.projects (λ p. mapped-opens (at_project p) (networks_exceed s s p) (λ r. tt)))
    (or-opens (first_of (λ p. option_map (at_project p) (pools_exceed s s p)) s.projects) None
    (first-opens (λ p. option_map (at_project p) (pools_exceed s s p)) s.projects (λ p. mapped-opens (at_project p) (pools_exceed s s p) (λ r. tt))) tt)))
    (or-opens (first_of (past_cap rows) row_kinds) _
    (first-opens (past_cap rows) row_kinds (λ k. mapped-opens (λ r. broken_at r rule.C1) _ (λ r. tt)))
    (or-opens (size_breaks rows) None
    (first-opens (λ r. option_map (λ why. broken_at r rule.C2) (too_large r)) rows (λ r. mapped-opens (λ why. broken_at r rule.C2) (too_large r) (λ why. tt))) tt))))
  where
    at_project : Project → Refusal → Opening
    at_project p r = broken r.rule 1 p.name

    if-opens : (b : Bool) → OpensNone (cond b (Some (broken rule.N1 1 default_name)) None)
    if-opens true = tt
    if-opens false = tt
