-- Rows that meet each rule break none at opening.
use Rattle.std.proofs.Common.{◌≡◌, ℕ, ◌<◌, ◌≤◌, cond, Option, Some, None, List, [], ◌∷◌, length, ap, inl, inr, false, refl, arith}
use Rattle.std.specs.Prelude.{nat_lt}
use Rattle.std.specs.List.{slice_get}
use Rattle.std.specs.Option.{option_map}
use Rattle.std.proofs.lemmas.Option.{slice_get_cases}
use Rattle.std.proofs.lemmas.Bool.Decides.{nat_tests}
use Rattle.plain_lists.specs.Firsts.{first_of}
use Rattle.plain_lists.specs.Members.{Mem, Each}
use Rattle.plain_lists.proofs.Elements.{Each-none, Each-cons, Each-map}
use Rattle.plain_lists.proofs.FirstLemmas.{none_both, first_of-none, none-first_of}
use Rattle.project_limits.specs.Admission.{parts}
use Rattle.size_values.specs.declared.kinds.ObjectKind.{ObjectKind}
use Rattle.size_values.specs.declared.kinds.ObjectKind.TheVariants as kind
use Rattle.records.specs.declared.refusals.Refusal.{Refusal}
use Rattle.records.specs.declared.refusals.Rule.{Rule}
use Rattle.records.specs.declared.refusals.Rule.TheVariants as rule
use Rattle.records.specs.declared.rows.Project.{Project}
use Rattle.records.specs.declared.rows.Row.{Row}
use Rattle.row_machine.specs.machine.State.{State}
use Rattle.row_machine.specs.machine.Rows.{default_name}
use Rattle.row_machine.specs.machine.Kinds.{cap_of}
use Rattle.row_machine.specs.machine.LimitRules.{part_exceeds, networks_exceed, pools_exceed, limits_broken}
use Rattle.row_machine.specs.machine.TableRules.{row_kinds, too_large, size_of, largest_row}
use Rattle.row_machine.specs.opening.Opening.{Opening, broken, broken_at, home_missing, parent_row_missing, profiles_malformed, defaults_missing, settings_invalid, devices_invalid, root_disk_missing, named_row_missing, forbidden, row_lacks_amount, row_rules, row_breaks, limit_breaks, past_cap, size_breaks, rows_break}
use Rattle.machine_laws.proofs.OpeningRows.{of_kind}
use Rattle.machine_laws.proofs.OpeningRules.{AreAccepted}

module _ (s : State) (rows : List Row) (a : AreAccepted s rows) where
  -- a rule that each row meets
  rule-unbroken : (f : State → Row → Option Rule) → Each (λ r. f s r ≡ None) rows → row_breaks s rows f ≡ None
  rule-unbroken f all =
      none-first_of (λ r. option_map (broken_at r) (f s r)) rows (Each-map (λ r none. ap (option_map (broken_at r)) none) all)

  policy : (number : ℕ) → Mem number (1 ∷ 2 ∷ 3 ∷ 4 ∷ 5 ∷ 6 ∷ 7 ∷ []) → row_breaks s rows (forbidden number) ≡ None
  policy number m = rule-unbroken (forbidden number) (a.policy number m)

  rules : first_of (row_breaks s rows) row_rules ≡ None
  rules = none-first_of (row_breaks s rows) row_rules
      (Each-cons _ (rule-unbroken home_missing a.homes)
      (Each-cons _ (rule-unbroken parent_row_missing a.parents)
      (Each-cons _ (rule-unbroken profiles_malformed a.profiles)
      (Each-cons _ (rule-unbroken defaults_missing a.defaults)
      (Each-cons _ (rule-unbroken settings_invalid a.settings)
      (Each-cons _ (rule-unbroken devices_invalid a.devices)
      (Each-cons _ (rule-unbroken root_disk_missing a.roots)
      (Each-cons _ (rule-unbroken named_row_missing a.references)
      (Each-cons _ (policy 1 (inl refl))
      (Each-cons _ (policy 2 (inr (inl refl)))
      (Each-cons _ (policy 3 (inr (inr (inl refl))))
      (Each-cons _ (policy 4 (inr (inr (inr (inl refl)))))
      (Each-cons _ (policy 5 (inr (inr (inr (inr (inl refl))))))
      (Each-cons _ (policy 6 (inr (inr (inr (inr (inr (inl refl)))))))
      (Each-cons _ (policy 7 (inr (inr (inr (inr (inr (inr (inl refl))))))))
      (Each-cons _ (rule-unbroken row_lacks_amount a.counts) Each-none))))))))))))))))

  -- ---- limits

  mapped : {X Y R : Type 0} (f : X → R → Y) (rule : X → Option R) (xs : List X) → first_of rule xs ≡ None
      → first_of (λ x. option_map (f x) (rule x)) xs ≡ None
  mapped f rule xs h =
      none-first_of (λ x. option_map (f x) (rule x)) xs (Each-map (λ x none. ap (option_map (f x)) none) (first_of-none rule xs h))

  abbrev at_project : Project → Refusal → Opening
  at_project p r = broken r.rule 1 p.name

  limits : limit_breaks s rows ≡ None
  unfolding limits_broken
  limits =
      let both = none_both (first_of (λ k. first_of (part_exceeds s s k) s.projects) parts) _ a.limits in
      let more = none_both (first_of (networks_exceed s s) s.projects) _ both.1 in
      let last = none_both (first_of (pools_exceed s s) s.projects) None more.1 in
      let of_parts : first_of (λ k. first_of (λ p. option_map (at_project p) (part_exceeds s s k p)) s.projects) parts ≡ None =
      none-first_of (λ k. first_of (λ p. option_map (at_project p) (part_exceeds s s k p)) s.projects) parts
      (Each-map (λ k none. mapped at_project (part_exceeds s s k) s.projects none) (first_of-none (λ k. first_of (part_exceeds s s k) s.projects) parts both.0)) in
      let of_networks : first_of (λ p. option_map (at_project p) (networks_exceed s s p)) s.projects ≡ None =
      mapped at_project (networks_exceed s s) s.projects more.0 in
      let of_pools : first_of (λ p. option_map (at_project p) (pools_exceed s s p)) s.projects ≡ None =
      mapped at_project (pools_exceed s s) s.projects last.0 in
      none-first_of (λ (o : Option Opening). o) _ (Each-cons _ of_parts (Each-cons _ of_networks (Each-cons _ of_pools Each-none)))

  -- ---- tables

  past-none : {X : Type 0} (xs : List X) (n : ℕ) → length xs ≤ n → slice_get xs n ≡ None
  past-none xs n few = elim (slice_get_cases xs n).1 [ inl found ↦ absurd (let inside : n < length xs = found.1 in omega (arith, inside, few)) | inr past ↦ past.1 ]

  cap-kept : (k : ObjectKind) → length (of_kind k rows) ≤ cap_of k → past_cap rows k ≡ None
  cap-kept kind.Project few = ap (option_map (λ r. broken_at r rule.C1)) (past-none (of_kind kind.Project rows) (cap_of kind.Project) few)
  cap-kept kind.Profile few = ap (option_map (λ r. broken_at r rule.C1)) (past-none (of_kind kind.Profile rows) (cap_of kind.Profile) few)
  cap-kept kind.Network few = ap (option_map (λ r. broken_at r rule.C1)) (past-none (of_kind kind.Network rows) (cap_of kind.Network) few)
  cap-kept kind.Pool few = ap (option_map (λ r. broken_at r rule.C1)) (past-none (of_kind kind.Pool rows) (cap_of kind.Pool) few)
  cap-kept kind.Volume few = ap (option_map (λ r. broken_at r rule.C1)) (past-none (of_kind kind.Volume rows) (cap_of kind.Volume) few)
  cap-kept kind.Instance few = ap (option_map (λ r. broken_at r rule.C1)) (past-none (of_kind kind.Instance rows) (cap_of kind.Instance) few)
  cap-kept kind.Snapshot few = ap (option_map (λ r. broken_at r rule.C1)) (past-none (of_kind kind.Snapshot rows) (cap_of kind.Snapshot) few)
  cap-kept kind.Operation few = ap (option_map (λ r. broken_at r rule.C1)) (past-none (of_kind kind.Operation rows) (cap_of kind.Operation) few)

  small : (r : Row) → size_of r ≤ largest_row → too_large r ≡ None
  small r h =
      let below : nat_lt largest_row (size_of r) ≡ false = grind (arith, nat_tests, h) in
      rw below refl

  pub unbroken : rows_break s rows ≡ None
  unfolding rows_break
  unbroken = none-first_of (λ (o : Option Opening). o) _
      (Each-cons _ (ap (λ b. cond b (Some (broken rule.N1 1 default_name)) None) a.default)
      (Each-cons _ rules
      (Each-cons _ limits
      (Each-cons _ (none-first_of (past_cap rows) row_kinds (record { at = λ k m. cap-kept k (a.tables k m) }))
      (Each-cons _ sizes Each-none)))))
    where
      sizes : size_breaks rows ≡ None
      sizes =
          none-first_of (λ r. option_map (λ why. broken_at r rule.C2) (too_large r)) rows
          (Each-map (λ r fits. ap (option_map (λ why. broken_at r rule.C2)) (small r fits)) a.small)
