-- Where rows break no rule at opening, all ten facts hold of the state that they open to.
use Rattle.std.proofs.Common.{◌≡◌, ℕ, ◌+◌, ◌≤◌, Bool, true, false, cond, not, ◌&&◌, ◌||◌, Option, Some, None, List, [], ◌∷◌, ◌++◌, length, filter, codes, refl, sym, ap, ◌∙◌, inl, inr, arith}
use Rattle.std.specs.Str.{bytes_eq}
use Rattle.std.specs.Option.{option_map, option_and_then, is_some, is_none}
use Rattle.plain_lists.specs.Firsts.{first_of}
use Rattle.plain_lists.specs.Members.{Mem, Each}
use Rattle.plain_lists.proofs.Elements.{Mem-append, Each-none, Each-cons, Each-append, Each-map}
use Rattle.plain_lists.proofs.FirstLemmas.{none_both, told_if, not_mapped, none-first_of}
use Rattle.plain_lists.proofs.Searches.{find-some, find-mem}
use Rattle.config_lists.proofs.Keys.{same, bytes_eq-itself}
use Rattle.std.specs.List.{sum_by}
use Rattle.reservations.specs.declared.books.Hold.{Hold}
use Rattle.size_values.specs.Amounts.{part}
use Rattle.size_values.specs.declared.amounts.Part.{Part}
use Rattle.size_values.specs.declared.amounts.Part.TheVariants.{Instances, Containers, Machines, Cpu, Memory, Processes, Disk}
use Rattle.size_values.specs.declared.kinds.ObjectKind.{ObjectKind}
use Rattle.operations.proofs.KeptLemmas.{AreKept-none}
use Rattle.records.specs.Forms.{are_profiles}
use Rattle.records.specs.declared.refusals.Rule.{Rule}
use Rattle.records.specs.declared.refusals.Refusal.{Refusal}
use Rattle.records.specs.declared.rows.Project.{Project}
use Rattle.records.specs.declared.rows.Profile.{Profile}
use Rattle.records.specs.declared.rows.Volume.{Volume}
use Rattle.records.specs.declared.rows.Instance.{Instance}
use Rattle.records.specs.declared.rows.Row.{Row}
use Rattle.records.specs.declared.rows.Row.TheVariants as row
use Rattle.row_machine.specs.machine.State.{State}
use Rattle.row_machine.specs.machine.Rows.{default_name, project_named, profile_named, is_project, project_names}
use Rattle.row_machine.specs.machine.Homes.{is_on}
use Rattle.row_machine.specs.machine.Expansions.{expanded_of}
use Rattle.row_machine.specs.machine.Claims.{judged_instances}
use Rattle.row_machine.specs.opening.Records.{rows_of}
use Rattle.row_machine.specs.machine.SettingRules.{profile_missing, devices_miss}
use Rattle.row_machine.specs.machine.PolicyRules.{forbids_profile, forbids_instance, project_forbids, policy_broken}
use Rattle.row_machine.specs.machine.LimitRules.{instance_without_amount, volume_lacks_amount, project_without_amount, counts_broken}
use Rattle.row_machine.specs.machine.TableRules.{count_of}
use Rattle.row_machine.specs.opening.Opening.{profiles_malformed, defaults_missing, named_row_missing, has_all_features}
use Rattle.row_machine.specs.facts.Whole.{IsWhole, AreNamed, HasReferences, ReferencesExist, HasDefaults, AreSettled, AreOperations, AreBalanced, AreFew}
use Rattle.machine_laws.proofs.NamesRise.{Rise-Distinct}
use Rattle.machine_laws.proofs.NamesRows.{EachRow, each-row}
use Rattle.machine_laws.proofs.NamesSuccess.{some_there}
use Rattle.machine_laws.proofs.LimitsForbidden.{rule_numbers}
use Rattle.machine_laws.proofs.LimitsBroken.{within-judged}
use Rattle.machine_laws.proofs.OpeningRows.{rows_alone, of_kind}
use Rattle.machine_laws.proofs.OpeningRules.{AreAccepted}

-- what is known of a state that rows opened to: it has these rows alone, under good names, and no more of them than there are
pub record IsOpened (s : State) (rows : List Row) : Type 0 where
  pub named : AreNamed s
  pub only : (r : Row) → Mem r (rows_of s) → Mem r rows
  pub counts : (k : ObjectKind) → count_of s k ≤ length (of_kind k rows)
  pub accepted : AreAccepted s rows

not_none : {X : Type 0} (o : Option X) → is_none o ≡ false → is_some o ≡ true
not_none None h = cc
not_none (Some x) h = refl

not_false : (b : Bool) → not b ≡ false → b ≡ true
not_false true h = refl
not_false false h = cc

or_false : (a b : Bool) → (a || b) ≡ false → (a ≡ false) × (b ≡ false)
or_false true b h = cc
or_false false b h = (refl, h)

-- of two that do not hold together the second fails where the first holds
and_false : (a b : Bool) → (a && b) ≡ false → a ≡ true → b ≡ false
and_false true b h is = h
and_false false b h is = cc

module _ (a : State) (rows : List Row) (h : IsOpened (rows_alone a) rows) where
  abbrev s : State
  s = rows_alone a

  -- a rule that no row breaks, kind by kind
  by_kind : {P : Row → Type 0} → Each P rows → EachRow P s
  by_kind {P} e = each-row s (record { at = λ r m. e.at r (h.only r m) })

  with_none : {P : Row → Type 0} → Each P rows → Each P (rows_of s ++ [])
  with_none {P} e = Each-append (record { at = λ r m. e.at r (h.only r m) }) Each-none

  references : ReferencesExist s
  unfolding judged_instances
  references = record {
    homes = record { at = λ r m. h.accepted.homes.at r (h.only r m) };
    volumes = Each-map (λ v none. not_none _ (told_if _ _ none)) (by_kind h.accepted.parents).volumes;
    snapshots = Each-map (λ r none. not_none _ (told_if _ _ none)) (by_kind h.accepted.parents).snapshots;
    snapshot_profiles = Each-append (Each-map (λ r none. not_false (are_profiles r.profiles) (told_if _ _ none)) (by_kind h.accepted.profiles).snapshots) Each-none;
    profiles = Each-map (λ r none. not_mapped _ _ none) (by_kind h.accepted.references).profiles;
    instances = Each-append (record { at = λ i m. refers i ((by_kind h.accepted.profiles).instances.at i m) ((by_kind h.accepted.references).instances.at i m) }) Each-none;
    operations = Each-none;
  } where
    refers : (i : Instance) → profiles_malformed s (row.Instance i) ≡ None → named_row_missing s (row.Instance i) ≡ None → HasReferences s i
    refers i few none =
        let both = none_both (profile_missing s i) _ (not_mapped (λ (r : Refusal). r.rule) _ none) in
        let devices = none_both (devices_miss s i.project (expanded_of s.projects s.profiles i).devices) None both.1 in
        record { few = not_false (are_profiles i.profiles) (told_if _ _ few); profiles = both.0; devices = devices.0 }

  defaults : HasDefaults s
  defaults = record {
    project = of_default (some_there (project_named s.projects default_name) (not_none (project_named s.projects default_name) h.accepted.default));
    profiles = Each-map (λ p none on. not_none _ (and_false (is_on p.config (codes "features.profiles")) _ (parts p none).1 on)) projects;
  } where
    projects : Each (λ p. defaults_missing s (row.Project p) ≡ None) s.projects
    projects = (by_kind h.accepted.defaults).projects

    parts : (p : Project) → defaults_missing s (row.Project p) ≡ None
        → ((bytes_eq p.name default_name && not (has_all_features p)) ≡ false)
        × ((is_on p.config (codes "features.profiles") && is_none (profile_named s.profiles p.name default_name)) ≡ false)
    parts p none = or_false _ _ (told_if _ _ none)

    of_default : (p : Project) × (project_named s.projects default_name ≡ Some p) → option_map has_all_features (project_named s.projects default_name) ≡ Some true
    of_default found =
        let p = found.0 in
        let there = find-some (is_project default_name) s.projects p found.1 in
        let all = not_false (has_all_features p) (and_false (bytes_eq p.name default_name) _ (parts p (projects.at p there.0)).0 there.1) in
        ap (option_map has_all_features) found.1 ∙ ap Some all

  settings : AreSettled s
  unfolding judged_instances
  settings = record {
    settings = with_none h.accepted.settings;
    devices = with_none h.accepted.devices;
    roots = Each-append (Each-map (λ i none. not_mapped _ _ none) (by_kind h.accepted.roots).instances) Each-none;
  }

  operations : AreOperations s
  operations = record { kept = AreKept-none; busy = λ project instance. omega arith; deeds = Each-none }

  -- ---- limits

  -- a project of the list is found by its name
  found : (p : Project) → Mem p s.projects → (name : List ℕ) → bytes_eq name p.name ≡ true → project_named s.projects name ≡ Some p
  found p m name is =
      let named : name ≡ p.name = same name p.name is in
      find-mem project_names (is_project name) p s.projects (Rise-Distinct project_names s.projects h.named.projects)
      (λ y hit. ap (λ n. n ∷ []) (same y.name name hit ∙ named)) m (ap (bytes_eq p.name) named ∙ bytes_eq-itself p.name)

  picked : {X : Type 0} (test : X → Bool) (x : X) (xs : List X) → Mem x (filter test xs) → Mem x xs × (test x ≡ true)
  picked test x [] m = absurd m
  picked {X} test x (y ∷ ys) m = at (test y) refl m (picked test x ys) where
    at : (b : Bool) → test y ≡ b → Mem x (cond b (y ∷ filter test ys) (filter test ys)) → (Mem x (filter test ys) → Mem x ys × (test x ≡ true)) → Mem x (y ∷ ys) × (test x ≡ true)
    at true is (inl e) more = (inl e, ap test e ∙ is)
    at true is (inr n) more = let rest = more n in (inr rest.0, rest.1)
    at false is n more = let rest = more n in (inr rest.0, rest.1)

  -- a rule on the objects of a project that its rows meet
  ruled : {R : Type 0} (f : R → Rule) (rule : Project → Option R) (p : Project) → Mem p s.projects → (name : List ℕ) → bytes_eq name p.name ≡ true
      → option_map f (option_and_then rule (project_named s.projects name)) ≡ None → rule p ≡ None
  ruled f rule p m name is none = ap (option_and_then rule) (sym (found p m name is)) ∙ not_mapped f _ none

  policy : policy_broken s ≡ None
  unfolding policy_broken judged_instances
  policy = none-first_of (λ number. first_of (project_forbids s number) s.projects) rule_numbers
      (record { at = λ number n. none-first_of (project_forbids s number) s.projects (record { at = λ p m. both number n p m }) })
    where
      profiles : (number : ℕ) → Mem number rule_numbers → (p : Project) → Mem p s.projects
          → first_of (forbids_profile p number) (filter (λ r. bytes_eq r.project p.name) s.profiles) ≡ None
      profiles number n p m = none-first_of (forbids_profile p number) (filter (λ r. bytes_eq r.project p.name) s.profiles) (record {
        at = λ r k. let there = picked (λ (x : Profile). bytes_eq x.project p.name) r s.profiles k in
            ruled (λ (x : Refusal). x.rule) (λ q. forbids_profile q number r) p m r.project there.1 ((by_kind (h.accepted.policy number n)).profiles.at r there.0);
      })

      instances : (number : ℕ) → Mem number rule_numbers → (p : Project) → Mem p s.projects
          → first_of (forbids_instance s p number) (filter (λ i. bytes_eq i.project p.name) (s.instances ++ [])) ≡ None
      instances number n p m = none-first_of (forbids_instance s p number) (filter (λ i. bytes_eq i.project p.name) (s.instances ++ [])) (record {
        at = λ i k. let there = picked (λ (x : Instance). bytes_eq x.project p.name) i (s.instances ++ []) k in
            let row : Mem i s.instances = elim (Mem-append i s.instances [] there.0) [ inl x ↦ x | inr x ↦ absurd x ] in
            ruled (λ (x : Refusal). x.rule) (λ q. forbids_instance s q number i) p m i.project there.1 ((by_kind (h.accepted.policy number n)).instances.at i row);
      })

      both : (number : ℕ) → Mem number rule_numbers → (p : Project) → Mem p s.projects → project_forbids s number p ≡ None
      both number n p m = none-first_of (λ (o : Option Refusal). o) _ (Each-cons _ (profiles number n p m) (Each-cons _ (instances number n p m) Each-none))

  counted : counts_broken s ≡ None
  unfolding counts_broken
  counted = none-first_of (project_without_amount s) s.projects (record { at = λ p m. all p m }) where
    instances : (p : Project) → Mem p s.projects → first_of (instance_without_amount s p) (filter (λ i. bytes_eq i.project p.name) s.instances) ≡ None
    instances p m = none-first_of (instance_without_amount s p) (filter (λ i. bytes_eq i.project p.name) s.instances) (record {
      at = λ i k. let there = picked (λ (x : Instance). bytes_eq x.project p.name) i s.instances k in
          ruled (λ (x : Refusal). x.rule) (λ q. instance_without_amount s q i) p m i.project there.1 ((by_kind h.accepted.counts).instances.at i there.0);
    })

    volumes : (p : Project) → Mem p s.projects → first_of (volume_lacks_amount p) (filter (λ v. bytes_eq v.project p.name) s.volumes) ≡ None
    volumes p m = none-first_of (volume_lacks_amount p) (filter (λ v. bytes_eq v.project p.name) s.volumes) (record {
      at = λ v k. let there = picked (λ (x : Volume). bytes_eq x.project p.name) v s.volumes k in
          ruled (λ (x : Refusal). x.rule) (λ q. volume_lacks_amount q v) p m v.project there.1 ((by_kind h.accepted.counts).volumes.at v there.0);
    })

    all : (p : Project) → Mem p s.projects → project_without_amount s p ≡ None
    all p m = none-first_of (λ (o : Option Refusal). o) _ (Each-cons _ (instances p m) (Each-cons _ (volumes p m) (Each-cons _ refl Each-none)))

  balanced : AreBalanced s
  balanced = record { parts = by_part; pools = refl } where
    by_part : (k : Part) → part k s.books.granted ≡ part k s.books.converted + part k s.books.returned + sum_by (λ (h : Hold). part k h.share) s.held
    by_part Instances = refl
    by_part Containers = refl
    by_part Machines = refl
    by_part Cpu = refl
    by_part Memory = refl
    by_part Processes = refl
    by_part Disk = refl

  sizes : AreFew s
  sizes = record {
    tables = record { at = λ k m. omega (arith, h.counts k, h.accepted.tables k m) };
    rows = with_none h.accepted.small;
    notices = tt;
    few_notices = omega arith;
    from_one = omega arith;
    last_number = omega arith;
  }

  pub opened-whole : IsWhole s
  opened-whole = record {
    names = h.named;
    references = references;
    defaults = defaults;
    settings = settings;
    operations = operations;
    under_way = Each-none;
    shares = refl;
    limits = within-judged s s policy counted h.accepted.limits;
    books = balanced;
    sizes = sizes;
  }
