-- Changes of the rows of some projects leave those of all others.
use Rattle.std.proofs.Common.{◌≡◌, ℕ, Bool, true, false, cond, not, ◌&&◌, Some, List, [], ◌∷◌, filter, refl, sym, ◌∙◌, ap, ap₂, subst, inl, inr, true≢false}
use Rattle.std.specs.List.{before_first, find, list_all, list_any}
use Rattle.std.specs.Str.{bytes_eq}
use Rattle.plain_lists.specs.Edits.{changed_first, dropped, inserted, replaced}
use Rattle.plain_lists.specs.Members.{Mem, Each}
use Rattle.plain_lists.proofs.Elements.{Each-left, Each-map, Each-tail, Each-head}
use Rattle.config_lists.proofs.Keys.{same}
use Rattle.size_values.specs.declared.kinds.ObjectKind.{ObjectKind}
use Rattle.size_values.specs.declared.kinds.ObjectKind.TheVariants as kind
use Rattle.records.specs.declared.rows.Project.{Project}
use Rattle.records.specs.declared.rows.Profile.{Profile}
use Rattle.records.specs.declared.rows.Network.{Network}
use Rattle.records.specs.declared.rows.Volume.{Volume}
use Rattle.records.specs.declared.rows.Instance.{Instance}
use Rattle.records.specs.declared.rows.Row.{Row}
use Rattle.records.specs.declared.rows.Row.TheVariants as row
use Rattle.row_codec.specs.Reading.{is_slash}
use Rattle.row_codec.specs.Rows.{HasGoodKey}
use Rattle.row_codec.specs.Spelling.{two_names}
use Rattle.row_codec.proofs.Fields.{both_true}
use Rattle.row_codec.proofs.Names.{HasNoSlash, before_joined, good_no_slash}
use Rattle.row_machine.specs.declared.changes.RowChange.{RowChange}
use Rattle.row_machine.specs.declared.changes.RowChange.TheVariants as change
use Rattle.row_machine.specs.facts.Whole.{IsWhole, claims_of}
use Rattle.row_machine.specs.machine.Changes.{applied, changed, has_key, with_row, without_row}
use Rattle.row_machine.specs.machine.Rows.{default_name, same_names, texts_before, put_by, project_names, profile_names, network_names, volume_names, instance_names}
use Rattle.row_machine.specs.machine.State.{State}
use Rattle.machine_laws.proofs.ExpansionsApart.{fails-by}
use Rattle.machine_laws.proofs.Found.{two_same, three_same}
use Rattle.machine_laws.proofs.LimitsBroken.{Mem-filter}
use Rattle.machine_laws.proofs.NamesRows.{EachRow, each-row}
use Rattle.machine_laws.proofs.NamesSuccess.{Mem-filter as Mem-filtered}
use Rattle.core_totals.specs.OneProject.{touches_such}

-- ---- what passes a test, where that fails on all that is put and dropped

module _ {X : Type 0} (q : X → Bool) where
  filter-changed : (p : X → Bool) (x : X) (xs : List X) → q x ≡ false → ((y : X) → p y ≡ true → q y ≡ false)
      → filter q (changed_first p (λ _. x) xs) ≡ filter q xs
  filter-changed p x [] fails tells = refl
  filter-changed p x (y ∷ ys) fails tells = at (p y) refl (filter-changed p x ys fails tells) where
    at : (b : Bool) → p y ≡ b → filter q (changed_first p (λ _. x) ys) ≡ filter q ys
        → filter q (cond b (x ∷ ys) (y ∷ changed_first p (λ _. x) ys)) ≡ cond (q y) (y ∷ filter q ys) (filter q ys)
    at true is more =
        ap (λ b. cond b (x ∷ filter q ys) (filter q ys)) fails
        ∙ sym (ap (λ b. cond b (y ∷ filter q ys) (filter q ys)) (tells y is))
    at false is more = ap (λ zs. cond (q y) (y ∷ zs) zs) more

  filter-inserted : (before : X → Bool) (x : X) (xs : List X) → q x ≡ false → filter q (inserted before x xs) ≡ filter q xs
  filter-inserted before x [] fails = ap (λ b. cond b (x ∷ []) []) fails
  filter-inserted before x (y ∷ ys) fails = at (before y) (filter-inserted before x ys fails) where
    at : (b : Bool) → filter q (inserted before x ys) ≡ filter q ys
        → filter q (cond b (x ∷ y ∷ ys) (y ∷ inserted before x ys)) ≡ filter q (y ∷ ys)
    at true more = ap (λ b. cond b (x ∷ filter q (y ∷ ys)) (filter q (y ∷ ys))) fails
    at false more = ap (λ zs. cond (q y) (y ∷ zs) zs) more

  pub filter-replaced : (p before : X → Bool) (x : X) (xs : List X) → q x ≡ false → ((y : X) → p y ≡ true → q y ≡ false)
      → filter q (replaced p before x xs) ≡ filter q xs
  filter-replaced p before x xs fails tells = at (list_any p xs) where
    at : (b : Bool) → filter q (cond b (changed_first p (λ _. x) xs) (inserted before x xs)) ≡ filter q xs
    at true = filter-changed p x xs fails tells
    at false = filter-inserted before x xs fails

  filter-dropped : (p : X → Bool) (xs : List X) → Each (λ y. p y ≡ true → q y ≡ false) xs → filter q (dropped p xs) ≡ filter q xs
  filter-dropped p [] apart = refl
  filter-dropped p (y ∷ ys) apart = at (p y) refl (filter-dropped p ys (Each-tail apart)) where
    at : (b : Bool) → p y ≡ b → filter q (dropped p ys) ≡ filter q ys
        → filter q (cond b ys (y ∷ dropped p ys)) ≡ cond (q y) (y ∷ filter q ys) (filter q ys)
    at true is more = sym (ap (λ b. cond b (y ∷ filter q ys) (filter q ys)) (Each-head apart is))
    at false is more = ap (λ zs. cond (q y) (y ∷ zs) zs) more

  -- what passes stands in each list of which the same passes
  pub Mem-back : (x : X) (xs ys : List X) → filter q ys ≡ filter q xs → Mem x ys → q x ≡ true → Mem x xs
  Mem-back x xs ys same m is = Mem-filtered q x xs (subst (Mem x) same (Mem-filter q x ys m is))

  pub Mem-passes : (x : X) (xs : List X) → Mem x (filter q xs) → q x ≡ true
  Mem-passes x [] m = absurd m
  Mem-passes x (y ∷ ys) m = at (q y) refl m (Mem-passes x ys) where
    at : (b : Bool) → q y ≡ b → Mem x (cond b (y ∷ filter q ys) (filter q ys)) → (Mem x (filter q ys) → q x ≡ true) → q x ≡ true
    at true is (inl e) more = ap q e ∙ is
    at true is (inr n) more = more n
    at false is n more = more n

  -- a search that finds only what passes
  pub find-filter : (p : X → Bool) (xs : List X) → ((x : X) → p x ≡ true → q x ≡ true) → find p (filter q xs) ≡ find p xs
  find-filter p [] tells = refl
  find-filter p (y ∷ ys) tells = at (q y) refl (find-filter p ys tells) where
    at : (b : Bool) → q y ≡ b → find p (filter q ys) ≡ find p ys
        → find p (cond b (y ∷ filter q ys) (filter q ys)) ≡ cond (p y) (Some y) (find p ys)
    at true is more = ap (λ o. cond (p y) (Some y) o) more
    at false is more = more
        ∙ sym (ap (λ b. cond b (Some y) (find p ys)) (fails-by (p y) (λ hit. true≢false (sym (tells y hit) ∙ is))))

-- ---- rows of other projects

-- whether the project of this name is another one than such
abbrev pub is_other : (List ℕ → Bool) → List ℕ → Bool
is_other such name = not (such name)

-- the rows of other projects are the same in both lists
abbrev pub SameOthers : {X : Type 0} → (X → List ℕ) → (List ℕ → Bool) → List X → List X → Type 0
SameOthers of such before after = filter (λ x. is_other such (of x)) after ≡ filter (λ x. is_other such (of x)) before

module _ {X : Type 0} (of : X → List ℕ) (such : List ℕ → Bool) where
  put-others : (names : X → List (List ℕ)) (x : X) (rows : List X) → such (of x) ≡ true
      → ((y : X) → same_names (names y) (names x) ≡ true → of y ≡ of x) → SameOthers of such rows (put_by names x rows)
  put-others names x rows own tells =
      filter-replaced (λ y. is_other such (of y)) (λ y. same_names (names y) (names x)) (λ y. texts_before (names x) (names y)) x rows
      (ap not own) (λ y is. ap not (ap such (tells y is) ∙ own))

  -- a row of another project would stand among those of before
  drop-others : (gone : X → Bool) (before rows : List X) → SameOthers of such before rows
      → Each (λ y. gone y ≡ true → such (of y) ≡ true) before → SameOthers of such rows (dropped gone rows)
  drop-others gone before rows same own = filter-dropped (λ y. is_other such (of y)) gone rows (record { at = fails }) where
    fails : (y : X) → Mem y rows → gone y ≡ true → is_other such (of y) ≡ false
    fails y m is = fails-by (is_other such (of y)) (λ other.
        let there : Mem y before = Mem-back (λ z. is_other such (of z)) y before rows same m other in
        true≢false (sym other ∙ ap not (own.at y there is)))

-- ---- two states

-- all rows of other projects are the same in both, and all operations, and all profiles where `default` is such a project
-- and others share its profiles
pub record AreBeside (shared : Bool) (such : List ℕ → Bool) (s t : State) : Type 0 where
  pub projects : SameOthers (λ (r : Project). r.name) such s.projects t.projects
  pub profiles : SameOthers (λ (r : Profile). r.project) such s.profiles t.profiles
  pub common : shared ≡ true → such default_name ≡ true → t.profiles ≡ s.profiles
  pub networks : SameOthers (λ (r : Network). r.project) such s.networks t.networks
  pub volumes : SameOthers (λ (r : Volume). r.project) such s.volumes t.volumes
  pub instances : SameOthers (λ (r : Instance). r.project) such s.instances t.instances
  pub operations : t.operations ≡ s.operations

pub beside-itself : (shared : Bool) (such : List ℕ → Bool) (s : State) → AreBeside shared such s s
beside-itself shared such s = record {
  projects = refl;
  profiles = refl;
  common = λ share is. refl;
  networks = refl;
  volumes = refl;
  instances = refl;
  operations = refl;
}

-- the project of a row is what stands before the slash of its key
key-project : (such : List ℕ → Bool) (front back key : List ℕ) → HasNoSlash front → such (before_first is_slash key) ≡ true
    → bytes_eq (two_names front back) key ≡ true → such front ≡ true
key-project such front back key none own is =
    ap such (sym (before_joined front back none) ∙ ap (before_first is_slash) (same (two_names front back) key is)) ∙ own

module _ (shared : Bool) (such : List ℕ → Bool) (s : State) (h : IsWhole s) where
  good : EachRow HasGoodKey s
  good = each-row s (Each-left (claims_of s) h.names.good)

  put-beside : (r : Row) (t : State) → touches_such shared such (change.Put r) ≡ true → AreBeside shared such s t → AreBeside shared such s (with_row r t)
  put-beside (row.Project r) t is b = record {
    projects = put-others (λ (x : Project). x.name) such project_names r t.projects (both_true _ _ is).0
        (λ y names. same y.name r.name names) ∙ b.projects;
    profiles = b.profiles;
    common = b.common;
    networks = b.networks;
    volumes = b.volumes;
    instances = b.instances;
    operations = b.operations;
  }
  put-beside (row.Profile r) t is b = record {
    projects = b.projects;
    profiles = put-others (λ (x : Profile). x.project) such profile_names r t.profiles (both_true _ _ is).0
        (λ y names. (two_same y.project r.project y.name r.name names).0) ∙ b.profiles;
    common = λ share shares. absurd (true≢false (sym (both_true _ _ is).1 ∙ ap₂ (λ a c. not (a && c)) shares share));
    networks = b.networks;
    volumes = b.volumes;
    instances = b.instances;
    operations = b.operations;
  }
  put-beside (row.Network r) t is b = record {
    projects = b.projects;
    profiles = b.profiles;
    common = b.common;
    networks = put-others (λ (x : Network). x.project) such network_names r t.networks (both_true _ _ is).0
        (λ y names. (two_same y.project r.project y.name r.name names).0) ∙ b.networks;
    volumes = b.volumes;
    instances = b.instances;
    operations = b.operations;
  }
  put-beside (row.Volume r) t is b = record {
    projects = b.projects;
    profiles = b.profiles;
    common = b.common;
    networks = b.networks;
    volumes = put-others (λ (x : Volume). x.project) such volume_names r t.volumes (both_true _ _ is).0
        (λ y names. (three_same y.project r.project y.pool r.pool y.name r.name names).0) ∙ b.volumes;
    instances = b.instances;
    operations = b.operations;
  }
  put-beside (row.Instance r) t is b = record {
    projects = b.projects;
    profiles = b.profiles;
    common = b.common;
    networks = b.networks;
    volumes = b.volumes;
    instances = put-others (λ (x : Instance). x.project) such instance_names r t.instances (both_true _ _ is).0
        (λ y names. (two_same y.project r.project y.name r.name names).0) ∙ b.instances;
    operations = b.operations;
  }
  put-beside (row.Pool r) t is b = record {
    projects = b.projects;
    profiles = b.profiles;
    common = b.common;
    networks = b.networks;
    volumes = b.volumes;
    instances = b.instances;
    operations = b.operations;
  }
  put-beside (row.Snapshot r) t is b = record {
    projects = b.projects;
    profiles = b.profiles;
    common = b.common;
    networks = b.networks;
    volumes = b.volumes;
    instances = b.instances;
    operations = b.operations;
  }

  gone-beside : (of : ObjectKind) (key : List ℕ) (t : State) → touches_such shared such (change.Remove of key) ≡ true → AreBeside shared such s t
      → AreBeside shared such s (without_row of key t)
  gone-beside kind.Project key t is b = record {
    projects = drop-others (λ (x : Project). x.name) such (λ r. has_key key (row.Project r)) s.projects t.projects b.projects
        (record { at = λ y m hit. ap such (same y.name key hit) ∙ (both_true _ _ is).0 }) ∙ b.projects;
    profiles = b.profiles;
    common = b.common;
    networks = b.networks;
    volumes = b.volumes;
    instances = b.instances;
    operations = b.operations;
  }
  gone-beside kind.Profile key t is b = record {
    projects = b.projects;
    profiles = drop-others (λ (x : Profile). x.project) such (λ r. has_key key (row.Profile r)) s.profiles t.profiles b.profiles
        (Each-map (λ y fine hit. key-project such y.project y.name key (good_no_slash kind.Project y.project fine.0) (both_true _ _ is).0 hit) good.profiles)
        ∙ b.profiles;
    common = λ share shares. absurd (true≢false (sym (both_true _ _ is).1 ∙ ap₂ (λ a c. not (a && c)) shares share));
    networks = b.networks;
    volumes = b.volumes;
    instances = b.instances;
    operations = b.operations;
  }
  gone-beside kind.Network key t is b = record {
    projects = b.projects;
    profiles = b.profiles;
    common = b.common;
    networks = drop-others (λ (x : Network). x.project) such (λ r. has_key key (row.Network r)) s.networks t.networks b.networks
        (Each-map (λ y fine hit. key-project such y.project y.name key (good_no_slash kind.Project y.project fine.0) (both_true _ _ is).0 hit) good.networks)
        ∙ b.networks;
    volumes = b.volumes;
    instances = b.instances;
    operations = b.operations;
  }
  gone-beside kind.Volume key t is b = record {
    projects = b.projects;
    profiles = b.profiles;
    common = b.common;
    networks = b.networks;
    volumes = drop-others (λ (x : Volume). x.project) such (λ r. has_key key (row.Volume r)) s.volumes t.volumes b.volumes
        (Each-map (λ y fine hit.
        key-project such y.project (two_names y.pool y.name) key (good_no_slash kind.Project y.project fine.0) (both_true _ _ is).0 hit) good.volumes)
        ∙ b.volumes;
    instances = b.instances;
    operations = b.operations;
  }
  gone-beside kind.Instance key t is b = record {
    projects = b.projects;
    profiles = b.profiles;
    common = b.common;
    networks = b.networks;
    volumes = b.volumes;
    instances = drop-others (λ (x : Instance). x.project) such (λ r. has_key key (row.Instance r)) s.instances t.instances b.instances
        (Each-map (λ y fine hit. key-project such y.project y.name key (good_no_slash kind.Project y.project fine.0) (both_true _ _ is).0 hit) good.instances)
        ∙ b.instances;
    operations = b.operations;
  }
  gone-beside kind.Pool key t is b = record {
    projects = b.projects;
    profiles = b.profiles;
    common = b.common;
    networks = b.networks;
    volumes = b.volumes;
    instances = b.instances;
    operations = b.operations;
  }
  gone-beside kind.Snapshot key t is b = record {
    projects = b.projects;
    profiles = b.profiles;
    common = b.common;
    networks = b.networks;
    volumes = b.volumes;
    instances = b.instances;
    operations = b.operations;
  }
  gone-beside kind.Operation key t is b = b

  change-beside : (c : RowChange) (t : State) → touches_such shared such c ≡ true → AreBeside shared such s t → AreBeside shared such s (changed t c)
  change-beside (change.Put r) = put-beside r
  change-beside (change.Remove of key) = gone-beside of key

  pub changes-beside : (cs : List RowChange) (t : State) → list_all (touches_such shared such) cs ≡ true → AreBeside shared such s t → AreBeside shared such s (applied t cs)
  changes-beside [] t all b = b
  changes-beside (c ∷ cs) t all b =
      let parts = both_true (touches_such shared such c) (list_all (touches_such shared such) cs) all in
      changes-beside cs (changed t c) parts.1 (change-beside c t parts.0 b)
