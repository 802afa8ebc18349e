-- What is known of projects after totals were changed.
use Rattle.std.proofs.Common.{◌≡◌, ◌≢◌, ℕ, ◌+◌, ◌-◌, ◌&&◌, Bool, true, false, cond, Option, Some, None, List, [], ◌∷◌, ◌++◌, refl, sym, ◌∙◌, ap, subst, arith}
use Rattle.std.specs.Prelude.{IfSome}
use Rattle.std.specs.List.{find}
use Rattle.std.specs.Option.{option_map, option_or}
use Rattle.std.specs.Str.{bytes_eq}
use Rattle.std.proofs.lemmas.Bool.{false≢true}
use Rattle.std.proofs.lemmas.List.Folds.{find-append}
use Rattle.plain_lists.specs.Edits.{changed_first}
use Rattle.plain_lists.proofs.EditLemmas.{changed-none, find-changed, find-changed_other}
use Rattle.plain_lists.proofs.Searches.{find-none, find-some, none-any}
use Rattle.config_lists.proofs.Keys.{same, bytes_eq-itself}
use Rattle.size_values.specs.Amounts.{plus_of, excess_of}
use Rattle.size_values.specs.PoolParts.{on_pool}
use Rattle.size_values.specs.declared.amounts.Amounts.{Amounts}
use Rattle.size_values.specs.declared.pool_part.PoolPart.{PoolPart}
use Rattle.size_values.proofs.AmountParts.{same-parts, part-plus, part-excess}
use Rattle.row_machine.specs.machine.State.{State}
use Rattle.row_machine.specs.machine.Usage.{usage_of, used_on}
use Rattle.row_readings.specs.declared.amounts.Footprint.{Footprint}
use Rattle.machine_laws.proofs.ExpansionsApart.{fails-by}
use Rattle.machine_laws.proofs.Measures.{by_pool, pool-measure}
use Rattle.core_totals.specs.declared.amount_totals.Total.{Total}
use Rattle.core_totals.specs.declared.pool_totals.PoolTotal.{PoolTotal}
use Rattle.core_totals.specs.declared.totals.Totals.{Totals}
use Rattle.core_totals.specs.Totals.{AreAmounts, ArePools, AreTotals, is_of, is_on, known, known_on, changed, changed_on, nothing_known, grown, lowered}
use Rattle.core_totals.proofs.Usage.{SameUsage, Falls, same-amounts}

-- ---- what is known after a change

-- what is found is found changed
found-changed : {X : Type 0} (p : X → Bool) (f : X → X) (xs : List X) → ((x : X) → p (f x) ≡ p x) → find p (changed_first p f xs) ≡ option_map f (find p xs)
found-changed {X} p f xs keeps = at (find p xs) refl where
  at : (found : Option X) → find p xs ≡ found → find p (changed_first p f xs) ≡ option_map f found
  at None is = ap (find p) (changed-none p f xs (none-any p xs (find-none p xs is))) ∙ is
  at (Some x) is = find-changed p f x xs is (keeps x ∙ (find-some p xs x is).1)

-- of the project itself
known-own : (project : List ℕ) (f : Amounts → Amounts) (totals : List Total)
    → known (changed project f totals) project ≡ option_map f (known totals project)
known-own project f totals = ap (option_map (λ t. t.amounts)) (found-changed (is_of project) change totals (λ t. refl)) ∙ read (find (is_of project) totals) where
  change : Total → Total
  change t = record t { amounts = f t.amounts }

  read : (o : Option Total) → option_map (λ t. t.amounts) (option_map change o) ≡ option_map f (option_map (λ t. t.amounts) o)
  read None = refl
  read (Some t) = refl

known_on-own : (project pool : List ℕ) (f : ℕ → ℕ) (totals : List PoolTotal)
    → known_on (changed_on project pool f totals) project pool ≡ option_map f (known_on totals project pool)
known_on-own project pool f totals = ap (option_map (λ t. t.used)) (found-changed (is_on project pool) change totals (λ t. refl)) ∙ read (find (is_on project pool) totals) where
  change : PoolTotal → PoolTotal
  change t = record t { used = f t.used }

  read : (o : Option PoolTotal) → option_map (λ t. t.used) (option_map change o) ≡ option_map f (option_map (λ t. t.used) o)
  read None = refl
  read (Some t) = refl

-- of the others
known-other : (project other : List ℕ) (f : Amounts → Amounts) (totals : List Total) → project ≢ other
    → known (changed project f totals) other ≡ known totals other
known-other project other f totals apart =
    ap (option_map (λ t. t.amounts))
    (find-changed_other (is_of project) (is_of other) (λ t. record t { amounts = f t.amounts }) totals (λ t is. let no = differs t is in (no, no))) where
      differs : (t : Total) → is_of project t ≡ true → is_of other t ≡ false
      differs t is = fails-by (is_of other t) (λ hit. apart (sym (same t.project project is) ∙ same t.project other hit))

-- two conditions, of which both hold
both : (a b : Bool) → (a && b) ≡ true → (a ≡ true) × (b ≡ true)
both true b e = (refl, e)
both false b e = cc

known_on-other : (project pool other there : List ℕ) (f : ℕ → ℕ) (totals : List PoolTotal) → (project ≡ other → pool ≢ there)
    → known_on (changed_on project pool f totals) other there ≡ known_on totals other there
known_on-other project pool other there f totals apart =
    ap (option_map (λ t. t.used))
    (find-changed_other (is_on project pool) (is_on other there) (λ t. record t { used = f t.used }) totals (λ t is. let no = differs t is in (no, no))) where
      differs : (t : PoolTotal) → is_on project pool t ≡ true → is_on other there t ≡ false
      differs t is = fails-by (is_on other there t) (λ hit.
          let here = both (bytes_eq t.project project) (bytes_eq t.pool pool) is in
          let elsewhere = both (bytes_eq t.project other) (bytes_eq t.pool there) hit in
          apart (sym (same t.project project here.0) ∙ same t.project other elsewhere.0) (sym (same t.pool pool here.1) ∙ same t.pool there elsewhere.1))

-- ---- falls

part-here : (part : PoolPart) → on_pool part.pool part ≡ part.disk
part-here part = ap (λ b. cond b part.disk 0) (bytes_eq-itself part.pool)

part-elsewhere : (part : PoolPart) (pool : List ℕ) → part.pool ≢ pool → on_pool pool part ≡ 0
part-elsewhere part pool apart = ap (λ b. cond b part.disk 0) (fails-by (bytes_eq part.pool pool) (λ is. apart (same part.pool pool is)))

apart-by : (a b : List ℕ) → bytes_eq a b ≡ false → a ≢ b
apart-by a b is e = false≢true (sym is ∙ ap (bytes_eq a) (sym e) ∙ bytes_eq-itself a)

-- what a project uses of other pools stays
falls-elsewhere : (s t : State) (project : List ℕ) (fall : Footprint) → Falls s t project fall
    → (other there : List ℕ) → (project ≡ other → fall.on.pool ≢ there) → used_on t other there ≡ used_on s other there
falls-elsewhere s t project fall f other there apart = by (bytes_eq project other) refl where
  own : project ≡ other → used_on t project there ≡ used_on s project there
  own name = let all = f.own_pools there in let none = part-elsewhere fall.on there (apart name) in omega (arith, all, none)

  by : (b : Bool) → bytes_eq project other ≡ b → used_on t other there ≡ used_on s other there
  by true is =
      let name = same project other is in
      subst (λ p. used_on t p there ≡ used_on s p there) name (own name)
  by false is = f.other_pools other (apart-by project other is) there

-- ---- totals of a state

-- what is told of something that may be known
told : {X Y : Type 0} (f : X → Y) (o : Option X) (x : X) (y : Y) → y ≡ f x → IfSome o (λ n. n ≡ x) → IfSome (option_map f o) (λ n. n ≡ y)
told f None x y is h = tt
told f (Some n) x y is h = ap f h ∙ sym is

still : {X : Type 0} (o : Option X) (x y : X) → y ≡ x → IfSome o (λ n. n ≡ x) → IfSome o (λ n. n ≡ y)
still None x y is h = tt
still (Some n) x y is h = h ∙ sym is

module _ (s t : State) where
  -- where amounts of one project change
  amounts-changed : (totals : List Total) → AreAmounts s totals → (project : List ℕ) (f : Amounts → Amounts) → usage_of t project ≡ f (usage_of s project)
      → ((other : List ℕ) → project ≢ other → usage_of t other ≡ usage_of s other) → AreAmounts t (changed project f totals)
  amounts-changed totals are project f own others = record { known = λ other. by other (bytes_eq project other) refl } where
    by : (other : List ℕ) (b : Bool) → bytes_eq project other ≡ b
        → IfSome (known (changed project f totals) other) (λ amounts. amounts ≡ usage_of t other)
    by other true is =
        subst (λ p. IfSome (known (changed project f totals) p) (λ amounts. amounts ≡ usage_of t p)) (same project other is)
        (subst (λ a. IfSome a (λ amounts. amounts ≡ usage_of t project)) (sym (known-own project f totals))
        (told f (known totals project) (usage_of s project) (usage_of t project) own (are.known project)))
    by other false is =
        let apart = apart-by project other is in
        subst (λ a. IfSome a (λ amounts. amounts ≡ usage_of t other)) (sym (known-other project other f totals apart))
        (still (known totals other) (usage_of s other) (usage_of t other) (others other apart) (are.known other))

  -- where bytes of one project on one pool change
  pools-changed : (totals : List PoolTotal) → ArePools s totals → (project pool : List ℕ) (f : ℕ → ℕ) → used_on t project pool ≡ f (used_on s project pool)
      → ((other there : List ℕ) → (project ≡ other → pool ≢ there) → used_on t other there ≡ used_on s other there) → ArePools t (changed_on project pool f totals)
  pools-changed totals are project pool f own others = record {
    known = λ other there. by other there (bytes_eq project other) (bytes_eq pool there) refl refl;
  } where
    Known : List ℕ → List ℕ → Type 0
    Known other there = IfSome (known_on (changed_on project pool f totals) other there) (λ used. used ≡ used_on t other there)

    elsewhere : (other there : List ℕ) → (project ≡ other → pool ≢ there) → Known other there
    elsewhere other there apart =
        subst (λ a. IfSome a (λ used. used ≡ used_on t other there)) (sym (known_on-other project pool other there f totals apart))
        (still (known_on totals other there) (used_on s other there) (used_on t other there) (others other there apart) (are.known other there))

    by : (other there : List ℕ) (b c : Bool) → bytes_eq project other ≡ b → bytes_eq pool there ≡ c → Known other there
    by other there true true is so =
        subst (λ p. Known p there) (same project other is)
        (subst (λ q. Known project q) (same pool there so)
        (subst (λ a. IfSome a (λ used. used ≡ used_on t project pool)) (sym (known_on-own project pool f totals))
        (told f (known_on totals project pool) (used_on s project pool) (used_on t project pool) own (are.known project pool))))
    by other there true false is so = elsewhere other there (λ e. apart-by pool there so)
    by other there false c is so = elsewhere other there (λ e. absurd (apart-by project other is e))

  module _ (totals : Totals) (are : AreTotals s totals) where
    -- where no usage changes
    pub totals-same : SameUsage s t → AreTotals t totals
    totals-same same_usage = record {
      amounts = record {
        known = λ project. still (known totals.amounts project) (usage_of s project) (usage_of t project)
            (same-amounts s t project (same_usage project)) (are.amounts.known project);
      };
      pools = record {
        known = λ project pool. still (known_on totals.pools project pool) (used_on s project pool) (used_on t project pool)
            (same_usage project (by_pool pool) (pool-measure pool)) (are.pools.known project pool);
      };
    }

    -- where that of one project falls
    pub totals-fallen : (project : List ℕ) (fall : Footprint) → Falls s t project fall → AreTotals t (lowered project fall.amounts fall.on totals)
    totals-fallen project fall f = record {
      amounts = amounts-changed totals.amounts are.amounts project (λ a. excess_of a fall.amounts)
          (same-parts _ _ (λ k. let less = part-excess k (usage_of s project) fall.amounts in omega (arith, f.own k, less)))
          f.others;
      pools = pools-changed totals.pools are.pools project fall.on.pool (λ used. used - fall.on.disk)
          (let own = f.own_pools fall.on.pool in let here = part-here fall.on in omega (arith, own, here))
          (falls-elsewhere s t project fall f);
    }

    -- or rises
    pub totals-risen : (project : List ℕ) (rise : Footprint) → Falls t s project rise → AreTotals t (grown project rise.amounts rise.on totals)
    totals-risen project rise f = record {
      amounts = amounts-changed totals.amounts are.amounts project (λ a. plus_of a rise.amounts)
          (same-parts _ _ (λ k. let more = part-plus k (usage_of s project) rise.amounts in omega (arith, f.own k, more)))
          (λ other apart. sym (f.others other apart));
      pools = pools-changed totals.pools are.pools project rise.on.pool (λ used. used + rise.on.disk)
          (let own = f.own_pools rise.on.pool in let here = part-here rise.on in omega (arith, own, here))
          (λ other there apart. sym (falls-elsewhere t s project rise f other there apart));
    }

-- of no project anything is known
pub totals-none : (s : State) → AreTotals s nothing_known
totals-none s = record { amounts = record { known = λ project. tt }; pools = record { known = λ project pool. tt } }

-- ---- one more

pub amounts-more : (s : State) (totals : List Total) (project : List ℕ) (amounts : Amounts) → AreAmounts s totals → amounts ≡ usage_of s project
    → AreAmounts s (totals ++ record { project = project; amounts = amounts } ∷ [])
amounts-more s totals project amounts are is = record { known = each } where
  last : Total
  last = record { project = project; amounts = amounts }

  alone : (other : List ℕ) (b : Bool) → bytes_eq project other ≡ b
      → IfSome (option_map (λ (x : Total). x.amounts) (cond b (Some last) None)) (λ a. a ≡ usage_of s other)
  alone other true same_name = is ∙ ap (usage_of s) (same project other same_name)
  alone other false differs = tt

  at : (other : List ℕ) (found : Option Total) → IfSome (option_map (λ (x : Total). x.amounts) found) (λ a. a ≡ usage_of s other)
      → IfSome (option_map (λ (x : Total). x.amounts) (option_or found (find (is_of other) (last ∷ [])))) (λ a. a ≡ usage_of s other)
  at other None h = alone other (bytes_eq project other) refl
  at other (Some x) h = h

  each : (other : List ℕ) → IfSome (known (totals ++ last ∷ []) other) (λ a. a ≡ usage_of s other)
  each other =
      subst (λ (found : Option Total). IfSome (option_map (λ (x : Total). x.amounts) found) (λ a. a ≡ usage_of s other))
      (sym (find-append (is_of other) totals (last ∷ []))) (at other (find (is_of other) totals) (are.known other))

pub pools-more : (s : State) (totals : List PoolTotal) (project pool : List ℕ) (used : ℕ) → ArePools s totals → used ≡ used_on s project pool
    → ArePools s (totals ++ record { project = project; pool = pool; used = used } ∷ [])
pools-more s totals project pool used are is = record { known = each } where
  last : PoolTotal
  last = record { project = project; pool = pool; used = used }

  alone : (other there : List ℕ) (b : Bool) → (bytes_eq project other && bytes_eq pool there) ≡ b
      → IfSome (option_map (λ (x : PoolTotal). x.used) (cond b (Some last) None)) (λ n. n ≡ used_on s other there)
  alone other there true names =
      let two = both (bytes_eq project other) (bytes_eq pool there) names in
      is ∙ ap (λ p. used_on s p pool) (same project other two.0) ∙ ap (used_on s other) (same pool there two.1)
  alone other there false differs = tt

  at : (other there : List ℕ) (found : Option PoolTotal) → IfSome (option_map (λ (x : PoolTotal). x.used) found) (λ n. n ≡ used_on s other there)
      → IfSome (option_map (λ (x : PoolTotal). x.used) (option_or found (find (is_on other there) (last ∷ [])))) (λ n. n ≡ used_on s other there)
  at other there None h = alone other there (bytes_eq project other && bytes_eq pool there) refl
  at other there (Some x) h = h

  each : (other there : List ℕ) → IfSome (known_on (totals ++ last ∷ []) other there) (λ n. n ≡ used_on s other there)
  each other there =
      subst (λ (found : Option PoolTotal). IfSome (option_map (λ (x : PoolTotal). x.used) found) (λ n. n ≡ used_on s other there))
      (sym (find-append (is_on other there) totals (last ∷ []))) (at other there (find (is_on other there) totals) (are.known other there))
