-- All rows of a state in the order of their entries: their entries are the records, they are the rows of the state, and
-- there are as many of each kind as it has.
use Rattle.std.proofs.Common.{◌≡◌, ℕ, suc, ◌+◌, ◌==◌, ◌≤◌, Bool, true, false, cond, List, [], ◌∷◌, ◌++◌, map, length, refl, sym, ap, ◌∙◌, inl, inr, arith, length-append}
use Rattle.std.proofs.lemmas.List.{map-append, length-map}
use Rattle.std.proofs.lemmas.List.Elements.{filter-append}
use Rattle.plain_lists.specs.Members.{Mem, Each}
use Rattle.plain_lists.proofs.Elements.{Mem-left, Mem-right, Mem-append, Mem-from_map, Each-map}
use Rattle.size_values.specs.declared.entry.Entry.{Entry}
use Rattle.size_values.specs.declared.kinds.ObjectKind.{ObjectKind}
use Rattle.size_values.specs.declared.kinds.ObjectKind.TheVariants as kind
use Rattle.records.specs.declared.rows.Row.{Row}
use Rattle.records.specs.declared.rows.Row.TheVariants as row
use Rattle.row_codec.specs.Spelling.{entry_of, kind_of}
use Rattle.row_machine.specs.machine.State.{State}
use Rattle.row_machine.specs.machine.TableRules.{count_of}
use Rattle.row_machine.specs.opening.Records.{entries_in, rows_of, records_of}
use Rattle.machine_laws.specs.Entries.{number_of}
use Rattle.machine_laws.proofs.RecordsPlaces.{filter-all, filter-none}
use Rattle.machine_laws.proofs.OpeningRows.{of_kind}
use Rattle.machine_laws.proofs.Sorting.{sorted, spelled-sorted, to-sorted, from-sorted, length-sorted}

-- the lists of rows one after the other, after the first ones
abbrev joined : {X : Type 0} → List X → List (List X) → List X
joined first [] = first
joined first (t ∷ more) = joined (first ++ t) more

-- the rows of each kind but projects
abbrev tables : State → List (List Row)
tables s =
    map row.Profile s.profiles
    ∷ map row.Network s.networks
    ∷ map row.Pool s.pools
    ∷ map row.Volume s.volumes
    ∷ map row.Instance s.instances
    ∷ map row.Snapshot s.snapshots
    ∷ []

abbrev pub sorted_rows : State → List Row
sorted_rows s = joined (sorted (map row.Project s.projects)) (map sorted (tables s))

-- ---- entries

tables-spelled : (es : List Entry) (rows : List Row) → es ≡ map entry_of rows → (ts : List (List Row))
    → joined es (map entries_in ts) ≡ map entry_of (joined rows (map sorted ts))
tables-spelled es rows is [] = is
tables-spelled es rows is (t ∷ more) =
    tables-spelled (es ++ entries_in t) (rows ++ sorted t) ((λ i. is i ++ spelled-sorted t i) ∙ sym (map-append entry_of rows (sorted t))) more

pub records-spelled : (s : State) → records_of s ≡ map entry_of (sorted_rows s)
unfolding records_of
records-spelled s =
    tables-spelled (entries_in (map row.Project s.projects)) (sorted (map row.Project s.projects)) (spelled-sorted (map row.Project s.projects)) (tables s)

-- ---- members

to-tables : (r : Row) (a b : List Row) → (Mem r a → Mem r b) → (ts : List (List Row)) → Mem r (joined a ts) → Mem r (joined b (map sorted ts))
to-tables r a b f [] m = f m
to-tables r a b f (t ∷ more) m = to-tables r (a ++ t) (b ++ sorted t) both more m where
  both : Mem r (a ++ t) → Mem r (b ++ sorted t)
  both n = elim (Mem-append r a t n) [ inl x ↦ Mem-left r b (sorted t) (f x) | inr y ↦ Mem-right r b (sorted t) (to-sorted r t y) ]

from-tables : (r : Row) (a b : List Row) → (Mem r b → Mem r a) → (ts : List (List Row)) → Mem r (joined b (map sorted ts)) → Mem r (joined a ts)
from-tables r a b f [] m = f m
from-tables r a b f (t ∷ more) m = from-tables r (a ++ t) (b ++ sorted t) both more m where
  both : Mem r (b ++ sorted t) → Mem r (a ++ t)
  both n = elim (Mem-append r b (sorted t) n) [ inl x ↦ Mem-left r a t (f x) | inr y ↦ Mem-right r a t (from-sorted r t y) ]

pub to-rows : (s : State) (r : Row) → Mem r (rows_of s) → Mem r (sorted_rows s)
to-rows s r m = to-tables r (map row.Project s.projects) (sorted (map row.Project s.projects)) (to-sorted r (map row.Project s.projects)) (tables s) m

pub from-rows : (s : State) (r : Row) → Mem r (sorted_rows s) → Mem r (rows_of s)
from-rows s r m = from-tables r (map row.Project s.projects) (sorted (map row.Project s.projects)) (from-sorted r (map row.Project s.projects)) (tables s) m

-- ---- how many

-- lists of rows of the kinds from this number on
abbrev AreOfKinds : ℕ → List (List Row) → Type 0
AreOfKinds n [] = Unit {0}
AreOfKinds n (t ∷ more) = Each (λ r. kind_of r ≡ n) t × AreOfKinds (suc n) more

-- how many of them are of one kind
abbrev counted : ObjectKind → ℕ → List (List Row) → ℕ
counted k n [] = 0
counted k n (t ∷ more) = cond (n == number_of k) (length t) 0 + counted k (suc n) more

table-count : (k : ObjectKind) (n : ℕ) (t : List Row) → Each (λ r. kind_of r ≡ n) t → length (of_kind k (sorted t)) ≡ cond (n == number_of k) (length t) 0
table-count k n t kinds = at (n == number_of k) refl where
  all : Each (λ r. kind_of r ≡ n) (sorted t)
  all = record { at = λ r m. kinds.at r (from-sorted r t m) }

  at : (b : Bool) → (n == number_of k) ≡ b → length (of_kind k (sorted t)) ≡ cond b (length t) 0
  at true is =
      ap length (filter-all (λ r. kind_of r == number_of k) (sorted t) (Each-map (λ r e. ap (λ x. x == number_of k) e ∙ is) all))
      ∙ length-sorted t
  at false is = ap length (filter-none (λ r. kind_of r == number_of k) (sorted t) (Each-map (λ r e. ap (λ x. x == number_of k) e ∙ is) all))

of_kind-append : (k : ObjectKind) (xs ys : List Row) → length (of_kind k (xs ++ ys)) ≡ length (of_kind k xs) + length (of_kind k ys)
of_kind-append k xs ys = ap length (filter-append (λ r. kind_of r == number_of k) xs ys) ∙ length-append (of_kind k xs) (of_kind k ys)

tables-count : (k : ObjectKind) (n : ℕ) (rows : List Row) (ts : List (List Row)) → AreOfKinds n ts
    → length (of_kind k (joined rows (map sorted ts))) ≡ length (of_kind k rows) + counted k n ts
tables-count k n rows [] kinds = omega arith
tables-count k n rows (t ∷ more) kinds =
    omega (arith, tables-count k (suc n) (rows ++ sorted t) more kinds.1, of_kind-append k rows (sorted t), table-count k n t kinds.0)

of-number : {X : Type 0} (n : ℕ) (f : X → Row) → ((x : X) → kind_of (f x) ≡ n) → (xs : List X) → Each (λ r. kind_of r ≡ n) (map f xs)
of-number n f kinds xs = record { at = λ r m. let found = Mem-from_map f r xs m in ap kind_of found.1.1 ∙ kinds found.0 }

rows-count : (s : State) (k : ObjectKind) → length (of_kind k (sorted_rows s))
    ≡ cond (1 == number_of k) (length (map row.Project s.projects)) 0 + counted k 2 (tables s)
rows-count s k =
    tables-count k 2 (sorted (map row.Project s.projects)) (tables s) (
      of-number 2 row.Profile (λ r. refl) s.profiles,
      (
        of-number 3 row.Network (λ r. refl) s.networks,
        (
          of-number 4 row.Pool (λ r. refl) s.pools,
          (
            of-number 5 row.Volume (λ r. refl) s.volumes,
            (
              of-number 6 row.Instance (λ r. refl) s.instances,
              (of-number 7 row.Snapshot (λ r. refl) s.snapshots, tt),
            ),
          ),
        ),
      ),
    )
    ∙ ap (λ n. n + counted k 2 (tables s)) (table-count k 1 (map row.Project s.projects) (of-number 1 row.Project (λ r. refl) s.projects))

pub few-rows : (s : State) (k : ObjectKind) → length (of_kind k (sorted_rows s)) ≤ count_of s k
few-rows s kind.Project = omega (arith, rows-count s kind.Project, length-map s.projects row.Project)
few-rows s kind.Profile = omega (arith, rows-count s kind.Profile, length-map s.profiles row.Profile)
few-rows s kind.Network = omega (arith, rows-count s kind.Network, length-map s.networks row.Network)
few-rows s kind.Pool = omega (arith, rows-count s kind.Pool, length-map s.pools row.Pool)
few-rows s kind.Volume = omega (arith, rows-count s kind.Volume, length-map s.volumes row.Volume)
few-rows s kind.Instance = omega (arith, rows-count s kind.Instance, length-map s.instances row.Instance)
few-rows s kind.Snapshot = omega (arith, rows-count s kind.Snapshot, length-map s.snapshots row.Snapshot)
few-rows s kind.Operation = omega (arith, rows-count s kind.Operation)
