-- The chain of a file as a relation, and the same read from left to right.
use Rattle.std.proofs.Common.{◌≡◌, ◌≢◌, ◌⊎◌, inl, inr, ⊎_elim, ℕ, zero, suc, ◌<◌, ◌≤◌, Bool, true, false, ltb, leb, List, [], ◌∷◌, ◌++◌, length, take, drop, Option, Some, None, option_map, cond, refl, sym, ap, subst, ◌∙◌, append_assoc, arith, length-append, length-take, length-drop, take-append-drop}
use Rattle.std.specs.Prelude.{◌==◌}
use Rattle.std.specs.Int.{w64, from_be_bytes}
use Rattle.std.proofs.lemmas.Bool.{cases_eq, ltb-true, ltb-false, lt-ltb, le-leb, lt-leb}
use Rattle.std.proofs.lemmas.Bool.Decides.{nat_tests, leb_tells}
use Rattle.std.proofs.lemmas.List.{take_at, drop_at}
use Rattle.journal_keeper.specs.Texts.{Commit, Read, ◌>>=◌, commit_of}
use Rattle.journal_keeper.specs.Chain.{IsRecord, AreRecords, HasCommits, Chain, size_at, sized_at, record_at, commits_within, chain_of}
use Rattle.journal_keeper.proofs.Again.{number_again}

-- a record is longer than its gate and its size
record_long : (bytes : List ℕ) (commit : Commit) → IsRecord bytes commit → 9 ≤ length bytes
record_long bytes commit r = omega (arith, ap length r.bytes_are, length-append r.size r.text, r.eight)

-- a record with a byte behind it is read
pub record_read : (commit : Commit) (size text : List ℕ) (next : ℕ) (rest : List ℕ) → length size ≡ 8 → from_be_bytes w64 size ≡ length text → commit_of text ≡ Some commit → record_at ((size ++ text) ++ next ∷ rest) ≡ Some (commit, next ∷ rest)
unfolding record_at size_at sized_at
record_read commit size text next rest eight size_is says =
    let regrouped : (size ++ text) ++ next ∷ rest ≡ size ++ (text ++ next ∷ rest) = append_assoc size text (next ∷ rest) in
    let sized : size_at ((size ++ text) ++ next ∷ rest) ≡ Some (length text, text ++ next ∷ rest) = ap size_at regrouped ∙ number_again (from_be_bytes w64) size (text ++ next ∷ rest) 8 (length text) eight size_is in
    let within : ltb (length text) (length (text ++ next ∷ rest)) ≡ true = lt-ltb _ _ (omega (arith, length-append text (next ∷ rest))) in
    rw (sized, within, take_at text (next ∷ rest) (length text) refl, drop_at text (next ∷ rest) (length text) refl, says) refl

-- what is read was a record with a byte behind it
pub record Found (bytes : List ℕ) (commit : Commit) (after : List ℕ) : Type 0 where
  pub body : List ℕ
  pub one : IsRecord (1 ∷ body) commit
  pub bytes_are : bytes ≡ body ++ after
  pub some : 0 < length after

-- what a step that gave something was made of
pub record Went {A B : Type 0} (read : Option A) (next : A → Option B) (y : B) : Type 0 where
  pub got : A
  pub read_is : read ≡ Some got
  pub next_is : next got ≡ Some y

pub went : {A B : Type 0} (read : Option A) (next : A → Option B) (y : B) → (read >>= next) ≡ Some y → Went read next y
went (Some x) next y e = record { got = x; read_is = refl; next_is = e }
went None next y e = absurd cc

-- a test that was passed
pub passed : {A : Type 0} (b : Bool) (read : Option A) (y : A) → cond b read None ≡ Some y → (b ≡ true) × (read ≡ Some y)
passed true read y e = (refl, e)
passed false read y e = absurd cc

pub passed_not : {A : Type 0} (b : Bool) (read : Option A) (y : A) → cond b None read ≡ Some y → (b ≡ false) × (read ≡ Some y)
passed_not true read y e = absurd cc
passed_not false read y e = (refl, e)

number_found : (value : List ℕ → ℕ) (wide : ℕ) (bytes : List ℕ) (got : ℕ × List ℕ) → cond {A = Read ℕ} (ltb (length bytes) wide) None (Some (value (take wide bytes), drop wide bytes)) ≡ Some got
    → (wide ≤ length bytes) × (value (take wide bytes) ≡ got.0) × (drop wide bytes ≡ got.1)
number_found value wide bytes got e =
    let p = passed_not (ltb (length bytes) wide) (Some (value (take wide bytes), drop wide bytes)) got e in
    let same : (value (take wide bytes), drop wide bytes) ≡ got = cc in
    (ltb-false _ _ p.0, ap (λ (x : ℕ × List ℕ). x.0) same, ap (λ (x : ℕ × List ℕ). x.1) same)

mapped : (size : ℕ) (bytes : List ℕ) (read : Option Commit) (y : Commit × List ℕ) → option_map (λ commit. (commit, drop size bytes)) read ≡ Some y → (read ≡ Some y.0) × (drop size bytes ≡ y.1)
mapped size bytes None y e = absurd cc
mapped size bytes (Some x) y e = let same : (x, drop size bytes) ≡ y = cc in (ap (λ (p : Commit × List ℕ). Some p.0) same, ap (λ (p : Commit × List ℕ). p.1) same)

pub found_record : (bytes : List ℕ) (got : Commit × List ℕ) → record_at bytes ≡ Some got → Found bytes got.0 got.1
unfolding record_at size_at sized_at
found_record bytes got e =
    let w = went (size_at bytes) (λ size. sized_at size.0 size.1) got e in
    let n = number_found (from_be_bytes w64) 8 bytes w.got w.read_is in
    let len = w.got.0 in
    let behind = w.got.1 in
    let p = passed (ltb len (length behind)) (option_map (λ commit. (commit, drop len behind)) (commit_of (take len behind))) got w.next_is in
    let m = mapped len behind (commit_of (take len behind)) got p.1 in
    let within : len < length behind = ltb-true _ _ p.0 in
    let text_len : length (take len behind) ≡ len = omega (arith, length-take len behind, within) in
    record {
      body = take 8 bytes ++ take len behind;
      one = record {
        size = take 8 bytes;
        text = take len behind;
        eight = omega (arith, length-take 8 bytes, n.0);
        size_is = n.1 ∙ sym text_len;
        says = m.0;
        bytes_are = refl;
      };
      bytes_are = sym (take-append-drop 8 bytes) ∙ ap (λ (l : List ℕ). take 8 bytes ++ l) (n.2 ∙ sym (take-append-drop len behind)) ∙ sym (append_assoc (take 8 bytes) (take len behind) (drop len behind)) ∙ ap (λ (l : List ℕ). (take 8 bytes ++ take len behind) ++ l) m.1;
      some = omega (arith, ap length m.1, length-drop len behind, within);
    }

-- ---- many records

commits_read : (most : ℕ) (file records : List ℕ) (commits : List Commit) (gate : ℕ) (rest : List ℕ) → AreRecords records commits → gate ≢ 1 → file ≡ records ++ gate ∷ rest → length file ≤ most → commits_within most file ≡ Some commits
unfolding commits_within
commits_read zero file records commits gate rest are shut is le = absurd (omega (arith, ap length is, length-append records (gate ∷ rest)))
commits_read (suc most) file records [] gate rest are shut is le =
    let whole : file ≡ gate ∷ rest = is ∙ ap (λ (l : List ℕ). l ++ gate ∷ rest) are in
    ap (commits_within (suc most)) whole ∙ (let no : (gate == 1) ≡ false = grind (arith, nat_tests) in rw no refl)
commits_read (suc most) file records (commit ∷ commits) gate rest are shut is le =
    let first = are.0 in
    let others = are.1 in
    let r = are.2 in
    let after : List ℕ = others ++ gate ∷ rest in
    let split : file ≡ 1 ∷ ((r.size ++ r.text) ++ after) =
    is ∙ ap (λ (l : List ℕ). l ++ gate ∷ rest) are.4 ∙ append_assoc first others (gate ∷ rest) ∙ ap (λ (l : List ℕ). l ++ after) r.bytes_are in
    let short : length after ≤ most = omega (arith, ap length split, length-append (r.size ++ r.text) after, le) in
    let more = commits_read most after others commits gate rest are.3 shut refl short in
    ap (commits_within (suc most)) split ∙ one_more after (record_at ((r.size ++ r.text) ++ after)) (nonempty after (omega (arith, length-append others (gate ∷ rest))) r) more
  where
    nonempty : (after : List ℕ) → 0 < length after → (r : IsRecord are.0 commit) → record_at ((r.size ++ r.text) ++ after) ≡ Some (commit, after)
    nonempty [] lt r = absurd (omega (arith, lt))
    nonempty (next ∷ behind) lt r = record_read commit r.size r.text next behind r.eight r.size_is r.says

    one_more : (after : List ℕ) (read : Read Commit) → read ≡ Some (commit, after) → commits_within most after ≡ Some commits → (read >>= λ one. commits_within most one.1 >>= λ more. Some (one.0 ∷ more)) ≡ Some (commit ∷ commits)
    one_more after read is more = rw (is, more) refl

-- a file with these commits is read as them
pub chain_read : (file : List ℕ) (commits : List Commit) → Chain file commits → chain_of file ≡ Some commits
unfolding chain_of
chain_read file commits (inl short) = let yes : leb (length file) 1 ≡ true = le-leb _ _ short.0 in rw (yes, short.1) refl
chain_read file [] (inr has) = elim (cases_le (length file)) [
  | inl le ↦ (let yes : leb (length file) 1 ≡ true = le-leb _ _ le in rw yes refl)
  | inr gt ↦ (let no : leb (length file) 1 ≡ false = lt-leb _ _ gt in rw no (commits_read (length file) file has.records [] has.gate has.rest has.are has.closed has.bytes_are (omega arith)))
]
  where
    cases_le : (n : ℕ) → (n ≤ 1) ⊎ (1 < n)
    cases_le n = ⊎_elim (λ le. inl le.1) (λ gt. inr gt.1) (leb_tells n 1)
chain_read file (commit ∷ commits) (inr has) =
    let long : 9 ≤ length has.are.0 = record_long has.are.0 commit has.are.2 in
    let no : leb (length file) 1 ≡ false = lt-leb _ _ (omega (arith, long, ap length has.bytes_are, ap length has.are.4, length-append has.records (has.gate ∷ has.rest), length-append has.are.0 has.are.1)) in
    rw no (commits_read (length file) file has.records (commit ∷ commits) has.gate has.rest has.are has.closed has.bytes_are (omega arith))

some_is : (x y : List Commit) → Some x ≡ Some y → x ≡ y
some_is x y e = cc

commits_found : (most : ℕ) (file : List ℕ) (commits : List Commit) → commits_within most file ≡ Some commits → HasCommits file commits
unfolding commits_within
commits_found zero file commits e = absurd cc
commits_found (suc most) [] commits e = absurd cc
commits_found (suc most) (gate ∷ bytes) commits e = elim (cases_eq gate 1) [
  | inl open_gate ↦ (let yes : (gate == 1) ≡ true = grind (arith, nat_tests) in let read : (record_at bytes >>= λ one. commits_within most one.1 >>= λ more. Some (one.0 ∷ more)) ≡ Some commits = rw yes at e in opened open_gate (λ after others. commits_found most after others) read)
  | inr shut ↦ (let no : (gate == 1) ≡ false = grind (arith, nat_tests) in let none : Some [] ≡ Some commits = rw no at e in let same : [] ≡ commits = cc in
      subst (HasCommits (gate ∷ bytes)) same (record { records = []; gate = gate; rest = bytes; are = refl; closed = shut; bytes_are = refl }))
]
  where
    opened : gate ≡ 1 → ((after : List ℕ) (others : List Commit) → commits_within most after ≡ Some others → HasCommits after others) → (record_at bytes >>= λ one. commits_within most one.1 >>= λ more. Some (one.0 ∷ more)) ≡ Some commits → HasCommits (gate ∷ bytes) commits
    opened is more read =
        let a = went (record_at bytes) (λ one. commits_within most one.1 >>= λ more. Some (one.0 ∷ more)) commits read in
        let b = went (commits_within most a.got.1) (λ more. Some (a.got.0 ∷ more)) commits a.next_is in
        let one = found_record bytes a.got a.read_is in
        let others = more a.got.1 b.got b.read_is in
        let same : a.got.0 ∷ b.got ≡ commits = some_is (a.got.0 ∷ b.got) commits b.next_is in
        let records : List ℕ = (1 ∷ one.body) ++ others.records in
        let parts : gate ∷ bytes ≡ records ++ others.gate ∷ others.rest = ap (λ (g : ℕ). g ∷ bytes) is ∙ ap (λ (l : List ℕ). 1 ∷ l) (one.bytes_are ∙ ap (λ (l : List ℕ). one.body ++ l) others.bytes_are) ∙ sym (append_assoc (1 ∷ one.body) others.records (others.gate ∷ others.rest)) in
        subst (HasCommits (gate ∷ bytes)) same (record { records = records; gate = others.gate; rest = others.rest; are = (1 ∷ one.body, others.records, one.one, others.are, refl); closed = others.closed; bytes_are = parts })

-- what is read from a file are its commits
pub chain_found : (file : List ℕ) (commits : List Commit) → chain_of file ≡ Some commits → Chain file commits
unfolding chain_of
chain_found file commits e = ⊎_elim
    (λ le. let none : Some [] ≡ Some commits = rw le.0 at e in let same : commits ≡ [] = cc in inl (le.1, same))
    (λ gt. let read : commits_within (length file) file ≡ Some commits = rw gt.0 at e in inr (commits_found (length file) file commits read))
    (leb_tells (length file) 1)
