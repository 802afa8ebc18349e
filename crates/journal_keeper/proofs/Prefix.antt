-- A file that is read record by record, as a loop does, and a block as it is written.
use Rattle.std.proofs.Common.{◌≡◌, ◌≢◌, inl, inr, ℕ, ◌-◌, ◌^◌, ◌<◌, List, [], ◌∷◌, ◌++◌, length, Some, None, true, false, Result, Ok, Err, IfOk, Vec, refl, sym, ap, ◌∙◌, append_assoc, arith, length-append}
use Rattle.std.specs.Prelude.{◌==◌}
use Rattle.std.specs.declared.alloc.Global.{Global}
use Rattle.std.specs.Int.{w64, to_be_bytes}
use Rattle.std.specs.List.{AllByRecursion}
use Rattle.std.proofs.lemmas.Bool.{cases_eq}
use Rattle.std.proofs.lemmas.Bool.Decides.{nat_tests}
use Rattle.std.proofs.lemmas.List.{append_cancel_left}
use Rattle.std.proofs.lemmas.Nat.{from_be_bytes-to_be_bytes_8}
use Rattle.size_values.specs.declared.entry.Entry.{Entry}
use Rattle.record_keeper.specs.Entries.{after_changes}
use Rattle.journal_keeper.specs.Texts.{Commit, commit_text, is_short_commit, IsTypedChange}
use Rattle.journal_keeper.specs.Chain.{IsRecord, HasBadRecord, entries_after, rows_of, size_bytes, behind_open, record_at}
use Rattle.journal_keeper.specs.Keeping.{IsClosed, IsBlock, ReadsTo}
use Rattle.journal_keeper.proofs.Again.{commit_again}
use Rattle.journal_keeper.proofs.ReadChain.{found_record, record_read}
use Rattle.journal_keeper.proofs.Torn.{records_push}

pub rows_push : (entries : List Entry) (commits : List Commit) (commit : Commit) → entries_after entries (commits ++ commit ∷ []) ≡ after_changes commit (entries_after entries commits)
rows_push entries [] commit = refl
rows_push entries (c ∷ commits) commit = rows_push (after_changes c entries) commits commit

-- an open gate
pub opened : (bytes behind : List ℕ) → behind_open bytes ≡ Some behind → bytes ≡ 1 ∷ behind
unfolding behind_open
opened [] behind e = absurd cc
opened (gate ∷ rest) behind e = elim (cases_eq gate 1) [
  | inl is ↦ (let yes : (gate == 1) ≡ true = grind (arith, nat_tests) in let some : Some rest ≡ Some behind = rw yes at e in let same : rest ≡ behind = cc in ap (λ (l : List ℕ). gate ∷ l) same ∙ ap (λ (g : ℕ). g ∷ behind) is)
  | inr shut ↦ absurd (let no : (gate == 1) ≡ false = grind (arith, nat_tests) in let none : None ≡ Some behind = rw no at e in cc)
]

-- another one
pub record Shut (bytes : List ℕ) : Type 0 where
  pub gate : ℕ
  pub rest : List ℕ
  pub shut : gate ≢ 1
  pub bytes_are : bytes ≡ gate ∷ rest

pub not_opened : (bytes : List ℕ) → behind_open bytes ≡ None → 0 < length bytes → Shut bytes
unfolding behind_open
not_opened [] e some = absurd (omega (arith, some))
not_opened (gate ∷ rest) e some = elim (cases_eq gate 1) [
  | inl is ↦ absurd (let yes : (gate == 1) ≡ true = grind (arith, nat_tests) in let none : Some rest ≡ None = rw yes at e in cc)
  | inr shut ↦ record { gate = gate; rest = rest; shut = shut; bytes_are = refl }
]

pub nothing_read : (file : List ℕ) (rows : List Entry) → rows ≡ [] → 0 < length file → ReadsTo file file rows
nothing_read file rows none some = record { records = []; commits = []; are = refl; bytes_are = refl; rows_are = none; some = some }

pub one_read : (file left behind after : List ℕ) (rows next : List Entry) (commit : Commit) → ReadsTo file left rows → behind_open left ≡ Some behind → record_at behind ≡ Some (commit, after) → next ≡ after_changes commit rows → ReadsTo file after next
one_read file left behind after rows next commit r is read made =
    let one = found_record behind (commit, after) read in
    record {
      records = r.records ++ 1 ∷ one.body;
      commits = r.commits ++ commit ∷ [];
      are = records_push r.records (1 ∷ one.body) r.commits commit r.are one.one;
      bytes_are = r.bytes_are ∙ ap (λ (l : List ℕ). r.records ++ l) (opened left behind is ∙ ap (λ (l : List ℕ). 1 ∷ l) one.bytes_are) ∙ sym (append_assoc r.records (1 ∷ one.body) after);
      rows_are = made ∙ ap (after_changes commit) r.rows_are ∙ sym (rows_push [] r.commits commit);
      some = one.some;
    }

pub shorter : (left behind after : List ℕ) (commit : Commit) → behind_open left ≡ Some behind → record_at behind ≡ Some (commit, after) → length after < length left
shorter left behind after commit is read =
    let one = found_record behind (commit, after) read in
    omega (arith, ap length (opened left behind is), ap length one.bytes_are, length-append one.body after)

place_of : (file records left : List ℕ) → file ≡ records ++ left → length records ≡ length file - length left
place_of file records left is = omega (arith, ap length is, length-append records left)

pub all_read : (file left : List ℕ) (rows : List Entry) → ReadsTo file left rows → behind_open left ≡ None → (commits : List Commit) × IsClosed (length file - length left) commits file × (rows ≡ rows_of commits)
all_read file left rows r is =
    let s = not_opened left is r.some in (
      r.commits,
      (
        record { records = r.records; gate = s.gate; rest = s.rest; are = r.are; closed = s.shut; bytes_are = r.bytes_are ∙ ap (λ (l : List ℕ). r.records ++ l) s.bytes_are },
        place_of file r.records left r.bytes_are,
      ),
      r.rows_are,
    )

impossible : (x : Commit × List ℕ) → None ≡ Some x → ⊥
impossible x e = absurd cc

pub bad_read : (file left behind : List ℕ) (rows : List Entry) → ReadsTo file left rows → behind_open left ≡ Some behind → record_at behind ≡ None → HasBadRecord file (length file - length left)
bad_read file left behind rows r is none = record {
  records = r.records;
  commits = r.commits;
  behind = behind;
  are = r.are;
  place_is = place_of file r.records left r.bytes_are;
  bytes_are = r.bytes_are ∙ ap (λ (l : List ℕ). r.records ++ l) (opened left behind is);
  bad = λ commit body next rest one parts. absurd (whole commit body next rest one parts);
}
  where
    whole : (commit : Commit) (body : List ℕ) (next : ℕ) (rest : List ℕ) → IsRecord (1 ∷ body) commit → behind ≡ body ++ next ∷ rest → ⊥
    whole commit body next rest one parts =
        let same : body ≡ one.size ++ one.text = append_cancel_left (1 ∷ []) body (one.size ++ one.text) one.bytes_are in
        let read = record_read commit one.size one.text next rest one.eight one.size_is one.says in
        let some : record_at behind ≡ Some (commit, next ∷ rest) = ap record_at (parts ∙ ap (λ (l : List ℕ). l ++ next ∷ rest) same) ∙ read in
        impossible (commit, next ∷ rest) (sym none ∙ some)

pub block_is : (changes : Commit) (block text : List ℕ) → text ≡ commit_text changes → is_short_commit changes ≡ true → AllByRecursion IsTypedChange changes → length text < 2 ^ 64 → block ≡ (size_bytes (length text) ++ text) ++ 0 ∷ [] → IsBlock block changes
unfolding size_bytes
block_is changes block text is short typed fits made = (
  to_be_bytes w64 (length text) ++ text,
  record {
    size = to_be_bytes w64 (length text);
    text = text;
    eight = refl;
    size_is = from_be_bytes-to_be_bytes_8 (length text) fits;
    says = rw is (commit_again changes short typed);
    bytes_are = refl;
  },
  made,
)

pub block_if : {E : Type 0} (changes : Commit) (text : List ℕ) → text ≡ commit_text changes → is_short_commit changes ≡ true → AllByRecursion IsTypedChange changes → length text < 2 ^ 64
    → (result : Result (Vec ℕ Global) E) → IfOk result (λ block. block.items ≡ (size_bytes (length text) ++ text) ++ 0 ∷ []) → IfOk result (λ block. IsBlock block.items changes)
block_if changes text is short typed fits (Ok block) made = block_is changes block.items text is short typed fits made
block_if changes text is short typed fits (Err why) made = tt
