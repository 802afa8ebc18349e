-- What was written is read again: parts, changes and commits.
use Rattle.std.proofs.Common.{◌≡◌, ℕ, suc, ◌^◌, ◌<◌, true, false, cond, ltb, leb, List, [], ◌∷◌, ◌++◌, length, take, drop, Some, None, refl, sym, ap, ◌∙◌, append_assoc, arith, length-append}
use Rattle.std.specs.Int.{w32, from_be_bytes, to_be_bytes}
use Rattle.std.specs.List.{flat_map, list_all, AllByRecursion}
use Rattle.std.specs.Str.{IsUtf8}
use Rattle.std.proofs.lemmas.Bool.{ltb-true, le-ltb, le-leb}
use Rattle.std.proofs.lemmas.List.{take_at, drop_at, append-nil}
use Rattle.std.proofs.lemmas.List.Concat.{flat_map-cons}
use Rattle.std.proofs.lemmas.Nat.{from_be_bytes-to_be_bytes_4}
use Rattle.std.proofs.lemmas.Str.{is_utf8-from_IsUtf8}
use Rattle.size_values.specs.declared.entry.EntryChange.{EntryChange}
use Rattle.size_values.specs.declared.entry.EntryChange.TheVariants.{Put, Remove}
use Rattle.journal_keeper.specs.Texts.{Commit, Read, part_bytes, change_bytes, commit_text, is_short, is_short_change, is_short_commit, IsTypedChange, count_at, part_at, key_at, put_at, removal_at, change_at, changes_at, commit_of}
use Rattle.journal_keeper.proofs.Written.{both_true}

-- a number in so many bytes
pub number_again : (value : List ℕ → ℕ) (front rest : List ℕ) (wide n : ℕ) → length front ≡ wide → value front ≡ n
    → cond {A = Read ℕ} (ltb (length (front ++ rest)) wide) None (Some (value (take wide (front ++ rest)), drop wide (front ++ rest))) ≡ Some (n, rest)
number_again value front rest wide n len is =
    let long : ltb (length (front ++ rest)) wide ≡ false = le-ltb _ _ (omega (arith, len, length-append front rest)) in
    rw (long, take_at front rest wide len, drop_at front rest wide len, is) refl

count_again : (n : ℕ) (rest : List ℕ) → n < 2 ^ 32 → count_at (to_be_bytes w32 n ++ rest) ≡ Some (n, rest)
unfolding count_at
count_again n rest lt = number_again (from_be_bytes w32) (to_be_bytes w32 n) rest 4 n refl (from_be_bytes-to_be_bytes_4 n lt)

part_again : (part rest : List ℕ) → is_short part ≡ true → part_at (part_bytes part ++ rest) ≡ Some (part, rest)
unfolding part_at part_bytes
part_again part rest short =
    let regrouped : (to_be_bytes w32 (length part) ++ part) ++ rest ≡ to_be_bytes w32 (length part) ++ (part ++ rest) = append_assoc (to_be_bytes w32 (length part)) part rest in
    let counted : count_at ((to_be_bytes w32 (length part) ++ part) ++ rest) ≡ Some (length part, part ++ rest) = ap count_at regrouped ∙ count_again (length part) (part ++ rest) (ltb-true _ _ short) in
    let long : leb (length part) (length (part ++ rest)) ≡ true = le-leb (length part) (length (part ++ rest)) (omega (arith, length-append part rest)) in
    rw (counted, long, take_at part rest (length part) refl, drop_at part rest (length part) refl) refl

key_again : (key rest : List ℕ) → is_short key ≡ true → IsUtf8 key → key_at (part_bytes key ++ rest) ≡ Some (key, rest)
unfolding key_at
key_again key rest short utf8 = rw (part_again key rest short, is_utf8-from_IsUtf8 key utf8) refl

change_again : (change : EntryChange) (rest : List ℕ) → is_short_change change ≡ true → IsTypedChange change → change_at (change_bytes change ++ rest) ≡ Some (change, rest)
unfolding change_at change_bytes put_at removal_at
change_again (Put entry) rest short utf8 =
    let both = both_true (is_short entry.key) (is_short entry.body) short in
    let regrouped : (part_bytes entry.key ++ part_bytes entry.body) ++ rest ≡ part_bytes entry.key ++ (part_bytes entry.body ++ rest) = append_assoc (part_bytes entry.key) (part_bytes entry.body) rest in
    let keyed : key_at ((part_bytes entry.key ++ part_bytes entry.body) ++ rest) ≡ Some (entry.key, part_bytes entry.body ++ rest) = ap key_at regrouped ∙ key_again entry.key (part_bytes entry.body ++ rest) both.0 utf8 in
    rw (keyed, part_again entry.body rest both.1) refl
change_again (Remove kind key) rest short utf8 = rw (key_again key rest short utf8) refl

changes_again : (changes : Commit) (rest : List ℕ) → list_all is_short_change changes ≡ true → AllByRecursion IsTypedChange changes → changes_at (length changes) (flat_map change_bytes changes ++ rest) ≡ Some (changes, rest)
unfolding changes_at
changes_again [] rest short typed = refl
changes_again (change ∷ changes) rest short typed =
    let both = both_true (is_short_change change) (list_all is_short_change changes) short in
    let regrouped : flat_map change_bytes (change ∷ changes) ++ rest ≡ change_bytes change ++ (flat_map change_bytes changes ++ rest) = ap (λ (t : List ℕ). t ++ rest) (flat_map-cons change_bytes change changes) ∙ append_assoc (change_bytes change) (flat_map change_bytes changes) rest in
    ap (changes_at (suc (length changes))) regrouped ∙ rw (change_again change (flat_map change_bytes changes ++ rest) both.0 typed.0, changes_again changes rest both.1 typed.1) refl

-- a commit that can be taken is read from its text
pub commit_again : (changes : Commit) → is_short_commit changes ≡ true → AllByRecursion IsTypedChange changes → commit_of (commit_text changes) ≡ Some changes
unfolding commit_of commit_text
commit_again changes short typed =
    let both = both_true (is_short changes) (list_all is_short_change changes) short in
    let counted = count_again (length changes) (flat_map change_bytes changes) (ltb-true _ _ both.0) in
    let read : changes_at (length changes) (flat_map change_bytes changes) ≡ Some (changes, []) = ap (changes_at (length changes)) (sym (append-nil (flat_map change_bytes changes))) ∙ changes_again changes [] both.1 typed in
    rw (counted, read) refl
