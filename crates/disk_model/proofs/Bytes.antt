-- Bytes with others written over them.
use Rattle.std.proofs.Common.{◌≡◌, ℕ, ◌+◌, ◌-◌, ◌≤◌, List, [], ◌++◌, length, take, drop, min, max, refl, sym, ◌∙◌, ap, arith, append_assoc, length-append, length-take, length-take-le, length-drop}
use Rattle.std.proofs.lemmas.List.{take_at, drop_at, take-append-le, drop-drop, take-take}
use Rattle.disk_model.specs.Disk.{patched, Torn}

pub length-patched : (place : ℕ) (bytes old : List ℕ) → place ≤ length old → length (patched place bytes old) ≡ max (length old) (place + length bytes)
length-patched place bytes old le =
    omega (
      arith,
      length-append (take place old ++ bytes) (drop (place + length bytes) old),
      length-append (take place old) bytes,
      length-take-le place old le,
      length-drop (place + length bytes) old,
    )

-- bytes written in part of a range, over what a crash may have left of it
pub torn-patched : (place count : ℕ) (bytes old : List ℕ) → place ≤ length old → length bytes ≤ count → Torn place count old (patched place bytes old)
torn-patched place count bytes old le few = record {
  before = ap (λ (l : List ℕ). take place l) (append_assoc (take place old) bytes rest) ∙ take_at (take place old) (bytes ++ rest) place front;
  after =
      ap (λ (n : ℕ). drop n (patched place bytes old)) more
      ∙ sym (drop-drop (count - length bytes) (place + length bytes) (patched place bytes old))
      ∙ ap (λ (l : List ℕ). drop (count - length bytes) l) (drop_at (take place old ++ bytes) rest (place + length bytes) both)
      ∙ drop-drop (count - length bytes) (place + length bytes) old
      ∙ ap (λ (n : ℕ). drop n old) (sym more);
  no_shorter = omega (arith, len);
  no_longer = omega (arith, len, few);
}
  where
    rest : List ℕ
    rest = drop (place + length bytes) old

    front : length (take place old) ≡ place
    front = length-take-le place old le

    both : length (take place old ++ bytes) ≡ place + length bytes
    both = omega (arith, length-append (take place old) bytes, front)

    more : place + count ≡ place + length bytes + (count - length bytes)
    more = omega (arith, few)

    len : length (patched place bytes old) ≡ max (length old) (place + length bytes)
    len = length-patched place bytes old le

pub torn-same : (place count : ℕ) (old : List ℕ) → Torn place count old old
torn-same place count old = record { before = refl; after = refl; no_shorter = omega arith; no_longer = omega arith }
