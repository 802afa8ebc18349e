-- What a pick gives is an outcome of a crash.
use Rattle.std.proofs.Common.{◌≡◌, ℕ, zero, suc, ◌+◌, ◌≤◌, ◌/◌, ◌%◌, Bool, true, false, List, [], ◌∷◌, length, Option, Some, None, IfSome, refl, sym, ◌∙◌, ap, subst, arith, max, ◌++◌, take, drop, length-append, length-take, length-drop}
use Rattle.std.specs.Prelude.{nat_le, is_some}
use Rattle.std.proofs.lemmas.Bool.{le-leb, leb-true}
use Rattle.std.proofs.lemmas.List.{append-nil, drop_all}
use Rattle.disk_model.specs.Disk.{disk_limit, patched, Torn}
use Rattle.disk_model.specs.Memory.{after_write, is_synced_by, Leaves, LeftAt, AreWrites, picked_bytes, picked_write, next_pick, picked, IsRecorded, whole_disk}
use Rattle.disk_model.specs.declared.memory.Write.{Write}
use Rattle.disk_model.proofs.Bytes.{length-patched, torn-patched, torn-same}
use Rattle.disk_model.proofs.Record.{few_picked}

-- the case of a write that no sync ended
torn_pick : (fits : Bool) (pick : ℕ) (w : Write) (old : List ℕ) → nat_le w.place (length old) ≡ fits → w.synced ≡ None → Torn w.place (length w.bytes) old (picked_write pick w old)
torn_pick true pick w old fits none =
    let same : picked_write pick w old ≡ patched w.place (picked_bytes (pick % 4) w.bytes) old = rw (none, fits) refl in
    subst (λ (l : List ℕ). Torn w.place (length w.bytes) old l) (sym same) (torn-patched w.place (length w.bytes) (picked_bytes (pick % 4) w.bytes) old (leb-true w.place (length old) fits) (few_picked (pick % 4) w.bytes))
torn_pick false pick w old fits none =
    let same : picked_write pick w old ≡ old = rw (none, fits) refl in
    subst (λ (l : List ℕ). Torn w.place (length w.bytes) old l) (sym same) (torn-same w.place (length w.bytes) old)

leaves_pick : (now pick : ℕ) (w : Write) (s : Option ℕ) (old : List ℕ) → w.synced ≡ s → IfSome s (λ x. x ≤ now) → Leaves true (is_synced_by now s) w old (picked_write pick w old)
leaves_pick now pick w None old is le = torn_pick (nat_le w.place (length old)) pick w old refl is
leaves_pick now pick w (Some x) old is le =
    let there : picked_write pick w old ≡ after_write w old = rw is refl in
    subst (λ (s : Bool). Leaves true s w old (picked_write pick w old)) (sym (le-leb x now le)) there

pub possible : (now pick : ℕ) (ws : List Write) (base old : List ℕ) → AreWrites now ws base → LeftAt now ws old (picked pick ws old)
possible now pick [] base old are = refl
possible now pick (w ∷ ws) base old are =
    (picked_write pick w old, subst (λ (m : Bool). Leaves m (is_synced_by now w.synced) w old (picked_write pick w old)) (sym (le-leb w.moment now are.2)) (leaves_pick now pick w w.synced old refl are.3), possible now (next_pick pick w) ws (after_write w base) (picked_write pick w old) are.4)

short_patched : (place : ℕ) (bytes old : List ℕ) → length (patched place bytes old) ≤ max (length old) (place + length bytes)
short_patched place bytes old =
    omega (
      arith,
      length-append (take place old ++ bytes) (drop (place + length bytes) old),
      length-append (take place old) bytes,
      length-take place old,
      length-drop (place + length bytes) old,
    )

short_after : (done : Bool) (w : Write) (old : List ℕ) → w.done ≡ done → w.place + length w.bytes ≤ disk_limit → length old ≤ disk_limit → length (after_write w old) ≤ disk_limit
short_after true w old is limit short = let same : after_write w old ≡ patched w.place w.bytes old = rw is refl in omega (arith, ap length same, short_patched w.place w.bytes old)
short_after false w old is limit short = let same : after_write w old ≡ old = rw is refl in omega (arith, ap length same)

short_torn : (place count : ℕ) (old new : List ℕ) → Torn place count old new → place + count ≤ disk_limit → length old ≤ disk_limit → length new ≤ disk_limit
short_torn place count old new torn limit short = omega (arith, torn.no_longer)

short_pick : (pick : ℕ) (w : Write) (s : Option ℕ) (old : List ℕ) → w.synced ≡ s → w.place + length w.bytes ≤ disk_limit → length old ≤ disk_limit → length (picked_write pick w old) ≤ disk_limit
short_pick pick w None old is limit short = short_torn w.place (length w.bytes) old (picked_write pick w old) (torn_pick (nat_le w.place (length old)) pick w old refl is) limit short
short_pick pick w (Some x) old is limit short = let same : picked_write pick w old ≡ after_write w old = rw is refl in omega (arith, ap length same, short_after w.done w old refl limit short)

pub picked_short : (now pick : ℕ) (ws : List Write) (base old : List ℕ) → AreWrites now ws base → length old ≤ disk_limit → length (picked pick ws old) ≤ disk_limit
picked_short now pick [] base old are short = short
picked_short now pick (w ∷ ws) base old are short = picked_short now (next_pick pick w) ws (after_write w base) (picked_write pick w old) are.4 (short_pick pick w w.synced old refl are.1 short)

pub whole_recorded : (image : List ℕ) → length image ≤ disk_limit → IsRecorded 0 (whole_disk image).writes image
whole_recorded image short = record {
  image_is = sym (append-nil image) ∙ ap (λ (l : List ℕ). image ++ l) (sym (drop_all (0 + length image) [] (omega arith)));
  writes_are = (omega arith, omega (arith, short), omega arith, omega arith, tt);
}
