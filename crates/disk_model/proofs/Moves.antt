-- What the calls of a disk in memory do to what is seen of it.
use Rattle.std.proofs.Common.{◌≡◌, ◌⊎◌, inl, inr, ⊎_elim, ℕ, ◌+◌, ◌≤◌, ◌<◌, List, [], ◌∷◌, ◌++◌, length, map, Option, Some, None, Bool, true, false, ◌||◌, min, Result, Ok, Err, OnOk, OnErr, is_err, refl, sym, ◌∙◌, ap, subst, arith}
use Rattle.std.proofs.lemmas.Bool.Decides.{leb_tells}
use Rattle.disk_model.specs.Disk.{DiskState, WritesNothing, Elapses, Follows, Torn, Only, patched}
use Rattle.std.proofs.lemmas.Bool.Decides.{nat_tests}
use Rattle.size_values.specs.Calls.{last_number}
use Rattle.size_values.specs.declared.memory.Or.{Or}
use Rattle.size_values.specs.declared.memory.Or.TheVariants as or
use Rattle.disk_model.specs.declared.disk.DiskFailed.{DiskFailed}
use Rattle.disk_model.specs.Memory.{MemoryState, LeftAt, AreWrites, image_of, memory_disk, synced_at, is_spent, is_next_listed, is_next_failing, after_call, after_failure, after_sync, next_write, Writes}
use Rattle.disk_model.proofs.Bytes.{torn-same}
use Rattle.disk_model.specs.declared.memory.Write.{Write}
use Rattle.disk_model.specs.declared.memory.DiskCalls.{DiskCalls}
use Rattle.disk_model.proofs.Record.{later, left_later, left_earlier, stays, before_push, to_push, torn_push, after_writes-push, before_sync, to_sync, only_image, mapped_writes, synced_are}

pub quiet : (d : MemoryState) (calls : DiskCalls) → AreWrites d.calls.made d.writes [] → d.calls.made ≤ calls.made → WritesNothing (memory_disk d) (memory_disk (record d { calls = calls }))
quiet d calls are le = record {
  contents = refl;
  crash = λ left now. left_earlier d.calls.made calls.made d.writes [] [] left are le now;
  stays = stays calls.made d.writes [] (later d.calls.made calls.made d.writes [] le are);
  time = record {
    later = le;
    nothing_else = λ since left before is. ⊎_elim
        (λ earlier. inl (is.0, is.1, earlier.1, is.3))
        (λ past. inr (left_later d.calls.made calls.made d.writes [] [] left are le (left_earlier d.calls.made is.0 d.writes [] [] left are (omega (arith, past.1)) is.3)))
        (leb_tells is.0 d.calls.made);
    keeps = λ since left before is. (is.0, is.1, omega (arith, is.2, le), is.3);
  };
}

module _ (d e : MemoryState) (w : Write) (writes_are : e.writes ≡ d.writes ++ w ∷ []) (moment_is : e.calls.made ≡ d.calls.made + 1) (made : w.moment ≡ d.calls.made + 1) (unsynced : w.synced ≡ None) (are : AreWrites d.calls.made d.writes []) where
  pub push_time : Elapses (memory_disk d) (memory_disk e)
  push_time = record {
    later = omega (arith, moment_is);
    nothing_else = λ since left before is. ⊎_elim
        (λ earlier. inl (is.0, is.1, earlier.1, before_push is.0 d.writes w [] left (omega (arith, earlier.1, made)) (subst (λ (ws : List Write). LeftAt is.0 ws [] left) writes_are is.3)))
        (λ past. let now : is.0 ≡ e.calls.made = omega (arith, past.1, is.2, moment_is) in inr (subst (λ (m : ℕ). LeftAt m e.writes [] left) now is.3))
        (leb_tells is.0 d.calls.made);
    keeps = λ since left before is. (is.0, is.1, omega (arith, is.2, moment_is), subst (λ (ws : List Write). LeftAt is.0 ws [] left) (sym writes_are) (to_push is.0 d.writes w [] left (omega (arith, is.2, made)) is.3));
  }

  pub push_crash : Follows (Torn w.place (length w.bytes)) (memory_disk d).may_leave (memory_disk e).may_leave
  push_crash left is =
      let found = torn_push e.calls.made d.writes w [] left (omega (arith, moment_is, made)) unsynced (subst (λ (ws : List Write). LeftAt e.calls.made ws [] left) writes_are is) in
      (found.0, left_earlier d.calls.made e.calls.made d.writes [] [] found.0 are (omega (arith, moment_is)) found.1, found.2)

module _ (d e : MemoryState) (writes_are : e.writes ≡ map (synced_at (d.calls.made + 1)) d.writes) (moment_is : e.calls.made ≡ d.calls.made + 1) (are : AreWrites d.calls.made d.writes []) where
  synced_image : image_of e.writes ≡ image_of d.writes
  synced_image = ap image_of writes_are ∙ mapped_writes (d.calls.made + 1) d.writes []

  are_then : AreWrites (d.calls.made + 1) d.writes []
  are_then = later d.calls.made (d.calls.made + 1) d.writes [] (omega arith) are

  pub sync_only : Only (image_of d.writes) (memory_disk e).may_leave
  sync_only left is =
      let told : LeftAt (d.calls.made + 1) (map (synced_at (d.calls.made + 1)) d.writes) [] left = subst (λ (m : ℕ). LeftAt m (map (synced_at (d.calls.made + 1)) d.writes) [] left) moment_is (subst (λ (ws : List Write). LeftAt e.calls.made ws [] left) writes_are is) in
      only_image (d.calls.made + 1) d.writes [] left are_then told

  pub sync_are : AreWrites e.calls.made e.writes []
  sync_are = subst (λ (m : ℕ). AreWrites m e.writes []) (sym moment_is) (subst (λ (ws : List Write). AreWrites (d.calls.made + 1) ws []) (sym writes_are) (synced_are (d.calls.made + 1) d.writes [] are_then))

  pub sync_quiet : WritesNothing (memory_disk d) (memory_disk e)
  sync_quiet = record {
    contents = ap Some synced_image;
    crash = λ left now. subst (λ (l : List ℕ). LeftAt d.calls.made d.writes [] l) (sym (sync_only left now)) (stays d.calls.made d.writes [] are);
    stays = stays e.calls.made e.writes [] sync_are;
    time = record {
      later = omega (arith, moment_is);
      nothing_else = λ since left before is. ⊎_elim
          (λ earlier. inl (is.0, is.1, earlier.1, before_sync (d.calls.made + 1) is.0 d.writes [] left (omega (arith, earlier.1)) (subst (λ (ws : List Write). LeftAt is.0 ws [] left) writes_are is.3)))
          (λ past. let now : is.0 ≡ e.calls.made = omega (arith, past.1, is.2, moment_is) in inr (subst (λ (m : ℕ). LeftAt m e.writes [] left) now is.3))
          (leb_tells is.0 d.calls.made);
      keeps = λ since left before is. (is.0, is.1, omega (arith, is.2, moment_is), subst (λ (ws : List Write). LeftAt is.0 ws [] left) (sym writes_are) (to_sync (d.calls.made + 1) is.0 d.writes [] left (omega (arith, is.2)) is.3));
    };
  }

-- what a write does to what is seen, whatever it answers
pub record Wrote (place count : ℕ) (d e : MemoryState) : Type 0 where
  pub crash : Follows (Torn place count) (memory_disk d).may_leave (memory_disk e).may_leave
  pub time : Elapses (memory_disk d) (memory_disk e)

unspent : (calls : DiskCalls) → calls.made ≤ last_number → is_spent calls ≡ false → min (calls.made + 1) last_number ≡ calls.made + 1
unspent calls le is = grind (arith, nat_tests)

not_failing : (calls : DiskCalls) → is_next_failing calls ≡ false → is_spent calls ≡ false
not_failing calls is = first (is_spent calls) (is_next_listed calls) is
  where
    first : (a b : Bool) → (a || b) ≡ false → a ≡ false
    first false b h = refl
    first true b h = absurd cc

by_push : (place : ℕ) (bytes : List ℕ) (done : Bool) (d e : MemoryState) (calls : DiskCalls) → e ≡ record { calls = calls; writes = d.writes ++ next_write d place bytes done ∷ [] } → calls.made ≡ d.calls.made + 1 → AreWrites d.calls.made d.writes [] → Wrote place (length bytes) d e
by_push place bytes done d e calls is made are = record {
  crash = push_crash d e (next_write d place bytes done) (ap (λ (x : MemoryState). x.writes) is) (ap (λ (x : MemoryState). x.calls.made) is ∙ made) refl refl are;
  time = push_time d e (next_write d place bytes done) (ap (λ (x : MemoryState). x.writes) is) (ap (λ (x : MemoryState). x.calls.made) is ∙ made) refl refl are;
}

by_quiet : (place count : ℕ) (d e : MemoryState) (calls : DiskCalls) → e ≡ record d { calls = calls } → d.calls.made ≤ calls.made → AreWrites d.calls.made d.writes [] → Wrote place count d e
by_quiet place count d e calls is le are =
    let still = quiet d calls are le in
    subst (Wrote place count d) (sym is) (record { crash = λ left now. (left, still.crash left now, torn-same place count left); time = still.time })

pub wrote : (place : ℕ) (bytes : List ℕ) (d e : MemoryState) (result : Result (Unit {0}) (Or DiskFailed)) → Writes place bytes d e result → d.calls.made ≤ last_number → AreWrites d.calls.made d.writes [] → Wrote place (length bytes) d e
wrote place bytes d e (Ok u) is le are = by_push place bytes true d e (after_call d.calls) is.2 (unspent d.calls le (not_failing d.calls is.1)) are
wrote place bytes d e (Err or.NoMemory) is le are = by_quiet place (length bytes) d e (after_call d.calls) is (omega (arith, le)) are
wrote place bytes d e (Err (or.Why why)) (inl is) le are = by_quiet place (length bytes) d e (after_failure d.calls) is.1 (omega (arith, le)) are
wrote place bytes d e (Err (or.Why why)) (inr is) le are = by_push place bytes false d e (after_failure d.calls) is.3 (unspent d.calls le is.1) are

pub wrote_bytes : (place : ℕ) (bytes : List ℕ) (d e : MemoryState) (result : Result (Unit {0}) (Or DiskFailed)) → Writes place bytes d e result → OnOk result (image_of e.writes ≡ patched place bytes (image_of d.writes))
wrote_bytes place bytes d e (Ok u) is = ap (λ (x : MemoryState). image_of x.writes) is.2 ∙ after_writes-push d.writes (next_write d place bytes true) []
wrote_bytes place bytes d e (Err why) is = tt

pub synced : (d e : MemoryState) → e ≡ after_sync d → is_next_failing d.calls ≡ false → d.calls.made ≤ last_number → AreWrites d.calls.made d.writes [] → WritesNothing (memory_disk d) (memory_disk e) × Only (image_of d.writes) (memory_disk e).may_leave
synced d e is well le are =
    let made = ap (λ (x : MemoryState). x.calls.made) is ∙ unspent d.calls le (not_failing d.calls well) in
    (sync_quiet d e (ap (λ (x : MemoryState). x.writes) is) made are, sync_only d e (ap (λ (x : MemoryState). x.writes) is) made are)

module _ (d e : MemoryState) where
  pub synced_only : (result : Result (Unit {0}) DiskFailed) → OnOk result (e ≡ after_sync d) → is_err result ≡ is_next_failing d.calls → d.calls.made ≤ last_number → AreWrites d.calls.made d.writes [] → OnOk result (Only (image_of d.writes) (memory_disk e).may_leave)
  synced_only (Ok u) is well le are = (synced d e is (sym well) le are).1
  synced_only (Err why) is well le are = tt

  pub synced_quiet : (result : Result (Unit {0}) DiskFailed) → OnOk result (e ≡ after_sync d) → OnErr result (e ≡ record d { calls = after_failure d.calls }) → is_err result ≡ is_next_failing d.calls → d.calls.made ≤ last_number → AreWrites d.calls.made d.writes [] → WritesNothing (memory_disk d) (memory_disk e)
  synced_quiet (Ok u) is err well le are = (synced d e is (sym well) le are).0
  synced_quiet (Err why) is err well le are = subst (λ (x : MemoryState). WritesNothing (memory_disk d) (memory_disk x)) (sym err) (quiet d (after_failure d.calls) are (omega (arith, le)))
