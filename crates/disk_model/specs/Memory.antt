-- A disk in memory: the record of its writes, and what follows from the record alone.
use Rattle.std.specs.Prelude.{ℕ, zero, suc, ◌≡◌, ◌+◌, ◌-◌, ◌^◌, ◌/◌, ◌%◌, ◌==◌, ◌≤◌, ◌<◌, ◌⊎◌, nat_le, nat_lt, ◌||◌, min, Bool, true, false}
use Rattle.std.specs.Prelude.{List, [], ◌∷◌, ◌++◌, map, length, take, replicate, Option, Some, None, is_some, IfSome, Result, Ok, Err, if◌then◌else◌}
use Rattle.std.specs.List.{list_any}
use Rattle.std.specs.Option.{option_or}
use Rattle.size_values.specs.Calls.{last_number}
use Rattle.size_values.specs.declared.memory.Or.{Or}
use Rattle.size_values.specs.declared.memory.Or.TheVariants as or
use Rattle.disk_model.specs.Disk.{DiskState, disk_limit, patched, Torn}
use Rattle.disk_model.specs.declared.memory.Write.{Write}
use Rattle.disk_model.specs.declared.memory.DiskCalls.{DiskCalls}
use Rattle.disk_model.specs.declared.disk.DiskFailed.{DiskFailed}

-- A disk in memory: which calls fail, how many were made, how many of them failed, and the record of the writes, the
-- first one first.
pub record MemoryState : Type 0 where
  pub calls : DiskCalls
  pub writes : List Write

-- ---- calls

-- no more calls are counted
abbrev pub is_spent : DiskCalls → Bool
is_spent calls = calls.made == last_number

-- the next call is one of those that fail
abbrev pub is_next_listed : DiskCalls → Bool
is_next_listed calls = list_any (λ number. number == calls.made + 1) calls.fails

-- the next call fails: it is listed, or no more calls are counted
abbrev pub is_next_failing : DiskCalls → Bool
is_next_failing calls = is_spent calls || is_next_listed calls

-- after one more call that did not fail
abbrev pub after_call : DiskCalls → DiskCalls
after_call calls = record calls { made = min (calls.made + 1) last_number }

-- after one more call that failed
abbrev pub after_failure : DiskCalls → DiskCalls
after_failure calls = record calls { made = min (calls.made + 1) last_number; failed = min (calls.failed + 1) last_number }

-- after one more call, by whether it is to fail
abbrev pub after_next : DiskCalls → DiskCalls
after_next calls = if is_next_failing calls then after_failure calls else after_call calls

-- ---- the record

-- the bytes after a write: one that was not answered Ok changed nothing
abbrev pub after_write : Write → List ℕ → List ℕ
after_write write old = if write.done then patched write.place write.bytes old else old

-- the bytes after these writes, one after the other
abbrev pub after_writes : List Write → List ℕ → List ℕ
after_writes [] old = old
after_writes (write ∷ writes) old = after_writes writes (after_write write old)

-- what reads give
abbrev pub image_of : List Write → List ℕ
image_of writes = after_writes writes []

-- a sync had ended well after the write, by this moment
abbrev pub is_synced_by : ℕ → Option ℕ → Bool
is_synced_by moment None = false
is_synced_by moment (Some synced) = nat_le synced moment

-- What a crash may leave of one write, over what was there before it. One that was not made yet left nothing, one that
-- was synced is there as answered, and the range of any other may hold anything.
abbrev pub Leaves : Bool → Bool → Write → List ℕ → List ℕ → Type 0
Leaves false synced write old left = left ≡ old
Leaves true true write old left = left ≡ after_write write old
Leaves true false write old left = Torn write.place (length write.bytes) old left

-- what a crash at a moment may leave of these writes, one after the other
abbrev pub LeftAt : ℕ → List Write → List ℕ → List ℕ → Type 0
LeftAt moment [] old left = left ≡ old
LeftAt moment (write ∷ writes) old left = (mid : List ℕ)
    × Leaves (nat_le write.moment moment) (is_synced_by moment write.synced) write old mid
    × LeftAt moment writes mid left

-- the disk, as the record tells it
abbrev pub memory_disk : MemoryState → DiskState
memory_disk d = record {
  contents = Some (image_of d.writes);
  moment = d.calls.made;
  may_leave = LeftAt d.calls.made d.writes [];
  left_since = λ since left. (moment : ℕ) × (since ≤ moment) × (moment ≤ d.calls.made) × LeftAt moment d.writes [] left;
  failures = d.calls.failed;
}

-- each write begins within what was there and ends within the limit, and no moment is to come
abbrev pub AreWrites : ℕ → List Write → List ℕ → Type 0
AreWrites now [] old = Unit {0}
AreWrites now (write ∷ writes) old =
    (write.place ≤ length old)
    × (write.place + length write.bytes ≤ disk_limit)
    × (write.moment ≤ now)
    × IfSome write.synced (λ synced. synced ≤ now)
    × AreWrites now writes (after_write write old)

-- the image is what the record tells
pub record IsRecorded (now : ℕ) (writes : List Write) (image : List ℕ) : Type 0 where
  pub image_is : image ≡ image_of writes
  pub writes_are : AreWrites now writes []

-- ---- what the calls do

-- the write of the next call
abbrev pub next_write : MemoryState → ℕ → List ℕ → Bool → Write
next_write d place bytes done = record {
  moment = d.calls.made + 1;
  place = place;
  bytes = bytes;
  done = done;
  synced = None;
}

-- What a write does. One that failed is in the record, unless it ends past the limit or no more calls are counted.
abbrev pub Writes : ℕ → List ℕ → MemoryState → MemoryState → Result (Unit {0}) (Or DiskFailed) → Type 0
Writes place bytes old new (Ok u) =
    (place + length bytes ≤ disk_limit)
    × (is_next_failing old.calls ≡ false)
    × (new ≡ record { calls = after_call old.calls; writes = old.writes ++ next_write old place bytes true ∷ [] })
Writes place bytes old new (Err or.NoMemory) =
    new ≡ record old { calls = after_call old.calls }
Writes place bytes old new (Err (or.Why why)) =
    (((disk_limit < place + length bytes) ⊎ (is_spent old.calls ≡ true))
    × (new ≡ record old { calls = after_failure old.calls }))
    ⊎ ((place + length bytes ≤ disk_limit)
    × (is_spent old.calls ≡ false)
    × (is_next_listed old.calls ≡ true)
    × (new ≡ record { calls = after_failure old.calls; writes = old.writes ++ next_write old place bytes false ∷ [] }))

-- the write, with this as the moment of the first sync after it where there was none
abbrev pub synced_at : ℕ → Write → Write
synced_at moment write = record write { synced = option_or write.synced (Some moment) }

-- a sync that ended well is the first one after each write that had none
abbrev pub after_sync : MemoryState → MemoryState
after_sync old = record {
  calls = after_call old.calls;
  writes = map (synced_at (old.calls.made + 1)) old.writes;
}

-- ---- one outcome of a crash for each pick

-- What a digit from 0 to 3 picks of the bytes of a write that was not synced: none, all, the first half, or as many
-- bytes 1.
abbrev pub picked_bytes : ℕ → List ℕ → List ℕ
picked_bytes zero bytes = []
picked_bytes (suc zero) bytes = bytes
picked_bytes (suc (suc zero)) bytes = take (length bytes / 2) bytes
picked_bytes (suc (suc (suc more))) bytes = replicate (length bytes) 1

-- the bytes after a write by the last digit of a pick; a write that no sync ended and that begins past the end has no
-- outcome but none
abbrev pub picked_write : ℕ → Write → List ℕ → List ℕ
picked_write pick write old =
    if is_some write.synced then after_write write old
    else if nat_le write.place (length old) then patched write.place (picked_bytes (pick % 4) write.bytes) old
    else old

-- the pick for the writes after one: a write that no sync ended takes a digit
abbrev pub next_pick : ℕ → Write → ℕ
next_pick pick write = if is_some write.synced then pick else pick / 4

-- the bytes after these writes by a pick
abbrev pub picked : ℕ → List Write → List ℕ → List ℕ
picked pick [] old = old
picked pick (write ∷ writes) old = picked (next_pick pick write) writes (picked_write pick write old)

-- a disk of no calls with these bytes, all of them synced
abbrev pub whole_disk : List ℕ → MemoryState
whole_disk bytes = record {
  calls = record { fails = []; made = 0; failed = 0 };
  writes = record { moment = 0; place = 0; bytes = bytes; done = true; synced = Some 0 } ∷ [];
}
