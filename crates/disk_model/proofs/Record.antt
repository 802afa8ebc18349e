-- The record of a disk in memory: what it tells at each moment, and what a write and a sync change in it.
use Rattle.std.proofs.Common.{◌≡◌, ◌⊎◌, inl, inr, ⊎_elim, ℕ, ◌+◌, ◌≤◌, ◌<◌, max, Bool, true, false, List, [], ◌∷◌, ◌++◌, ◌/◌, zero, suc, length, length-take, map, Option, Some, None, IfSome, refl, sym, ◌∙◌, ap, subst, arith}
use Rattle.std.specs.Prelude.{nat_le, is_some}
use Rattle.std.specs.Option.{option_or}
use Rattle.std.proofs.lemmas.List.{length-replicate}
use Rattle.std.proofs.lemmas.Bool.{le-leb, lt-leb, leb-true}
use Rattle.disk_model.specs.Disk.{disk_limit, patched, Torn}
use Rattle.disk_model.specs.Memory.{after_write, after_writes, image_of, is_synced_by, Leaves, LeftAt, AreWrites, synced_at, picked_bytes, picked_write, next_pick, picked}
use Rattle.disk_model.specs.declared.memory.Write.{Write}
use Rattle.disk_model.proofs.Bytes.{length-patched, torn-patched, torn-same}

pub later : (now then : ℕ) (ws : List Write) (old : List ℕ) → now ≤ then → AreWrites now ws old → AreWrites then ws old
later now then [] old le are = tt
later now then (w ∷ ws) old le are = (are.0, are.1, omega (arith, are.2, le), synced w.synced are.3, later now then ws (after_write w old) le are.4)
  where
    synced : (s : Option ℕ) → IfSome s (λ x. x ≤ now) → IfSome s (λ x. x ≤ then)
    synced None is = tt
    synced (Some x) is = omega (arith, is, le)

pub after_writes-push : (ws : List Write) (w : Write) (old : List ℕ) → after_writes (ws ++ w ∷ []) old ≡ after_write w (after_writes ws old)
after_writes-push [] w old = refl
after_writes-push (x ∷ ws) w old = after_writes-push ws w (after_write x old)

pub pushed : (now : ℕ) (ws : List Write) (w : Write) (old : List ℕ) → AreWrites now ws old → w.place ≤ length (after_writes ws old) → w.place + length w.bytes ≤ disk_limit → w.moment ≤ now → w.synced ≡ None → AreWrites now (ws ++ w ∷ []) old
pushed now [] w old are within limit moment unsynced = (within, limit, moment, subst (λ (s : Option ℕ). IfSome s (λ x. x ≤ now)) (sym unsynced) tt, tt)
pushed now (x ∷ ws) w old are within limit moment unsynced = (are.0, are.1, are.2, are.3, pushed now ws w (after_write x old) are.4 within limit moment unsynced)

short_write : (done : Bool) (w : Write) (old : List ℕ) → w.done ≡ done → w.place ≤ length old → w.place + length w.bytes ≤ disk_limit → length old ≤ disk_limit → length (after_write w old) ≤ disk_limit
short_write false w old is within limit short = subst (λ (l : List ℕ). length l ≤ disk_limit) (sym (rw is)) short
short_write true w old is within limit short = let same : after_write w old ≡ patched w.place w.bytes old = rw is in omega (arith, ap length same, length-patched w.place w.bytes old within)

pub image_short : (now : ℕ) (ws : List Write) (old : List ℕ) → AreWrites now ws old → length old ≤ disk_limit → length (after_writes ws old) ≤ disk_limit
image_short now [] old are short = short
image_short now (w ∷ ws) old are short = image_short now ws (after_write w old) are.4 (short_write w.done w old refl are.0 are.1 short)

-- ---- what stands since the last moment of the record

synced_now : (now then : ℕ) (s : Option ℕ) → IfSome s (λ x. x ≤ now) → now ≤ then → is_synced_by now s ≡ is_synced_by then s
synced_now now then None is le = refl
synced_now now then (Some x) is le = le-leb x now is ∙ sym (le-leb x then (omega (arith, is, le)))

-- at the last moment of the record and at any later one it tells the same
pub left_later : (now then : ℕ) (ws : List Write) (base old left : List ℕ) → AreWrites now ws base → now ≤ then → LeftAt now ws old left → LeftAt then ws old left
left_later now then [] base old left are le is = is
left_later now then (w ∷ ws) base old left are le is =
    let made : nat_le w.moment now ≡ nat_le w.moment then = le-leb w.moment now are.2 ∙ sym (le-leb w.moment then (omega (arith, are.2, le))) in
    let synced = synced_now now then w.synced are.3 le in
    (is.0, subst (λ (m : Bool). Leaves m (is_synced_by then w.synced) w old is.0) made (subst (λ (s : Bool). Leaves (nat_le w.moment now) s w old is.0) synced is.1), left_later now then ws (after_write w base) is.0 left are.4 le is.2)

pub left_earlier : (now then : ℕ) (ws : List Write) (base old left : List ℕ) → AreWrites now ws base → now ≤ then → LeftAt then ws old left → LeftAt now ws old left
left_earlier now then [] base old left are le is = is
left_earlier now then (w ∷ ws) base old left are le is =
    let made : nat_le w.moment then ≡ nat_le w.moment now = le-leb w.moment then (omega (arith, are.2, le)) ∙ sym (le-leb w.moment now are.2) in
    let synced = sym (synced_now now then w.synced are.3 le) in
    (is.0, subst (λ (m : Bool). Leaves m (is_synced_by now w.synced) w old is.0) made (subst (λ (s : Bool). Leaves (nat_le w.moment then) s w old is.0) synced is.1), left_earlier now then ws (after_write w base) is.0 left are.4 le is.2)

torn_write : (done : Bool) (w : Write) (old : List ℕ) → w.done ≡ done → w.place ≤ length old → Torn w.place (length w.bytes) old (after_write w old)
torn_write false w old is within = let same : after_write w old ≡ old = rw is in subst (λ (l : List ℕ). Torn w.place (length w.bytes) old l) (sym same) (torn-same w.place (length w.bytes) old)
torn_write true w old is within = let same : after_write w old ≡ patched w.place w.bytes old = rw is in subst (λ (l : List ℕ). Torn w.place (length w.bytes) old l) (sym same) (torn-patched w.place (length w.bytes) w.bytes old within (omega arith))

leaves_all : (synced : Bool) (w : Write) (old : List ℕ) → w.place ≤ length old → Leaves true synced w old (after_write w old)
leaves_all true w old within = refl
leaves_all false w old within = torn_write w.done w old refl within

-- what reads give may be left
pub stays : (now : ℕ) (ws : List Write) (old : List ℕ) → AreWrites now ws old → LeftAt now ws old (after_writes ws old)
stays now [] old are = refl
stays now (w ∷ ws) old are =
    let made : nat_le w.moment now ≡ true = le-leb w.moment now are.2 in
    (after_write w old, subst (λ (m : Bool). Leaves m (is_synced_by now w.synced) w old (after_write w old)) (sym made) (leaves_all (is_synced_by now w.synced) w old are.0), stays now ws (after_write w old) are.4)

-- ---- one more write

-- before it was made it left nothing
pub before_push : (moment : ℕ) (ws : List Write) (w : Write) (old left : List ℕ) → moment < w.moment → LeftAt moment (ws ++ w ∷ []) old left → LeftAt moment ws old left
before_push moment [] w old left lt is =
    let unmade : nat_le w.moment moment ≡ false = lt-leb w.moment moment lt in
    let none : is.0 ≡ old = subst (λ (m : Bool). Leaves m (is_synced_by moment w.synced) w old is.0) unmade is.1 in
    is.2 ∙ none
before_push moment (x ∷ ws) w old left lt is = (is.0, is.1, before_push moment ws w is.0 left lt is.2)

pub to_push : (moment : ℕ) (ws : List Write) (w : Write) (old left : List ℕ) → moment < w.moment → LeftAt moment ws old left → LeftAt moment (ws ++ w ∷ []) old left
to_push moment [] w old left lt is =
    let unmade : nat_le w.moment moment ≡ false = lt-leb w.moment moment lt in
    (old, subst (λ (m : Bool). Leaves m (is_synced_by moment w.synced) w old old) (sym unmade) refl, is)
to_push moment (x ∷ ws) w old left lt is = (is.0, is.1, to_push moment ws w is.0 left lt is.2)

-- after it, its range may hold anything
pub torn_push : (moment : ℕ) (ws : List Write) (w : Write) (old left : List ℕ) → w.moment ≤ moment → w.synced ≡ None → LeftAt moment (ws ++ w ∷ []) old left → (was : List ℕ) × LeftAt moment ws old was × Torn w.place (length w.bytes) was left
torn_push moment [] w old left le none is =
    let made : nat_le w.moment moment ≡ true = le-leb w.moment moment le in
    let unsynced : is_synced_by moment w.synced ≡ false = ap (is_synced_by moment) none in
    let torn : Torn w.place (length w.bytes) old is.0 = subst (λ (s : Bool). Leaves true s w old is.0) unsynced (subst (λ (m : Bool). Leaves m (is_synced_by moment w.synced) w old is.0) made is.1) in
    (old, refl, subst (λ (l : List ℕ). Torn w.place (length w.bytes) old l) (sym is.2) torn)
torn_push moment (x ∷ ws) w old left le none is =
    let found = torn_push moment ws w is.0 left le none is.2 in
    (found.0, (is.0, is.1, found.1), found.2)

-- ---- a sync

pub mapped_writes : (sync : ℕ) (ws : List Write) (old : List ℕ) → after_writes (map (synced_at sync) ws) old ≡ after_writes ws old
mapped_writes sync [] old = refl
mapped_writes sync (w ∷ ws) old = mapped_writes sync ws (after_write w old)

unsynced_before : (sync moment : ℕ) (s : Option ℕ) → moment < sync → is_synced_by moment (option_or s (Some sync)) ≡ is_synced_by moment s
unsynced_before sync moment None lt = lt-leb sync moment lt
unsynced_before sync moment (Some x) lt = refl

-- before the sync the record tells the same
pub before_sync : (sync moment : ℕ) (ws : List Write) (old left : List ℕ) → moment < sync → LeftAt moment (map (synced_at sync) ws) old left → LeftAt moment ws old left
before_sync sync moment [] old left lt is = is
before_sync sync moment (w ∷ ws) old left lt is =
    (is.0, same (nat_le w.moment moment) (is_synced_by moment w.synced) (subst (λ (s : Bool). Leaves (nat_le w.moment moment) s (synced_at sync w) old is.0) (unsynced_before sync moment w.synced lt) is.1), before_sync sync moment ws is.0 left lt is.2)
  where
    same : (made synced : Bool) → Leaves made synced (synced_at sync w) old is.0 → Leaves made synced w old is.0
    same false synced h = h
    same true true h = h
    same true false h = h

pub to_sync : (sync moment : ℕ) (ws : List Write) (old left : List ℕ) → moment < sync → LeftAt moment ws old left → LeftAt moment (map (synced_at sync) ws) old left
to_sync sync moment [] old left lt is = is
to_sync sync moment (w ∷ ws) old left lt is =
    (is.0, subst (λ (s : Bool). Leaves (nat_le w.moment moment) s (synced_at sync w) old is.0) (sym (unsynced_before sync moment w.synced lt)) (same (nat_le w.moment moment) (is_synced_by moment w.synced) is.1), to_sync sync moment ws is.0 left lt is.2)
  where
    same : (made synced : Bool) → Leaves made synced w old is.0 → Leaves made synced (synced_at sync w) old is.0
    same false synced h = h
    same true true h = h
    same true false h = h

synced_after : (sync : ℕ) (s : Option ℕ) → IfSome s (λ x. x ≤ sync) → is_synced_by sync (option_or s (Some sync)) ≡ true
synced_after sync None is = le-leb sync sync (omega arith)
synced_after sync (Some x) is = le-leb x sync is

-- after it nothing else may be left than what reads give
pub only_image : (sync : ℕ) (ws : List Write) (old left : List ℕ) → AreWrites sync ws old → LeftAt sync (map (synced_at sync) ws) old left → left ≡ after_writes ws old
only_image sync [] old left are is = is
only_image sync (w ∷ ws) old left are is =
    let made : nat_le w.moment sync ≡ true = le-leb w.moment sync are.2 in
    let here : is.0 ≡ after_write w old = subst (λ (s : Bool). Leaves true s (synced_at sync w) old is.0) (synced_after sync w.synced are.3) (subst (λ (m : Bool). Leaves m (is_synced_by sync (synced_at sync w).synced) (synced_at sync w) old is.0) made is.1) in
    only_image sync ws (after_write w old) left are.4 (subst (λ (mid : List ℕ). LeftAt sync (map (synced_at sync) ws) mid left) here is.2)

pub synced_are : (sync : ℕ) (ws : List Write) (old : List ℕ) → AreWrites sync ws old → AreWrites sync (map (synced_at sync) ws) old
synced_are sync [] old are = tt
synced_are sync (w ∷ ws) old are = (are.0, are.1, are.2, first w.synced are.3, synced_are sync ws (after_write w old) are.4)
  where
    first : (s : Option ℕ) → IfSome s (λ x. x ≤ sync) → IfSome (option_or s (Some sync)) (λ x. x ≤ sync)
    first None is = omega arith
    first (Some x) is = is

-- ---- a pick

half_few : (n : ℕ) → n / 2 ≤ n
half_few n = omega arith

pub few_picked : (digit : ℕ) (bytes : List ℕ) → length (picked_bytes digit bytes) ≤ length bytes
few_picked zero bytes = omega arith
few_picked (suc zero) bytes = omega arith
few_picked (suc (suc zero)) bytes = omega (arith, length-take (length bytes / 2) bytes)
few_picked (suc (suc (suc more))) bytes = omega (arith, length-replicate {A = ℕ} (length bytes) 1)
