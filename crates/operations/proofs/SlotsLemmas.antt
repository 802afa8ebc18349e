use Rattle.std.proofs.Common.{◌≡◌, ◌≢◌, ℕ, ◌+◌, ◌-◌, ◌<◌, ◌≤◌, Bool, true, false, cond, eqb, nat_lt, IsSome, Option, Some, None, Ok, Err, List, [], ◌∷◌, ◌++◌, map, length, drop, get_or, refl, sym, ◌∙◌, ap, subst, inl, inr, arith}
use Rattle.std.specs.List.{find, slice_get}
use Rattle.std.specs.Option.{option_map, option_map_or, option_or}
use Rattle.std.specs.Prelude.{vec_capacity, if◌then◌else◌, ◌==◌}
use Rattle.std.proofs.lemmas.Bool.{eqb-true, eqb-false, eq-eqb}
use Rattle.std.proofs.lemmas.List.{get_or-map, length-map, map-append}
use Rattle.std.proofs.lemmas.List.Folds.{find-append}
use Rattle.std.proofs.lemmas.Option.{slice_get-get_or}
use Rattle.plain_lists.specs.Members.{Mem, Each, Distinct}
use Rattle.plain_lists.specs.Puts.{Puts}
use Rattle.plain_lists.specs.Edits.{inserted, dropped, changed_first}
use Rattle.plain_lists.specs.Rings.{keep_last, ring_push}
use Rattle.plain_lists.proofs.Elements.{Mem-get_or, Mem-from_map}
use Rattle.plain_lists.proofs.PutsLemmas.{Puts-map, Puts-between, Puts-left, Puts-push, length-Puts, Mem-unputs, Distinct-unputs}
use Rattle.plain_lists.proofs.EditLemmas.{inserted-Puts, map-changed}
use Rattle.plain_lists.proofs.RingLemmas.{ring-place}
use Rattle.plain_lists.proofs.Searches.{find-mem, find-some}
use Rattle.size_values.specs.Moments.{moment_limit}
use Rattle.operations.specs.Limits.{most_live, most_ended}
use Rattle.operations.specs.declared.operation.Operation.{Operation}
use Rattle.operations.specs.declared.slots.Slots.TheInside.{Inside}
use Rattle.operations.specs.declared.operation.OpFault.{OpFault}
use Rattle.operations.specs.declared.status.Status.{Status}
use Rattle.operations.specs.declared.status.Status.TheVariants as status
use Rattle.operations.specs.declared.faults.CancelFault.TheVariants.{Unknown}
use Rattle.operations.specs.Statuses.{is_live, cancel_of}
use Rattle.operations.specs.OperationTable.{OperationTable, has_number, by_number, live_at, live_status, kept_at, ends, cancel_answer}
use Rattle.operations.specs.Facts.{AreKept}
use Rattle.operations.specs.Inside.{rising, numbers_of, kept_in, AreSlots}
use Rattle.operations.proofs.KeptLemmas.{AreKept-ends, ended_by, end-Puts}
use Rattle.operations.proofs.Rising.{rising-Puts, ranked, ranked-last, dropped-ranked, length-rising, Each-rising}

-- the order of numbers

map-inserted : {W : Type 0} (o : Operation W) (os : List (Operation W))
    → map (λ x. x.number) (inserted (λ x. nat_lt o.number x.number) o os) ≡ ranked o.number (map (λ x. x.number) os)
map-inserted o [] = refl
map-inserted {W} o (x ∷ xs) = at (nat_lt o.number x.number) (map-inserted o xs) where
  at : (b : Bool) → map (λ y. y.number) (inserted (λ y. nat_lt o.number y.number) o xs) ≡ ranked o.number (map (λ y. y.number) xs)
      → map (λ y. y.number) (cond b (o ∷ x ∷ xs) (x ∷ inserted (λ y. nat_lt o.number y.number) o xs))
      ≡ cond b (o.number ∷ x.number ∷ map (λ y. y.number) xs) (x.number ∷ ranked o.number (map (λ y. y.number) xs))
  at true more = refl
  at false more = ap (λ ns. x.number ∷ ns) more

pub map-by_number : {W : Type 0} (os : List (Operation W)) → map (λ o. o.number) (by_number os) ≡ numbers_of os
map-by_number [] = refl
map-by_number (o ∷ os) = map-inserted o (by_number os) ∙ ap (ranked o.number) (map-by_number os)

Mem-by_number : {W : Type 0} (x : Operation W) (os : List (Operation W)) → Mem x (by_number os) → Mem x os
Mem-by_number x [] m = m
Mem-by_number x (o ∷ os) m =
    elim (Mem-unputs x (inserted-Puts (λ y. nat_lt o.number y.number) o (by_number os)) m) [ inl e ↦ inl e | inr n ↦ inr (Mem-by_number x os n) ]

length-by_number : {W : Type 0} (os : List (Operation W)) → length (by_number os) ≡ length os
length-by_number [] = refl
length-by_number (o ∷ os) =
    omega (arith, length-Puts (inserted-Puts (λ y. nat_lt o.number y.number) o (by_number os)), length-by_number os)

pub length-numbers_of : {W : Type 0} (os : List (Operation W)) → length (numbers_of os) ≡ length os
length-numbers_of os = length-rising (map (λ o. o.number) os) ∙ length-map os (λ o. o.number)

-- the operation of the number at a place is the operation at that place
pub found-at : {W : Type 0} (os : List (Operation W)) (place : ℕ) (d : ℕ) → Distinct (λ (o : Operation W). o.number) os → place < length os
    → find (has_number (get_or (numbers_of os) place d)) os ≡ slice_get (by_number os) place
found-at [] place d distinct h = absurd (omega arith)
found-at {W} (o ∷ os) place d distinct h =
    find-mem (λ x. x.number) (has_number number) there (o ∷ os) distinct tells (Mem-by_number there (o ∷ os) (Mem-get_or (by_number (o ∷ os)) place o within)) passes
    ∙ sym (slice_get-get_or (by_number (o ∷ os)) place o within) where
      within : place < length (by_number (o ∷ os))
      within = subst (λ n. place < n) (sym (length-by_number (o ∷ os))) h

      number : ℕ
      number = get_or (numbers_of (o ∷ os)) place d

      there : Operation W
      there = get_or (by_number (o ∷ os)) place o

      is : there.number ≡ number
      is = sym (get_or-map (λ x. x.number) (by_number (o ∷ os)) place o d within) ∙ ap (λ ns. get_or ns place d) (map-by_number (o ∷ os))

      passes : has_number number there ≡ true
      passes = eq-eqb there.number number is

      tells : (x : Operation W) → has_number number x ≡ true → x.number ≡ there.number
      tells x e = eqb-true x.number number e ∙ sym is

-- there is one at each place
pub there-at : {W : Type 0} (os : List (Operation W)) (place : ℕ) → place < length os → None ≡ slice_get (by_number os) place → ⊥
there-at [] place h none = absurd (omega arith)
there-at {W} (o ∷ os) place h none =
    let some = slice_get-get_or (by_number (o ∷ os)) place o (subst (λ n. place < n) (sym (length-by_number (o ∷ os))) h) in cc

-- the index through each change

-- another operation of the same number leaves the numbers
pub numbers-swap : {W : Type 0} {o o' : Operation W} {base xs ys : List (Operation W)}
    → Puts o base xs → Puts o' base ys → o'.number ≡ o.number → numbers_of ys ≡ numbers_of xs
numbers-swap {base} p q same =
    rising-Puts (Puts-map (λ x. x.number) q) ∙ ap (λ n. ranked n (numbers_of base)) same ∙ sym (rising-Puts (Puts-map (λ x. x.number) p))

-- one of the greatest number stands at the end
pub numbers-entered : {W : Type 0} (o : Operation W) (live ended : List (Operation W))
    → Each (λ (x : Operation W). x.number < o.number) (live ++ ended)
    → numbers_of ((live ++ o ∷ []) ++ ended) ≡ numbers_of (live ++ ended) ++ o.number ∷ []
numbers-entered {W} o live ended below =
    rising-Puts (Puts-map (λ x. x.number) (Puts-left ended (Puts-push live)))
    ∙ ranked-last o.number (numbers_of (live ++ ended)) (Each-rising (λ m. m < o.number) (map (λ x. x.number) (live ++ ended)) (Each-to_map (live ++ ended) below)) where
      Each-to_map : (os : List (Operation W)) → Each (λ (x : Operation W). x.number < o.number) os → Each (λ m. m < o.number) (map (λ x. x.number) os)
      Each-to_map os e = record { at = λ m there. let found = Mem-from_map (λ x. x.number) m os there in subst (λ n. n < o.number) (sym found.1.1) (e.at found.0 found.1.0) }

-- one that is no longer kept goes out
numbers-gone : {W : Type 0} (o : Operation W) (xs ys : List (Operation W)) → Distinct (λ (x : Operation W). x.number) ys → Puts o xs ys
    → dropped (λ n. eqb n o.number) (numbers_of ys) ≡ numbers_of xs
numbers-gone {W} o xs ys distinct p =
    ap (dropped (λ n. eqb n o.number)) (rising-Puts (Puts-map (λ x. x.number) p))
    ∙ dropped-ranked o.number (numbers_of xs) (Each-rising (λ m. m ≢ o.number) (map (λ x. x.number) xs) fresh) where
      fresh : Each (λ m. m ≢ o.number) (map (λ x. x.number) xs)
      fresh = record {
        at = λ m there. let found = Mem-from_map (λ x. x.number) m xs there in
            λ e. (Distinct-unputs (λ (x : Operation W). x.number) p distinct).0.at found.0 found.1.0 (sym found.1.1 ∙ e);
      }

-- what `forget` leaves where `drop_oldest` answered
pub numbers-forgotten : {W : Type 0} (live ended : List (Operation W)) (ns : List ℕ) → Distinct (λ (o : Operation W). o.number) (live ++ ended)
    → length ended ≤ most_ended → ns ≡ numbers_of (live ++ ended)
    → option_map_or (λ number. dropped (λ n. n == number) ns)
    (if length ended == most_ended then option_map (λ (o : Operation W). o.number) (slice_get ended 0) else None) ns
    ≡ numbers_of (live ++ keep_last (most_ended - 1) ended)
numbers-forgotten live [] ns distinct few is = is
numbers-forgotten {W} live (e ∷ rest) ns distinct few is = at (length (e ∷ rest) == most_ended) refl where
  at : (b : Bool) → (length (e ∷ rest) == most_ended) ≡ b
      → option_map_or (λ number. dropped (λ n. n == number) ns) (cond b (Some e.number) None) ns
      ≡ numbers_of (live ++ keep_last (most_ended - 1) (e ∷ rest))
  at true full =
      let size : length (e ∷ rest) ≡ most_ended = eqb-true (length (e ∷ rest)) most_ended full in
      let one : length (e ∷ rest) - (most_ended - 1) ≡ 1 = omega arith in
      ap (dropped (λ n. eqb n e.number)) is
      ∙ numbers-gone e (live ++ rest) (live ++ e ∷ rest) distinct (Puts-between live rest)
      ∙ ap (λ n. numbers_of (live ++ drop n (e ∷ rest))) (sym one)
  at false some =
      let size : length (e ∷ rest) ≢ most_ended = eqb-false (length (e ∷ rest)) most_ended some in
      let none : length (e ∷ rest) - (most_ended - 1) ≡ 0 = omega arith in
      is ∙ ap (λ n. numbers_of (live ++ drop n (e ∷ rest))) (sym none)

-- what holds of the fields, said of the parts
pub AreSlots-are : {W : Type 0} (s : Inside W) (k : OperationTable W) → s.live.items ≡ k.live → s.ended.items ≡ k.ended → s.next ≡ k.next
    → AreKept k → s.numbers.items ≡ numbers_of (k.live ++ k.ended)
    → most_live ≤ vec_capacity s.live → most_ended ≤ vec_capacity s.ended → most_live + most_ended ≤ vec_capacity s.numbers → AreSlots s
AreSlots-are {W} s k live ended next h listed room_live room_ended room_numbers = record {
  kept = subst AreKept (λ i. record { live = sym live i; ended = sym ended i; next = sym next i }) h;
  listed = listed ∙ ap numbers_of (λ i. sym live i ++ sym ended i);
  live_room = room_live;
  ended_room = room_ended;
  numbers_room = room_numbers;
}

-- a change that leaves the number leaves the index
pub numbers-changed : {W : Type 0} (n : ℕ) (f : Operation W → Operation W) (k : OperationTable W) → ((o : Operation W) → (f o).number ≡ o.number)
    → numbers_of (changed_first (has_number n) f k.live ++ k.ended) ≡ numbers_of (k.live ++ k.ended)
numbers-changed n f k keeps = ap rising
    (map-append (λ o. o.number) (changed_first (has_number n) f k.live) k.ended
    ∙ ap (λ ns. ns ++ map (λ o. o.number) k.ended) (map-changed (λ o. o.number) (has_number n) f k.live (λ o hit. keeps o))
    ∙ sym (map-append (λ o. o.number) k.live k.ended))

-- the fields after a change of one live operation
pub AreSlots-changed : {W : Type 0} (n : ℕ) (f : Operation W → Operation W) (s now : Inside W) → AreSlots s
    → ((o : Operation W) → (f o).number ≡ o.number)
    → now.live.items ≡ changed_first (has_number n) f s.live.items → vec_capacity s.live ≤ vec_capacity now.live
    → now.ended ≡ s.ended → now.numbers ≡ s.numbers → now.next ≡ s.next
    → AreKept (record (kept_in s) { live = changed_first (has_number n) f s.live.items }) → AreSlots now
AreSlots-changed n f s now h keeps live room ended numbers next kept =
    AreSlots-are now (record (kept_in s) { live = changed_first (has_number n) f s.live.items })
    live (ap (λ v. v.items) ended) next kept
    (ap (λ v. v.items) numbers ∙ h.listed ∙ sym (numbers-changed n f (kept_in s) keeps))
    (let room_was = h.live_room in omega arith)
    (subst (λ v. most_ended ≤ vec_capacity v) (sym ended) h.ended_room)
    (subst (λ v. most_live + most_ended ≤ vec_capacity v) (sym numbers) h.numbers_room)

-- the fields after an end
pub AreSlots-ended : {W : Type 0} (n : ℕ) (st : Status) (why : OpFault) (moment : ℕ) (o : Operation W) (s now : Inside W) → AreSlots s
    → find (has_number n) s.live.items ≡ Some o → is_live st ≡ false → moment < moment_limit
    → now.live.items ≡ dropped (has_number n) s.live.items
    → now.ended.items ≡ keep_last (most_ended - 1) s.ended.items ++ ended_by st why moment o ∷ []
    → now.numbers.items ≡ numbers_of (s.live.items ++ keep_last (most_ended - 1) s.ended.items)
    → now.next ≡ s.next
    → vec_capacity s.live ≤ vec_capacity now.live → vec_capacity s.ended ≤ vec_capacity now.ended → vec_capacity s.numbers ≤ vec_capacity now.numbers
    → AreSlots now
AreSlots-ended {W} n st why moment o s now h found over moment_is live ended numbers next room_live room_ended room_numbers =
    AreSlots-are now (ends n st why moment (kept_in s))
    live
    (ended ∙ ring-place most_ended (ended_by st why moment o) s.ended.items (omega arith) ∙ sym (ap pushed found))
    next
    (AreKept-ends n st why moment (subst IsSome (sym found) refl) over moment_is h.kept)
    (numbers ∙ sym (numbers-swap puts.0 puts.1 refl) ∙ ap (λ es. numbers_of (dropped (has_number n) s.live.items ++ es))
    (ring-place most_ended (ended_by st why moment o) s.ended.items (omega arith) ∙ sym (ap pushed found)))
    (let was = h.live_room in omega arith)
    (let was = h.ended_room in omega arith)
    (let was = h.numbers_room in omega arith) where
      pushed : Option (Operation W) → List (Operation W)
      pushed found_is = option_map_or (λ x. ring_push most_ended (ended_by st why moment x) s.ended.items) found_is s.ended.items

      puts : Puts o (dropped (has_number n) s.live.items ++ keep_last (most_ended - 1) s.ended.items) (s.live.items ++ keep_last (most_ended - 1) s.ended.items)
          × Puts (ended_by st why moment o) (dropped (has_number n) s.live.items ++ keep_last (most_ended - 1) s.ended.items)
          (dropped (has_number n) s.live.items ++ (keep_last (most_ended - 1) s.ended.items ++ ended_by st why moment o ∷ []))
      puts = end-Puts n st why moment o s.live.items (keep_last (most_ended - 1) s.ended.items) found

-- what a cancel that is not refused says of the operation

-- it is live
pub cancel-live : {W : Type 0} (k : OperationTable W) (n : ℕ) (now : Status) → AreKept k → cancel_answer (kept_at k n) ≡ Ok now → IsSome (live_at k n)
cancel-live {W} k n now h accepted = at (live_at k n) refl (find (has_number n) k.ended) refl where
  refused : (may : Bool) (st : Status) → is_live st ≡ false → cancel_of may st ≡ Ok now → ⊥
  refused may status.Pending over is = cc
  refused may status.Running over is = cc
  refused may status.Cancelling over is = cc
  refused may status.Success over is = cc
  refused may status.Failure over is = cc
  refused may status.Cancelled over is = cc

  answered : (o x : Option (Operation W)) → live_at k n ≡ o → find (has_number n) k.ended ≡ x → cancel_answer (option_or o x) ≡ Ok now
  answered o x is also =
      sym (ap cancel_answer (find-append (has_number n) k.live k.ended ∙ ap (λ y. option_or y (find (has_number n) k.ended)) is ∙ ap (option_or o) also)) ∙ accepted

  at : (o : Option (Operation W)) → live_at k n ≡ o → (x : Option (Operation W)) → find (has_number n) k.ended ≡ x → IsSome (live_at k n)
  at (Some o) is x also = subst IsSome (sym is) refl
  at None is None also = let never : Err Unknown ≡ Ok now = answered None None is also in cc
  at None is (Some x) also =
      absurd (refused x.may_cancel x.status (h.all_ended.at x (find-some (has_number n) k.ended x also).0) (answered None (Some x) is also))

-- unless it becomes Cancelled, its new status is a live one
pub cancel-moves : {W : Type 0} (o : Option (Operation W)) (now : Status) → cancel_answer o ≡ Ok now → (now ≡ status.Cancelled → ⊥) → is_live now ≡ true
cancel-moves o status.Pending e other = refl
cancel-moves o status.Running e other = refl
cancel-moves o status.Cancelling e other = refl
cancel-moves o status.Cancelled e other = absurd (other refl)
cancel-moves {W} o status.Success e other = never o e where
  by : (may : Bool) (st : Status) → cancel_of may st ≡ Ok status.Success → is_live status.Success ≡ true
  by true status.Pending is = cc
  by true status.Running is = cc
  by true status.Cancelling is = cc
  by false status.Pending is = cc
  by false status.Running is = cc
  by false status.Cancelling is = cc
  by may status.Success is = cc
  by may status.Failure is = cc
  by may status.Cancelled is = cc

  never : (x : Option (Operation W)) → cancel_answer x ≡ Ok status.Success → is_live status.Success ≡ true
  never None is = cc
  never (Some x) is = by x.may_cancel x.status is
cancel-moves {W} o status.Failure e other = never o e where
  by : (may : Bool) (st : Status) → cancel_of may st ≡ Ok status.Failure → is_live status.Failure ≡ true
  by true status.Pending is = cc
  by true status.Running is = cc
  by true status.Cancelling is = cc
  by false status.Pending is = cc
  by false status.Running is = cc
  by false status.Cancelling is = cc
  by may status.Success is = cc
  by may status.Failure is = cc
  by may status.Cancelled is = cc

  never : (x : Option (Operation W)) → cancel_answer x ≡ Ok status.Failure → is_live status.Failure ≡ true
  never None is = cc
  never (Some x) is = by x.may_cancel x.status is

pub live-status : {W : Type 0} (k : OperationTable W) (n : ℕ) (st : Status) → live_status k n ≡ Some st → IsSome (live_at k n)
live-status {W} k n st e = at (live_at k n) e where
  at : (o : Option (Operation W)) → option_map (λ (x : Operation W). x.status) o ≡ Some st → IsSome o
  at None is = cc
  at (Some o) is = refl
