use Rattle.std.proofs.Common.{◌≡◌, ◌≢◌, ℕ, ◌+◌, ◌-◌, ◌<◌, ◌≤◌, Bool, true, false, cond, IsSome, Option, Some, None, List, [], ◌∷◌, ◌++◌, length, drop, refl, sym, ◌∙◌, ap, subst, arith}
use Rattle.std.proofs.lemmas.List.{length_push}
use Rattle.std.specs.List.{find}
use Rattle.std.specs.Option.{option_map, option_map_or, option_or, option_copied}
use Rattle.std.specs.Prelude.{IfSome}
use Rattle.std.specs.Borrow.{Bor}
use Rattle.std.proofs.lemmas.Bool.{eqb-true, eq-eqb, false≢true}
use Rattle.std.proofs.lemmas.List.Folds.{find-append}
use Rattle.plain_lists.specs.Members.{Each}
use Rattle.plain_lists.specs.Puts.{Puts}
use Rattle.plain_lists.specs.Edits.{changed_first, dropped}
use Rattle.plain_lists.specs.Rings.{ring_push}
use Rattle.plain_lists.proofs.Elements.{Each-none, Each-head, Each-tail, Each-map, Each-left, Each-right, Each-append, Each-drop, Each-push}
use Rattle.plain_lists.proofs.Keys.{Distinct-left, Distinct-right, Distinct-apart, Distinct-append, Distinct-drop}
use Rattle.plain_lists.proofs.PutsLemmas.{Each-puts, Each-unputs, Distinct-puts, Distinct-unputs, Puts-left, Puts-right, Puts-push, length-Puts}
use Rattle.plain_lists.proofs.EditLemmas.{Each-changed, changed-Puts, length-changed, Each-dropped, dropped-Puts}
use Rattle.plain_lists.proofs.RingLemmas.{ring-few, Each-ring}
use Rattle.plain_lists.proofs.Searches.{find-some, find-mem}
use Rattle.size_values.specs.Moments.{moment_limit}
use Rattle.operations.specs.Limits.{most_live, most_ended, number_limit}
use Rattle.operations.specs.declared.operation.Operation.{Operation}
use Rattle.operations.specs.declared.operation.OpFault.{OpFault}
use Rattle.operations.specs.declared.status.Status.{Status}
use Rattle.operations.specs.declared.status.Status.TheVariants as status
use Rattle.operations.specs.Statuses.{is_live, is_pending}
use Rattle.operations.specs.OperationTable.{OperationTable, has_number, live_at, kept_at, live_status, first_pending_of, no_operations, entered, moved, with_work, ends}
use Rattle.operations.specs.Facts.{AreInOrder, AreNumbered, AreKept}

-- numbers of one more, one fewer, and one in place of another

pub AreNumbered-put : {W : Type 0} {o : Operation W} {xs ys : List (Operation W)} {next : ℕ} → Puts o xs ys
    → Each (λ (x : Operation W). x.number ≢ o.number) xs → 1 ≤ o.number → o.number < next
    → (o.created < moment_limit) × (o.updated < moment_limit) → AreNumbered xs next → AreNumbered ys next
AreNumbered-put {W} {next} p fresh one below moment h = record {
  distinct = Distinct-puts (λ x. x.number) p fresh h.distinct;
  from_one = Each-puts (λ (x : Operation W). 1 ≤ x.number) p one h.from_one;
  below_next = Each-puts (λ (x : Operation W). x.number < next) p below h.below_next;
  moments = Each-puts (λ (x : Operation W). (x.created < moment_limit) × (x.updated < moment_limit)) p moment h.moments;
}

pub AreNumbered-unput : {W : Type 0} {o : Operation W} {xs ys : List (Operation W)} {next : ℕ}
    → Puts o xs ys → AreNumbered ys next → AreNumbered xs next
AreNumbered-unput p h = record {
  distinct = (Distinct-unputs (λ x. x.number) p h.distinct).1;
  from_one = (Each-unputs p h.from_one).1;
  below_next = (Each-unputs p h.below_next).1;
  moments = (Each-unputs p h.moments).1;
}

pub AreNumbered-swap : {W : Type 0} {o o' : Operation W} {base xs ys : List (Operation W)} {next : ℕ}
    → Puts o base xs → Puts o' base ys → o'.number ≡ o.number
    → ((o.created < moment_limit) × (o.updated < moment_limit) → (o'.created < moment_limit) × (o'.updated < moment_limit))
    → AreNumbered xs next → AreNumbered ys next
AreNumbered-swap {W} {o} {o'} {base} {next} p q same moment h = AreNumbered-put q
    (subst (λ n. Each (λ (x : Operation W). x.number ≢ n) base) (sym same) (Distinct-unputs (λ x. x.number) p h.distinct).0)
    (subst (λ n. 1 ≤ n) (sym same) (Each-unputs p h.from_one).0)
    (subst (λ n. n < next) (sym same) (Each-unputs p h.below_next).0)
    (moment (Each-unputs p h.moments).0)
    (AreNumbered-unput p h)

pub AreNumbered-drop : {W : Type 0} (n : ℕ) (xs ys : List (Operation W)) {next : ℕ}
    → AreNumbered (xs ++ ys) next → AreNumbered (xs ++ drop n ys) next
AreNumbered-drop {W} n xs ys h = record {
  distinct = Distinct-append (λ x. x.number) xs (drop n ys)
      (Distinct-left (λ x. x.number) xs ys h.distinct)
      (Distinct-drop (λ x. x.number) n ys (Distinct-right (λ x. x.number) xs ys h.distinct))
      (Each-map (λ x apart. Each-drop n apart) (Distinct-apart (λ (x : Operation W). x.number) xs ys h.distinct));
  from_one = both h.from_one;
  below_next = both h.below_next;
  moments = both h.moments;
} where
  both : {P : Operation W → Type 0} → Each P (xs ++ ys) → Each P (xs ++ drop n ys)
  both e = Each-append (Each-left ys e) (Each-drop n (Each-right xs e))

-- the order of numbers

AreInOrder-push : {W : Type 0} (o : Operation W) (os : List (Operation W))
    → Each (λ (x : Operation W). x.number < o.number) os → AreInOrder os → AreInOrder (os ++ o ∷ [])
AreInOrder-push o [] below h = (Each-none, tt)
AreInOrder-push {W} o (x ∷ xs) below h =
    (Each-push (λ (y : Operation W). x.number < y.number) h.0 (Each-head below), AreInOrder-push o xs (Each-tail below) h.1)

AreInOrder-changed : {W : Type 0} (p : Operation W → Bool) (f : Operation W → Operation W) (os : List (Operation W))
    → ((x : Operation W) → (f x).number ≡ x.number) → AreInOrder os → AreInOrder (changed_first p f os)
AreInOrder-changed p f [] keeps h = h
AreInOrder-changed {W} p f (x ∷ xs) keeps h = at (p x) (AreInOrder-changed p f xs keeps h.1) where
  at : (b : Bool) → AreInOrder (changed_first p f xs) → AreInOrder (cond b (f x ∷ xs) (x ∷ changed_first p f xs))
  at true more = (subst (λ n. Each (λ (y : Operation W). n < y.number) xs) (sym (keeps x)) h.0, h.1)
  at false more = (
    Each-changed (λ (y : Operation W). x.number < y.number) p f xs (λ y is. subst (λ n. x.number < n) (sym (keeps y))) h.0,
    more,
  )

AreInOrder-dropped : {W : Type 0} (p : Operation W → Bool) (os : List (Operation W)) → AreInOrder os → AreInOrder (dropped p os)
AreInOrder-dropped p [] h = h
AreInOrder-dropped p (x ∷ xs) h = at (p x) (AreInOrder-dropped p xs h.1) where
  at : (b : Bool) → AreInOrder (dropped p xs) → AreInOrder (cond b xs (x ∷ dropped p xs))
  at true more = h.1
  at false more = (Each-dropped p h.0, more)

-- what each change keeps

pub AreKept-none : {W : Type 0} → AreKept (no_operations {W = W})
AreKept-none = record {
  all_live = Each-none;
  all_ended = Each-none;
  in_order = tt;
  numbered = record { distinct = tt; from_one = Each-none; below_next = Each-none; moments = Each-none };
  next_from_one = omega arith;
  next_limit = omega arith;
  few_live = omega arith;
  few_ended = omega arith;
}

pub AreKept-entered : {W : Type 0} (may : Bool) (work : W) (moment : ℕ) {k : OperationTable W} → length k.live < most_live → k.next < number_limit
    → moment < moment_limit → AreKept k → AreKept (entered may work moment k)
AreKept-entered {W} may work moment {k} room number moment_is h = record {
  all_live = Each-push (λ (o : Operation W). is_live o.status ≡ true) h.all_live refl;
  all_ended = h.all_ended;
  in_order = AreInOrder-push _ k.live (Each-left k.ended h.numbered.below_next) h.in_order;
  numbered = AreNumbered-put (Puts-left k.ended (Puts-push k.live))
      (Each-map (λ o below same. absurd (let e : k.next < k.next = subst (λ n. n < k.next) same below in omega arith)) h.numbered.below_next)
      h.next_from_one (omega arith) (moment_is, moment_is) (further h.numbered);
  next_from_one = omega arith;
  next_limit = omega arith;
  few_live = omega (arith, length_push k.live);
  few_ended = h.few_ended;
} where
  further : AreNumbered (k.live ++ k.ended) k.next → AreNumbered (k.live ++ k.ended) (k.next + 1)
  further n = record {
    distinct = n.distinct;
    from_one = n.from_one;
    below_next = Each-map (λ o below. omega arith) n.below_next;
    moments = n.moments;
  }

-- a change of the live operation of a number that leaves its number and keeps a live status and moments
AreKept-changed : {W : Type 0} (n : ℕ) (f : Operation W → Operation W) {k : OperationTable W} → IsSome (live_at k n)
    → ((o : Operation W) → (f o).number ≡ o.number)
    → ((o : Operation W) → is_live o.status ≡ true → is_live (f o).status ≡ true)
    → ((o : Operation W) → (o.created < moment_limit) × (o.updated < moment_limit) → ((f o).created < moment_limit) × ((f o).updated < moment_limit))
    → AreKept k → AreKept (record k { live = changed_first (has_number n) f k.live })
AreKept-changed {W} n f {k} some keeps stays moment h = at (live_at k n) refl some where
  at : (o : Option (Operation W)) → live_at k n ≡ o → IsSome o → AreKept (record k { live = changed_first (has_number n) f k.live })
  at None is none = cc
  at (Some o) is there =
      let move = changed-Puts (has_number n) f o k.live is in
      record {
        all_live = Each-changed (λ (x : Operation W). is_live x.status ≡ true) (has_number n) f k.live (λ x hit. stays x) h.all_live;
        all_ended = h.all_ended;
        in_order = AreInOrder-changed (has_number n) f k.live keeps h.in_order;
        numbered = AreNumbered-swap (Puts-left k.ended move.1.0) (Puts-left k.ended move.1.1) (keeps o) (moment o) h.numbered;
        next_from_one = h.next_from_one;
        next_limit = h.next_limit;
        few_live = subst (λ m. m ≤ most_live) (sym (length-changed (has_number n) f k.live)) h.few_live;
        few_ended = h.few_ended;
      }

pub AreKept-moved : {W : Type 0} (n : ℕ) (st : Status) (moment : ℕ) {k : OperationTable W} → IsSome (live_at k n)
    → is_live st ≡ true → moment < moment_limit → AreKept k → AreKept (moved n st moment k)
AreKept-moved {W} n st moment some live moment_is h =
    AreKept-changed n (λ (o : Operation W). record o { status = st; updated = moment }) some (λ o. refl) (λ o is. live) (λ o m. (m.0, moment_is)) h

pub AreKept-with_work : {W : Type 0} (n : ℕ) (work : W) {k : OperationTable W} → IsSome (live_at k n) → AreKept k → AreKept (with_work n work k)
AreKept-with_work {W} n work some h =
    AreKept-changed n (λ (o : Operation W). record o { work = work }) some (λ o. refl) (λ o is. is) (λ o m. m) h

-- the operation that ended
abbrev pub ended_by : {W : Type 0} → Status → OpFault → ℕ → Operation W → Operation W
ended_by st why moment o = record o { status = st; fault = why; updated = moment }

-- an end moves an operation from the live ones to the ended ones
pub end-Puts : {W : Type 0} (n : ℕ) (st : Status) (why : OpFault) (moment : ℕ) (o : Operation W) (live ended : List (Operation W))
    → find (has_number n) live ≡ Some o
    → Puts o (dropped (has_number n) live ++ ended) (live ++ ended)
    × Puts (ended_by st why moment o) (dropped (has_number n) live ++ ended) (dropped (has_number n) live ++ (ended ++ ended_by st why moment o ∷ []))
end-Puts n st why moment o live ended is =
    (Puts-left ended (dropped-Puts (has_number n) o live is), Puts-right (dropped (has_number n) live) (Puts-push ended))

pub AreKept-ends : {W : Type 0} (n : ℕ) (st : Status) (why : OpFault) (moment : ℕ) {k : OperationTable W} → IsSome (live_at k n)
    → is_live st ≡ false → moment < moment_limit → AreKept k → AreKept (ends n st why moment k)
AreKept-ends {W} n st why moment {k} some over moment_is h = at (live_at k n) refl some where
  Goal : Option (Operation W) → Type 0
  Goal o = AreKept (record k {
    live = dropped (has_number n) k.live;
    ended = option_map_or (λ o. ring_push most_ended (record o { status = st; fault = why; updated = moment }) k.ended) o k.ended;
  })

  at : (o : Option (Operation W)) → live_at k n ≡ o → IsSome o → Goal o
  at None is none = cc
  at (Some o) is there =
      let puts = end-Puts n st why moment o k.live k.ended is in
      let gone = dropped-Puts (has_number n) o k.live is in
      record {
        all_live = Each-dropped (has_number n) h.all_live;
        all_ended = Each-ring (λ (x : Operation W). is_live x.status ≡ false) most_ended h.all_ended over;
        in_order = AreInOrder-dropped (has_number n) k.live h.in_order;
        numbered = AreNumbered-drop (length (k.ended ++ ended_by st why moment o ∷ []) - most_ended) (dropped (has_number n) k.live) (k.ended ++ ended_by st why moment o ∷ [])
            (AreNumbered-swap puts.0 puts.1 refl (λ m. (m.0, moment_is)) h.numbered);
        next_from_one = h.next_from_one;
        next_limit = h.next_limit;
        few_live = omega (arith, length-Puts gone, h.few_live);
        few_ended = ring-few most_ended (ended_by st why moment o) k.ended;
      }

-- what a look-up finds

-- a kept operation that is live is the live one of its number
pub live-from_kept : {W : Type 0} (k : OperationTable W) (n : ℕ) (o : Operation W) → AreKept k → kept_at k n ≡ Some o → is_live o.status ≡ true → live_at k n ≡ Some o
live-from_kept {W} k n o h e live = at (live_at k n) refl where
  split : kept_at k n ≡ option_or (live_at k n) (find (has_number n) k.ended)
  split = find-append (has_number n) k.live k.ended

  at : (x : Option (Operation W)) → live_at k n ≡ x → live_at k n ≡ Some o
  at (Some x) is = is ∙ sym (ap (λ y. option_or y (find (has_number n) k.ended)) is) ∙ sym split ∙ e
  at None is =
      let late : find (has_number n) k.ended ≡ Some o = sym (ap (λ y. option_or y (find (has_number n) k.ended)) is) ∙ sym split ∙ e in
      absurd (false≢true (sym (h.all_ended.at o (find-some (has_number n) k.ended o late).0) ∙ live))

-- the first that waits is Pending
pub pending-first : {W : Type 0} (k : OperationTable W) (n : ℕ) → AreKept k → first_pending_of k ≡ Some n → live_status k n ≡ Some status.Pending
pending-first {W} k n h e = at (find (λ (o : Operation W). is_pending o.status) k.live) refl e where
  pending : (st : Status) → is_pending st ≡ true → st ≡ status.Pending
  pending status.Pending is = refl
  pending status.Running is = cc
  pending status.Cancelling is = cc
  pending status.Success is = cc
  pending status.Failure is = cc
  pending status.Cancelled is = cc

  at : (x : Option (Operation W)) → find (λ (o : Operation W). is_pending o.status) k.live ≡ x
      → option_map (λ (o : Operation W). o.number) x ≡ Some n → live_status k n ≡ Some status.Pending
  at None is e = cc
  at (Some o) is e =
      let number : o.number ≡ n = cc in
      let there = find-some (λ (x : Operation W). is_pending x.status) k.live o is in
      let distinct = Distinct-left (λ (x : Operation W). x.number) k.live k.ended h.numbered.distinct in
      ap (option_map (λ (x : Operation W). x.status))
      (find-mem (λ (x : Operation W). x.number) (has_number n) o k.live distinct (λ y hit. eqb-true y.number n hit ∙ sym number) there.0 (eq-eqb o.number n number))
      ∙ ap Some (pending o.status there.1)

-- the same, of a look-up's answer

pub live-found : {W : Type 0} (k : OperationTable W) (n : ℕ) (r : Option (Bor (Operation W))) → AreKept k → option_copied r ≡ kept_at k n
    → IfSome r (λ o. is_live o.now.status ≡ true → live_at k n ≡ Some o.now)
live-found k n None h e = tt
live-found k n (Some o) h e = λ live. live-from_kept k n o.now h (sym e) live

pub pending-found : {W : Type 0} (k : OperationTable W) (r : Option ℕ) → AreKept k → r ≡ first_pending_of k
    → IfSome r (λ n. live_status k n ≡ Some status.Pending)
pending-found k None h e = tt
pending-found k (Some n) h e = pending-first k n h (sym e)
