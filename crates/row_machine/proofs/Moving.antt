-- What steps do to operations: none of them brings a number back.
use Rattle.std.proofs.Common.{◌≡◌, ◌≢◌, ℕ, ◌+◌, ◌<◌, ◌≤◌, Bool, Option, Some, None, ◌++◌, ◌⊎◌, refl, sym, ◌∙◌, subst, arith, inl, inr}
use Rattle.std.specs.Option.{option_map_or}
use Rattle.std.proofs.lemmas.Bool.{eqb-true}
use Rattle.plain_lists.specs.Members.{Mem, Each, Distinct}
use Rattle.plain_lists.specs.Edits.{changed_first}
use Rattle.plain_lists.specs.Rings.{ring_push}
use Rattle.plain_lists.proofs.Elements.{Each-map, Each-left, Each-right, Each-push, Mem-append}
use Rattle.plain_lists.proofs.Keys.{Distinct-push, Distinct-left, Distinct-right, Distinct-apart, Distinct-same}
use Rattle.plain_lists.proofs.EditLemmas.{Each-changed, Distinct-changed, Each-dropped, Distinct-dropped}
use Rattle.plain_lists.proofs.RingLemmas.{Each-ring}
use Rattle.plain_lists.proofs.Searches.{find-some}
use Rattle.operations.specs.Limits.{most_ended}
use Rattle.operations.specs.declared.operation.Operation.{Operation}
use Rattle.operations.specs.declared.operation.OpFault.{OpFault}
use Rattle.operations.specs.declared.status.Status.{Status}
use Rattle.operations.specs.OperationTable.{OperationTable, has_number, live_at, kept_at, entered, ends}
use Rattle.operations.specs.Facts.{AreKept}

-- the kept operations after some steps
pub data Moves {W : Type 0} : OperationTable W → OperationTable W → Type 0 where
  stays : {k : OperationTable W} → Moves k k
  enters : {k : OperationTable W} (may : Bool) (work : W) (moment : ℕ) → Moves k (entered may work moment k)
  changes : {k : OperationTable W} (n : ℕ) (f : Operation W → Operation W) → ((o : Operation W) → (f o).number ≡ o.number)
      → Moves k (record k { live = changed_first (has_number n) f k.live })
  over : {k : OperationTable W} (n : ℕ) (st : Status) (why : OpFault) (moment : ℕ) → Moves k (ends n st why moment k)
  both : {k l m : OperationTable W} → Moves k l → Moves l m → Moves k m

-- ---- live numbers are distinct and below the next one

pub record AreLive {W : Type 0} (k : OperationTable W) : Type 0 where
  pub distinct : Distinct (λ (o : Operation W). o.number) k.live
  pub below : Each (λ (o : Operation W). o.number < k.next) k.live

pub kept-live : {W : Type 0} {k : OperationTable W} → AreKept k → AreLive k
kept-live {W} {k} h = record {
  distinct = Distinct-left (λ (o : Operation W). o.number) k.live k.ended h.numbered.distinct;
  below = Each-left k.ended h.numbered.below_next;
}

pub moves-next : {W : Type 0} {k l : OperationTable W} → Moves k l → k.next ≤ l.next
moves-next stays = omega arith
moves-next (enters may work moment) = omega arith
moves-next (changes n f keeps) = omega arith
moves-next (over n st why moment) = omega arith
moves-next (both a b) = omega (arith, moves-next a, moves-next b)

pub moves-live : {W : Type 0} {k l : OperationTable W} → Moves k l → AreLive k → AreLive l
moves-live stays h = h
moves-live {W} {k} (enters may work moment) h = record {
  distinct = Distinct-push (λ (o : Operation W). o.number) k.live _ h.distinct
      (Each-map (λ o below same. absurd (let e : k.next < k.next = subst (λ n. n < k.next) same below in omega arith)) h.below);
  below = Each-push (λ (o : Operation W). o.number < k.next + 1) (Each-map (λ o b. omega arith) h.below) (omega arith);
}
moves-live {W} {k} (changes n f keeps) h = record {
  distinct = Distinct-changed (λ (o : Operation W). o.number) (has_number n) f k.live keeps h.distinct;
  below = Each-changed (λ (o : Operation W). o.number < k.next) (has_number n) f k.live (λ o hit b. subst (λ m. m < k.next) (sym (keeps o)) b) h.below;
}
moves-live {W} {k} (over n st why moment) h = record {
  distinct = Distinct-dropped (λ (o : Operation W). o.number) (has_number n) k.live h.distinct;
  below = Each-dropped (has_number n) h.below;
}
moves-live (both a b) h = moves-live b (moves-live a h)

-- ---- a number that is over: below the next one, and of no live operation

pub record IsOver {W : Type 0} (n : ℕ) (k : OperationTable W) : Type 0 where
  pub below : n < k.next
  pub gone : Each (λ (o : Operation W). o.number ≢ n) k.live

pub moves-over : {W : Type 0} {k l : OperationTable W} (n : ℕ) → Moves k l → IsOver n k → IsOver n l
moves-over n stays h = h
moves-over {W} {k} n (enters may work moment) h = record {
  below = omega (arith, h.below);
  gone = Each-push (λ (o : Operation W). o.number ≢ n) h.gone (λ same. let e : n < n = subst (λ m. n < m) same h.below in omega arith);
}
moves-over {W} {k} n (changes m f keeps) h = record {
  below = h.below;
  gone = Each-changed (λ (o : Operation W). o.number ≢ n) (has_number m) f k.live (λ o hit other same. other (sym (keeps o) ∙ same)) h.gone;
}
moves-over n (over m st why moment) h = record { below = h.below; gone = Each-dropped (has_number m) h.gone }
moves-over n (both a b) h = moves-over n b (moves-over n a h)

-- ---- an ended operation

pub record IsSettled {W : Type 0} (o : Operation W) (k : OperationTable W) : Type 0 where
  pub over : IsOver o.number k
  pub same : Each (λ (x : Operation W). x.number ≡ o.number → x ≡ o) k.ended

pub kept-settled : {W : Type 0} {k : OperationTable W} (o : Operation W) → AreKept k → Mem o k.ended → IsSettled o k
kept-settled {W} {k} o h there = record {
  over = record {
    below = (Each-right k.live h.numbered.below_next).at o there;
    gone = record { at = λ x live same. ((Distinct-apart (λ (y : Operation W). y.number) k.live k.ended h.numbered.distinct).at x live).at o there (sym same) };
  };
  same = record { at = λ x ended same. Distinct-same (λ (y : Operation W). y.number) k.ended x o (Distinct-right (λ (y : Operation W). y.number) k.live k.ended h.numbered.distinct) ended there same };
}

pub moves-settled : {W : Type 0} {k l : OperationTable W} (o : Operation W) → Moves k l → IsSettled o k → IsSettled o l
moves-settled o stays h = h
moves-settled o (enters may work moment) h = record { over = moves-over o.number (enters may work moment) h.over; same = h.same }
moves-settled o (changes n f keeps) h = record { over = moves-over o.number (changes n f keeps) h.over; same = h.same }
moves-settled {W} {k} o (over n st why moment) h = record {
  over = moves-over o.number (over n st why moment) h.over;
  same = at (live_at k n) refl;
} where
  at : (found : Option (Operation W)) → live_at k n ≡ found
      → Each (λ (x : Operation W). x.number ≡ o.number → x ≡ o)
      (option_map_or (λ (x : Operation W). ring_push most_ended (record x { status = st; fault = why; updated = moment }) k.ended) found k.ended)
  at None is = h.same
  at (Some x) is = Each-ring (λ (y : Operation W). y.number ≡ o.number → y ≡ o) most_ended h.same
      (λ same. absurd (h.over.gone.at x (find-some (has_number n) k.live x is).0 same))
moves-settled o (both a b) h = moves-settled o b (moves-settled o a h)

-- what is kept under its number is the operation itself
pub settled-is : {W : Type 0} {k : OperationTable W} (o later : Operation W) → IsSettled o k → kept_at k o.number ≡ Some later → later ≡ o
settled-is {W} {k} o later h is = by (Mem-append later k.live k.ended (find-some (has_number o.number) (k.live ++ k.ended) later is).0) where
  number : later.number ≡ o.number
  number = eqb-true later.number o.number (find-some (has_number o.number) (k.live ++ k.ended) later is).1

  by : Mem later k.live ⊎ Mem later k.ended → later ≡ o
  by (inl live) = absurd (h.over.gone.at later live number)
  by (inr ended) = h.same.at later ended number
