-- Histories one after the other.
use Rattle.std.proofs.Common.{◌≡◌, ◌<◌, ◌+◌, ◌-◌, ◌^◌, ◌++◌, ℕ, Bool, true, false, List, [], ◌∷◌, Option, Some, None}
use Rattle.std.proofs.Common.{refl, sym, ◌∙◌, subst}
use Rattle.std.proofs.Common.{add-zero, arith}
use Rattle.std.proofs.lemmas.List.Sums.{sum_by-append, sum_by-cons}
use Rattle.std.specs.List.{sum_by}
use Rattle.size_values.specs.Causes.{RoseBy}
use Rattle.row_machine.specs.declared.events.Answer.{Answer}
use Rattle.row_machine.specs.declared.events.Event.{Event}
use Rattle.row_machine.specs.machine.Step.{Outcome}
use Rattle.serial_steps.specs.Counts.{failed_commits}
use Rattle.serial_steps.proofs.Counting.{caused-rose, rose-twice}
use Rattle.gates.specs.Chains.{Chain, none, more}
use Rattle.gates.specs.Gates.{Between, Seen}
use Rattle.gates.specs.History.{Bears, Counts, EventBy, Item, Contents, ContentsBy, capped, failures_at, failures_in}
use Rattle.gates.specs.History.{idle, idle_at, idled_after, idles_in, turn, turn_at, turns_in}

-- ---- chains

-- a way, and then another
pub chain-append : {S I : Type 0} {R : S → I → S → Type 0} {xs ys : List I} {a b c : S} → Chain R xs a b
    → Chain R ys b c → Chain R (xs ++ ys) a c
chain-append none then = then
chain-append (more first others) then = more first (chain-append others then)

-- a way of one step
pub chain-one : {S I : Type 0} {R : S → I → S → Type 0} {i : I} {a b : S} → R a i b → Chain R (i ∷ []) a b
chain-one step = more step none

-- ---- counts

counts-append : (m n a b c : ℕ) → Counts m a b → Counts n b c → Counts (m + n) a c
counts-append m n a b c first then low =
    let second : c ≡ b + n = then low in
    let below : b < 2 ^ 64 - 1 = omega (arith, low, second) in
    let early : b ≡ a + m = first below in
    omega (arith, second, early)

counts-capped : (a b : ℕ) → b ≡ capped (a + 1) → Counts 1 a b
counts-capped a b is low = omega (arith, is, low)

counts-same : (a b : ℕ) → b ≡ a → Counts 0 a b
counts-same a b same low = omega (arith, same)

counts-idled : (is_up : Bool) (events : List (Event × Outcome)) (a b : ℕ) → b ≡ idled_after is_up a
    → Counts (idle_at (idle is_up events)) a b
counts-idled true events a b is = counts-capped a b is
counts-idled false events a b is = counts-same a b is

-- ---- failures of the keeper

pub bears-append : (m n : ℕ) (a b c : Option Contents) → Bears m a b → Bears n b c → Bears (m + n) a c
bears-append m n None b c first then = tt
bears-append m n (Some s) None c first then = absurd first
bears-append m n (Some s) (Some t) None first then = absurd then
bears-append m n (Some s) (Some t) (Some u) first then =
    rose-twice m n s.store.failures t.store.failures u.store.failures first then

bears-none : (a : Option Contents) → Bears 0 a a
bears-none None = tt
bears-none (Some s) = omega arith

-- of the events while a gate idles
abbrev failures_of : List (Event × Outcome) → ℕ
failures_of events = sum_by (λ (e : Event × Outcome). failed_commits e.1) events

events-bear : {events : List (Event × Outcome)} {s t : Contents} → Chain EventBy events s t
    → RoseBy (failures_of events) s.store.failures t.store.failures
events-bear none = omega arith
events-bear {events = e ∷ es} {s = s} {t = t} (more {between = m} first others) =
    subst (λ n. RoseBy n s.store.failures t.store.failures)
    (sym (sum_by-cons (λ (e : Event × Outcome). failed_commits e.1) e es))
    (rose-twice (failed_commits e.1) (failures_of es) s.store.failures m.store.failures t.store.failures
    (caused-rose e.1 s.store.failures m.store.failures first.1.caused) (events-bear others))

item-bears : (i : Item) (a b : Option Contents) → ContentsBy a i b → Bears (failures_at i) a b
item-bears i None b by = tt
item-bears (turn e outcome a) (Some s) b by =
    subst (Bears (failed_commits outcome) (Some s)) (sym by.1)
    (caused-rose outcome s.store.failures by.0.store.failures by.2.caused)
item-bears (idle is_up events) (Some s) b by =
    subst (Bears (failures_of events) (Some s)) (sym by.1) (events-bear by.2)

-- ---- from one moment of a gate to another

-- nothing was done
pub between-none : (s : Seen) → Between [] s s
between-none s = record {
  leads = none;
  turns = counts-same s.turned s.turned refl;
  idles = counts-same s.idled s.idled refl;
  failed = bears-none s.contents;
}

-- one thing was done
abbrev one-sum : (f : Item → ℕ) (i : Item) → sum_by f (i ∷ []) ≡ f i
one-sum f i = sum_by-cons f i [] ∙ add-zero (f i)

between-one : (i : Item) (old new : Seen) → ContentsBy old.contents i new.contents → Counts (turn_at i) old.turned new.turned
    → Counts (idle_at i) old.idled new.idled → Between (i ∷ []) old new
between-one i old new by turns idles = record {
  leads = chain-one by;
  turns = subst (λ n. Counts n old.turned new.turned) (sym (one-sum turn_at i)) turns;
  idles = subst (λ n. Counts n old.idled new.idled) (sym (one-sum idle_at i)) idles;
  failed = subst (λ n. Bears n old.contents new.contents) (sym (one-sum failures_at i)) (item-bears i old.contents new.contents by);
}

pub between-turn : {old new : Seen} {e : Event} {outcome : Outcome} {a : Answer}
    → ContentsBy old.contents (turn e outcome a) new.contents → new.turned ≡ capped (old.turned + 1)
    → new.idled ≡ old.idled → Between (turn e outcome a ∷ []) old new
between-turn {old} {new} {e} {outcome} {a} by turned idled = between-one (turn e outcome a) old new by
    (counts-capped old.turned new.turned turned) (counts-same old.idled new.idled idled)

pub between-idle : {old new : Seen} {is_up : Bool} {events : List (Event × Outcome)}
    → ContentsBy old.contents (idle is_up events) new.contents → new.turned ≡ old.turned
    → new.idled ≡ idled_after is_up old.idled → Between (idle is_up events ∷ []) old new
between-idle {old} {new} {is_up} {events} by turned idled = between-one (idle is_up events) old new by
    (counts-same old.turned new.turned turned) (counts-idled is_up events old.idled new.idled idled)

-- some things were done, and then more
pub between-append : {xs ys : List Item} {a b c : Seen} → Between xs a b → Between ys b c → Between (xs ++ ys) a c
between-append {xs} {ys} {a} {b} {c} first then = record {
  leads = chain-append first.leads then.leads;
  turns = subst (λ n. Counts n a.turned c.turned) (sym (sum_by-append turn_at xs ys))
      (counts-append (turns_in xs) (turns_in ys) a.turned b.turned c.turned first.turns then.turns);
  idles = subst (λ n. Counts n a.idled c.idled) (sym (sum_by-append idle_at xs ys))
      (counts-append (idles_in xs) (idles_in ys) a.idled b.idled c.idled first.idles then.idles);
  failed = subst (λ n. Bears n a.contents c.contents) (sym (sum_by-append failures_at xs ys))
      (bears-append (failures_in xs) (failures_in ys) a.contents b.contents c.contents first.failed then.failed);
}
