-- What is begun in one step and what in all steps before it are together what all of them begin.
use Rattle.std.proofs.Common.{◌≡◌, ℕ, ◌+◌, ◌≤◌, ◌<◌, List, [], ◌∷◌, ◌++◌, length, Option, Some, None, refl, sym, ap, ◌∙◌, arith, append_assoc, length-append, ◌⊎◌, inl, inr}
use Rattle.std.specs.Option.{option_map}
use Rattle.std.proofs.lemmas.Iterator.Adapters.{option_map_id}
use Rattle.std.specs.Prelude.{Err}
use Rattle.size_values.specs.declared.memory.Or.{Or}
use Rattle.size_values.specs.declared.memory.Or.TheVariants as or
use Rattle.size_values.specs.Causes.{OnWhy, Rose}
use Rattle.serving.specs.declared.door.DoorsFailed.{DoorsFailed}
use Rattle.serving.specs.declared.spawner.StartFailed.{StartFailed}
use Rattle.serving.specs.Counts.{Counts, AreSmall, none_begun}
use Rattle.serving.specs.Serves.{HasRoom, StartsWorkers, BeginsLinks, BeginsOne, HandlesOne, BeginsAll, GivesFirst, TakesEndedOnes}
use Rattle.serving.specs.Troubles.{IsCaused, of_doors, of_spawner}

-- room for one more job is room as spawners ask for it
pub room_is_small : {c : Counts} → HasRoom c 1 → AreSmall c
room_is_small room = record {
  links = omega (arith, room.links);
  others = omega (arith, room.others);
  declined = omega (arith, room.declined);
  out = omega (arith, room.out);
}

-- ---- workers

pub workers_more : {a b c : Counts} {k m n : ℕ} → StartsWorkers a b k m → StartsWorkers b c m n → StartsWorkers a c k n
workers_more s t = record {
  links = t.links ∙ s.links;
  others = omega (arith, s.others, t.others, s.more, t.more);
  declined = t.declined ∙ s.declined;
  out = omega (arith, s.out, t.out, s.more, t.more);
  more = omega (arith, s.more, t.more);
  waited = t.waited ∙ s.waited;
  late = λ none. t.late (s.waited ∙ none) ∙ s.late none;
}

-- there is room for one more worker
pub room_for_worker : {a b : Counts} {k m i n : ℕ} → HasRoom a n → StartsWorkers a b k m → m ≡ k + i → i < n → HasRoom b 1
room_for_worker room s so_many left = record {
  links = omega (arith, room.links, s.links, left);
  others = omega (arith, room.others, s.others, so_many, left);
  declined = omega (arith, room.declined, s.declined, left);
  out = omega (arith, room.out, s.out, so_many, left);
}

-- ---- links

pub links_more : {n : ℕ} {a b c : Counts} {k m o x y z : ℕ} → BeginsLinks n a b k m x y → BeginsLinks n b c m o y z → BeginsLinks n a c k o x z
links_more {n} {a} {b} {c} {k} {m} {o} s t = record {
  away = s.away + t.away;
  links = omega (arith, s.links, t.links);
  more = (omega (arith, s.more.0, t.more.0), omega (arith, s.more.1, t.more.1));
  full = either s.full t.full;
  others = t.others ∙ s.others;
  out = omega (arith, s.out, t.out);
  held = omega (arith, s.held, t.held);
  waited = t.waited ∙ s.waited;
  late = λ none. t.late (s.waited ∙ none) ∙ s.late none;
} where
  either : (s.away ≡ 0) ⊎ (a.links + n ≤ b.links + k) → (t.away ≡ 0) ⊎ (b.links + n ≤ c.links + m)
      → (s.away + t.away ≡ 0) ⊎ (a.links + n ≤ c.links + k)
  either (inl p) (inl q) = inl (omega (arith, p, q))
  either (inr p) q = inr (omega (arith, p, t.more.0))
  either (inl p) (inr q) = inr (omega (arith, q, s.held))

-- there is room for one more link
pub room_for_link : {c : ℕ} {a b : Counts} {k m x y i n : ℕ} → HasRoom a n → BeginsLinks c a b k m x y → y ≡ x + i → i < n → HasRoom b 1
room_for_link room s so_many left = record {
  links = omega (arith, room.links, s.links, so_many, left, s.more.1);
  others = omega (arith, room.others, s.others, left);
  declined = omega (arith, room.declined, s.links, so_many, left, s.more.0);
  out = omega (arith, room.out, s.out, s.held, s.links, so_many, left, s.more.1);
}

-- no link was given
pub no_link : {n : ℕ} {a : Counts} {k x y : ℕ} → y ≡ x → BeginsLinks n a a k k x y
no_link same = record {
  away = 0;
  links = omega (arith, same);
  more = (omega arith, omega arith);
  full = inl refl;
  others = refl;
  out = refl;
  held = omega arith;
  waited = refl;
  late = λ none. refl;
}

-- jobs that have ended were taken in, and then one was begun, or declined
ended_then_one : {n : ℕ} {a b c : Counts} {k m o : ℕ} → TakesEndedOnes a b k m → BeginsOne b c m o
    → ((c.links ≡ b.links + 1) × ((c.declined ≡ b.declined) × (o ≡ m + 1))) ⊎ ((c.links ≡ b.links) × ((c.declined ≡ b.declined + 1) × (o ≡ m)))
    → BeginsLinks n a c k o 0 1
ended_then_one e s (inl w) = record {
  away = 0;
  links = omega (arith, e.links, e.declined, w.0, w.1.0);
  more = (omega (arith, e.links, w.0), omega (arith, e.declined, w.1.0));
  full = inl refl;
  others = s.others ∙ e.others;
  out = omega (arith, e.out, s.out);
  held = omega (arith, e.fewer, e.links, w.0, w.1.1);
  waited = s.waited ∙ e.waited;
  late = λ none. s.late (e.waited ∙ none) ∙ e.late;
}
ended_then_one e s (inr w) = record {
  away = 0;
  links = omega (arith, e.links, e.declined, w.0, w.1.0);
  more = (omega (arith, e.links, w.0), omega (arith, e.declined, w.1.0));
  full = inl refl;
  others = s.others ∙ e.others;
  out = omega (arith, e.out, s.out);
  held = omega (arith, e.fewer, e.links, w.0, w.1.1);
  waited = s.waited ∙ e.waited;
  late = λ none. s.late (e.waited ∙ none) ∙ e.late;
}

-- or a link was turned away
pub ended_then : {n : ℕ} {a b c : Counts} {k m o : ℕ} → TakesEndedOnes a b k m → HandlesOne n b c m o → BeginsLinks n a c k o 0 1
ended_then e (inl s) = ended_then_one e s s.which
ended_then {n} {a} {b} {c} {k} {m} {o} e (inr w) = record {
  away = 1;
  links = omega (arith, e.links, e.declined, links, declined);
  more = (omega (arith, e.links, links), omega (arith, e.declined, declined));
  full = inr (omega (arith, e.links, links, w.0, e.fewer));
  others = ap (λ x. x.others) w.1.0 ∙ e.others;
  out = omega (arith, e.out, ap (λ (x : Counts). x.out) w.1.0, w.1.1);
  held = omega (arith, e.fewer, e.links, links, w.1.1);
  waited = ap (λ x. x.waited) w.1.0 ∙ e.waited;
  late = λ none. ap (λ x. x.late) w.1.0 ∙ e.late;
} where
  links : c.links ≡ b.links
  links = ap (λ x. x.links) w.1.0

  declined : c.declined ≡ b.declined
  declined = ap (λ x. x.declined) w.1.0

-- ---- links that are told

pub first_none : {T : Type 0} (x y : ℕ) (old new : Option (List T)) → y ≡ x → new ≡ old → GivesFirst x y old new
first_none x y old new same kept = record {
  links = [];
  count = omega (arith, same);
  first = sym kept ∙ sym (option_map_id new);
}

pub first_one : {T : Type 0} (x y : ℕ) (old new : Option (List T)) (link : T) → y ≡ x + 1 → old ≡ option_map (λ links. link ∷ links) new
    → GivesFirst x y old new
first_one x y old new link one is = record { links = link ∷ []; count = one; first = is }

in_front : {T : Type 0} (xs ys : List T) (o : Option (List T))
    → option_map (λ rest. xs ++ rest) (option_map (λ rest. ys ++ rest) o) ≡ option_map (λ rest. (xs ++ ys) ++ rest) o
in_front xs ys None = refl
in_front xs ys (Some zs) = ap (λ l. Some l) (sym (append_assoc xs ys zs))

pub first_more : {T : Type 0} {x y z : ℕ} {a b c : Option (List T)} → GivesFirst x y a b → GivesFirst y z b c → GivesFirst x z a c
first_more {T} {x} {y} {z} {a} {b} {c} s t = record {
  links = s.links ++ t.links;
  count = omega (arith, s.count, t.count, length-append s.links t.links);
  first = s.first ∙ ap (option_map (λ rest. s.links ++ rest)) t.first ∙ in_front s.links t.links c;
}

-- ---- all of a server that had begun nothing

pub begins_workers : {n : ℕ} {a b : Counts} {k m : ℕ} → a ≡ none_begun → k ≡ 0 → StartsWorkers a b k m → BeginsAll n b 0 m 0
begins_workers idle none s = record {
  handled = record {
    away = 0;
    links = omega (arith, s.links, s.declined, ap (λ c. c.links) idle, ap (λ c. c.declined) idle);
    full = inl refl;
  };
  others = omega (arith, s.others, ap (λ c. c.others) idle, none);
  out = omega (arith, s.out, ap (λ c. c.out) idle, none);
  waited = s.waited ∙ ap (λ c. c.waited) idle;
  late = s.late (ap (λ c. c.waited) idle) ∙ ap (λ c. c.late) idle;
}

-- no link job was begun before the workers were
no_links : {a b : Counts} {k m : ℕ} → a ≡ none_begun → StartsWorkers a b k m → b.links + b.declined ≡ 0
no_links idle s = omega (arith, s.links, s.declined, ap (λ c. c.links) idle, ap (λ c. c.declined) idle)

pub begins_all : {l : ℕ} {a b c : Counts} {k m n o x y : ℕ} → a ≡ none_begun → k ≡ 0 → n ≡ 0 → x ≡ 0 → StartsWorkers a b k m → BeginsLinks l b c n o x y → BeginsAll l c o m y
begins_all {l} {a} {b} {c} {k} {m} {n} {o} {x} {y} idle none no_tasks no_given s t =
    let w = begins_workers {n = l} idle none s in
    record {
      handled = record {
        away = t.away;
        links = omega (arith, t.links, no_links idle s, no_given);
        full = full t.full;
      };
      others = t.others ∙ w.others;
      out = omega (arith, t.out, w.out, no_tasks);
      waited = t.waited ∙ w.waited;
      late = t.late w.waited ∙ w.late;
    } where
      full : (t.away ≡ 0) ⊎ (b.links + l ≤ c.links + n) → (t.away ≡ 0) ⊎ (l ≤ c.links)
      full (inl p) = inl p
      full (inr p) = inr (omega (arith, p, no_tasks))

-- ---- causes

pub start_caused : (d d' s s' : ℕ) (e : Or StartFailed) → OnWhy {T = Unit {0}} (Err e) (Rose s s') → IsCaused (of_spawner e) d d' s s'
start_caused d d' s s' or.NoMemory h = tt
start_caused d d' s s' (or.Why failed) h = h

pub accept_caused : (d d' s s' : ℕ) (e : Or DoorsFailed) → OnWhy {T = Unit {0}} (Err e) (Rose d d') → IsCaused (of_doors e) d d' s s'
accept_caused d d' s s' or.NoMemory h = tt
accept_caused d d' s s' (or.Why failed) h = h
