-- What is told one by one: from nothing told, the notices and the next number tell what was told.
use Rattle.std.proofs.Common.{◌≡◌, ℕ, ◌+◌, ◌-◌, ◌<◌, ◌≤◌, ◌^◌, ◌==◌, Bool, true, false, cond, List, [], ◌∷◌, ◌++◌, map, length, refl, ap, sym, ◌∙◌, arith}
use Rattle.std.proofs.lemmas.Bool.{eqb-true}
use Rattle.std.proofs.lemmas.List.{append-nil, append_assoc, length_push}
use Rattle.plain_lists.specs.Rings.{ring_push}
use Rattle.plain_lists.proofs.RingLemmas.{ring-room}
use Rattle.records.specs.declared.notices.Notice.{Notice}
use Rattle.records.specs.declared.notices.Untold.{Untold}
use Rattle.row_machine.specs.machine.State.{State}
use Rattle.row_machine.specs.shown.Notices.{kept_notices, push_notice, telling}
use Rattle.event_hub.specs.Recent.{Recent, all_pushed, numbered, no_notices, pushed, with_recent}

-- ---- the machine's

push-with : (n : Untold) (r : Recent) (s : State) → push_notice n (with_recent r s) ≡ with_recent (pushed n r) s
push-with n r s = by (r.next == 2 ^ 64 - 1) where
  by : (last : Bool) → cond last (with_recent r s)
      (record (with_recent r s) { notices = ring_push kept_notices (numbered r.next n) r.notices; next_notice = r.next + 1 })
      ≡ with_recent (cond last r (record { notices = ring_push kept_notices (numbered r.next n) r.notices; next = r.next + 1 })) s
  by true = refl
  by false = refl

pub telling-with : (ns : List Untold) (r : Recent) (s : State) → telling ns (with_recent r s) ≡ with_recent (all_pushed ns r) s
telling-with [] r s = refl
telling-with (n ∷ ns) r s = ap (telling ns) (push-with n r s) ∙ telling-with ns (pushed n r) s

-- ---- the next number

-- a notice raises it by one, unless it is the last
next-pushed : (n : Untold) (r : Recent) → r.next < 2 ^ 64 - 1 → (pushed n r).next ≡ r.next + 1
next-pushed n r less = by (r.next == 2 ^ 64 - 1) refl where
  by : (b : Bool) → (r.next == 2 ^ 64 - 1) ≡ b → (cond b r (record { notices = ring_push kept_notices (numbered r.next n) r.notices; next = r.next + 1 })).next ≡ r.next + 1
  by true is = absurd (let at : r.next ≡ 2 ^ 64 - 1 = eqb-true r.next (2 ^ 64 - 1) is in omega arith)
  by false is = refl

next-rises : (n : Untold) (r : Recent) → r.next ≤ (pushed n r).next
next-rises n r = by (r.next == 2 ^ 64 - 1) where
  by : (b : Bool) → r.next ≤ (cond b r (record { notices = ring_push kept_notices (numbered r.next n) r.notices; next = r.next + 1 })).next
  by true = omega arith
  by false = omega arith

all-rise : (ns : List Untold) (r : Recent) → r.next ≤ (all_pushed ns r).next
all-rise [] r = omega arith
all-rise (n ∷ ns) r = omega (arith, next-rises n r, all-rise ns (pushed n r))

-- so it tells how many were told
count : (ns : List Untold) (r : Recent) (k : ℕ) → (all_pushed ns r).next ≡ r.next + k → r.next + k < 2 ^ 64 - 1 → length ns ≡ k
count [] r k is less = omega (arith, is)
count (n ∷ ns) r k is less =
    let next = next-pushed n r (omega arith) in
    let rest = count ns (pushed n r) (k - 1) (omega (arith, is, next, all-rise ns (pushed n r))) (omega (arith, is, next, all-rise ns (pushed n r))) in
    omega (arith, rest, is, next, all-rise ns (pushed n r))

next-all : (ns : List Untold) (r : Recent) → r.next + length ns < 2 ^ 64 - 1 → (all_pushed ns r).next ≡ r.next + length ns
next-all [] r less = omega arith
next-all (n ∷ ns) r less =
    let next = next-pushed n r (omega arith) in
    omega (arith, next, next-all ns (pushed n r) (omega (arith, next)))

-- ---- the notices

-- under numbers from this one on
listed : ℕ → List Untold → List Notice
listed k [] = []
listed k (n ∷ ns) = numbered k n ∷ listed (k + 1) ns

-- without its number
untold_of : Notice → Untold
untold_of n = record { moment = n.moment; project = n.project; body = n.body }

told-again : (k : ℕ) (ns : List Untold) → map untold_of (listed k ns) ≡ ns
unfolding listed untold_of
told-again k [] = refl
told-again k (n ∷ ns) = ap (λ us. n ∷ us) (told-again (k + 1) ns)

-- where there is room for one more
pushed-is : (n : Untold) (r : Recent) → r.next < 2 ^ 64 - 1 → length r.notices < 1024
    → pushed n r ≡ record { notices = r.notices ++ numbered r.next n ∷ []; next = r.next + 1 }
pushed-is n r less few = by (r.next == 2 ^ 64 - 1) refl where
  by : (b : Bool) → (r.next == 2 ^ 64 - 1) ≡ b
      → cond b r (record { notices = ring_push kept_notices (numbered r.next n) r.notices; next = r.next + 1 })
      ≡ record { notices = r.notices ++ numbered r.next n ∷ []; next = r.next + 1 }
  by true is = absurd (let at : r.next ≡ 2 ^ 64 - 1 = eqb-true r.next (2 ^ 64 - 1) is in omega arith)
  by false is = ap (λ (ns : List Notice). record { notices = ns; next = r.next + 1 }) (ring-room kept_notices (numbered r.next n) r.notices few)

notices-all : (ns : List Untold) (r : Recent) → r.next + length ns < 2 ^ 64 - 1 → length r.notices + length ns ≤ 1024
    → (all_pushed ns r).notices ≡ r.notices ++ listed r.next ns
unfolding listed
notices-all [] r less few = sym (append-nil r.notices)
notices-all (n ∷ ns) r less few =
    let one = pushed-is n r (omega arith) (omega arith) in
    ap (λ (x : Recent). (all_pushed ns x).notices) one
    ∙ notices-all ns (record { notices = r.notices ++ numbered r.next n ∷ []; next = r.next + 1 }) (omega arith) (omega (arith, length_push r.notices (numbered r.next n)))
    ∙ append_assoc r.notices (numbered r.next n ∷ []) (listed (r.next + 1) ns)

-- what was told from nothing on tells itself, if it is little
pub told-once : (us vs : List Untold) → length vs ≤ 8 → all_pushed us no_notices ≡ all_pushed vs no_notices → us ≡ vs
told-once us vs few same =
    let next_vs = next-all vs no_notices (omega (arith, few)) in
    let many : length us ≡ length vs = count us no_notices (length vs) (ap (λ (x : Recent). x.next) same ∙ next_vs) (omega (arith, few)) in
    let left = notices-all us no_notices (omega (arith, few, many)) (omega (arith, few, many)) in
    let right = notices-all vs no_notices (omega (arith, few)) (omega (arith, few)) in
    let both : listed 1 us ≡ listed 1 vs = sym left ∙ ap (λ (x : Recent). x.notices) same ∙ right in
    sym (told-again 1 us) ∙ ap (map untold_of) both ∙ told-again 1 vs
