-- Sizes after notices were told.
use Rattle.std.proofs.Common.{◌≡◌, ◌≢◌, ℕ, ◌+◌, ◌-◌, ◌<◌, ◌^◌, ◌==◌, zero, suc, Bool, true, false, cond, List, [], ◌∷◌, ◌++◌, length, drop, refl, arith}
use Rattle.std.proofs.lemmas.Bool.{eqb-false}
use Rattle.std.proofs.lemmas.List.{length_push}
use Rattle.plain_lists.specs.Rings.{ring_push}
use Rattle.plain_lists.proofs.RingLemmas.{ring-few}
use Rattle.records.specs.declared.notices.Notice.{Notice}
use Rattle.records.specs.declared.notices.Untold.{Untold}
use Rattle.row_machine.specs.machine.State.{State}
use Rattle.row_machine.specs.shown.Notices.{kept_notices, push_notice, telling}
use Rattle.row_machine.specs.facts.Whole.{AreFew, AreCounted}

-- ---- numbers of notices

counted-push : (next : ℕ) (n : Notice) (ns : List Notice) → n.number ≡ next → AreCounted next ns → AreCounted (next + 1) (ns ++ n ∷ [])
counted-push next n [] is h = (omega arith, tt)
counted-push next n (x ∷ ns) is h = (omega (arith, h.0, length_push ns n), counted-push next n ns is h.1)

counted-drop : (k next : ℕ) (ns : List Notice) → AreCounted next ns → AreCounted next (drop k ns)
counted-drop zero next ns h = h
counted-drop (suc k) next [] h = h
counted-drop (suc k) next (n ∷ ns) h = counted-drop k next ns h.1

counted-ring : (cap next : ℕ) (n : Notice) (ns : List Notice) → n.number ≡ next → AreCounted next ns → AreCounted (next + 1) (ring_push cap n ns)
counted-ring cap next n ns is h = counted-drop (length (ns ++ n ∷ []) - cap) (next + 1) (ns ++ n ∷ []) (counted-push next n ns is h)

-- ---- one notice, and several

few-notice : (n : Untold) (s : State) → AreFew s → AreFew (push_notice n s)
few-notice n s h = at (s.next_notice == 2 ^ 64 - 1) refl where
  new : Notice
  new = record { number = s.next_notice; moment = n.moment; project = n.project; body = n.body }

  at : (b : Bool) → (s.next_notice == 2 ^ 64 - 1) ≡ b
      → AreFew (cond b s (record s { notices = ring_push kept_notices new s.notices; next_notice = s.next_notice + 1 }))
  at true last = h
  at false last = record {
    tables = h.tables;
    rows = h.rows;
    notices = counted-ring kept_notices s.next_notice new s.notices refl h.notices;
    few_notices = ring-few kept_notices new s.notices;
    from_one = omega arith;
    last_number = below (eqb-false s.next_notice (2 ^ 64 - 1) last) h.last_number;
  } where
    below : s.next_notice ≢ 2 ^ 64 - 1 → s.next_notice < 2 ^ 64 → s.next_notice + 1 < 2 ^ 64
    below other lt = omega arith

pub few-telling : (notices : List Untold) (s : State) → AreFew s → AreFew (telling notices s)
few-telling [] s h = h
few-telling (n ∷ ns) s h = few-telling ns (push_notice n s) (few-notice n s h)
