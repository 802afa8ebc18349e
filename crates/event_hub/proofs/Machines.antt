-- What the hub makes of its notices is what the machine makes of those of its state.
use Rattle.std.proofs.Common.{◌≡◌, ◌≢◌, ℕ, ◌+◌, ◌-◌, ◌<◌, ◌≤◌, ◌^◌, ◌==◌, nat_lt, Bool, true, false, cond, [], filter, refl, ◌∙◌, arith}
use Rattle.std.proofs.lemmas.Bool.{eqb-true, eqb-false, ltb-true, ltb-false}
use Rattle.plain_lists.specs.Rings.{ring_push}
use Rattle.records.specs.declared.notices.Filter.{Filter}
use Rattle.records.specs.declared.notices.Untold.{Untold}
use Rattle.row_machine.specs.machine.State.{State}
use Rattle.row_machine.specs.shown.Notices.{kept_notices, push_notice, since}
use Rattle.row_machine.specs.declared.events.Fetched.{Fetched}
use Rattle.row_machine.specs.declared.events.Fetched.TheVariants.{Notices, Lagged}
use Rattle.event_hub.specs.Recent.{Recent, as_state, is_wanted, numbered, oldest_in, pushed, recent_of, with_recent}

-- a push
pub push-recent : (n : Untold) (s : State) → push_notice n s ≡ with_recent (pushed n (recent_of s)) s
push-recent n s = by (s.next_notice == 2 ^ 64 - 1) where
  by : (last : Bool) → cond last s
      (record s { notices = ring_push kept_notices (numbered s.next_notice n) s.notices; next_notice = s.next_notice + 1 })
      ≡ with_recent (cond last (recent_of s) (record { notices = ring_push kept_notices (numbered s.next_notice n) s.notices; next = s.next_notice + 1 })) s
  by true = refl
  by false = refl

-- the answer to a listener, which reads nothing else
pub since-recent : (s : State) (cursor : ℕ) (filter : Filter) → since s cursor filter ≡ since (as_state (recent_of s)) cursor filter
unfolding since
since-recent s cursor filter = refl

-- ---- what a listener is answered

module _ (r : Recent) (cursor : ℕ) (f : Filter) where
  -- the three answers
  answer : Bool → Bool → Fetched
  answer zero late =
      cond zero (Notices [] r.next)
      (cond late (Lagged cursor (oldest_in r)) (Notices (filter (is_wanted cursor f) r.notices) r.next))

  since-is : since (as_state r) cursor f ≡ answer (cursor == 0) (nat_lt cursor (oldest_in r))
  unfolding since answer
  since-is = refl

  pub asks-nothing : cursor ≡ 0 → since (as_state r) cursor f ≡ Notices [] r.next
  unfolding answer
  asks-nothing none = since-is ∙ by (cursor == 0) refl where
    by : (zero : Bool) → (cursor == 0) ≡ zero → answer zero (nat_lt cursor (oldest_in r)) ≡ Notices [] r.next
    by true z = refl
    by false z = absurd (eqb-false cursor 0 z none)

  pub lags : cursor ≢ 0 → cursor < oldest_in r → since (as_state r) cursor f ≡ Lagged cursor (oldest_in r)
  unfolding answer
  lags some less = since-is ∙ by (cursor == 0) (nat_lt cursor (oldest_in r)) refl refl where
    by : (zero late : Bool) → (cursor == 0) ≡ zero → nat_lt cursor (oldest_in r) ≡ late → answer zero late ≡ Lagged cursor (oldest_in r)
    by true late z l = absurd (some (eqb-true cursor 0 z))
    by false true z l = refl
    by false false z l = absurd (let not_less = ltb-false cursor (oldest_in r) l in omega arith)

  pub listens : cursor ≢ 0 → oldest_in r ≤ cursor → since (as_state r) cursor f ≡ Notices (filter (is_wanted cursor f) r.notices) r.next
  unfolding answer
  listens some more = since-is ∙ by (cursor == 0) (nat_lt cursor (oldest_in r)) refl refl where
    by : (zero late : Bool) → (cursor == 0) ≡ zero → nat_lt cursor (oldest_in r) ≡ late
        → answer zero late ≡ Notices (filter (is_wanted cursor f) r.notices) r.next
    by true late z l = absurd (some (eqb-true cursor 0 z))
    by false true z l = absurd (let less = ltb-true cursor (oldest_in r) l in omega arith)
    by false false z l = refl
