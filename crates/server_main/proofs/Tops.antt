-- The clauses of the top call, from what a server comes to.
use Rattle.std.proofs.Common.{◌≡◌, ◌<◌, ◌⊎◌, ℕ, List, true, false, Option, Some, None, IfSome}
use Rattle.std.proofs.Common.{Result, Ok, Err, refl, ap, sym, ◌∙◌, subst, arith, inl, inr}
use Rattle.std.proofs.lemmas.Bool.{false≢true}
use Rattle.std.specs.Option.{is_some}
use Rattle.size_values.specs.Causes.{Rose}
use Rattle.size_values.specs.declared.entry.Entry.{Entry}
use Rattle.record_keeper.specs.Store.{Store}
use Rattle.row_machine.specs.machine.State.{State}
use Rattle.row_machine.specs.opening.Opening.{Opening, opened, opening_of}
use Rattle.start_faults.specs.core_rows.specs.Opening.{OpensToNone, Refuses, is_refused}
use Rattle.start_faults.specs.core_rows.specs.declared.opening.OpenFault.TheVariants as fault
use Rattle.serving.specs.Troubles.{status_of}
use Rattle.serving.specs.declared.trouble.Trouble.{Trouble}
use Rattle.serving.specs.declared.trouble.Trouble.TheVariants as trouble
use Rattle.command_words.specs.ServeWords.{serve_words_of}
use Rattle.start_faults.specs.Starts.{IsUnopened, start_status}
use Rattle.start_faults.specs.declared.fault.StartFault.{StartFault}
use Rattle.start_faults.specs.declared.fault.StartFault.TheVariants as start
use Rattle.server_main.specs.Servers.{EndsBy, GivesBack, HasCauseToRefuse, Outside, Serves, ServesAll}

-- ---- statuses that are not these

-- the keeper failed at the opening
refuses_rose : (store store' : Store) → Refuses fault.KeeperFailed store store' → Rose store.failures store'.failures
refuses_rose store store' (inl fails) = fails.rose
refuses_rose store store' (inr fails) = fails.1.rose

-- the status of a server that was begun is none of those that tell why there was none, but for want of memory
not_of_server : {P : Type 0} (ends : Result (Unit {0}) Trouble) (n : ℕ) → status_of ends ≡ n → 0 < n → n < 9 → P
not_of_server (Ok u) n is more less = let none : ⊥ = omega (arith, is, more, less) in absurd none
not_of_server (Err trouble.NoMemory) n is more less = let none : ⊥ = omega (arith, is, more, less) in absurd none
not_of_server (Err trouble.Accept) n is more less = let none : ⊥ = omega (arith, is, more, less) in absurd none
not_of_server (Err trouble.Start) n is more less = let none : ⊥ = omega (arith, is, more, less) in absurd none

-- and the status of one that was not begun is from 6 to 9
no_start : {P : Type 0} (why : StartFault) (n : ℕ) → start_status why ≡ n → (n < 6) ⊎ (9 < n) → P
no_start start.Words n is (inl less) = let none : ⊥ = omega (arith, is, less) in absurd none
no_start start.Words n is (inr more) = let none : ⊥ = omega (arith, is, more) in absurd none
no_start start.KeeperFailed n is (inl less) = let none : ⊥ = omega (arith, is, less) in absurd none
no_start start.KeeperFailed n is (inr more) = let none : ⊥ = omega (arith, is, more) in absurd none
no_start start.Unopened n is (inl less) = let none : ⊥ = omega (arith, is, less) in absurd none
no_start start.Unopened n is (inr more) = let none : ⊥ = omega (arith, is, more) in absurd none
no_start start.NoMemory n is (inl less) = let none : ⊥ = omega (arith, is, less) in absurd none
no_start start.NoMemory n is (inr more) = let none : ⊥ = omega (arith, is, more) in absurd none

-- ---- what a status says

-- what is true of what is left is true of what was given back
given_back : (back : Option Store) (left : Store) (P : Store → Type 0) → back ≡ Some left → P left → GivesBack back P
given_back back left P is h = subst (λ b. GivesBack b P) (sym is) h

-- what is true of contents where they are shown
if_contents : (told : Option (List Entry)) (P : List Entry → Type 0) → ((entries : List Entry) → told ≡ Some entries → P entries)
    → IfSome told P
if_contents None P h = tt
if_contents (Some entries) P h = h entries refl

module _ (words : List (List ℕ)) (keeper : Store) (back : Option Store) (before after : Outside) (status : ℕ) where
  -- status 0: all were served
  pub top_served : Serves words keeper back before after status → status ≡ 0 → ServesAll words after
  top_served (inr none) zero = no_start none.why 0 (sym none.status_is ∙ zero) (inl (omega arith))
  top_served (inl begun) zero = by begun.ends begun.ends_by (sym begun.status_is ∙ zero) where
    by : (ends : Result (Unit {0}) Trouble) → EndsBy begun.said ends before after → status_of ends ≡ 0
        → ServesAll words after
    by (Ok u) served is = record { said = begun.said; read = begun.read; served = served }
    by (Err trouble.NoMemory) caused is = let none : ⊥ = omega (arith, is) in absurd none
    by (Err trouble.Accept) caused is = let none : ⊥ = omega (arith, is) in absurd none
    by (Err trouble.Start) caused is = let none : ⊥ = omega (arith, is) in absurd none

  -- status 11: an accept failed
  pub top_accept_fault : Serves words keeper back before after status → status ≡ 11
      → Rose before.doors.failed after.doors.failed
  top_accept_fault (inr none) is = no_start none.why 11 (sym none.status_is ∙ is) (inr (omega arith))
  top_accept_fault (inl begun) eleven = by begun.ends begun.ends_by (sym begun.status_is ∙ eleven) where
    by : (ends : Result (Unit {0}) Trouble) → EndsBy begun.said ends before after → status_of ends ≡ 11
        → Rose before.doors.failed after.doors.failed
    by (Err trouble.Accept) caused is = caused
    by (Ok u) served is = let none : ⊥ = omega (arith, is) in absurd none
    by (Err trouble.NoMemory) caused is = let none : ⊥ = omega (arith, is) in absurd none
    by (Err trouble.Start) caused is = let none : ⊥ = omega (arith, is) in absurd none

  -- status 12: the start of a worker was refused
  pub top_start_fault : Serves words keeper back before after status → status ≡ 12 → Rose before.refused after.refused
  top_start_fault (inr none) is = no_start none.why 12 (sym none.status_is ∙ is) (inr (omega arith))
  top_start_fault (inl begun) twelve = by begun.ends begun.ends_by (sym begun.status_is ∙ twelve) where
    by : (ends : Result (Unit {0}) Trouble) → EndsBy begun.said ends before after → status_of ends ≡ 12
        → Rose before.refused after.refused
    by (Err trouble.Start) caused is = caused
    by (Ok u) served is = let none : ⊥ = omega (arith, is) in absurd none
    by (Err trouble.NoMemory) caused is = let none : ⊥ = omega (arith, is) in absurd none
    by (Err trouble.Accept) caused is = let none : ⊥ = omega (arith, is) in absurd none

  -- status 6: the keeper failed
  pub top_keeper_fault : Serves words keeper back before after status → status ≡ 6
      → GivesBack back (λ left. Rose keeper.failures left.failures)
  top_keeper_fault (inl begun) is =
      not_of_server begun.ends 6 (sym begun.status_is ∙ is) (omega arith) (omega arith)
  top_keeper_fault (inr none) six =
      given_back back none.left (λ left. Rose keeper.failures left.failures) none.given_back (by none.why none.cause (sym none.status_is ∙ six)) where
        by : (why : StartFault) → HasCauseToRefuse why words keeper none.left → start_status why ≡ 6
            → Rose keeper.failures none.left.failures
        by start.KeeperFailed cause is = refuses_rose keeper none.left cause.1
        by start.Words cause is = let none : ⊥ = omega (arith, is) in absurd none
        by start.Unopened cause is = let none : ⊥ = omega (arith, is) in absurd none
        by start.NoMemory cause is = let none : ⊥ = omega (arith, is) in absurd none

  -- status 7: an entry is damaged, or the rows break a rule
  pub top_unopened : Serves words keeper back before after status → status ≡ 7 → GivesBack back (IsUnopened keeper)
  top_unopened (inl begun) is =
      not_of_server begun.ends 7 (sym begun.status_is ∙ is) (omega arith) (omega arith)
  top_unopened (inr none) seven =
      given_back back none.left (IsUnopened keeper) none.given_back (by none.why none.cause (sym none.status_is ∙ seven)) where
        by : (why : StartFault) → HasCauseToRefuse why words keeper none.left → start_status why ≡ 7
            → IsUnopened keeper none.left
        by start.Unopened cause is = cause.1
        by start.Words cause is = let none : ⊥ = omega (arith, is) in absurd none
        by start.KeeperFailed cause is = let none : ⊥ = omega (arith, is) in absurd none
        by start.NoMemory cause is = let none : ⊥ = omega (arith, is) in absurd none

  -- status 8: the words are not read
  pub top_words : Serves words keeper back before after status → status ≡ 8 → serve_words_of words ≡ None
  top_words (inl begun) is = not_of_server begun.ends 8 (sym begun.status_is ∙ is) (omega arith) (omega arith)
  top_words (inr none) eight = by none.why none.cause (sym none.status_is ∙ eight) where
    by : (why : StartFault) → HasCauseToRefuse why words keeper none.left → start_status why ≡ 8
        → serve_words_of words ≡ None
    by start.Words cause is = cause.0
    by start.KeeperFailed cause is = let none : ⊥ = omega (arith, is) in absurd none
    by start.Unopened cause is = let none : ⊥ = omega (arith, is) in absurd none
    by start.NoMemory cause is = let none : ⊥ = omega (arith, is) in absurd none

  -- ---- what a status follows from

  -- words that are not read
  pub top_not_read : Serves words keeper back before after status → serve_words_of words ≡ None
      → (status ≡ 8) ⊎ (status ≡ 9)
  top_not_read (inl begun) none = absurd (false≢true (sym (ap is_some none) ∙ ap is_some begun.read))
  top_not_read (inr not) none = by not.why not.cause not.status_is where
    unread : is_some (serve_words_of words) ≡ false
    unread = ap is_some none

    by : (why : StartFault) → HasCauseToRefuse why words keeper not.left → status ≡ start_status why
        → (status ≡ 8) ⊎ (status ≡ 9)
    by start.Words cause is = inl is
    by start.NoMemory cause is = inr is
    by start.KeeperFailed cause is = absurd (false≢true (sym unread ∙ cause.0))
    by start.Unopened cause is = absurd (false≢true (sym unread ∙ cause.0))

  -- entries that open to no rows
  refused_entries : Serves words keeper back before after status → (entries : List Entry)
      → keeper.contents ≡ Some entries → is_refused (opening_of entries) ≡ true → is_some (serve_words_of words) ≡ true
      → (status ≡ 6) ⊎ ((status ≡ 7) ⊎ (status ≡ 9))
  refused_entries (inl begun) entries told refused read =
      absurd (false≢true (sym (ap is_refused (opens_so entries begun.opens.entries told begun.opens.contents
      ∙ begun.opens.opens)) ∙ refused)) where
        opens_so : (es found : List Entry) → keeper.contents ≡ Some es
            → IfSome keeper.contents (λ es. es ≡ found) → opening_of es ≡ opening_of found
        opens_so es found told are = ap opening_of (subst (λ o. IfSome o (λ es. es ≡ found)) told are)
  refused_entries (inr not) entries told refused read = by not.why not.cause not.status_is where
    by : (why : StartFault) → HasCauseToRefuse why words keeper not.left → status ≡ start_status why
        → (status ≡ 6) ⊎ ((status ≡ 7) ⊎ (status ≡ 9))
    by start.KeeperFailed cause is = inl is
    by start.Unopened cause is = inr (inl is)
    by start.NoMemory cause is = inr (inr is)
    by start.Words cause is = absurd (false≢true (sym (ap is_some cause.0) ∙ read))

  pub top_refused : Serves words keeper back before after status
      → IfSome keeper.contents (λ entries. is_refused (opening_of entries) ≡ true → is_some (serve_words_of words) ≡ true
      → (status ≡ 6) ⊎ ((status ≡ 7) ⊎ (status ≡ 9)))
  top_refused serves = if_contents keeper.contents
      (λ entries. is_refused (opening_of entries) ≡ true → is_some (serve_words_of words) ≡ true
      → (status ≡ 6) ⊎ ((status ≡ 7) ⊎ (status ≡ 9)))
      (λ entries told. refused_entries serves entries told)

  -- entries that open to rows
  complete_entries : Serves words keeper back before after status → (entries : List Entry)
      → keeper.contents ≡ Some entries → (s : State) → opening_of entries ≡ opened s
      → is_some (serve_words_of words) ≡ true
      → (status ≡ 0) ⊎ ((status ≡ 6) ⊎ ((status ≡ 9) ⊎ ((status ≡ 11) ⊎ (status ≡ 12))))
  complete_entries (inl begun) entries told s opens read = by begun.ends begun.status_is where
    by : (ends : Result (Unit {0}) Trouble) → status ≡ status_of ends
        → (status ≡ 0) ⊎ ((status ≡ 6) ⊎ ((status ≡ 9) ⊎ ((status ≡ 11) ⊎ (status ≡ 12))))
    by (Ok u) is = inl is
    by (Err trouble.NoMemory) is = inr (inr (inl is))
    by (Err trouble.Accept) is = inr (inr (inr (inl is)))
    by (Err trouble.Start) is = inr (inr (inr (inr is)))
  complete_entries (inr not) entries told s opens read = by not.why not.cause not.status_is where
    never : (opening : Opening) → is_refused opening ≡ true → OpensToNone opening keeper not.left → ⊥
    never opening refused none = false≢true (ap is_refused (sym opens
        ∙ (ap opening_of (subst (λ o. IfSome o (λ es. es ≡ none.entries)) told none.contents) ∙ none.opens)) ∙ refused)

    by : (why : StartFault) → HasCauseToRefuse why words keeper not.left → status ≡ start_status why
        → (status ≡ 0) ⊎ ((status ≡ 6) ⊎ ((status ≡ 9) ⊎ ((status ≡ 11) ⊎ (status ≡ 12))))
    by start.KeeperFailed cause is = inr (inl is)
    by start.NoMemory cause is = inr (inr (inl is))
    by start.Unopened cause is = absurd (never cause.1.0 cause.1.1 cause.1.2)
    by start.Words cause is = absurd (false≢true (sym (ap is_some cause.0) ∙ read))

  pub top_complete : Serves words keeper back before after status
      → IfSome keeper.contents (λ entries. (s : State) → opening_of entries ≡ opened s
      → is_some (serve_words_of words) ≡ true
      → (status ≡ 0) ⊎ ((status ≡ 6) ⊎ ((status ≡ 9) ⊎ ((status ≡ 11) ⊎ (status ≡ 12)))))
  top_complete serves = if_contents keeper.contents
      (λ entries. (s : State) → opening_of entries ≡ opened s → is_some (serve_words_of words) ≡ true
      → (status ≡ 0) ⊎ ((status ≡ 6) ⊎ ((status ≡ 9) ⊎ ((status ≡ 11) ⊎ (status ≡ 12)))))
      (λ entries told. complete_entries serves entries told)
