-- An opening, from how its load and what follows it ended.
use Rattle.std.proofs.Common.{◌≡◌, ◌≢◌, ℕ, List, [], ◌∷◌, Option, Some, None, IfSome, option_map, Result, Ok, Err, refl, ap, sym, subst, ◌∙◌, inl, inr, arith}
use Rattle.size_values.specs.CallCounts.{called}
use Rattle.size_values.specs.declared.entry.Entry.{Entry}
use Rattle.record_keeper.specs.Entries.{after_changes, put_entry}
use Rattle.record_keeper.specs.Store.{Store, FailsAtCall, IsAfterUpTo, after_calls, after_commit}
use Rattle.row_machine.specs.opening.Opening.{first_rows, with_rows, opened, opening_of}
use Rattle.row_machine.specs.opening.Records.{records_of}
use Rattle.row_machine.specs.machine.Plans.{put_all}
use Rattle.row_machine.specs.machine.State.{State}
use Rattle.machine_laws.specs.Entries.{entry_changes}
use Rattle.machine_laws.proofs.OpeningKept.{opening-entries}
use Rattle.core_rows.specs.EstateView.{EstateView}
use Rattle.core_rows.specs.Opening.{Opens, Refuses, Loads, GoesOn, AreContents, first_state, opened_store}
use Rattle.core_rows.specs.declared.opening.OpenFault.{OpenFault}
use Rattle.core_rows.specs.declared.opening.OpenFault.TheVariants as fault

-- ---- calls

-- two calls, one after the other
two_calls : (n : ℕ) → called 1 (called 1 n) ≡ called 2 n
two_calls n = omega arith

-- the second call failed
second_fails : (a c : Store) → FailsAtCall 1 (after_calls 1 a) c → FailsAtCall 2 a c
second_fails a c h = record { contents = h.contents; calls = h.calls ∙ two_calls a.calls; later = h.later; rose = h.rose }

after_two : (a : Store) → after_calls 1 (after_calls 1 a) ≡ after_calls 2 a
after_two a = λ i. record a { calls = two_calls a.calls i }

-- at most one call after the first one
two_at_most : (a c : Store) → IsAfterUpTo 1 (after_calls 1 a) c → IsAfterUpTo 2 a c
two_at_most a c (inl h) = inl (h ∙ after_two a)
two_at_most a c (inr h) = inr (inl h)

-- ---- the first rows

-- the first rows, committed where nothing is kept
first-records : after_changes (entry_changes (put_all first_rows)) [] ≡ records_of (with_rows first_rows)
unfolding put_entry records_of
first-records = refl

-- what is kept after the first commit to nothing
first_kept : (told : Option (List Entry)) → IfSome told (λ entries. entries ≡ [])
    → option_map (after_changes (entry_changes (put_all first_rows))) told ≡ option_map (λ _. records_of first_state) told
first_kept None none = refl
first_kept (Some entries) none = ap (λ es. Some (after_changes (entry_changes (put_all first_rows)) es)) none ∙ ap Some first-records

-- a load that found nothing, and then the first commit
committed_first : (a : Store) → AreContents [] a → after_commit (entry_changes (put_all first_rows)) (after_calls 1 a) ≡ opened_store [] first_state a
committed_first a none = λ i. record { contents = first_kept a.contents none i; calls = two_calls a.calls i; failures = a.failures }

-- no entries open to the first rows
first-opening : opening_of [] ≡ opened first_state
unfolding opening_of
first-opening = refl

-- ---- entries that were there

-- the records of the state are what is kept
kept_contents : (told : Option (List Entry)) (entries : List Entry) (s : State) → IfSome told (λ kept. kept ≡ entries) → records_of s ≡ entries
    → told ≡ option_map (λ _. records_of s) told
kept_contents None entries s are is = refl
kept_contents (Some kept) entries s are is = ap Some (are ∙ sym is)

-- a load alone
loaded_again : (a : Store) (e : Entry) (es : List Entry) (s : State) → AreContents (e ∷ es) a → records_of s ≡ e ∷ es
    → after_calls 1 a ≡ opened_store (e ∷ es) s a
loaded_again a e es s told is = λ i. record { contents = kept_contents a.contents (e ∷ es) s told is i; calls = called 1 a.calls; failures = a.failures }

is_some : (e : Entry) (es : List Entry) → e ∷ es ≢ []
is_some e es = λ h. cc

-- ---- an opening

pub opened-after : (result : Result EstateView OpenFault) (entries : List Entry) (a b c : Store)
    → Loads (Ok entries) a b → GoesOn result entries b c → Opens result a c
opened-after (Ok kept) [] a b c loads begins = (
  record {
    entries = [];
    contents = loads.0;
    opens = first-opening ∙ ap opened (sym begins.0);
    after =
        begins.2
        ∙ ap (after_commit (entry_changes (put_all first_rows))) loads.3
        ∙ committed_first a loads.0
        ∙ ap (λ s. opened_store [] s a) (sym begins.0);
  },
  begins.1,
)
opened-after (Err fault.KeeperFailed) [] a b c loads begins = inr (loads.0, second_fails a c (subst (λ s. FailsAtCall 1 s c) loads.3 begins))
opened-after (Err fault.NoMemory) [] a b c loads begins = two_at_most a c (subst (λ s. IsAfterUpTo 1 s c) loads.3 begins)
opened-after (Err (fault.Damaged kind key)) [] a b c loads begins = absurd begins
opened-after (Err (fault.Broken rule kind key)) [] a b c loads begins = absurd begins
opened-after (Ok kept) (e ∷ es) a b c loads goes = (
  record {
    entries = e ∷ es;
    contents = loads.0;
    opens = goes.0.0;
    after =
        goes.1
        ∙ loads.3
        ∙ loaded_again a e es kept.state loads.0 (opening-entries (e ∷ es) kept.state loads.2 loads.1 (is_some e es) goes.0.0);
  },
  goes.0.1,
)
opened-after (Err fault.KeeperFailed) (e ∷ es) a b c loads goes = absurd goes.0
opened-after (Err fault.NoMemory) (e ∷ es) a b c loads goes = inr (inl (goes.1 ∙ loads.3))
opened-after (Err (fault.Damaged kind key)) (e ∷ es) a b c loads goes =
    record { entries = e ∷ es; contents = loads.0; opens = goes.0; after = goes.1 ∙ loads.3 }
opened-after (Err (fault.Broken rule kind key)) (e ∷ es) a b c loads goes =
    record { entries = e ∷ es; contents = loads.0; opens = goes.0; after = goes.1 ∙ loads.3 }

-- the load failed or was out of memory
pub refused-load : (why : OpenFault) (a b : Store) → Loads (Err why) a b → Refuses why a b
refused-load fault.KeeperFailed a b loads = inl loads
refused-load fault.NoMemory a b loads = inr (inl loads)
refused-load (fault.Damaged kind key) a b loads = absurd loads
refused-load (fault.Broken rule kind key) a b loads = absurd loads
