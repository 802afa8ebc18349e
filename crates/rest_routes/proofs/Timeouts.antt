-- The time to wait that a query says is one that a command may have.
use Rattle.std.proofs.Common.{◌≡◌, ℕ, ◌≤◌, ◌==◌, length, ℤ, pos, negsuc, Bool, true, false, cond, not, ◌&&◌, ◌||◌, List, [], ◌∷◌, Option, Some, None, Result, Ok, Err, IfOk, refl, option_map, nat_lt, nat_le, arith, codes}
use Rattle.std.specs.Prelude.{⊤, is_some, ok_or, unwrap_or}
use Rattle.std.proofs.lemmas.Bool.Decides.{nat_tests}
use Rattle.std.specs.Option.{option_map_or}
use Rattle.std.specs.Result.{result_ok}
use Rattle.std.specs.Char.{is_ascii_digit}
use Rattle.std.specs.Str.{bytes_eq}
use Rattle.std.specs.Str.Parse.{digits_value}
use Rattle.filter_texts.specs.declared.choice.Step.{Step}
use Rattle.size_values.specs.Count.{count_of}
use Rattle.size_values.specs.Reading.{reading, fault_if, stray, is_too_large, is_outside}
use Rattle.size_values.specs.declared.fault.ValueFault.{ValueFault}
use Rattle.size_values.specs.declared.fault.ValueFault.TheVariants.{Empty, BadByte, TooLarge, OutOfRange}
use Rattle.records.specs.Forms.{is_timeout, longest_wait}
use Rattle.records.specs.declared.refusals.Refusal.{Refusal}
use Rattle.rest_routes.specs.Answers.{followed}
use Rattle.records.specs.declared.refusals.Rule.TheVariants as rule
use Rattle.rest_routes.specs.Refusals.{on_key}
use Rattle.rest_routes.specs.Queries.{text_of, project_after, recursion_of, has_leading_zero, timeout_seconds, timeout_of, types_of, no_query, flags_after, filter_after, query_after, query_in, query_of, wait_timeout}
use Rattle.rest_routes.specs.declared.query.Flags.{Flags}
use Rattle.rest_routes.specs.declared.query.Query.{Query}
use Rattle.rest_routes.specs.declared.query.Types.{Types}

-- a value whose last fault does not stand is within its bounds
last_fault : (value n : ℕ) (a b c : Option ValueFault) (outside : Bool) → reading value (a ∷ b ∷ c ∷ fault_if outside OutOfRange ∷ []) ≡ Ok n
    → (outside ≡ false) × (value ≡ n)
last_fault value n (Some x) b c outside h = cc
last_fault value n None (Some x) c outside h = cc
last_fault value n None None (Some x) outside h = cc
last_fault value n None None None true h = cc
last_fault value n None None None false h = (refl, cc)

within : (value least most n : ℕ) → (nat_lt value least || nat_lt most value) ≡ false → value ≡ n → n ≤ most
within value least most n h is = grind (arith, nat_tests)

-- a count is not above the most that it may be
pub count_within : (text : List ℕ) (least most n : ℕ) → count_of text least most ≡ Ok n → n ≤ most
unfolding count_of
count_within text least most n h =
    by (last_fault (digits_value 10 text) n (fault_if (length text == 0) Empty)
    (option_map BadByte (stray (λ front b. is_ascii_digit b) (λ _. true) text)) (fault_if (is_too_large text) TooLarge)
    (is_outside least most text) h)
  where
    by : (is_outside least most text ≡ false) × (digits_value 10 text ≡ n) → n ≤ most
    by h = within (digits_value 10 text) least most n h.0 h.1

-- ---- timeouts

-- a timeout that is there is one that a command may have
abbrev is_fine : Option ℤ → Bool
is_fine timeout = option_map_or is_timeout timeout true

seconds_fine : (value : List ℕ) → is_fine (option_map pos (timeout_seconds value)) ≡ true
unfolding timeout_seconds
seconds_fine value = by (has_leading_zero value) (count_of value 0 longest_wait) (λ n. count_within value 0 longest_wait n)
  where
    below : (n : ℕ) → n ≤ longest_wait → nat_le n longest_wait ≡ true
    below n h = grind (arith, nat_tests)

    by : (zero : Bool) (count : Result ℕ ValueFault) → ((n : ℕ) → count ≡ Ok n → n ≤ longest_wait)
        → is_fine (option_map pos (cond zero None (result_ok count))) ≡ true
    by true count h = refl
    by false (Err fault) h = refl
    by false (Ok n) h = below n (h n refl)

timeout_fine : (value : List ℕ) → is_fine (timeout_of value) ≡ true
unfolding timeout_of
timeout_fine value = by (bytes_eq value (codes "-1")) (seconds_fine value)
  where
    by : (endless : Bool) → is_fine (option_map pos (timeout_seconds value)) ≡ true
        → is_fine (cond endless (Some (negsuc 0)) (option_map pos (timeout_seconds value))) ≡ true
    by true h = refl
    by false h = h

-- ---- queries

abbrev QueryFine : Query → Type 0
QueryFine query = is_fine query.flags.timeout ≡ true

abbrev FlagsFine : Option Flags → Type 0
FlagsFine None = ⊤
FlagsFine (Some flags) = is_fine flags.timeout ≡ true

flags_fine : (flags : Flags) (key value : List ℕ) → is_fine flags.timeout ≡ true → FlagsFine (flags_after flags key value)
unfolding flags_after
flags_fine flags key value h =
    by (bytes_eq key (codes "recursion") && not (is_some flags.recursion)) (recursion_of value)
    (bytes_eq key (codes "timeout") && not (is_some flags.timeout)) (timeout_of value) (timeout_fine value)
    (bytes_eq key (codes "type") && not (is_some flags.types)) (types_of value)
    (bytes_eq key (codes "all-projects"))
  where
    by : (a : Bool) (r : Option Bool) (b : Bool) (time : Option ℤ) → is_fine time ≡ true → (c : Bool) (d : Option Types) (e : Bool)
        → FlagsFine (cond a (option_map (λ (r : Bool). record flags { recursion = Some r }) r)
        (cond b (option_map (λ (t : ℤ). record flags { timeout = Some t }) time)
        (cond c (option_map (λ (t : Types). record flags { types = Some t }) d)
        (cond e None (Some flags)))))
    by true None b time k c d e = tt
    by true (Some r) b time k c d e = h
    by false r true None k c d e = tt
    by false r true (Some t) k c d e = k
    by false r false time k true (Some t) e = h
    by false r false time k true None e = tt
    by false r false time k false d true = tt
    by false r false time k false d false = h

query_fine : (taken : Bool) (query : Query) (key value : List ℕ) → QueryFine query → IfOk (query_after taken query key value) QueryFine
unfolding query_after
query_fine taken query key value h =
    by (flags_after query.flags key value) (flags_fine query.flags key value h) (filter_after taken query.filter key value)
  where
    by : (o : Option Flags) → FlagsFine o → (f : Option (Option (List Step)))
        → IfOk (followed (ok_or o (on_key rule.A3 key)) (λ flags. followed (ok_or f (on_key rule.A3 key)) (λ filter.
        Ok (record { project = project_after query.project key value; flags = flags; filter = filter })))) QueryFine
    by None k f = tt
    by (Some flags) k None = tt
    by (Some flags) k (Some filter) = k

next_fine : (answer : Result Query Refusal) (next : Query → Result Query Refusal) → IfOk answer QueryFine
    → ((query : Query) → QueryFine query → IfOk (next query) QueryFine)
    → IfOk (followed answer next) QueryFine
next_fine (Err refusal) next h k = tt
next_fine (Ok query) next h k = k query h

pairs_fine : (taken : Bool) (pairs : List (List ℕ × List ℕ)) (query : Query) → QueryFine query → IfOk (query_in taken query pairs) QueryFine
pairs_fine taken [] query h = h
pairs_fine taken ((key, value) ∷ pairs) query h =
    next_fine (query_after taken query (text_of key) (text_of value)) _ (query_fine taken query (text_of key) (text_of value) h) (λ next k. pairs_fine taken pairs next k)

-- the time to wait that a query says, or that is meant where it says none
pub timeout_formed : (taken : Bool) (pairs : List (List ℕ × List ℕ)) → IfOk (query_of taken pairs) (λ query. is_timeout (wait_timeout query) ≡ true)
timeout_formed taken pairs = by (query_of taken pairs) (pairs_fine taken pairs no_query refl)
  where
    asked : (timeout : Option ℤ) → is_fine timeout ≡ true → is_timeout (unwrap_or timeout (negsuc 0)) ≡ true
    asked None h = refl
    asked (Some t) h = h

    by : (answer : Result Query Refusal) → IfOk answer QueryFine → IfOk answer (λ query. is_timeout (wait_timeout query) ≡ true)
    by (Err refusal) h = tt
    by (Ok query) h = asked query.flags.timeout h
