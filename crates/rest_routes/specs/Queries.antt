-- What the query of a target says.
use Rattle.std.specs.Prelude.{ℕ, ◌==◌, ◌&&◌, ◌||◌, ℤ, pos, negsuc, nat_lt, Bool, true, false, not, List, [], ◌∷◌}
use Rattle.std.specs.Prelude.{filter, length, slice_index, Option, Some, None, Result, Ok, ok_or, option_map, unwrap_or}
use Rattle.std.specs.Prelude.{is_some, if◌then◌else◌, codes}
use Rattle.std.specs.List.{list_all, list_any, slice_split}
use Rattle.std.specs.Result.{result_ok}
use Rattle.std.specs.Str.{bytes_eq}
use Rattle.std.specs.Str.Lossy.{utf8_lossy}
use Rattle.form_urlencoded.specs.Form.{raw_pairs, decode}
use Rattle.filter_texts.specs.Reading.{choice_read}
use Rattle.filter_texts.specs.declared.choice.Step.{Step}
use Rattle.size_values.specs.Count.{count_of}
use Rattle.records.specs.Forms.{longest_wait}
use Rattle.records.specs.declared.refusals.Rule.TheVariants as rule
use Rattle.records.specs.declared.refusals.Refusal.{Refusal}
use Rattle.rest_routes.specs.Answers.{followed}
use Rattle.rest_routes.specs.Refusals.{on_key}
use Rattle.rest_routes.specs.declared.query.Flags.{Flags}
use Rattle.rest_routes.specs.declared.query.Query.{Query}
use Rattle.rest_routes.specs.declared.query.Types.{Types}

-- the text that a key or a value of a query stands for: decoded, and bytes that are no UTF-8 replaced
abbrev pub text_of : List ℕ → List ℕ
text_of raw = utf8_lossy (decode raw)

-- `0` lists URLs, and `1` and `2` list objects
unfoldable pub recursion_of : List ℕ → Option Bool
recursion_of value =
    if bytes_eq value (codes "0") then Some false
    else (if bytes_eq value (codes "1") || bytes_eq value (codes "2") then Some true
    else None)

-- a zero before other digits
unfoldable pub has_leading_zero : List ℕ → Bool
has_leading_zero value = nat_lt 1 (length value) && slice_index value 0 == 48

-- seconds in decimal, with neither a sign nor leading zeros, and not too many
unfoldable pub timeout_seconds : List ℕ → Option ℕ
timeout_seconds value = if has_leading_zero value then None else result_ok (count_of value 0 longest_wait)

-- the time to wait: -1 for no end, or seconds
unfoldable pub timeout_of : List ℕ → Option ℤ
timeout_of value = if bytes_eq value (codes "-1") then Some (negsuc 0) else option_map pos (timeout_seconds value)

-- one of the two types of events
unfoldable pub is_type : List ℕ → Bool
is_type word = bytes_eq word (codes "lifecycle") || bytes_eq word (codes "operation")

-- types of events with commas between
unfoldable pub are_types : List ℕ → Bool
are_types value = list_all is_type (slice_split (λ byte. byte == 44) value)

-- one of the words with commas between is this one
unfoldable pub lists_word : List ℕ → List ℕ → Bool
lists_word word value = list_any (λ part. bytes_eq part word) (slice_split (λ byte. byte == 44) value)

-- the types of events that a text lists, if it lists nothing else
unfoldable pub types_of : List ℕ → Option Types
types_of value =
    if are_types value
    then Some (record {
      lifecycle = lists_word (codes "lifecycle") value;
      operation = lists_word (codes "operation") value;
    })
    else None

-- a query that says nothing
abbrev pub no_query : Query
no_query =
    record { project = None; flags = record { recursion = None; timeout = None; types = None }; filter = None }

-- The flags after one more pair, or none if the pair is bad. The first of equal keys counts, and other keys say
-- nothing.
unfoldable pub flags_after : Flags → List ℕ → List ℕ → Option Flags
flags_after flags key value =
    if bytes_eq key (codes "recursion")
    && not (is_some flags.recursion)
    then option_map (λ (recursion : Bool). record flags { recursion = Some recursion }) (recursion_of value)
    else (if bytes_eq key (codes "timeout")
    && not (is_some flags.timeout)
    then option_map (λ (timeout : ℤ). record flags { timeout = Some timeout }) (timeout_of value)
    else (if bytes_eq key (codes "type")
    && not (is_some flags.types)
    then option_map (λ (types : Types). record flags { types = Some types }) (types_of value)
    else (if bytes_eq key (codes "all-projects") then None
    else Some flags)))

-- the project after one more pair: the first that is named
unfoldable pub project_after : Option (List ℕ) → List ℕ → List ℕ → Option (List ℕ)
project_after project key value =
    if bytes_eq key (codes "project") && not (is_some project) then Some value else project

-- The filter after one more pair, or none if the pair is bad: a filter that is said where none is taken, or that cannot
-- be read. The first counts, and other keys say nothing.
unfoldable pub filter_after : Bool → Option (List Step) → List ℕ → List ℕ → Option (Option (List Step))
filter_after taken filter key value =
    if not (bytes_eq key (codes "filter")) then Some filter
    else (if not taken then None
    else (if is_some filter then Some filter
    else option_map Some (result_ok (choice_read value))))

-- The query after one more pair, where a filter is taken or not; a bad pair is refused by its key.
unfoldable pub query_after : Bool → Query → List ℕ → List ℕ → Result Query Refusal
query_after taken query key value =
    followed (ok_or (flags_after query.flags key value) (on_key rule.A3 key)) (λ flags.
    followed (ok_or (filter_after taken query.filter key value) (on_key rule.A3 key)) (λ filter.
    Ok (record { project = project_after query.project key value; flags = flags; filter = filter })))

-- the query with all these pairs
abbrev pub query_in : Bool → Query → List (List ℕ × List ℕ) → Result Query Refusal
query_in taken query [] = Ok query
query_in taken query ((key, value) ∷ pairs) =
    followed (query_after taken query (text_of key) (text_of value)) (λ next. query_in taken next pairs)

-- `filter=`, which filters nothing
abbrev pub is_empty_filter : List ℕ × List ℕ → Bool
is_empty_filter pair = bytes_eq (text_of pair.0) (codes "filter") && bytes_eq (text_of pair.1) []

-- the pairs, without empty filters where these are passed over
abbrev pub pairs_passing : Bool → List (List ℕ × List ℕ) → List (List ℕ × List ℕ)
pairs_passing passed pairs = filter (λ pair. not (passed && is_empty_filter pair)) pairs

-- what pairs say where a filter is taken or not, or the refusal of the first bad one
abbrev pub query_of : Bool → List (List ℕ × List ℕ) → Result Query Refusal
query_of taken pairs = query_in taken no_query pairs

-- what a query says where no filter is taken
unfoldable pub query_from_text : List ℕ → Result Query Refusal
query_from_text text = query_of false (raw_pairs text)

-- the project that is asked in, which is `default` where the query names none
abbrev pub project_of : Query → List ℕ
project_of query = unwrap_or query.project (codes "default")

-- whether objects are listed, and not their URLs alone
abbrev pub wants_objects : Query → Bool
wants_objects query = unwrap_or query.flags.recursion false

-- whether objects are asked for: where they are listed, and where a filter chooses among them
abbrev pub asks_objects : Query → Bool
asks_objects query = wants_objects query || is_some query.filter

-- the time to wait for an operation, which has no end where the query says nothing
abbrev pub wait_timeout : Query → ℤ
wait_timeout query = unwrap_or query.flags.timeout (negsuc 0)

-- the types of events that are wanted, which are both where the query says nothing
abbrev pub wanted_types : Query → Types
wanted_types query = unwrap_or query.flags.types (record { lifecycle = true; operation = true })
