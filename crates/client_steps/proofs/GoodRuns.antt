-- Commands whose requests all go well.
use Rattle.std.proofs.Common.{◌≡◌, ◌∙◌, ℕ, ap, ap₂, refl, sym, subst, List, [], ◌∷◌, Option, Some, None, IsSome, codes}
use Rattle.std.specs.Option.{option_map}
use Rattle.serde_json.specs.Data.{Data}
use Rattle.client_replies.specs.Forms.{Told, begun, done, refused}
use Rattle.client_words.specs.declared.words.ClientWords.{ClientWords}
use Rattle.client_steps.specs.Laws.{AreGoodReplies, EndsWell, HasEnded, IsBegun, IsDone, IsGoodReply, IsSuccess, TellsRows}
use Rattle.client_steps.specs.Legs.{legs_of}
use Rattle.client_steps.specs.Rows.{rows_of, text_at}
use Rattle.client_steps.specs.Runs.{Ending, ended_behind, ending_from}
use Rattle.client_steps.specs.Steps.{after_end, after_reply, onward, told_rows}
use Rattle.client_steps.specs.declared.cells.Cells.{Cells}
use Rattle.client_steps.specs.declared.legs.Leg.{Leg}
use Rattle.client_steps.specs.declared.legs.Leg.TheVariants as leg
use Rattle.client_steps.specs.declared.steps.Next.{Next}
use Rattle.client_steps.specs.declared.steps.Next.TheVariants.{End, Send}

-- another request follows, or the command has ended with 0
FollowsWell : List Leg → Next → Type 0
FollowsWell [] next = (text : List ℕ) × (next ≡ End text 0)
FollowsWell (leg ∷ more) next = (request : List ℕ) × (next ≡ Send request)

-- where there is no leg more, the reply tells rows
RowsAtEnd : ClientWords → List Leg → Data → Type 0
RowsAtEnd words [] body = IsSome (rows_of words.asks body)
RowsAtEnd words (leg ∷ more) body = Unit {0}

rows_told : (words : ClientWords) (body : Data) (rows : Option (List Cells)) → IsSome rows
    → (text : List ℕ) × (told_rows words body rows ≡ End text 0)
rows_told words body (Some rows) is = (_, refl)
rows_told words body None is = absurd (cc is)

onward_well : (words : ClientWords) (more : List Leg) (operation : List ℕ) (body : Data) → RowsAtEnd words more body
    → FollowsWell more (onward words more operation body)
unfolding FollowsWell RowsAtEnd
onward_well words [] operation body rows = rows_told words body (rows_of words.asks body) rows
onward_well words (leg ∷ more) operation body rows = (_, refl)

-- an operation that has succeeded
ended : (words : ClientWords) (more : List Leg) (body : Data) (status error : Option (List ℕ)) (text : List ℕ)
    → status ≡ Some (codes "Success") → error ≡ Some text → after_end words more status error body ≡ onward words more [] body
ended words more body status error text is said = ap₂ (λ s e. after_end words more s e body) is said

ended_well : (words : ClientWords) (more : List Leg) (body : Data) (text : List ℕ) → HasEnded body (codes "Success") text
    → RowsAtEnd words more body → FollowsWell more (after_reply words leg.Await more (done body))
ended_well words more body text has rows =
    let same = ended words more body (text_at (codes "status") body) (text_at (codes "err") body) text has.status_is has.error_is in
    subst (FollowsWell more) (sym same) (onward_well words more [] body rows)

-- ---- the replies

-- where there is no leg more, a reply tells rows
RowsTold : ClientWords → List Leg → Told → Type 0
RowsTold words [] told = TellsRows words.asks told
RowsTold words (leg ∷ more) told = Unit {0}

rows_done : (words : ClientWords) (more : List Leg) (body : Data) → RowsTold words more (done body) → RowsAtEnd words more body
unfolding RowsAtEnd RowsTold
rows_done words [] body rows = rows
rows_done words (leg ∷ more) body rows = tt

rows_begun : (words : ClientWords) (more : List Leg) (path : List ℕ) (body : Data) → RowsTold words more (begun path body)
    → RowsAtEnd words more body
unfolding RowsAtEnd RowsTold
rows_begun words [] path body rows = absurd rows
rows_begun words (leg ∷ more) path body rows = tt

done_well : (words : ClientWords) (more : List Leg) (told : Told) (next : Told → Next)
    → ((body : Data) → next (done body) ≡ onward words more [] body) → IsDone told → RowsTold words more told
    → FollowsWell more (next told)
done_well words more (done body) next is good rows =
    subst (FollowsWell more) (sym (is body)) (onward_well words more [] body (rows_done words more body rows))
done_well words more (begun path body) next is good rows = absurd good
done_well words more (refused text code body) next is good rows = absurd good

begun_well : (words : ClientWords) (more : List Leg) (told : Told) (next : Told → Next)
    → ((path : List ℕ) (body : Data) → next (begun path body) ≡ onward words more path body) → IsBegun told
    → RowsTold words more told → FollowsWell more (next told)
begun_well words more (done body) next is good rows = absurd good
begun_well words more (begun path body) next is good rows =
    subst (FollowsWell more) (sym (is path body)) (onward_well words more path body (rows_begun words more path body rows))
begun_well words more (refused text code body) next is good rows = absurd good

success_well : (words : ClientWords) (more : List Leg) (told : Told) → IsSuccess told → RowsTold words more told
    → FollowsWell more (after_reply words leg.Await more told)
success_well words more (done body) good rows = ended_well words more body good.0 good.1 (rows_done words more body rows)
success_well words more (begun path body) good rows = absurd good
success_well words more (refused text code body) good rows = absurd good

reply_well : (words : ClientWords) (leg : Leg) (more : List Leg) (told : Told) → IsGoodReply leg told → RowsTold words more told
    → FollowsWell more (after_reply words leg more told)
reply_well words leg.List more told good rows = done_well words more told (after_reply words leg.List more) (λ body. refl) good rows
reply_well words leg.Create more told good rows = begun_well words more told (after_reply words leg.Create more) (λ path body. refl) good rows
reply_well words leg.Start more told good rows = begun_well words more told (after_reply words leg.Start more) (λ path body. refl) good rows
reply_well words leg.Stop more told good rows = begun_well words more told (after_reply words leg.Stop more) (λ path body. refl) good rows
reply_well words leg.Delete more told good rows = begun_well words more told (after_reply words leg.Delete more) (λ path body. refl) good rows
reply_well words leg.Await more told good rows = success_well words more told good rows
reply_well words leg.Wait more told good rows = done_well words more told (after_reply words leg.Wait more) (λ body. refl) good rows
reply_well words leg.Cancel more told good rows = done_well words more told (after_reply words leg.Cancel more) (λ body. refl) good rows
reply_well words leg.Limits more told good rows = done_well words more told (after_reply words leg.Limits more) (λ body. refl) good rows

-- ---- the whole

status_in : Option Ending → Option ℕ
status_in ending = option_map (λ (e : Ending). e.1) ending

ends_from : (words : ClientWords) (legs : List Leg) (replies : List Told) → AreGoodReplies words.asks legs replies
    → status_in (ending_from words legs replies) ≡ Some 0
unfolding FollowsWell RowsTold status_in
ends_from words [] replies good = absurd good
ends_from words (leg ∷ []) [] good = absurd good
ends_from words (leg ∷ next ∷ more) [] good = absurd good
ends_from words (leg ∷ []) (told ∷ []) good =
    let last = reply_well words leg [] told good.0 good.1 in ap (λ n. status_in (ended_behind n None)) last.1
ends_from words (leg ∷ []) (told ∷ reply ∷ replies) good = absurd good
ends_from words (leg ∷ next ∷ more) (told ∷ replies) good =
    let one = reply_well words leg (next ∷ more) told good.0 tt in
    ap (λ n. status_in (ended_behind n (ending_from words (next ∷ more) replies))) one.1
    ∙ ends_from words (next ∷ more) replies good.1

pub ends_well : EndsWell
unfolding status_in
ends_well words replies good = ends_from words (legs_of words.asks) replies good
