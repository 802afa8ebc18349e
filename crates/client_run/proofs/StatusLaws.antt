-- What the statuses say.
use Rattle.std.proofs.Common.{◌≡◌, ℕ, inl, inr, List, [], ◌∷◌, Bool, true, false, cond, Option, Some, None, refl, sym, ◌∙◌, subst, arith, codes}
use Rattle.std.specs.Option.{option_map}
use Rattle.std.specs.Str.{bytes_eq}
use Rattle.serde_json.specs.Data.{Data}
use Rattle.client_replies.specs.Forms.{Told, begun, done, refused}
use Rattle.client_words.specs.declared.words.ClientWords.{ClientWords}
use Rattle.client_steps.specs.Legs.{legs_of}
use Rattle.client_steps.specs.Rows.{rows_of, text_at}
use Rattle.client_steps.specs.Runs.{Ending, ended_behind, ending_from, ending_of}
use Rattle.client_steps.specs.Steps.{failed, next_of, onward, told_rows, after_end, after_done, after_begun, after_reply}
use Rattle.client_steps.specs.declared.legs.Leg.{Leg}
use Rattle.client_steps.specs.declared.legs.Leg.TheVariants as leg
use Rattle.client_steps.specs.declared.steps.Next.{Next}
use Rattle.client_steps.specs.declared.steps.Next.TheVariants.{End, Send}
use Rattle.client_steps.specs.declared.cells.Cells.{Cells}
use Rattle.client_run.specs.Sessions.{Outside, Ran, Goes, status_in}
use Rattle.client_run.specs.Laws.{IsEnd, EndsSo, Tells, StatusesTell}
use Rattle.client_run.specs.declared.course.Course.{Course}
use Rattle.client_run.specs.declared.course.Course.TheVariants as course

same_value : {X : Type 0} {x y : X} → Some x ≡ Some y → x ≡ y
same_value e = cc

-- ---- what follows on a reply ends so, where it ends

abbrev EndsHere : Next → Type 0
EndsHere (Send request) = Unit {0}
EndsHere (End text status) = IsEnd status

rows_end : (words : ClientWords) (body : Data) (rows : Option (List Cells)) → EndsHere (told_rows words body rows)
rows_end words body (Some rows) = inl refl
rows_end words body None = inr (inr refl)

onward_ends : (words : ClientWords) (legs : List Leg) (operation : List ℕ) (body : Data) → EndsHere (onward words legs operation body)
onward_ends words (leg ∷ more) operation body = tt
onward_ends words [] operation body = rows_end words body (rows_of words.asks body)

after_end_ends : (words : ClientWords) (legs : List Leg) (status error : Option (List ℕ)) (body : Data) → EndsHere (after_end words legs status error body)
after_end_ends words legs (Some status) (Some error) body = at (bytes_eq status (codes "Success"))
  where
    at : (b : Bool) → EndsHere (cond b (onward words legs [] body) (failed error None))
    at true = onward_ends words legs [] body
    at false = inr (inl refl)
after_end_ends words legs (Some status) None body = inr (inr refl)
after_end_ends words legs None error body = inr (inr refl)

done_ends : (words : ClientWords) (l : Leg) (legs : List Leg) (body : Data) → EndsHere (after_done words l legs body)
done_ends words leg.List legs body = onward_ends words legs [] body
done_ends words leg.Create legs body = inr (inr refl)
done_ends words leg.Start legs body = inr (inr refl)
done_ends words leg.Stop legs body = inr (inr refl)
done_ends words leg.Delete legs body = inr (inr refl)
done_ends words leg.Await legs body = after_end_ends words legs (text_at (codes "status") body) (text_at (codes "err") body) body
done_ends words leg.Wait legs body = onward_ends words legs [] body
done_ends words leg.Cancel legs body = onward_ends words legs [] body
done_ends words leg.Limits legs body = onward_ends words legs [] body

begun_ends : (words : ClientWords) (l : Leg) (legs : List Leg) (operation : List ℕ) (body : Data) → EndsHere (after_begun words l legs operation body)
begun_ends words leg.List legs operation body = inr (inr refl)
begun_ends words leg.Create legs operation body = onward_ends words legs operation body
begun_ends words leg.Start legs operation body = onward_ends words legs operation body
begun_ends words leg.Stop legs operation body = onward_ends words legs operation body
begun_ends words leg.Delete legs operation body = onward_ends words legs operation body
begun_ends words leg.Await legs operation body = inr (inr refl)
begun_ends words leg.Wait legs operation body = inr (inr refl)
begun_ends words leg.Cancel legs operation body = inr (inr refl)
begun_ends words leg.Limits legs operation body = inr (inr refl)

reply_ends : (words : ClientWords) (l : Leg) (legs : List Leg) (t : Told) → EndsHere (after_reply words l legs t)
reply_ends words l legs (done body) = done_ends words l legs body
reply_ends words l legs (begun operation body) = begun_ends words l legs operation body
reply_ends words l legs (refused text code body) = inr (inl refl)

-- ---- a whole command

abbrev EndingIs : Option Ending → Type 0
EndingIs None = Unit {0}
EndingIs (Some ending) = IsEnd ending.1

behind_ends : (next : Next) (following : Option Ending) → EndsHere next → EndingIs following → EndingIs (ended_behind next following)
behind_ends (Send request) following here later = later
behind_ends (End text status) following here later = here

ending_ends : (words : ClientWords) (legs : List Leg) (replies : List Told) → EndingIs (ending_from words legs replies)
ending_ends words legs [] = tt
ending_ends words [] (t ∷ replies) = tt
ending_ends words (l ∷ legs) (t ∷ replies) =
    behind_ends (next_of words (l ∷ legs) t) (ending_from words legs replies) (reply_ends words l legs t) (ending_ends words legs replies)

pub ends_so : EndsSo
ends_so words replies status e = at (ending_of words replies) (ending_ends words (legs_of words.asks) replies) e
  where
    at : (o : Option Ending) → EndingIs o → option_map (λ (x : Ending). x.1) o ≡ Some status → IsEnd status
    at None is f = cc
    at (Some ending) is f = subst IsEnd (same_value f) is

-- ---- the status of a run

not_end : {P : Type 0} (s n : ℕ) → IsEnd s → s ≡ n → (n ≡ 0 → ⊥) → (n ≡ 1 → ⊥) → (n ≡ 3 → ⊥) → P
not_end s n (inl is) e zero one three = absurd (zero (sym e ∙ is))
not_end s n (inr (inl is)) e zero one three = absurd (one (sym e ∙ is))
not_end s n (inr (inr is)) e zero one three = absurd (three (sym e ∙ is))

ran_tells : (words : ClientWords) (before after : Outside) (taken : Course) → Ran words before after taken → Tells (Some words) before after (status_in taken)
ran_tells words before after (course.Ended s) r =
    let end = ends_so words r.replies s r.ends in
    record {
      unread = λ e. not_end s 2 end e (λ f. cc) (λ f. cc) (λ f. cc);
      link = λ e. not_end s 4 end e (λ f. cc) (λ f. cc) (λ f. cc);
      print = λ e. not_end s 5 end e (λ f. cc) (λ f. cc) (λ f. cc);
    }
ran_tells words before after course.Unread r = absurd r.sends
ran_tells words before after course.Malformed r = record { unread = λ e. absurd (omega (arith, e)); link = λ e. absurd (omega (arith, e)); print = λ e. absurd (omega (arith, e)) }
ran_tells words before after course.LinkFailed r = record { unread = λ e. absurd (omega (arith, e)); link = λ e. r.ends.1; print = λ e. absurd (omega (arith, e)) }
ran_tells words before after course.PrintFailed r = record { unread = λ e. absurd (omega (arith, e)); link = λ e. absurd (omega (arith, e)); print = λ e. r.ends.1 }
ran_tells words before after course.NoMemory r = record { unread = λ e. absurd (omega (arith, e)); link = λ e. absurd (omega (arith, e)); print = λ e. absurd (omega (arith, e)) }

unread_tells : (before after : Outside) (taken : Course) → Goes None before after taken → Tells None before after (status_in taken)
unread_tells before after course.Unread g = record { unread = λ e. refl; link = λ e. absurd (omega (arith, e)); print = λ e. absurd (omega (arith, e)) }
unread_tells before after course.NoMemory g = record { unread = λ e. refl; link = λ e. absurd (omega (arith, e)); print = λ e. absurd (omega (arith, e)) }
unread_tells before after (course.Ended s) g = absurd g
unread_tells before after course.Malformed g = absurd g
unread_tells before after course.LinkFailed g = absurd g
unread_tells before after course.PrintFailed g = absurd g

pub statuses_tell : StatusesTell
statuses_tell (Some words) before after status runs =
    subst (Tells (Some words) before after) (sym runs.status_is) (ran_tells words before after runs.taken runs.goes)
statuses_tell None before after status runs =
    subst (Tells None before after) (sym runs.status_is) (unread_tells before after runs.taken runs.goes)
