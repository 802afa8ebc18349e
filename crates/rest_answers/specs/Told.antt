-- What is told of a reply: of a list with a filter, the objects that it chooses.
use Rattle.std.specs.Prelude.{◌≡◌, ℕ, Bool, true, List, filter, Option, Some, None}
use Rattle.filter_texts.specs.declared.choice.Step.{Step}
use Rattle.http_heads.specs.declared.request.Request.{Request}
use Rattle.records.specs.declared.replies.Reply.{Reply}
use Rattle.records.specs.declared.replies.Reply.TheVariants as reply
use Rattle.records.specs.declared.replies.View.{View}
use Rattle.records.specs.declared.rows.Row.{Row}
use Rattle.rest_json.specs.declared.terms.Terms.{Terms}
use Rattle.rest_replies.specs.Chosen.{chosen_reply, is_chosen}
use Rattle.rest_routes.specs.Filters.{list_query}
use Rattle.rest_routes.specs.Queries.{wants_objects}
use Rattle.rest_routes.specs.declared.query.Query.{Query}
use Rattle.row_machine.specs.machine.State.{State}
use Rattle.row_machine.specs.shown.Views.{row_view, rows_reply}

-- of a list without a filter, all
abbrev pub told_by : Terms → Option (List Step) → Bool → List View → Reply
told_by terms None whole views = reply.Many views
told_by terms (Some choice) whole views = chosen_reply terms (Some choice) whole views

-- by what the query says, if each of its pairs is good
abbrev pub told_of : Terms → Option Query → List View → Reply
told_of terms None views = reply.Many views
told_of terms (Some query) views = told_by terms query.filter (wants_objects query) views

-- objects are told of as the query of the request says; any other reply is told as it is
abbrev pub told_to : Request → Terms → Reply → Reply
told_to request terms (reply.Many views) = told_of terms (list_query terms.dialect request.target) views
told_to request terms other = other

-- What is told of a list with a filter is what is told of it without one, cut to the objects that the filter takes, in
-- their order: whole or by their URLs, as the query says.
abbrev pub FilteredListsAreCut : Type 0
FilteredListsAreCut =
    (request : Request) (terms : Terms) (query : Query) (choice : List Step) (state : State) (rows : List Row)
    → list_query terms.dialect request.target ≡ Some query → query.filter ≡ Some choice
    → told_to request terms (rows_reply state rows true)
    ≡ rows_reply state (filter (λ row. is_chosen terms (Some choice) (row_view state row)) rows) (wants_objects query)
