-- A list with a filter is the list without it, cut.
use Rattle.std.proofs.Common.{◌≡◌, Bool, true, false, cond, List, [], ◌∷◌, Option, Some, None, map, filter, refl, ap, sym, ◌∙◌}
use Rattle.filter_texts.specs.declared.choice.Step.{Step}
use Rattle.http_heads.specs.declared.request.Request.{Request}
use Rattle.records.specs.declared.replies.Reply.{Reply}
use Rattle.records.specs.declared.replies.Reply.TheVariants as reply
use Rattle.records.specs.declared.replies.View.{View}
use Rattle.records.specs.declared.rows.Row.{Row}
use Rattle.list_filter.proofs.Leading.{urls}
use Rattle.list_filter.specs.Urls.{view_url}
use Rattle.rest_json.specs.declared.terms.Terms.{Terms}
use Rattle.rest_replies.specs.Chosen.{chosen, chosen_reply, is_chosen}
use Rattle.rest_routes.specs.Filters.{list_query}
use Rattle.rest_routes.specs.Queries.{wants_objects}
use Rattle.rest_routes.specs.declared.query.Query.{Query}
use Rattle.row_machine.specs.machine.State.{State}
use Rattle.row_machine.specs.shown.Views.{row_url, row_view, rows_reply}
use Rattle.rest_answers.specs.Told.{FilteredListsAreCut, told_by, told_of, told_to}

-- the images that a test takes are the images of what it takes through them
filter_of_map : {A B : Type 0} (test : B → Bool) (f : A → B) (xs : List A) → filter test (map f xs) ≡ map f (filter (λ x. test (f x)) xs)
filter_of_map test f [] = refl
filter_of_map test f (x ∷ xs) = by (test (f x)) (filter_of_map test f xs)
  where
    by : (taken : Bool) → filter test (map f xs) ≡ map f (filter (λ x. test (f x)) xs)
        → cond taken (f x ∷ filter test (map f xs)) (filter test (map f xs))
        ≡ map f (cond taken (x ∷ filter (λ x. test (f x)) xs) (filter (λ x. test (f x)) xs))
    by true same = ap (λ more. f x ∷ more) same
    by false same = same

-- the chosen objects, whole or by their URLs
cut : (terms : Terms) (choice : List Step) (state : State) (rows : List Row) (whole : Bool)
    → chosen_reply terms (Some choice) whole (map (row_view state) rows)
    ≡ rows_reply state (filter (λ row. is_chosen terms (Some choice) (row_view state row)) rows) whole
cut terms choice state rows true = ap reply.Many (filter_of_map (is_chosen terms (Some choice)) (row_view state) rows)
cut terms choice state rows false =
    ap (λ views. reply.Links (map view_url views)) (filter_of_map (is_chosen terms (Some choice)) (row_view state) rows)
    ∙ ap reply.Links (urls state (filter (λ row. is_chosen terms (Some choice) (row_view state row)) rows))

pub lists_are_cut : FilteredListsAreCut
lists_are_cut request terms query choice state rows listed filtered =
    ap (λ query. told_of terms query (map (row_view state) rows)) listed
    ∙ ap (λ choice. told_by terms choice (wants_objects query) (map (row_view state) rows)) filtered
    ∙ cut terms choice state rows (wants_objects query)
