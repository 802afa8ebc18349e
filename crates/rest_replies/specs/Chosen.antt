-- Lists of which a filter chooses some objects.
use Rattle.std.specs.Prelude.{Bool, true, false, List, map, filter, Option, Some, None}
use Rattle.filter_texts.specs.declared.choice.Step.{Step}
use Rattle.list_filter.specs.Taking.{is_taken}
use Rattle.list_filter.specs.Urls.{view_url}
use Rattle.records.specs.declared.replies.Reply.{Reply}
use Rattle.records.specs.declared.replies.Reply.TheVariants as reply
use Rattle.records.specs.declared.replies.View.{View}
use Rattle.rest_json.specs.Views.{view_data}
use Rattle.rest_json.specs.declared.terms.Terms.{Terms}

-- an object is chosen as it is printed; without a filter each is
abbrev pub is_chosen : Terms → Option (List Step) → View → Bool
is_chosen terms None shown = true
is_chosen terms (Some choice) shown = is_taken terms.dialect (view_data terms shown) choice

-- the chosen objects, in their order
abbrev pub chosen : Terms → Option (List Step) → List View → List View
chosen terms choice views = filter (is_chosen terms choice) views

-- they are listed whole, or by their URLs
abbrev pub chosen_reply : Terms → Option (List Step) → Bool → List View → Reply
chosen_reply terms choice true views = reply.Many (chosen terms choice views)
chosen_reply terms choice false views = reply.Links (map view_url (chosen terms choice views))
