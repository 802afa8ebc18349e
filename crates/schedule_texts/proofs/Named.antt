-- Aliases among the names of a text.
use Rattle.std.proofs.Common.{◌≡◌, ℕ, ◌<◌, Bool, true, false, not, ◌&&◌, ◌||◌, if◌then◌else◌, List, [], ◌∷◌, ◌++◌, length, map, get_or, slice_index, Some, None, refl, sym, ap, ◌∙◌}
use Rattle.std.specs.List.{slice_split, list_all, list_any}
use Rattle.std.proofs.lemmas.List.{map-append}
use Rattle.std.proofs.lemmas.List.Folds.{list_any-append, list_all-append, list_all-map, list_all_at}
use Rattle.schedule_texts.specs.declared.aliases.AliasSet.{AliasSet}
use Rattle.schedule_texts.specs.Signs.{is_comma, is_space}
use Rattle.schedule_texts.specs.Aliases.{is_alias, is_hourly, is_daily, is_weekly, is_monthly, is_yearly, named_by, with_alias, without_space, aliases_of}

-- what is known where one more alias was taken, or was none
took : (b : Bool) (made new : AliasSet) → Some new ≡ (if not b then None else Some made) → (b ≡ true) × (new ≡ made)
took true made new e = (refl, cc)
took false made new e = absurd (cc)

refused : (b : Bool) (made : AliasSet) → None ≡ (if not b then None else Some made) → b ≡ false
refused true made e = absurd (cc)
refused false made e = refl

pub with_taken : (name : List ℕ) (old new : AliasSet) → Some new ≡ with_alias name old → is_alias name ≡ true
with_taken name old new e = (took (is_alias name) _ new e).0

pub with_refused : (name : List ℕ) (old : AliasSet) → None ≡ with_alias name old → is_alias name ≡ false
with_refused name old e = refused (is_alias name) _ e

-- one more name
more : (test : List ℕ → Bool) (names : List (List ℕ)) (name : List ℕ) → list_any test (names ++ name ∷ []) ≡ (list_any test names || test name)
more test names name = list_any-append test names (name ∷ []) ∙ ap (λ b. list_any test names || b) (or_false (test name))
  where
    or_false : (b : Bool) → b || false ≡ b
    or_false true = refl
    or_false false = refl

and_true : (b : Bool) → b && true ≡ b
and_true true = refl
and_true false = refl

-- a set with one more name
abbrev with_one : List ℕ → AliasSet → AliasSet
with_one name set = record {
  hourly = set.hourly || is_hourly name;
  daily = set.daily || is_daily name;
  weekly = set.weekly || is_weekly name;
  monthly = set.monthly || is_monthly name;
  yearly = set.yearly || is_yearly name;
}

joined : (names : List (List ℕ)) (name : List ℕ) → named_by (names ++ name ∷ []) ≡ with_one name (named_by names)
joined names name = rw (more is_hourly names name, more is_daily names name, more is_weekly names name, more is_monthly names name, more is_yearly names name) refl

-- an alias more, and what the set has then
pub record IsGrown (names : List (List ℕ)) (set : AliasSet) : Type 0 where
  pub all : list_all is_alias names ≡ true
  pub named : set ≡ named_by names

pub grown : {A : Type 0} (now : A → List ℕ) (texts : List A) (text : A) (old new : AliasSet) → list_all is_alias (map now texts) ≡ true → old ≡ named_by (map now texts)
    → Some new ≡ with_alias (now text) old → IsGrown (map now (texts ++ text ∷ [])) new
grown now texts text old new all named e =
    let here = took (is_alias (now text)) _ new e in
    let apart : map now (texts ++ text ∷ []) ≡ map now texts ++ now text ∷ [] = map-append now texts (text ∷ []) in
    record {
      all = ap (list_all is_alias) apart ∙ list_all-append is_alias (map now texts) (now text ∷ []) ∙ rw (all, here.0) refl;
      named = here.1 ∙ ap (with_one (now text)) named ∙ sym (joined (map now texts) (now text)) ∙ sym (ap named_by apart);
    }

-- a name that is no alias
pub aliases_none : (text : List ℕ) (i : ℕ) (piece : List ℕ) → i < length (slice_split is_comma text)
    → piece ≡ get_or (slice_split is_comma text) i piece → is_alias (without_space piece) ≡ false → None ≡ aliases_of text
unfolding aliases_of
aliases_none text i piece less at none =
    let pieces = slice_split is_comma text in
    let wrong : is_alias (without_space (get_or pieces i piece)) ≡ false = ap (λ p. is_alias (without_space p)) (sym at) ∙ none in
    let all = list_all-map is_alias without_space pieces ∙ list_all_at (λ p. is_alias (without_space p)) pieces i piece less wrong in
    rw all (none_either (is_space (slice_index text 0)) _)
  where
    none_either : (b : Bool) (set : AliasSet) → None ≡ (if b || true then None else Some set)
    none_either true set = refl
    none_either false set = refl

-- each is one
pub aliases_are : (text : List ℕ) (set : AliasSet) (names : List (List ℕ)) → names ≡ map without_space (slice_split is_comma text)
    → is_space (slice_index text 0) ≡ false → list_all is_alias names ≡ true → set ≡ named_by names → Some set ≡ aliases_of text
unfolding aliases_of
aliases_are text set names at first all named =
    let good : list_all is_alias (map without_space (slice_split is_comma text)) ≡ true = sym (ap (list_all is_alias) at) ∙ all in
    rw (first, good) (ap Some (named ∙ ap named_by at))
