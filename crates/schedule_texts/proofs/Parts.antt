-- Parts of a field, and the numbers of all of them.
use Rattle.std.proofs.Common.{◌≡◌, ℕ, ◌<◌, ◌≤◌, Bool, true, false, if◌then◌else◌, List, length, map, get_or, Option, Some, None, refl, sym, ap, ◌∙◌}
use Rattle.std.specs.Prelude.{is_some}
use Rattle.std.specs.List.{slice_split, list_all, list_any}
use Rattle.std.proofs.lemmas.List.Folds.{list_all-map, list_all_at}
use Rattle.schedule_texts.specs.declared.numbers.NumberSet.{NumberSet}
use Rattle.schedule_texts.specs.declared.part.Part.{Part}
use Rattle.schedule_texts.specs.Numbers.{has, set_of}
use Rattle.schedule_texts.specs.Parts.{part_of, is_named}
use Rattle.schedule_texts.specs.Signs.{is_comma}
use Rattle.schedule_texts.specs.Fields.{field_of}
use Rattle.schedule_texts.proofs.Sets.{set_is, set_has}

-- a text between commas that is no part
pub field_none : (least most : ℕ) (text : List ℕ) (i : ℕ) (piece : List ℕ) → i < length (slice_split is_comma text)
    → piece ≡ get_or (slice_split is_comma text) i piece → part_of least most piece ≡ None → None ≡ field_of least most text
unfolding field_of
field_none least most text i piece less at none =
    let pieces = slice_split is_comma text in
    let wrong : is_some (part_of least most (get_or pieces i piece)) ≡ false = ap (λ p. is_some (part_of least most p)) (sym at) ∙ ap is_some none in
    let all = list_all-map is_some (part_of least most) pieces ∙ list_all_at (λ p. is_some (part_of least most p)) pieces i piece less wrong in
    rw all refl

-- each is one, and the set has the numbers of them
pub field_is : (least most : ℕ) (text : List ℕ) (set : NumberSet) (parts : List (Option Part)) → parts ≡ map (part_of least most) (slice_split is_comma text)
    → list_all is_some parts ≡ true → ((n : ℕ) → has set n ≡ list_any (is_named n) parts) → ((n : ℕ) → 60 ≤ n → has set n ≡ false)
    → Some set ≡ field_of least most text
unfolding field_of
field_is least most text set parts at all named few =
    let good : list_all is_some (map (part_of least most) (slice_split is_comma text)) ≡ true = sym (ap (list_all is_some) at) ∙ all in
    let each : (n : ℕ) → has set n ≡ list_any (is_named n) (map (part_of least most) (slice_split is_comma text)) = λ n. named n ∙ ap (list_any (is_named n)) at in
    rw good (ap Some (set_is set (λ n. list_any (is_named n) (map (part_of least most) (slice_split is_comma text))) each few))

-- ---- which numbers a field has

made_if : (b : Bool) (made set : NumberSet) → (if b then Some made else None) ≡ Some set → made ≡ set
made_if true made set e = cc
made_if false made set e = absurd (cc)

-- the set that was read has the numbers that a part names
pub field_has : (least most : ℕ) (text : List ℕ) (set : NumberSet) → field_of least most text ≡ Some set → (n : ℕ) → n < 60
    → has set n ≡ list_any (is_named n) (map (part_of least most) (slice_split is_comma text))
unfolding field_of
field_has least most text set e n h =
    let parts = map (part_of least most) (slice_split is_comma text) in
    let test : ℕ → Bool = λ number. list_any (is_named number) parts in
    ap (λ (s : NumberSet). has s n) (sym (made_if (list_all is_some parts) (set_of test) set e)) ∙ set_has test n h
