-- The records of a state in which all facts hold open to the state that is opened again.
use Rattle.std.proofs.Common.{◌≡◌, true, Option, Some, None, List, [], ◌∷◌, refl, sym, ap, subst, ◌∙◌}
use Rattle.std.specs.Prelude.{unwrap_or}
use Rattle.std.specs.Option.{option_map}
use Rattle.plain_lists.specs.Members.{Mem, Each}
use Rattle.plain_lists.proofs.Elements.{Mem-map}
use Rattle.plain_lists.proofs.Searches.{find-some}
use Rattle.size_values.specs.declared.entry.Entry.{Entry}
use Rattle.records.specs.declared.rows.Project.{Project}
use Rattle.records.specs.declared.rows.Row.TheVariants as row
use Rattle.row_codec.specs.Rows.{HasTypedParts}
use Rattle.row_codec.specs.Spelling.{entry_of}
use Rattle.row_machine.specs.machine.State.{State}
use Rattle.row_machine.specs.machine.Rows.{default_name, project_named, is_project}
use Rattle.row_machine.specs.opening.Records.{rows_of, records_of}
use Rattle.row_machine.specs.opening.Opening.{opened, has_all_features, rows_in, rows_break, with_rows, opening_with, opening_by, opening_of}
use Rattle.row_machine.specs.facts.Whole.{IsWhole}
use Rattle.machine_laws.proofs.NamesRows.{EachRow, each-row}
use Rattle.machine_laws.specs.Reopening.{reopened, KeptRowsOpen}
use Rattle.machine_laws.proofs.Sections.{sorted_rows, records-spelled, to-rows}
use Rattle.machine_laws.proofs.Reopened.{rows-read_back, rows-make}
use Rattle.machine_laws.proofs.Unbroken.{unbroken}
use Rattle.machine_laws.proofs.Accepted.{rows-meet}

-- entries of which there is one open to what their rows open to
some-open : (e : Entry) (es : List Entry) → Mem e es → opening_of es ≡ opening_by (rows_in es)
unfolding opening_of
some-open e [] m = absurd m
some-open e (x ∷ es) m = refl

module _ (s : State) (whole : IsWhole s) (typed : Each HasTypedParts (rows_of s)) where
  all : EachRow (λ r. Mem r (rows_of s)) s
  all = each-row s (record { at = λ r m. m })

  -- the project `default` has an entry
  an-entry : (e : Entry) × Mem e (records_of s)
  an-entry = by (project_named s.projects default_name) refl whole.defaults.project where
    by : (o : Option Project) → project_named s.projects default_name ≡ o → option_map has_all_features o ≡ Some true
        → (e : Entry) × Mem e (records_of s)
    by None is h = cc
    by (Some p) is h =
        let there = find-some (is_project default_name) s.projects p is in
        let kept = to-rows s (row.Project p) (all.projects.at p there.0) in
        (entry_of (row.Project p), subst (λ es. Mem (entry_of (row.Project p)) es) (sym (records-spelled s)) (Mem-map entry_of (row.Project p) (sorted_rows s) kept))

  -- no rule is broken
  none-broken : rows_break (with_rows (sorted_rows s)) (sorted_rows s) ≡ None
  none-broken = ap (λ x. rows_break x (sorted_rows s)) (rows-make s whole typed) ∙ unbroken (reopened s) (sorted_rows s) (rows-meet s whole)

  opens : opening_with (sorted_rows s) ≡ opened (reopened s)
  opens = λ i. unwrap_or (none-broken i) (opened (rows-make s whole typed i))

  pub opening-again : opening_of (records_of s) ≡ opened (reopened s)
  opening-again =
      some-open an-entry.0 (records_of s) an-entry.1
      ∙ ap opening_by (ap rows_in (records-spelled s) ∙ rows-read_back s whole typed)
      ∙ opens

pub kept-open : KeptRowsOpen
kept-open s whole typed = opening-again s whole typed
