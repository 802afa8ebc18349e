-- Settings and root disks while operations go on, end, and begin.
use Rattle.std.proofs.Common.{◌≡◌, ℕ, Option, Some, None, List, [], ◌∷◌, ◌++◌, ◌⊎◌, refl, sym, ◌∙◌, ap, subst, inl, inr}
use Rattle.std.specs.Prelude.{is_some}
use Rattle.std.specs.List.{cons_option}
use Rattle.std.proofs.lemmas.List.Elements.{filter_map-append}
use Rattle.instance_states.specs.Plans.{undo_of}
use Rattle.operations.specs.declared.operation.OpFault.TheVariants as op_fault
use Rattle.operations.specs.declared.status.Status.TheVariants as status
use Rattle.std.specs.Option.{option_to_list}
use Rattle.plain_lists.specs.Members.{Mem, Each}
use Rattle.plain_lists.specs.Edits.{dropped}
use Rattle.plain_lists.proofs.Elements.{Each-append, Each-map, Mem-append, Mem-left, Mem-right}
use Rattle.operations.specs.declared.operation.Operation.{Operation}
use Rattle.operations.specs.OperationTable.{OperationTable, has_number}
use Rattle.records.specs.declared.notices.Notice.{Notice}
use Rattle.records.specs.declared.rows.Instance.{Instance}
use Rattle.records.specs.declared.rows.Row.{Row}
use Rattle.records.specs.declared.rows.Row.TheVariants as row
use Rattle.row_machine.specs.machine.Task.{Task}
use Rattle.row_machine.specs.machine.State.{State, InstancePower}
use Rattle.row_machine.specs.opening.Records.{rows_of}
use Rattle.row_machine.specs.machine.Claims.{of_live, claimed_instance, judged_instances}
use Rattle.row_machine.specs.machine.SettingRules.{root_missing, settings_broken}
use Rattle.row_machine.specs.machine.Operations.{claiming, entered}
use Rattle.row_machine.specs.facts.Whole.{AreSettled, claims_of}
use Rattle.machine_laws.proofs.Expansions.{root-alike}
use Rattle.machine_laws.proofs.ExpansionsNamed.{claim-is}
use Rattle.machine_laws.proofs.ExpansionsRows.{alike-rows}
use Rattle.machine_laws.proofs.LimitsJudged.{live-fewer}
use Rattle.machine_laws.proofs.SettingsRows.{IsTabled, accepted-any, puts-accepted, put-root}
use Rattle.machine_laws.proofs.SharesCores.{cores, of_cores}

-- what the tables say of rows and claims
pub tabled-rows : (s : State) → AreSettled s → Each (IsTabled s) (rows_of s)
tabled-rows s h = record {
  at = λ r m. record {
    settings = h.settings.at r (Mem-left r (rows_of s) (claims_of s) m);
    devices = h.devices.at r (Mem-left r (rows_of s) (claims_of s) m);
  };
}

pub tabled-claims : (s : State) → AreSettled s → Each (IsTabled s) (claims_of s)
tabled-claims s h = record {
  at = λ r m. record {
    settings = h.settings.at r (Mem-right r (rows_of s) (claims_of s) m);
    devices = h.devices.at r (Mem-right r (rows_of s) (claims_of s) m);
  };
}

-- from rows, claims and root disks
pub settled-by : (s t : State) → Each (IsTabled s) (rows_of t) → Each (IsTabled s) (claims_of t) → ((i : Instance) → Mem i (judged_instances t) → root_missing t i ≡ None) → AreSettled t
settled-by s t rows claims roots = record {
  settings = Each-append (Each-map (λ r h. (accepted-any s t r h).settings) rows) (Each-map (λ r h. (accepted-any s t r h).settings) claims);
  devices = Each-append (Each-map (λ r h. (accepted-any s t r h).devices) rows) (Each-map (λ r h. (accepted-any s t r h).devices) claims);
  roots = record { at = roots };
}

-- where projects and profiles stay, and no more is judged
pub settled-fewer : (s t : State) → t.projects ≡ s.projects → t.profiles ≡ s.profiles → Each (IsTabled s) (rows_of t)
    → ((r : Row) → Mem r (claims_of t) → Mem r (claims_of s)) → ((i : Instance) → Mem i (judged_instances t) → Mem i (judged_instances s)) → AreSettled s → AreSettled t
settled-fewer s t projects profiles rows claims judged h = settled-by s t rows
    (record { at = λ r m. (tabled-claims s h).at r (claims r m) })
    (λ i m. root-alike (alike-rows s t i projects profiles) ∙ h.roots.at i (judged i m))

-- operations with the same cores
pub settled-cores : (s : State) (k : OperationTable Task) → cores k ≡ cores s.operations → AreSettled s → AreSettled (record s { operations = k })
unfolding judged_instances
settled-cores s k same h = settled-fewer s (record s { operations = k }) refl refl (tabled-rows s h)
    (λ r m. subst (Mem r) (of_cores (λ task. task.claim) (λ task. refl) s (record s { operations = k }) same) m)
    (λ i m. subst (λ xs. Mem i (s.instances ++ xs)) (of_cores claimed_instance (λ task. refl) s (record s { operations = k }) same) m) h

-- one ended
pub settled-ended : (s t : State) (n : ℕ) → t.projects ≡ s.projects → t.profiles ≡ s.profiles → t.operations.live ≡ dropped (has_number n) s.operations.live
    → Each (IsTabled s) (rows_of t) → ((i : Instance) → Mem i (judged_instances t) → Mem i (judged_instances s)) → AreSettled s → AreSettled t
settled-ended s t n projects profiles rest rows judged h = settled-fewer s t projects profiles rows
    (λ r m. live-fewer (λ task. task.claim) s t n r rest m) judged h

-- what statuses and notices leave
pub settled-powers : (s : State) (powers : List InstancePower) → AreSettled s → AreSettled (record s { powers = powers })
unfolding judged_instances
settled-powers s powers h = settled-fewer s (record s { powers = powers }) refl refl (tabled-rows s h) (λ r m. m) (λ i m. m) h

pub settled-notices : (s : State) (notices : List Notice) (next : ℕ) → AreSettled s → AreSettled (record s { notices = notices; next_notice = next })
unfolding judged_instances
settled-notices s notices next h = settled-fewer s (record s { notices = notices; next_notice = next }) refl refl (tabled-rows s h) (λ r m. m) (λ i m. m) h

-- ---- an operation begins

-- the operation that begins
abbrev pub new_operation : State → Task → ℕ → Operation Task
new_operation s task moment = record {
  number = s.operations.next;
  created = moment;
  updated = moment;
  status = status.Pending;
  may_cancel = is_some (undo_of task.deed);
  fault = op_fault.None;
  work = task;
}

-- what is read of one more operation
more-read : {X : Type 0} (read : Task → Option X) (s : State) (task : Task) (moment : ℕ) (x : X) → Mem x (of_live read (claiming s task moment))
    → Mem x (of_live read s) ⊎ (read task ≡ Some x)
more-read {X} read s task moment x m =
    at (Mem-append x (of_live read s) (cons_option (read task) [])
    (subst (Mem x) (filter_map-append (λ (o : Operation Task). read o.work) s.operations.live (new_operation s task moment ∷ [])) m)) where
      one : (o : Option X) → read task ≡ o → Mem x (cons_option o []) → read task ≡ Some x
      one None is n = absurd n
      one (Some y) is (inl e) = is ∙ ap Some (sym e)
      one (Some y) is (inr never) = absurd never

      at : Mem x (of_live read s) ⊎ Mem x (cons_option (read task) []) → Mem x (of_live read s) ⊎ (read task ≡ Some x)
      at (inl old) = inl old
      at (inr new) = inr (one (read task) refl new)

-- the claim was judged with the state
pub settled-entered : (s : State) (task : Task) (moment : ℕ) → settings_broken (claiming s task moment) (option_to_list task.claim) ≡ None
    → AreSettled s → AreSettled (entered s task moment)
unfolding entered judged_instances
settled-entered s task moment judged h = settled-by s (entered s task moment) (tabled-rows s h) (record { at = claims }) roots where
  listed : (r : Row) → task.claim ≡ Some r → Mem r (option_to_list task.claim)
  listed r is = subst (λ c. Mem r (option_to_list c)) (sym is) (inl refl)

  claims : (r : Row) → Mem r (claims_of (entered s task moment)) → IsTabled s r
  claims r m = at (more-read (λ t. t.claim) s task moment r m) where
    at : Mem r (claims_of s) ⊎ (task.claim ≡ Some r) → IsTabled s r
    at (inl old) = (tabled-claims s h).at r old
    at (inr is) = accepted-any (claiming s task moment) s r ((puts-accepted (claiming s task moment) (option_to_list task.claim) judged).at r (listed r is))

  standing : (i : Instance) → Mem i (s.instances ++ of_live claimed_instance s) → root_missing (entered s task moment) i ≡ None
  standing i m = root-alike (alike-rows s (entered s task moment) i refl refl) ∙ h.roots.at i m

  roots : (i : Instance) → Mem i (s.instances ++ of_live claimed_instance (claiming s task moment)) → root_missing (entered s task moment) i ≡ None
  roots i m = at (Mem-append i s.instances (of_live claimed_instance (claiming s task moment)) m) where
    new : claimed_instance task ≡ Some i → root_missing (entered s task moment) i ≡ None
    new is = root-alike (alike-rows (claiming s task moment) (entered s task moment) i refl refl)
        ∙ put-root (claiming s task moment) (option_to_list task.claim) i judged (listed (row.Instance i) (claim-is task i is))

    at : Mem i s.instances ⊎ Mem i (of_live claimed_instance (claiming s task moment)) → root_missing (entered s task moment) i ≡ None
    at (inl there) = standing i (Mem-left i s.instances (of_live claimed_instance s) there)
    at (inr claim) = by (more-read claimed_instance s task moment i claim) where
      by : Mem i (of_live claimed_instance s) ⊎ (claimed_instance task ≡ Some i) → root_missing (entered s task moment) i ≡ None
      by (inl old) = standing i (Mem-right i s.instances (of_live claimed_instance s) old)
      by (inr is) = new is
