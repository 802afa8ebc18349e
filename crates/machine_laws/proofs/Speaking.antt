-- Commands that change, rename or delete the object of their path: what the rules say of this object.
use Rattle.std.proofs.Common.{◌≡◌, ℕ, true, false, ◌&&◌, Option, Some, None, List, refl, sym, ap, ◌∙◌}
use Rattle.std.specs.Prelude.{option_and_then}
use Rattle.std.specs.Option.{is_some}
use Rattle.plain_lists.proofs.FirstLemmas.{told_if, not_mapped}
use Rattle.size_values.specs.declared.kinds.ObjectKind.TheVariants as kind
use Rattle.records.specs.declared.refusals.Refusal.{Refusal}
use Rattle.records.specs.declared.commands.Body.{Body}
use Rattle.records.specs.declared.commands.Target.{Target}
use Rattle.records.specs.declared.commands.What.{What}
use Rattle.records.specs.declared.commands.What.TheVariants as what
use Rattle.row_machine.specs.machine.State.{State}
use Rattle.row_machine.specs.machine.Rows.{project_named}
use Rattle.row_machine.specs.machine.Homes.{home_of}
use Rattle.row_machine.specs.machine.Asked.{object_of, instance_in, instance_changed}
use Rattle.row_machine.specs.machine.Holders.{busy_with, holder_of, first_user_of}
use Rattle.row_machine.specs.machine.NameRules.{what_is_missing, object_missing, parent_missing, is_there}
use Rattle.row_machine.specs.machine.Kinds.{is_in_project}
use Rattle.row_machine.specs.machine.StandingRules.{object_changed, instance_busy, object_protected, is_protected, object_used, project_occupied, must_be_empty, is_occupied, profile_held, held_profile, named_instance_busy}
use Rattle.machine_laws.proofs.Commands.{command_of, target}
use Rattle.machine_laws.proofs.Told.{AreNamesRight, IsWayFree, project-there, object-there}

-- a command is about the object of its path
pub record IsAbout (w : What) (of : Target) : Type 0 where
  pub speaks : object_of w ≡ Some of
  pub changed : object_changed w ≡ Some of
  pub objects : (s : State) (project : List ℕ) → what_is_missing s project w ≡ object_missing s project of
  pub instance : instance_changed w ≡ instance_in of

pub about-put : (of : Target) (body : Body) → IsAbout (what.Put of body) of
unfolding what_is_missing
about-put of body = record { speaks = refl; changed = refl; objects = λ s project. refl; instance = refl }

pub about-patch : (of : Target) (body : Body) → IsAbout (what.Patch of body) of
unfolding what_is_missing
about-patch of body = record { speaks = refl; changed = refl; objects = λ s project. refl; instance = refl }

pub about-move : (of : Target) (to : List ℕ) → IsAbout (what.Move of to) of
unfolding what_is_missing
about-move of to = record { speaks = refl; changed = refl; objects = λ s project. refl; instance = refl }

pub about-delete : (of : Target) → IsAbout (what.Delete of) of
unfolding what_is_missing
about-delete of = record { speaks = refl; changed = refl; objects = λ s project. refl; instance = refl }

-- ---- what the rules say

pub its-project : {s : State} {project : List ℕ} {expects : Option (List ℕ)} {w : What} {of : Target} → IsAbout w of → AreNamesRight s (command_of project expects w) → is_in_project of.kind ≡ true
    → is_some (project_named s.projects project) ≡ true
its-project {s} {project} {expects} {w} {of} about names belongs = project-there s (command_of project expects w) of about.speaks belongs names.project

pub it-is_there : {s : State} {project : List ℕ} {expects : Option (List ℕ)} {w : What} {of : Target} → IsAbout w of → AreNamesRight s (command_of project expects w)
    → (parent_missing s project of ≡ None) × (is_there s project of ≡ true)
it-is_there {s} {project} {expects} {w} {of} about names = object-there s project of (sym (about.objects s project) ∙ names.objects)

-- a rule of the changed object
rule-of : (rule : Target → Option Refusal) (o : Option Target) (of : Target) → o ≡ Some of → option_and_then rule o ≡ None → rule of ≡ None
rule-of rule o of is e = ap (option_and_then rule) (sym is) ∙ e

pub it-is_unprotected : {s : State} {project : List ℕ} {expects : Option (List ℕ)} {w : What} {of : Target} → IsAbout w of → IsWayFree s (command_of project expects w)
    → is_protected s (command_of project expects w) of ≡ false
unfolding object_protected
it-is_unprotected {s} {project} {expects} {w} {of} about way = told_if _ _ (rule-of _ (object_changed w) of about.changed way.unprotected)

pub it-is_empty : {s : State} {project : List ℕ} {expects : Option (List ℕ)} {w : What} {of : Target} → IsAbout w of → IsWayFree s (command_of project expects w)
    → (must_be_empty s w of && is_occupied s of.name) ≡ false
unfolding project_occupied
it-is_empty {s} {project} {expects} {w} {of} about way = told_if _ _ (rule-of _ (object_changed w) of about.changed way.empty)

pub it-is_unheld : {s : State} {project pool instance name : List ℕ} {expects : Option (List ℕ)} {w : What} → IsAbout w (target kind.Profile pool instance name)
    → IsWayFree s (command_of project expects w) → holder_of s (home_of s.projects project kind.Profile) name ≡ None
unfolding profile_held
it-is_unheld {s} {project} {pool} {instance} {name} {expects} {w} about way =
    not_mapped _ _ (rule-of (held_profile s (command_of project expects w)) (object_changed w) (target kind.Profile pool instance name) about.changed way.unheld)

pub it-is_idle : {s : State} {project : List ℕ} {expects : Option (List ℕ)} {w : What} {of : Target} (name : List ℕ) → IsAbout w of → IsWayFree s (command_of project expects w)
    → instance_in of ≡ Some name → busy_with s project name ≡ None
unfolding instance_busy
it-is_idle {s} {project} {expects} {w} {of} name about way is =
    not_mapped _ _ (ap (option_and_then (named_instance_busy s project)) (sym (about.instance ∙ is)) ∙ way.idle)

pub rename-unused : {s : State} {project to : List ℕ} {expects : Option (List ℕ)} {of : Target} → IsWayFree s (command_of project expects (what.Move of to))
    → first_user_of s (home_of s.projects project of.kind) of ≡ None
unfolding object_used
rename-unused way = not_mapped _ _ way.unused

pub deletion-unused : {s : State} {project : List ℕ} {expects : Option (List ℕ)} {of : Target} → IsWayFree s (command_of project expects (what.Delete of))
    → first_user_of s (home_of s.projects project of.kind) of ≡ None
unfolding object_used
deletion-unused way = not_mapped _ _ way.unused
