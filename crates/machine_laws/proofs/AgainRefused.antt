-- A creation that is sent again is refused.
use Rattle.std.proofs.Common.{◌≡◌, ◌≢◌, ◌⊎◌, inl, inr, ℕ, ◌==◌, Bool, true, false, cond, Option, Some, None, List, [], ◌∷◌, length, refl, sym, ap, subst, ◌∙◌, arith}
use Rattle.std.specs.Option.{option_map, option_map_or, option_or, option_and_then, is_some}
use Rattle.std.proofs.lemmas.Bool.{eqb-true}
use Rattle.size_values.specs.declared.kinds.ObjectKind.{ObjectKind}
use Rattle.size_values.specs.declared.kinds.ObjectKind.TheVariants as kind
use Rattle.estate_rules.specs.Names.{good_name_of}
use Rattle.records.specs.declared.commands.Target.{Target}
use Rattle.records.specs.declared.commands.Body.{Body}
use Rattle.records.specs.declared.commands.Command.{Command}
use Rattle.records.specs.declared.commands.What.TheVariants as what
use Rattle.records.specs.declared.refusals.Refusal.{Refusal}
use Rattle.records.specs.declared.refusals.Rule.TheVariants as rule
use Rattle.records.specs.declared.replies.Reply.TheVariants as reply
use Rattle.operations.specs.declared.operation.Operation.{Operation}
use Rattle.row_machine.specs.declared.events.Answer.TheVariants as answer
use Rattle.row_machine.specs.machine.Task.{Task}
use Rattle.row_machine.specs.machine.State.{State}
use Rattle.row_machine.specs.machine.Asked.{new_name_of, with_name, next_snapshot}
use Rattle.row_machine.specs.machine.Rows.{instance_named}
use Rattle.row_machine.specs.machine.Refusals.{on_object, on_held}
use Rattle.row_machine.specs.machine.NameRules.{project_missing, what_is_missing, name_broken, name_malformed, name_taken, name_held, is_there}
use Rattle.row_machine.specs.machine.Expectations.{not_as_expected, object_at, version_passed}
use Rattle.row_machine.specs.machine.Rules.{names_broken}
use Rattle.row_machine.specs.machine.Rules.{standing_broken}
use Rattle.row_machine.specs.machine.Plans.{plan_of}
use Rattle.row_machine.specs.machine.Rules.{broken, plan_broken}
use Rattle.row_machine.specs.machine.Accept.{and_then}
use Rattle.row_machine.specs.machine.Step.{step, well, after_command}
use Rattle.machine_laws.proofs.Found.{there-is}
use Rattle.machine_laws.specs.Again.{StandsAlready, SentAgain}

-- ---- the first of several answers

-- what one gives is given, first or after another
over : {R : Type 0} (a b : Option R) → is_some b ≡ true → is_some (option_or a b) ≡ true
over None b e = e
over (Some x) b e = refl

front : {R : Type 0} (a b : Option R) → is_some a ≡ true → is_some (option_or a b) ≡ true
front None b e = cc
front (Some x) b e = refl

-- ---- the name

-- a new snapshot that is named keeps its name
keeps-name : (s : State) (project : List ℕ) (of : Target) → of.name ≢ [] → with_name s project of ≡ of
keeps-name s project of named = by (length of.name == 0) refl where
  empty : (text : List ℕ) → length text ≡ 0 → text ≡ []
  empty [] e = refl
  empty (x ∷ xs) e = absurd (let long : length (x ∷ xs) ≡ 0 = e in omega arith)

  by : (b : Bool) → (length of.name == 0) ≡ b → with_name s project of ≡ of
  by true e = absurd (named (empty of.name (eqb-true (length of.name) 0 e)))
  by false e = ap (λ b. cond b (option_map_or (λ i. record of { name = next_snapshot s i }) (instance_named s.instances project of.instance) of) of) e

anew : (s : State) (project : List ℕ) (k : ObjectKind) (of : Target) (body : Body) → (k ≡ kind.Snapshot → of.name ≢ [])
    → new_name_of s project (what.Create (record of { kind = k }) body) ≡ Some (record of { kind = k })
anew s project kind.Project of body named = refl
anew s project kind.Profile of body named = refl
anew s project kind.Network of body named = refl
anew s project kind.Pool of body named = refl
anew s project kind.Volume of body named = refl
anew s project kind.Instance of body named = refl
anew s project kind.Snapshot of body named = ap Some (keeps-name s project (record of { kind = kind.Snapshot }) (named refl))
anew s project kind.Operation of body named = refl

-- ---- the rule

stands-broken : (s : State) (project : List ℕ) (of : Target) → StandsAlready s project of → is_some (name_broken s project of) ≡ true
unfolding name_broken
stands-broken s project of (inl there) = over (name_malformed of) _ (front (name_taken s project of) _ (ap (λ b. is_some (cond b (Some (on_object rule.N4 of.kind of.name)) None)) there))
stands-broken s project of (inr claimed) = over (name_malformed of) _ (over (name_taken s project of) _ (front (name_held s project of) None claimed))

-- of a good name it is N4 or N5
its-rule : (s : State) (project : List ℕ) (of : Target) (refusal : Refusal) → good_name_of of.kind of.name ≡ true → name_broken s project of ≡ Some refusal
    → (refusal.rule ≡ rule.N4) ⊎ (refusal.rule ≡ rule.N5)
unfolding name_broken
its-rule s project of refusal good is = at (is_there s project of) refl where
  some-is : {x y : Refusal} → Some x ≡ Some y → x ≡ y
  some-is e = cc

  rest : option_or (name_taken s project of) (option_or (name_held s project of) None) ≡ Some refusal
  rest = sym (ap (λ b. option_or (cond b None (Some (on_object rule.N3 of.kind of.name))) (option_or (name_taken s project of) (option_or (name_held s project of) None))) good) ∙ is

  claimed : (o : Option (Operation Task)) → option_or (option_map (λ (x : Operation Task). on_held rule.N5 of.kind of.name x.number) o) None ≡ Some refusal
      → refusal.rule ≡ rule.N5
  claimed None e = cc
  claimed (Some o) e = ap (λ (x : Refusal). x.rule) (sym (some-is e))

  at : (b : Bool) → is_there s project of ≡ b → (refusal.rule ≡ rule.N4) ⊎ (refusal.rule ≡ rule.N5)
  at true there = inl (ap (λ (x : Refusal). x.rule)
      (sym (some-is (sym (ap (λ b. option_or (cond b (Some (on_object rule.N4 of.kind of.name)) None) (option_or (name_held s project of) None)) there) ∙ rest))))
  at false there = inr (claimed _
      (sym (ap (λ b. option_or (cond b (Some (on_object rule.N4 of.kind of.name)) None) (option_or (name_held s project of) None)) there) ∙ rest))

-- ---- the whole answer

refused : (s : State) (c : Command) (moment : ℕ) (r : Option Refusal) → broken s c moment ≡ r → is_some r ≡ true
    → (refusal : Refusal) × ((broken s c moment ≡ Some refusal) × (after_command s c moment well (broken s c moment) ≡ Some (and_then (answer.Reply (reply.Refused refusal)) s)))
refused s c moment None is some = cc
refused s c moment (Some refusal) is some = (refusal, (is, ap (after_command s c moment well) is))

-- a creation expects nothing of its object
expects-nothing : (s : State) (c : Command) (of : Target) (body : Body) → c.what ≡ what.Create of body → not_as_expected s c ≡ None
unfolding not_as_expected
expects-nothing s c of body is = ap (λ w. option_and_then (λ tag. option_and_then (version_passed s c.project tag) (object_at w)) c.expects) is ∙ none c.expects where
  none : (tag : Option (List ℕ)) → option_and_then (λ tag. option_and_then (version_passed s c.project tag) (object_at (what.Create of body))) tag ≡ None
  none None = refl
  none (Some tag) = refl

-- the rules on names, where those before the name are not broken
by-name : (s : State) (c : Command) (of : Target) (x : Refusal) → new_name_of s c.project c.what ≡ Some of → name_broken s c.project of ≡ Some x
    → project_missing s c ≡ None → what_is_missing s c.project c.what ≡ None → not_as_expected s c ≡ None → names_broken s c ≡ Some x
unfolding names_broken
by-name s c of x anew is project objects expected =
    let name = option_or (option_and_then (name_broken s c.project) (new_name_of s c.project c.what)) None in
    ap (λ p. option_or p (option_or (what_is_missing s c.project c.what) (option_or (not_as_expected s c) name))) project
    ∙ ap (λ o. option_or o (option_or (not_as_expected s c) name)) objects
    ∙ ap (λ e. option_or e name) expected
    ∙ ap (λ t. option_or (option_and_then (name_broken s c.project) t) None) anew
    ∙ ap (λ n. option_or n None) is

broken-names : (s : State) (c : Command) (moment : ℕ) → is_some (names_broken s c) ≡ true → is_some (broken s c moment) ≡ true
unfolding broken
broken-names s c moment e = front (names_broken s c) _ e

broken-first : (s : State) (c : Command) (moment : ℕ) (x : Refusal) → names_broken s c ≡ Some x → broken s c moment ≡ Some x
unfolding broken
broken-first s c moment x e = ap (λ n. option_or n (option_or (standing_broken s c) (option_or (plan_broken s c (plan_of s c moment) moment) None))) e

name-broken : (s : State) (c : Command) (of : Target) → new_name_of s c.project c.what ≡ Some of → is_some (name_broken s c.project of) ≡ true → is_some (names_broken s c) ≡ true
unfolding names_broken
name-broken s c of anew e =
    over (project_missing s c) _ (over (what_is_missing s c.project c.what) _ (over (not_as_expected s c) _
    (front (option_and_then (name_broken s c.project) (new_name_of s c.project c.what)) None
    (ap (λ t. is_some (option_and_then (name_broken s c.project) t)) anew ∙ e))))

pub sent-again : SentAgain
unfolding step
sent-again s c moment of body is named stands = record { refusal = answered.0; answer = answered.1.1; rule = its } where
  given : new_name_of s c.project c.what ≡ Some of
  given = ap (new_name_of s c.project) is ∙ anew s c.project of.kind of body named

  some : is_some (name_broken s c.project of) ≡ true
  some = stands-broken s c.project of stands

  answered : (refusal : Refusal) × ((broken s c moment ≡ Some refusal) × (after_command s c moment well (broken s c moment) ≡ Some (and_then (answer.Reply (reply.Refused refusal)) s)))
  answered = refused s c moment (broken s c moment) refl (broken-names s c moment (name-broken s c of given some))

  some-is : {x y : Refusal} → Some x ≡ Some y → x ≡ y
  some-is e = cc

  its : project_missing s c ≡ None → what_is_missing s c.project c.what ≡ None → good_name_of of.kind of.name ≡ true
      → (answered.0.rule ≡ rule.N4) ⊎ (answered.0.rule ≡ rule.N5)
  its project objects good =
      let found = there-is (name_broken s c.project of) some in
      let same : found.0 ≡ answered.0 = some-is (sym (broken-first s c moment found.0 (by-name s c of found.0 given found.1 project objects (expects-nothing s c of body is))) ∙ answered.1.0) in
      subst (λ (x : Refusal). (x.rule ≡ rule.N4) ⊎ (x.rule ≡ rule.N5)) same (its-rule s c.project of found.0 good found.1)
