use Rattle.std.proofs.Common.{◌≡◌, ℕ, List, [], ◌∷◌, ◌++◌, codes, IfOk, ap, ◌∙◌, subst}
use Rattle.json.specs.Print.{escape_byte, quoted}
use Rattle.serde_json.specs.Written.{compact_text}
use Rattle.row_machine.specs.machine.StandingRules.{power_text}
use Rattle.rest_json.specs.Words.{power_code}
use Rattle.rest_json.specs.Objects.{whole}
use Rattle.rest_json.specs.Views.{power_data}
use Rattle.rest_json.proofs.Gathered.{more, all_followed}
use Rattle.rest_json.proofs.texts.write_power.Goals as goal

pub returns : goal.returns
unfolding power_data escape_byte
returns c =
    let t1 = c.in_ok-plain.ensures in
    let t2 = more (quoted (power_text c.args.power)) (rw c.power_text.ensures at c.in_ok-string.ensures) t1 in
    let t3 = more (codes ",\"status_code\":") c.in_ok-plain-2.ensures t2 in
    let t4 = more (compact_text (whole (power_code c.args.power))) (rw c.power_code.ensures at c.in_ok-number.ensures) t3 in
    let all = all_followed c.args.text (codes "{\"status\":") ((quoted (power_text c.args.power)) ∷ (codes ",\"status_code\":") ∷ (compact_text (whole (power_code c.args.power))) ∷ (codes "}") ∷ []) in
    subst (λ (b : List ℕ). IfOk c.plain-3.result (λ t. t ≡ b)) (ap (λ (t : List ℕ). t ++ codes "}") t4 ∙ all) c.plain-3.ensures
