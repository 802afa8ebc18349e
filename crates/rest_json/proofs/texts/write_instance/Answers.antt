use Rattle.std.proofs.Common.{◌≡◌, ℕ, List, [], ◌∷◌, ◌++◌, codes, IfOk, ap, ◌∙◌, subst}
use Rattle.json.specs.Print.{escape_byte, quoted}
use Rattle.serde_json.specs.Data.{boolean}
use Rattle.serde_json.specs.Written.{compact_text}
use Rattle.row_machine.specs.machine.StandingRules.{power_text}
use Rattle.rest_json.specs.Words.{power_code, instance_kind}
use Rattle.rest_json.specs.Moments.{moment_text}
use Rattle.rest_json.specs.Objects.{whole}
use Rattle.rest_json.specs.Settings.{settings_data, devices_data, texts_data}
use Rattle.rest_json.specs.Views.{instance_data}
use Rattle.rest_json.proofs.Gathered.{more, all_followed}
use Rattle.rest_json.proofs.texts.write_instance.Goals as goal

pub returns : goal.returns
unfolding instance_data escape_byte
returns c =
    let t1 = c.in_ok-plain.ensures in
    let t2 = more (compact_text (settings_data c.args.row.now.config)) c.in_ok-settings.ensures t1 in
    let t3 = more (codes ",\"created_at\":") c.in_ok-plain-2.ensures t2 in
    let t4 = more (quoted (moment_text c.args.row.now.created)) c.in_ok-moment.ensures t3 in
    let t5 = more (codes ",\"description\":") c.in_ok-plain-3.ensures t4 in
    let v5 : c.view.result.now ≡ c.args.row.now.description = c.view.ensures.value in
    let t6 = more (quoted c.args.row.now.description) (rw v5 at c.in_ok-string.ensures) t5 in
    let t7 = more (codes ",\"devices\":") c.in_ok-plain-4.ensures t6 in
    let t8 = more (compact_text (devices_data c.args.row.now.devices)) c.in_ok-devices.ensures t7 in
    let t9 = more (codes ",\"ephemeral\":") c.in_ok-plain-5.ensures t8 in
    let t10 = more (compact_text (boolean c.args.row.now.ephemeral)) c.in_ok-boolean.ensures t9 in
    let t11 = more (codes ",\"expanded_config\":") c.in_ok-plain-6.ensures t10 in
    let t12 = more (compact_text (settings_data c.args.config.now)) c.in_ok-settings-2.ensures t11 in
    let t13 = more (codes ",\"expanded_devices\":") c.in_ok-plain-7.ensures t12 in
    let t14 = more (compact_text (devices_data c.args.devices.now)) c.in_ok-devices-2.ensures t13 in
    let t15 = more (codes ",\"name\":") c.in_ok-plain-8.ensures t14 in
    let v15 : c.view-2.result.now ≡ c.args.row.now.name = c.view-2.ensures.value in
    let t16 = more (quoted c.args.row.now.name) (rw v15 at c.in_ok-string-2.ensures) t15 in
    let t17 = more (codes ",\"profiles\":") c.in_ok-plain-9.ensures t16 in
    let t18 = more (compact_text (texts_data c.args.row.now.profiles)) c.in_ok-texts.ensures t17 in
    let t19 = more (codes ",\"project\":") c.in_ok-plain-10.ensures t18 in
    let v19 : c.view-3.result.now ≡ c.args.row.now.project = c.view-3.ensures.value in
    let t20 = more (quoted c.args.row.now.project) (rw v19 at c.in_ok-string-3.ensures) t19 in
    let t21 = more (codes ",\"stateful\":false,\"status\":") c.in_ok-plain-11.ensures t20 in
    let t22 = more (quoted (power_text c.args.power)) (rw c.power_text.ensures at c.in_ok-string-4.ensures) t21 in
    let t23 = more (codes ",\"status_code\":") c.in_ok-plain-12.ensures t22 in
    let t24 = more (compact_text (whole (power_code c.args.power))) (rw c.power_code.ensures at c.in_ok-number.ensures) t23 in
    let t25 = more (codes ",\"type\":") c.in_ok-plain-13.ensures t24 in
    let t26 = more (quoted (instance_kind c.args.row.now.kind)) (rw c.instance_kind.ensures at c.in_ok-string-5.ensures) t25 in
    let all = all_followed c.args.text (codes "{\"config\":") ((compact_text (settings_data c.args.row.now.config)) ∷ (codes ",\"created_at\":") ∷ (quoted (moment_text c.args.row.now.created)) ∷ (codes ",\"description\":") ∷ (quoted c.args.row.now.description) ∷ (codes ",\"devices\":") ∷ (compact_text (devices_data c.args.row.now.devices)) ∷ (codes ",\"ephemeral\":") ∷ (compact_text (boolean c.args.row.now.ephemeral)) ∷ (codes ",\"expanded_config\":") ∷ (compact_text (settings_data c.args.config.now)) ∷ (codes ",\"expanded_devices\":") ∷ (compact_text (devices_data c.args.devices.now)) ∷ (codes ",\"name\":") ∷ (quoted c.args.row.now.name) ∷ (codes ",\"profiles\":") ∷ (compact_text (texts_data c.args.row.now.profiles)) ∷ (codes ",\"project\":") ∷ (quoted c.args.row.now.project) ∷ (codes ",\"stateful\":false,\"status\":") ∷ (quoted (power_text c.args.power)) ∷ (codes ",\"status_code\":") ∷ (compact_text (whole (power_code c.args.power))) ∷ (codes ",\"type\":") ∷ (quoted (instance_kind c.args.row.now.kind)) ∷ (codes "}") ∷ []) in
    subst (λ (b : List ℕ). IfOk c.plain-14.result (λ t. t ≡ b)) (ap (λ (t : List ℕ). t ++ codes "}") t26 ∙ all) c.plain-14.ensures
