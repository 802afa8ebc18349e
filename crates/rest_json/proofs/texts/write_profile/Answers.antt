use Rattle.std.proofs.Common.{◌≡◌, ℕ, List, [], ◌∷◌, ◌++◌, codes, IfOk, ap, ◌∙◌, subst}
use Rattle.json.specs.Print.{escape_byte, quoted}
use Rattle.serde_json.specs.Written.{compact_text}
use Rattle.rest_json.specs.Settings.{settings_data, devices_data, texts_data}
use Rattle.rest_json.specs.Views.{profile_data}
use Rattle.rest_json.proofs.Gathered.{more, all_followed}
use Rattle.rest_json.proofs.texts.write_profile.Goals as goal

pub returns : goal.returns
unfolding profile_data escape_byte
returns c =
    let t1 = c.in_ok-plain.ensures in
    let t2 = more (compact_text (settings_data c.args.row.now.config)) c.in_ok-settings.ensures t1 in
    let t3 = more (codes ",\"description\":") c.in_ok-plain-2.ensures t2 in
    let v3 : c.view.result.now ≡ c.args.row.now.description = c.view.ensures.value in
    let t4 = more (quoted c.args.row.now.description) (rw v3 at c.in_ok-string.ensures) t3 in
    let t5 = more (codes ",\"devices\":") c.in_ok-plain-3.ensures t4 in
    let t6 = more (compact_text (devices_data c.args.row.now.devices)) c.in_ok-devices.ensures t5 in
    let t7 = more (codes ",\"name\":") c.in_ok-plain-4.ensures t6 in
    let v7 : c.view-2.result.now ≡ c.args.row.now.name = c.view-2.ensures.value in
    let t8 = more (quoted c.args.row.now.name) (rw v7 at c.in_ok-string-2.ensures) t7 in
    let t9 = more (codes ",\"project\":") c.in_ok-plain-5.ensures t8 in
    let v9 : c.view-3.result.now ≡ c.args.row.now.project = c.view-3.ensures.value in
    let t10 = more (quoted c.args.row.now.project) (rw v9 at c.in_ok-string-3.ensures) t9 in
    let t11 = more (codes ",\"used_by\":") c.in_ok-plain-6.ensures t10 in
    let t12 = more (compact_text (texts_data c.args.used.now)) c.in_ok-texts.ensures t11 in
    let all = all_followed c.args.text (codes "{\"config\":") ((compact_text (settings_data c.args.row.now.config)) ∷ (codes ",\"description\":") ∷ (quoted c.args.row.now.description) ∷ (codes ",\"devices\":") ∷ (compact_text (devices_data c.args.row.now.devices)) ∷ (codes ",\"name\":") ∷ (quoted c.args.row.now.name) ∷ (codes ",\"project\":") ∷ (quoted c.args.row.now.project) ∷ (codes ",\"used_by\":") ∷ (compact_text (texts_data c.args.used.now)) ∷ (codes "}") ∷ []) in
    subst (λ (b : List ℕ). IfOk c.plain-7.result (λ t. t ≡ b)) (ap (λ (t : List ℕ). t ++ codes "}") t12 ∙ all) c.plain-7.ensures
