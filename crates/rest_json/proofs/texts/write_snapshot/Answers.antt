use Rattle.std.proofs.Common.{◌≡◌, ℕ, List, [], ◌∷◌, ◌++◌, codes, IfOk, ap, ◌∙◌, subst}
use Rattle.json.specs.Print.{escape_byte, quoted}
use Rattle.serde_json.specs.Written.{compact_text}
use Rattle.rest_json.specs.Moments.{moment_text}
use Rattle.rest_json.specs.Settings.{settings_data, devices_data, texts_data}
use Rattle.rest_json.specs.Views.{snapshot_data, expiry_text}
use Rattle.rest_json.proofs.Gathered.{more, all_followed}
use Rattle.rest_json.proofs.texts.write_snapshot.Goals as goal

pub returns : goal.returns
unfolding snapshot_data escape_byte
returns c =
    let t1 = c.in_ok-plain.ensures in
    let t2 = more (compact_text (settings_data c.args.row.now.config)) c.in_ok-settings.ensures t1 in
    let t3 = more (codes ",\"created_at\":") c.in_ok-plain-2.ensures t2 in
    let t4 = more (quoted (moment_text c.args.row.now.created)) c.in_ok-moment.ensures t3 in
    let t5 = more (codes ",\"devices\":") c.in_ok-plain-3.ensures t4 in
    let t6 = more (compact_text (devices_data c.args.row.now.devices)) c.in_ok-devices.ensures t5 in
    let t7 = more (codes ",\"expires_at\":") c.in_ok-text.ensures t6 in
    let t8 = more (quoted (expiry_text c.args.row.now.expires)) c.in_ok-write_expiry.ensures t7 in
    let t9 = more (codes ",\"name\":") c.in_ok-plain-4.ensures t8 in
    let v9 : c.view.result.now ≡ c.args.row.now.name = c.view.ensures.value in
    let t10 = more (quoted c.args.row.now.name) (rw v9 at c.in_ok-string.ensures) t9 in
    let t11 = more (codes ",\"profiles\":") c.in_ok-plain-5.ensures t10 in
    let t12 = more (compact_text (texts_data c.args.row.now.profiles)) c.in_ok-texts.ensures t11 in
    let all = all_followed c.args.text (codes "{\"config\":") ((compact_text (settings_data c.args.row.now.config)) ∷ (codes ",\"created_at\":") ∷ (quoted (moment_text c.args.row.now.created)) ∷ (codes ",\"devices\":") ∷ (compact_text (devices_data c.args.row.now.devices)) ∷ (codes ",\"expires_at\":") ∷ (quoted (expiry_text c.args.row.now.expires)) ∷ (codes ",\"name\":") ∷ (quoted c.args.row.now.name) ∷ (codes ",\"profiles\":") ∷ (compact_text (texts_data c.args.row.now.profiles)) ∷ (codes ",\"stateful\":false}") ∷ []) in
    subst (λ (b : List ℕ). IfOk c.plain-7.result (λ t. t ≡ b)) (ap (λ (t : List ℕ). t ++ codes ",\"stateful\":false}") t12 ∙ all) c.plain-7.ensures
