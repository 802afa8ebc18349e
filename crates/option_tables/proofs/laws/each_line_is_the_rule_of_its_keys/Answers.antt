use Rattle.std.proofs.Common.{◌≡◌, ℕ, List, true, map, inl, inr, ap, ◌∙◌, refl}
use Rattle.std.specs.Option.{option_map}
use Rattle.plain_lists.specs.Members.{Mem}
use Rattle.option_tables.specs.declared.form.Form.{Form}
use Rattle.option_tables.specs.declared.tables.DeviceType.TheVariants as device
use Rattle.option_tables.specs.Tables.{instance_lines, project_lines, network_lines, pool_lines, volume_lines, device_lines, is_for}
use Rattle.option_tables.specs.Apart.{are_apart, plain_tables}
use Rattle.option_tables.proofs.Alone.{alone}
use Rattle.option_tables.proofs.laws.each_line_is_the_rule_of_its_keys.Goals as goal

-- no two lines of instances meet: this is computed over the whole table
instance_apart : are_apart (map (λ line. line.0) instance_lines) ≡ true
unfolding instance_lines
instance_apart = refl

project_apart : are_apart (map (λ line. line.0) project_lines) ≡ true
unfolding project_lines
project_apart = refl

network_apart : are_apart (map (λ line. line.0) network_lines) ≡ true
unfolding network_lines
network_apart = refl

pool_apart : are_apart (map (λ line. line.0) pool_lines) ≡ true
unfolding pool_lines
pool_apart = refl

volume_apart : are_apart (map (λ line. line.0) volume_lines) ≡ true
unfolding volume_lines
volume_apart = refl

disk_apart : are_apart (map (λ line. line.0) (device_lines device.Disk)) ≡ true
unfolding device_lines
disk_apart = refl

nic_apart : are_apart (map (λ line. line.0) (device_lines device.Nic)) ≡ true
unfolding device_lines
nic_apart = refl

gpu_apart : are_apart (map (λ line. line.0) (device_lines device.Gpu)) ≡ true
unfolding device_lines
gpu_apart = refl

proxy_apart : are_apart (map (λ line. line.0) (device_lines device.Proxy)) ≡ true
unfolding device_lines
proxy_apart = refl

unix_apart : are_apart (map (λ line. line.0) (device_lines device.Unix)) ≡ true
unfolding device_lines
unix_apart = refl

usb_apart : are_apart (map (λ line. line.0) (device_lines device.Usb)) ≡ true
unfolding device_lines
usb_apart = refl

along : (lines table : List (List ℕ × Form)) → lines ≡ table → are_apart (map (λ line. line.0) table) ≡ true → are_apart (map (λ line. line.0) lines) ≡ true
along lines table is apart = ap (λ l. are_apart (map (λ line. line.0) l)) is ∙ apart

-- nor do two lines of any other table
plain_apart : (lines : List (List ℕ × Form)) → Mem lines plain_tables → are_apart (map (λ line. line.0) lines) ≡ true
plain_apart lines more = elim more [ inl is ↦ along lines _ is project_apart | inr more ↦ elim more [ inl is ↦ along lines _ is network_apart | inr more ↦ elim more [ inl is ↦ along lines _ is pool_apart | inr more ↦ elim more [ inl is ↦ along lines _ is volume_apart | inr more ↦ elim more [ inl is ↦ along lines _ is disk_apart | inr more ↦ elim more [ inl is ↦ along lines _ is nic_apart | inr more ↦ elim more [ inl is ↦ along lines _ is gpu_apart | inr more ↦ elim more [ inl is ↦ along lines _ is proxy_apart | inr more ↦ elim more [ inl is ↦ along lines _ is unix_apart | inr more ↦ elim more [ inl is ↦ along lines _ is usb_apart | inr more ↦ absurd more ] ] ] ] ] ] ] ] ] ]

pub returns-clause-instance : goal.returns-clause-instance
returns-clause-instance c place line checked key at fits taken =
    ap (option_map (λ l. l.1)) (alone (λ l. l.0) (λ l. is_for checked l.2) key instance_lines place line instance_apart at fits taken)

pub returns-clause-others : goal.returns-clause-others
returns-clause-others c lines among place line key at taken =
    ap (option_map (λ l. l.1)) (alone (λ l. l.0) (λ _. true) key lines place line (plain_apart lines among) at refl taken)
