-- The lists of rows that are read are those that were written, with the facts that rows state of them.
use Rattle.std.proofs.Common.{◌≡◌, ◌≢◌, ℕ, true, false, cond, List, [], ◌∷◌, ◌++◌, length, Option, Some, None, Ok, refl, ap, subst, ◌∙◌, append_assoc, arith}
use Rattle.std.specs.List.{AllByRecursion}
use Rattle.std.specs.Str.{IsUtf8}
use Rattle.std.proofs.lemmas.Bool.Decides.{nat_tests}
use Rattle.std.proofs.lemmas.List.Elements.{All-from_recursion, recursion_from_All}
use Rattle.config_lists.specs.Settings.{Settings, IsFull}
use Rattle.config_lists.specs.Devices.{NamedDevices}
use Rattle.row_codec.specs.Spelling.{text_bytes, setting_bytes, settings_bytes, device_bytes, devices_bytes, texts_bytes}
use Rattle.row_codec.specs.Rows.{IsShort, AreShortTexts, AreShortSettings, AreShortDevices, AreUtf8, AreTypedSettings, AreTypedDevices}
use Rattle.row_codec.specs.Reading.{◌>>=◌, Read, stops_at, text_at, is_next, is_empty, filled_at, next_at, next_filled_at, setting_at, settings_at, device_at, devices_at, texts_at}
use Rattle.row_codec.proofs.Fields.{IsBytes, went, passed, passed_not, ok_is, Takes, Takes-then, IsPart, IsText, text_part}
use Rattle.row_codec.proofs.Listed.{IsItem, AreInRow, AreItems, list_part}
use Rattle.row_codec.proofs.Rising.{IsNext, KeysRise-from_row, row_from_KeysRise}

-- ---- facts of each element

each_map : {X : Type 0} (P Q : X → Type 0) → ((x : X) → P x → Q x) → (xs : List X) → AllByRecursion P xs → AllByRecursion Q xs
each_map P Q f [] h = tt
each_map P Q f (x ∷ xs) h = (f x h.0, each_map P Q f xs h.1)

each_both : {X : Type 0} (P Q R : X → Type 0) → ((x : X) → P x → Q x → R x) → (xs : List X) → AllByRecursion P xs → AllByRecursion Q xs → AllByRecursion R xs
each_both P Q R f [] h k = tt
each_both P Q R f (x ∷ xs) h k = (f x h.0 k.0, each_both P Q R f xs h.1 k.1)

-- a reader whose parts fit under another name
renamed : {A : Type 0} {read : List ℕ → Read A} {spelled : A → List ℕ} {P : A → Type 0} (Q : A → Type 0) → ((x : A) → P x → Q x) → ((x : A) → Q x → P x) → IsPart read spelled P → IsPart read spelled Q
renamed Q to from part = record {
  takes = part.takes;
  fits = λ bytes x all e. to x.0 (part.fits bytes x all e);
  again = λ x rest fits. part.again x rest (from x fits);
}

-- ---- texts

pub record FitsTexts (texts : List (List ℕ)) : Type 0 where
  pub short : AreShortTexts texts
  pub utf8 : AreUtf8 texts

text_item : IsItem (λ before. text_at) text_bytes IsText (λ before text. Unit {0})
text_item = record {
  takes = λ before bytes x all e. text_part.takes bytes x all e;
  fits = λ before bytes x all e. text_part.fits bytes x all e;
  follows = λ before bytes x e. tt;
  again = λ before x rest fits row. text_part.again x rest fits;
}

in_any_row : (before : Option (List ℕ)) (texts : List (List ℕ)) → AreInRow (λ b text. Unit {0}) before texts
in_any_row before [] = tt
in_any_row before (text ∷ texts) = (tt, in_any_row (Some text) texts)

pub texts_part : IsPart texts_at texts_bytes FitsTexts
texts_part = renamed FitsTexts to from (list_part (λ before. text_at) text_bytes IsText (λ before text. Unit {0}) text_item)
  where
    to : (texts : List (List ℕ)) → AreItems IsText (λ before text. Unit {0}) texts → FitsTexts texts
    to texts h = record {
      short = (h.short, each_map IsText IsShort (λ t f. f.short) texts h.each);
      utf8 = each_map IsText IsUtf8 (λ t f. f.utf8) texts h.each;
    }

    from : (texts : List (List ℕ)) → FitsTexts texts → AreItems IsText (λ before text. Unit {0}) texts
    from texts h = record {
      short = h.short.0;
      each = each_both IsShort IsUtf8 IsText (λ t s u. record { short = s; utf8 = u }) texts h.short.1 h.utf8;
      in_row = in_any_row None texts;
    }

-- ---- keys and values

filled_from_test : (text : List ℕ) → is_empty text ≡ false → text ≢ []
filled_from_test [] test = absurd cc
filled_from_test (b ∷ bs) test = λ e. absurd cc

test_from_filled : (text : List ℕ) → text ≢ [] → is_empty text ≡ false
test_from_filled [] filled = absurd (filled refl)
test_from_filled (b ∷ bs) filled = grind (arith, nat_tests)

filled_took : (bytes : List ℕ) (x : List ℕ × List ℕ) → filled_at bytes ≡ Ok x → (text_at bytes ≡ Ok x) × (is_empty x.0 ≡ false)
unfolding filled_at
filled_took bytes x e =
    let s = went (text_at bytes) (λ (text : List ℕ × List ℕ). cond (is_empty text.0) (stops_at bytes) (Ok text)) x e in
    let p = passed_not (is_empty s.got.0) s.got x (record { left = length bytes }) s.next_is in
    (s.read_is ∙ ap Ok p.1, subst (λ (y : List ℕ × List ℕ). is_empty y.0 ≡ false) p.1 p.0)

filled_again : (bytes : List ℕ) (x : List ℕ × List ℕ) → text_at bytes ≡ Ok x → x.0 ≢ [] → filled_at bytes ≡ Ok x
unfolding filled_at
filled_again bytes x e filled = rw (e, test_from_filled x.0 filled) refl

module _ {V : Type 0} (before : Option (List ℕ × V)) where
  next_took : (bytes : List ℕ) (x : List ℕ × List ℕ) → next_at before bytes ≡ Ok x → (text_at bytes ≡ Ok x) × (is_next before x.0 ≡ true)
  unfolding next_at
  next_took bytes x e =
      let s = went (text_at bytes) (λ (text : List ℕ × List ℕ). cond (is_next before text.0) (Ok text) (stops_at bytes)) x e in
      let p = passed (is_next before s.got.0) s.got x (record { left = length bytes }) s.next_is in
      (s.read_is ∙ ap Ok p.1, subst (λ (y : List ℕ × List ℕ). is_next before y.0 ≡ true) p.1 p.0)

  next_again : (bytes : List ℕ) (x : List ℕ × List ℕ) → text_at bytes ≡ Ok x → is_next before x.0 ≡ true → next_at before bytes ≡ Ok x
  unfolding next_at
  next_again bytes x e next = rw (e, next) refl

  next_filled_took : (bytes : List ℕ) (x : List ℕ × List ℕ) → next_filled_at before bytes ≡ Ok x → (text_at bytes ≡ Ok x) × (is_next before x.0 ≡ true) × (is_empty x.0 ≡ false)
  unfolding next_filled_at
  next_filled_took bytes x e =
      let s = went (next_at before bytes) (λ (text : List ℕ × List ℕ). cond (is_empty text.0) (stops_at bytes) (Ok text)) x e in
      let p = passed_not (is_empty s.got.0) s.got x (record { left = length bytes }) s.next_is in
      let t = next_took bytes x (s.read_is ∙ ap Ok p.1) in
      (t.0, t.1, subst (λ (y : List ℕ × List ℕ). is_empty y.0 ≡ false) p.1 p.0)

  next_filled_again : (bytes : List ℕ) (x : List ℕ × List ℕ) → text_at bytes ≡ Ok x → is_next before x.0 ≡ true → x.0 ≢ [] → next_filled_at before bytes ≡ Ok x
  unfolding next_filled_at
  next_filled_again bytes x e next filled = rw (next_again bytes x e next, test_from_filled x.0 filled) refl

-- ---- settings

record FitsSetting (s : List ℕ × List ℕ) : Type 0 where
  pub key : IsText s.0
  pub value : IsText s.1
  pub full : IsFull s

abbrev setting_of : List ℕ × List ℕ → List ℕ × List ℕ → Read (List ℕ × List ℕ)
setting_of key value = Ok ((key.0, value.0), value.1)

-- the key and the value of a setting that is read
record SettingRead (before : Option (List ℕ × List ℕ)) (bytes : List ℕ) (x : (List ℕ × List ℕ) × List ℕ) : Type 0 where
  pub middle : List ℕ
  pub key_read : text_at bytes ≡ Ok (x.0.0, middle)
  pub key_next : is_next before x.0.0 ≡ true
  pub key_filled : x.0.0 ≢ []
  pub value_read : text_at middle ≡ Ok (x.0.1, x.1)
  pub value_filled : x.0.1 ≢ []

setting_took : (before : Option (List ℕ × List ℕ)) (bytes : List ℕ) (x : (List ℕ × List ℕ) × List ℕ) → setting_at before bytes ≡ Ok x → SettingRead before bytes x
unfolding setting_at
setting_took before bytes x e =
    let k = went (next_filled_at before bytes) (λ (key : List ℕ × List ℕ). filled_at key.1 >>= λ value. setting_of key value) x e in
    let v = went (filled_at k.got.1) (setting_of k.got) x k.next_is in
    let key = next_filled_took before bytes k.got k.read_is in
    let value = filled_took k.got.1 v.got v.read_is in
    let made : SettingRead before bytes ((k.got.0, v.got.0), v.got.1) = record {
      middle = k.got.1;
      key_read = key.0;
      key_next = key.1;
      key_filled = filled_from_test k.got.0 key.2;
      value_read = value.0;
      value_filled = filled_from_test v.got.0 value.1;
    } in
    subst (SettingRead before bytes) (ok_is ((k.got.0, v.got.0), v.got.1) x v.next_is) made

setting_again : (before : Option (List ℕ × List ℕ)) (s : List ℕ × List ℕ) (rest : List ℕ) → FitsSetting s → IsNext before s → setting_at before (setting_bytes s ++ rest) ≡ Ok (s, rest)
unfolding setting_at
setting_again before s rest fits next =
    let after : List ℕ = text_bytes s.1 ++ rest in
    let key : next_filled_at before (text_bytes s.0 ++ after) ≡ Ok (s.0, after) = next_filled_again before (text_bytes s.0 ++ after) (s.0, after) (text_part.again s.0 after fits.key) next fits.full.0 in
    let value : filled_at after ≡ Ok (s.1, rest) = filled_again after (s.1, rest) (text_part.again s.1 rest fits.value) fits.full.1 in
    ap (setting_at before) (append_assoc (text_bytes s.0) (text_bytes s.1) rest) ∙ rw (key, value) refl

setting_item : IsItem setting_at setting_bytes FitsSetting IsNext
setting_item = record {
  takes = λ before bytes x all e. (took before bytes x all (setting_took before bytes x e)).0;
  fits = λ before bytes x all e. (took before bytes x all (setting_took before bytes x e)).1;
  follows = λ before bytes x e. (setting_took before bytes x e).key_next;
  again = setting_again;
}
  where
    took : (before : Option (List ℕ × List ℕ)) (bytes : List ℕ) (x : (List ℕ × List ℕ) × List ℕ) → IsBytes bytes → SettingRead before bytes x → Takes bytes (setting_bytes x.0) x.1 × FitsSetting x.0
    took before bytes x all r =
        let key = text_part.takes bytes (x.0.0, r.middle) all r.key_read in
        let value = text_part.takes r.middle (x.0.1, x.1) key.rest_fits r.value_read in (
          Takes-then key value,
          record {
            key = text_part.fits bytes (x.0.0, r.middle) all r.key_read;
            value = text_part.fits r.middle (x.0.1, x.1) key.rest_fits r.value_read;
            full = (r.key_filled, r.value_filled);
          },
        )

pub record FitsSettings (settings : Settings) : Type 0 where
  pub short : AreShortSettings settings
  pub typed : AreTypedSettings settings

pub settings_part : IsPart settings_at settings_bytes FitsSettings
settings_part = renamed FitsSettings to from (list_part setting_at setting_bytes FitsSetting IsNext setting_item)
  where
    to : (settings : Settings) → AreItems FitsSetting IsNext settings → FitsSettings settings
    to settings h = record {
      short = (h.short, each_map FitsSetting (λ s. IsShort s.0 × IsShort s.1) (λ s f. (f.key.short, f.value.short)) settings h.each);
      typed = (
        record {
          rising = KeysRise-from_row settings h.in_row;
          full = All-from_recursion IsFull settings (each_map FitsSetting IsFull (λ s f. f.full) settings h.each);
        },
        each_map FitsSetting (λ s. IsUtf8 s.0 × IsUtf8 s.1) (λ s f. (f.key.utf8, f.value.utf8)) settings h.each,
      );
    }

    texts : List ℕ × List ℕ → Type 0
    texts s = IsText s.0 × IsText s.1

    from : (settings : Settings) → FitsSettings settings → AreItems FitsSetting IsNext settings
    from settings h =
        let both = each_both (λ s. IsShort s.0 × IsShort s.1) (λ s. IsUtf8 s.0 × IsUtf8 s.1) texts (λ s a b. (record { short = a.0; utf8 = b.0 }, record { short = a.1; utf8 = b.1 })) settings h.short.1 h.typed.1 in
        record {
          short = h.short.0;
          each = each_both texts IsFull FitsSetting (λ s t full. record { key = t.0; value = t.1; full = full }) settings both (recursion_from_All IsFull settings h.typed.0.full);
          in_row = row_from_KeysRise settings h.typed.0.rising;
        }

-- ---- devices

record FitsDevice (d : List ℕ × Settings) : Type 0 where
  pub name : IsText d.0
  pub config : FitsSettings d.1

-- the name and the settings of a device that is read
record DeviceRead (before : Option (List ℕ × Settings)) (bytes : List ℕ) (x : (List ℕ × Settings) × List ℕ) : Type 0 where
  pub middle : List ℕ
  pub name_read : text_at bytes ≡ Ok (x.0.0, middle)
  pub name_next : is_next before x.0.0 ≡ true
  pub config_read : settings_at middle ≡ Ok (x.0.1, x.1)

abbrev device_of : List ℕ × List ℕ → Settings × List ℕ → Read (List ℕ × Settings)
device_of name config = Ok ((name.0, config.0), config.1)

device_took : (before : Option (List ℕ × Settings)) (bytes : List ℕ) (x : (List ℕ × Settings) × List ℕ) → device_at before bytes ≡ Ok x → DeviceRead before bytes x
unfolding device_at
device_took before bytes x e =
    let n = went (next_at before bytes) (λ (name : List ℕ × List ℕ). settings_at name.1 >>= λ config. device_of name config) x e in
    let s = went (settings_at n.got.1) (device_of n.got) x n.next_is in
    let name = next_took before bytes n.got n.read_is in
    let made : DeviceRead before bytes ((n.got.0, s.got.0), s.got.1) = record { middle = n.got.1; name_read = name.0; name_next = name.1; config_read = s.read_is } in
    subst (DeviceRead before bytes) (ok_is ((n.got.0, s.got.0), s.got.1) x s.next_is) made

device_again : (before : Option (List ℕ × Settings)) (d : List ℕ × Settings) (rest : List ℕ) → FitsDevice d → IsNext before d → device_at before (device_bytes d ++ rest) ≡ Ok (d, rest)
unfolding device_at
device_again before d rest fits next =
    let after : List ℕ = settings_bytes d.1 ++ rest in
    let name : next_at before (text_bytes d.0 ++ after) ≡ Ok (d.0, after) = next_again before (text_bytes d.0 ++ after) (d.0, after) (text_part.again d.0 after fits.name) next in
    let config : settings_at after ≡ Ok (d.1, rest) = settings_part.again d.1 rest fits.config in
    ap (device_at before) (append_assoc (text_bytes d.0) (settings_bytes d.1) rest) ∙ rw (name, config) refl

device_item : IsItem device_at device_bytes FitsDevice IsNext
device_item = record {
  takes = λ before bytes x all e. (took before bytes x all (device_took before bytes x e)).0;
  fits = λ before bytes x all e. (took before bytes x all (device_took before bytes x e)).1;
  follows = λ before bytes x e. (device_took before bytes x e).name_next;
  again = device_again;
}
  where
    took : (before : Option (List ℕ × Settings)) (bytes : List ℕ) (x : (List ℕ × Settings) × List ℕ) → IsBytes bytes → DeviceRead before bytes x → Takes bytes (device_bytes x.0) x.1 × FitsDevice x.0
    took before bytes x all r =
        let name = text_part.takes bytes (x.0.0, r.middle) all r.name_read in
        let config = settings_part.takes r.middle (x.0.1, x.1) name.rest_fits r.config_read in (
          Takes-then name config,
          record {
            name = text_part.fits bytes (x.0.0, r.middle) all r.name_read;
            config = settings_part.fits r.middle (x.0.1, x.1) name.rest_fits r.config_read;
          },
        )

pub record FitsDevices (devices : NamedDevices) : Type 0 where
  pub short : AreShortDevices devices
  pub typed : AreTypedDevices devices

pub devices_part : IsPart devices_at devices_bytes FitsDevices
devices_part = renamed FitsDevices to from (list_part device_at device_bytes FitsDevice IsNext device_item)
  where
    to : (devices : NamedDevices) → AreItems FitsDevice IsNext devices → FitsDevices devices
    to devices h = record {
      short = (h.short, each_map FitsDevice (λ d. IsShort d.0 × AreShortSettings d.1) (λ d f. (f.name.short, f.config.short)) devices h.each);
      typed = (record { rising = KeysRise-from_row devices h.in_row }, each_map FitsDevice (λ d. IsUtf8 d.0 × AreTypedSettings d.1) (λ d f. (f.name.utf8, f.config.typed)) devices h.each);
    }

    from : (devices : NamedDevices) → FitsDevices devices → AreItems FitsDevice IsNext devices
    from devices h = record {
      short = h.short.0;
      each = each_both (λ d. IsShort d.0 × AreShortSettings d.1) (λ d. IsUtf8 d.0 × AreTypedSettings d.1) FitsDevice
          (λ d a b. record { name = record { short = a.0; utf8 = b.0 }; config = record { short = a.1; typed = b.1 } }) devices h.short.1 h.typed.1;
      in_row = row_from_KeysRise devices h.typed.0.rising;
    }
