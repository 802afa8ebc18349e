-- Comparisons of a field with a value.
use Rattle.std.proofs.Common.{◌≡◌, ℕ, true, false, not, List, Option, Some, None, refl, sym, ap, ◌∙◌, ◌↔◌, map}
use Rattle.std.specs.Char.{to_ascii_lowercase}
use Rattle.std.specs.Str.{str_eq_ignore_ascii_case}
use Rattle.std.proofs.lemmas.Slice.Eq.{bytes_eq-Decides}
use Rattle.rest_json.specs.declared.terms.Dialect.TheVariants as dialect
use Rattle.list_filter.specs.Values.{value_of}
use Rattle.list_filter.specs.Taking.{has_value}
use Rattle.list_filter.specs.Laws.{UnequalIsNotEqual, AbsentIsUnequal, PlainComparesBytes, ClientIgnoresCase}

pub opposite : UnequalIsNotEqual
opposite dialect shown field value = refl

pub absent : AbsentIsUnequal
absent dialect shown field value none =
    let lacks : has_value dialect (value_of shown field) value ≡ false = ap (λ o. has_value dialect o value) none in
    (lacks, ap not lacks)

same_some : {X : Type 0} {x y : X} → Some x ≡ Some y → x ≡ y
same_some e = cc

plain_has : (o : Option (List ℕ)) (value : List ℕ) → (has_value dialect.Plain o value ≡ true) ↔ (o ≡ Some value)
plain_has None value = ((λ h. cc), (λ h. cc))
plain_has (Some found) value =
    ((λ h. ap Some ((bytes_eq-Decides found value).0 h)), (λ e. (bytes_eq-Decides found value).1 (same_some e)))

pub plain : PlainComparesBytes
plain shown field value = plain_has (value_of shown field) value

pub client : ClientIgnoresCase
client shown field found value is =
    let has : has_value dialect.Client (value_of shown field) value ≡ str_eq_ignore_ascii_case found value = ap (λ o. has_value dialect.Client o value) is in
    let alike = bytes_eq-Decides (map to_ascii_lowercase found) (map to_ascii_lowercase value) in
    ((λ h. alike.0 (sym has ∙ h)), (λ e. has ∙ alike.1 e))
