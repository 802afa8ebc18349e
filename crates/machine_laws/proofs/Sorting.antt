-- Rows in the order of their keys: their entries are in order, and they are the same rows.
use Rattle.std.proofs.Common.{◌≡◌, List, [], ◌∷◌, map, length, refl, sym, ap, subst, ◌∙◌, inl, inr, arith}
use Rattle.plain_lists.specs.Edits.{inserted}
use Rattle.plain_lists.specs.Members.{Mem}
use Rattle.plain_lists.proofs.EditLemmas.{inserted-Puts}
use Rattle.plain_lists.proofs.PutsLemmas.{Mem-Puts, Mem-unputs, Mem-puts, length-Puts}
use Rattle.records.specs.declared.rows.Row.{Row}
use Rattle.row_codec.specs.Spelling.{entry_of, key_of}
use Rattle.row_machine.specs.machine.Rows.{text_before}
use Rattle.row_machine.specs.opening.Records.{entries_in}
use Rattle.machine_laws.proofs.NamesLists.{map-inserted}

abbrev pub sorted : List Row → List Row
sorted [] = []
sorted (r ∷ rows) = inserted (λ other. text_before (key_of r) (key_of other)) r (sorted rows)

pub spelled-sorted : (rows : List Row) → entries_in rows ≡ map entry_of (sorted rows)
spelled-sorted [] = refl
spelled-sorted (r ∷ rows) =
    ap (inserted (λ e. text_before (key_of r) e.key) (entry_of r)) (spelled-sorted rows)
    ∙ sym (map-inserted entry_of (λ e. text_before (key_of r) e.key) r (sorted rows))

pub to-sorted : (r : Row) (rows : List Row) → Mem r rows → Mem r (sorted rows)
to-sorted r [] m = m
to-sorted r (x ∷ rows) (inl is) =
    subst (λ y. Mem y (sorted (x ∷ rows))) (sym is) (Mem-Puts (inserted-Puts (λ other. text_before (key_of x) (key_of other)) x (sorted rows)))
to-sorted r (x ∷ rows) (inr m) = Mem-puts r (inserted-Puts (λ other. text_before (key_of x) (key_of other)) x (sorted rows)) (to-sorted r rows m)

pub from-sorted : (r : Row) (rows : List Row) → Mem r (sorted rows) → Mem r rows
from-sorted r [] m = m
from-sorted r (x ∷ rows) m =
    elim (Mem-unputs r (inserted-Puts (λ other. text_before (key_of x) (key_of other)) x (sorted rows)) m)
    [ inl is ↦ inl is | inr n ↦ inr (from-sorted r rows n) ]

pub length-sorted : (rows : List Row) → length (sorted rows) ≡ length rows
length-sorted [] = refl
length-sorted (r ∷ rows) =
    omega (arith, length-sorted rows, length-Puts (inserted-Puts (λ other. text_before (key_of r) (key_of other)) r (sorted rows)))
