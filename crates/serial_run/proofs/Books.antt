-- The lines of the books.
use Rattle.std.proofs.Common.{◌≡◌, ◌∙◌, ◌++◌, ◌-◌, ◌+◌, ◌≤◌, ℕ, List, ap, arith, append_assoc, codes}
use Rattle.size_values.specs.Amounts.{part}
use Rattle.size_values.specs.declared.amounts.Amounts.{Amounts}
use Rattle.size_values.specs.declared.amounts.Part.{Part}
use Rattle.reservations.specs.Holdings.{all_part}
use Rattle.reservations.specs.declared.books.Books.{Books}
use Rattle.row_machine.specs.facts.Whole.{AreBalanced}
use Rattle.row_machine.specs.machine.State.{State}
use Rattle.serial_run.specs.Report.{amounts_line, books_of}

four : (a g c r h : List ℕ) → (((a ++ g) ++ c) ++ r) ++ h ≡ a ++ (g ++ c ++ r ++ h)
four a g c r h = simp append_assoc

-- what was converted or returned was granted
pub covered : (s : State) (books : Books) → books ≡ s.books → AreBalanced s
    → (k : Part) → part k books.converted + part k books.returned ≤ part k books.granted
covered s books is balanced k = omega (
  arith,
  balanced.parts k,
  ap (λ (b : Books). part k b.granted) is,
  ap (λ (b : Books). part k b.converted) is,
  ap (λ (b : Books). part k b.returned) is,
)

-- and the rest is held
left_held : (s : State) (books : Books) (held : Amounts) → books ≡ s.books → AreBalanced s
    → ((k : Part) → part k held ≡ part k books.granted - part k books.converted - part k books.returned)
    → (k : Part) → part k held ≡ all_part k s.held
left_held s books held is balanced left k = omega (
  arith,
  balanced.parts k,
  left k,
  ap (λ (b : Books). part k b.granted) is,
  ap (λ (b : Books). part k b.converted) is,
  ap (λ (b : Books). part k b.returned) is,
)

-- the four lines, one after the other
pub lines_of_books : (s : State) (books : Books) (held : Amounts) (before t1 t2 t3 t4 : List ℕ) → books ≡ s.books
    → AreBalanced s
    → ((k : Part) → part k held ≡ part k books.granted - part k books.converted - part k books.returned)
    → t1 ≡ before ++ amounts_line (codes "granted") (λ k. part k books.granted)
    → t2 ≡ t1 ++ amounts_line (codes "converted") (λ k. part k books.converted)
    → t3 ≡ t2 ++ amounts_line (codes "returned") (λ k. part k books.returned)
    → t4 ≡ t3 ++ amounts_line (codes "held") (λ k. part k held)
    → t4 ≡ before ++ books_of s
unfolding books_of
lines_of_books s books held before t1 t2 t3 t4 is balanced left e1 e2 e3 e4 =
    e4
    ∙ ap (λ t. t ++ amounts_line (codes "held") (λ k. part k held))
    (e3 ∙ ap (λ t. t ++ amounts_line (codes "returned") (λ k. part k books.returned))
    (e2 ∙ ap (λ t. t ++ amounts_line (codes "converted") (λ k. part k books.converted)) e1))
    ∙ four before _ _ _ _
    ∙ (λ i. before ++ (amounts_line (codes "granted") (λ k. part k (is i).granted)
    ++ amounts_line (codes "converted") (λ k. part k (is i).converted)
    ++ amounts_line (codes "returned") (λ k. part k (is i).returned)
    ++ amounts_line (codes "held") (λ k. left_held s books held is balanced left k i)))
