use Rattle.std.proofs.Common.{◌≡◌, ℕ, ◌==◌, Bool, true, false, List, [], length, take, sym, ap, ◌∙◌}
use Rattle.std.specs.Str.{bytes_eq}
use Rattle.http_front.proofs.KnownLemmas.{known-front}
use Rattle.http_front.proofs.known.KnownHead.begins.Goals as goal

filled : (head : List ℕ) (is_empty : Bool) → is_empty ≡ (length head == 0) → is_empty ≡ false → head ≡ [] → ⊥
filled head is_empty is some none = let e : true ≡ false = ap (λ l. length l == 0) (sym none) ∙ sym is ∙ some in cc

pub returns-then-starts_with-clause-is : goal.returns-then-starts_with-clause-is
returns-then-starts_with-clause-is c =
    let head = c.self.inside.head.items in
    let count = sym c.deref.ensures.len ∙ ap length c.deref.ensures.value in
    let len : c.len.result ≡ length head = c.len.ensures ∙ count in
    let some = filled head c.is_empty.result (c.is_empty.ensures ∙ ap (λ n. n == 0) count) c.if-not-is_empty.true in
    let begins : bytes_eq head (take (length head) c.args.bytes.now) ≡ true =
    ap (λ h. bytes_eq h (take (length h) c.args.bytes.now)) (sym c.deref.ensures.value) ∙ sym c.starts_with.ensures.value ∙ c.if-starts_with.true in
    rw len (rw (← c.self.view_is) (known-front head c.args.bytes.now _ some c.self.invariant begins))
