use Rattle.std.proofs.Common.{◌≡◌, List, ℕ, [], ◌++◌, length, ap, ◌∙◌, codes}
use Rattle.http_front.specs.Replies.{line, length_line, location_line, tag_line, last_line}
use Rattle.http_front.proofs.reply.head_text.Goals as goal

-- what was written so far, and one more part
more : {text old new : List ℕ} (part : List ℕ) → new ≡ old ++ part → old ≡ text → new ≡ text ++ part
more part e is = e ∙ ap (λ t. t ++ part) is

pub returns : goal.returns
returns c =
    let p = c.args.printed.now in
    let typed = more (line (codes "Content-Type: application/json")) c.in_ok-push_line.ensures c.in_ok-text.ensures in
    let measured = more (length_line (length p.body)) (rw c.len.ensures at c.in_ok-push_length.ensures) typed in
    let placed = more (location_line p.location) c.in_ok-push_location.ensures measured in
    let tagged = more (tag_line p.tag) c.in_ok-push_tag.ensures placed in
    let closed = more (last_line p.last) c.in_ok-push_last.ensures tagged in
    more (line []) c.in_ok-push_line-2.ensures closed
