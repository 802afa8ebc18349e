use Rattle.std.proofs.Common.{◌≡◌, true, refl, sym, ◌∙◌}
use Rattle.records.specs.declared.replies.View.{View}
use Rattle.records.specs.declared.replies.View.TheVariants as view
use Rattle.rest_replies.specs.Replies.{is_server}
use Rattle.rest_replies.proofs.known.known_reply.Goals as goal

-- it is the server
shown-server : (shown : View) → is_server shown ≡ true → shown ≡ view.Server
shown-server view.Server e = refl
shown-server other e = cc

pub returns-in-Empty : goal.returns-in-Empty
returns-in-Empty c = record {
  text = rw (c.in-Empty.is, c.if-last.false) c.empty_text.ensures;
  when = rw (c.in-Empty.is, c.if-last.false) refl;
}

pub returns-then-is_server : goal.returns-then-is_server
returns-then-is_server c =
    let server = shown-server _ (sym c.is_server.ensures ∙ c.if-is_server.true) in
    record {
      text = rw (c.in-One.is, server, c.if-last.false) c.server_text.ensures;
      when = rw (c.in-One.is, server, c.if-last.false) refl;
    }
