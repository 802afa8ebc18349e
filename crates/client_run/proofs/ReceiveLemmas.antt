-- What a reading of the bytes held says of them.
use Rattle.std.proofs.Common.{◌≡◌, ℕ, List, subst}
use Rattle.client_replies.specs.Replies.{HasBegun, IsMalformed, IsReading}
use Rattle.client_replies.specs.declared.reading.Reading.{Reading}
use Rattle.client_replies.specs.declared.reading.Reading.TheVariants.{Incomplete, Malformed}

pub malformed_held : {seen held : List ℕ} {r : Reading} → seen ≡ held → r ≡ Malformed → IsReading seen r → IsMalformed held
malformed_held {seen} {held} {r} same is h = subst IsMalformed same (subst (IsReading seen) is h)

pub begun_held : {seen held : List ℕ} {r : Reading} → seen ≡ held → r ≡ Incomplete → IsReading seen r → HasBegun held
begun_held {seen} {held} {r} same is h = subst HasBegun same (subst (IsReading seen) is h)
