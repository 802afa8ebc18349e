-- Each command with its replies.
use Rattle.std.proofs.Common.{◌≡◌, ◌++◌, ◌-◌, ◌∙◌, ℕ, ap, append-nil, append_assoc, arith, refl, length, Bool, true, false, List, [], ◌∷◌, None, Some, codes}
use Rattle.std.specs.Prelude.{decimal, replicate}
use Rattle.std.specs.Str.{byte}
use Rattle.workload.specs.Stream.{request}
use Rattle.client_steps.specs.Laws.{Runs}
use Rattle.client_steps.specs.Lines.{error_line, lines, no_widths, padded, says_parts, unsaid_parts}
use Rattle.client_steps.specs.Rows.{two}

-- an error that keeps no part leaves none unsaid
none_unsaid : (said : Bool) → unsaid_parts said None ≡ []
none_unsaid true = refl
none_unsaid false = refl

told_alone : (text : List ℕ) → error_line text None ≡ codes "error: " ++ text ++ codes "\n"
told_alone text =
    ap (λ parts. codes "error: " ++ text ++ parts ++ codes "\n") (none_unsaid (says_parts text))
    ∙ ap (λ said. codes "error: " ++ said ++ codes "\n") (append-nil text)

-- ---- lines without widths

padded_none : (cell : List ℕ) → padded 0 cell ≡ cell
padded_none cell = ap (λ n. cell ++ replicate n (byte " ")) (by (length cell)) ∙ append-nil cell where
  by : (n : ℕ) → 0 - n ≡ 0
  by n = omega arith

two_plain : (first second : List ℕ) → lines no_widths (two first second ∷ []) ≡ first ++ codes " " ++ second ++ codes "\n"
two_plain first second =
    append-nil (padded 0 first ++ codes " " ++ second ++ codes "\n")
    ∙ ap (λ f. f ++ codes " " ++ second ++ codes "\n") (padded_none first)

three_plain : (key : List ℕ) (usage limit : List ℕ)
    → lines no_widths (record { first = key; second = usage; third = Some limit } ∷ [])
    ≡ key ++ codes " " ++ (usage ++ codes " " ++ limit) ++ codes "\n"
three_plain key usage limit =
    append-nil (padded 0 key ++ codes " " ++ (padded 0 usage ++ codes " " ++ limit) ++ codes "\n")
    ∙ ap (λ f. f ++ codes " " ++ (padded 0 usage ++ codes " " ++ limit) ++ codes "\n") (padded_none key)
    ∙ ap (λ f. key ++ codes " " ++ (f ++ codes " " ++ limit) ++ codes "\n") (padded_none usage)

-- a name, and what became of it
told : (name word : List ℕ) → lines no_widths (two name word ∷ []) ≡ name ++ (codes " " ++ (word ++ codes "\n"))
told name word = two_plain name word ∙ simp append_assoc

-- ---- the commands

pub runs : Runs
runs = record {
  list = λ project. record {
    sent = ap (λ line. request line [] ∷ []) (append-nil (codes "GET /1.0/instances?project=" ++ project ++ codes "&recursion=1"));
    lines = two_plain (codes "a") (codes "Running");
    ends = refl;
  };
  cancel = λ project id body. record { sent = refl; lines = told id (codes "cancelled"); ends = refl };
  wait = λ project id status error body end. record {
    sent = rw end.status_is refl;
    lines = rw end.status_is (two_plain id status);
    ends = rw end.status_is refl;
  };
  limits = λ project usage limit. record {
    sent = refl;
    lines = three_plain (codes "cpu") (decimal usage) (decimal limit) ∙ simp append_assoc;
    ends = refl;
  };
  no_limit = λ project usage. record {
    sent = refl;
    lines = three_plain (codes "disk") (decimal usage) (codes "-") ∙ simp append_assoc;
    ends = refl;
  };
  start = λ project name path error body end ended. record {
    sent = rw (ended.status_is, ended.error_is) refl;
    lines = rw (ended.status_is, ended.error_is) (told name (codes "Running"));
    ends = rw (ended.status_is, ended.error_is) refl;
  };
  stop = λ project name path error body end ended. record {
    sent = rw (ended.status_is, ended.error_is) refl;
    lines = rw (ended.status_is, ended.error_is) (told name (codes "Stopped"));
    ends = rw (ended.status_is, ended.error_is) refl;
  };
  delete = λ project name path error body end ended. record {
    sent = rw (ended.status_is, ended.error_is) refl;
    lines = rw (ended.status_is, ended.error_is) (told name (codes "deleted"));
    ends = rw (ended.status_is, ended.error_is) refl;
  };
  launch = λ project name made_at started_at made_error started_error making made starting started first second. record {
    sent = rw (first.status_is, first.error_is, second.status_is, second.error_is) refl;
    lines = rw (first.status_is, first.error_is, second.status_is, second.error_is) (told name (codes "Running"));
    ends = rw (first.status_is, first.error_is, second.status_is, second.error_is) refl;
  };
  making = λ project name path body. record { sent = refl; lines = refl; ends = refl };
  not_made = λ project name path error body end ended. record {
    sent = rw (ended.status_is, ended.error_is) refl;
    lines = rw (ended.status_is, ended.error_is) (told_alone error);
    ends = rw (ended.status_is, ended.error_is) refl;
  };
}
