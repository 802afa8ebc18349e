-- What the definitions give for texts that are written out.
use Rattle.std.proofs.Common.{◌≡◌, ℕ, List, codes, refl}
use Rattle.std.specs.Str.{is_utf8, chars}
use Rattle.std.specs.Str.Lossy.{utf8_lossy, utf8_valid_len}
use lib.Utf8.{encode}
use Rattle.base64.specs.Rfc4648.{encode_symbols}
use Rattle.sha1.specs.Sha1.{first_words, schedule, rounds, compress, hash_after, digest_bytes, sha1}
use Rattle.form_urlencoded.specs.Form.{split, raw_pairs}
use Rattle.percent_encoding.specs.Percent.{percent_decode}
use Rattle.rest_routes.specs.Paths.{path_of, query_of, absolute_path, before_colon, is_http}
use Rattle.rest_routes.specs.Queries.{is_type, are_types, lists_word, types_of, flags_after, filter_after, project_after, query_after, query_from_text}
use Rattle.serve_loop.specs.Accepting.{accept_text}
use Rattle.serve_loop.specs.SubscriptionExamples.{AreExamples}
use Rattle.serve_loop.specs.Filters.{filter_of}

pub accept_example : accept_text (codes "dGhlIHNhbXBsZSBub25jZQ==") ≡ codes "s3pPLMBiTxaQ9kYGzzhZRbK+xOo="
unfolding accept_text encode_symbols first_words schedule rounds compress hash_after digest_bytes sha1
accept_example = refl

pub examples : (key : List ℕ) → AreExamples key
unfolding filter_of path_of query_of absolute_path before_colon is_http split raw_pairs is_type are_types lists_word types_of flags_after filter_after project_after query_after query_from_text utf8_lossy utf8_valid_len is_utf8 chars encode percent_decode
examples key = record {
  all = refl;
  operations = refl;
  first_counts = refl;
  both = refl;
  other_type = refl;
  all_projects = refl;
  elsewhere = refl;
}
