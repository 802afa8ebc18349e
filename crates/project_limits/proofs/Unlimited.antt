-- Where no key begins as those of limits do, none of the limits is set.
use Rattle.std.proofs.Common.{◌≡◌, ℕ, zero, suc, ◌+◌, Bool, true, false, ◌||◌, cond, List, [], ◌∷◌, Some, None, drop, refl, ap, option_and_then, ◌∙◌, arith}
use Rattle.std.specs.List.{list_any, slice_get}
use Rattle.std.specs.Map.{keys_of}
use Rattle.std.specs.Result.{result_ok}
use Rattle.std.specs.Str.{bytes_eq}
use Rattle.size_values.specs.Count.{count_of}
use Rattle.size_values.specs.Size.{size_of}
use Rattle.config_lists.specs.Entries.{value_of}
use Rattle.config_lists.specs.Settings.{Settings, setting}
use Rattle.config_lists.proofs.Keys.{same}
use Rattle.project_limits.specs.Limits.{is_limit_key, count_in, size_in}

-- one more element fails
pub fails-more : {X : Type 0} (test : X → Bool) (xs : List X) (i : ℕ) (x : X) → slice_get xs i ≡ Some x → test x ≡ false
    → list_any test (drop i xs) ≡ list_any test (drop (i + 1) xs)
fails-more test [] zero x at fails = cc
fails-more test [] (suc i) x at fails = cc
fails-more test (y ∷ ys) zero x at fails =
    let same : y ≡ x = cc in
    ap (λ b. b || list_any test ys) (ap test same ∙ fails)
fails-more test (y ∷ ys) (suc i) x at fails =
    let step : suc (i + 1) ≡ suc i + 1 = omega arith in
    fails-more test ys i x at fails ∙ ap (λ n. list_any test (drop n (y ∷ ys))) step

-- what no key passes is not set under a key that would
pub unset : (test : List ℕ → Bool) (config : Settings) (key : List ℕ) → list_any test (keys_of config) ≡ false → test key ≡ true → setting config key ≡ None
unfolding value_of
unset test [] key fails passes = refl
unset test (e ∷ es) key fails passes = by (bytes_eq key e.0) refl (test e.0) refl fails (unset test es key)
  where
    by : (b : Bool) → bytes_eq key e.0 ≡ b → (t : Bool) → test e.0 ≡ t → (t || list_any test (keys_of es)) ≡ false
        → (list_any test (keys_of es) ≡ false → test key ≡ true → value_of es key ≡ None) → cond b (Some e.1) (value_of es key) ≡ None
    by true is true is' f more = cc
    by true is false is' f more =
        let at : test key ≡ test e.0 = ap test (same key e.0 is) in
        cc
    by false is true is' f more = cc
    by false is false is' f more = more f passes

module _ (config : Settings) (unlimited : list_any is_limit_key (keys_of config) ≡ false) (key : List ℕ) (limit : is_limit_key key ≡ true) where
  pub no-count : count_in config key ≡ None
  unfolding count_in
  no-count = ap (option_and_then (λ text. result_ok (count_of text 0 9223372036854775807))) (unset is_limit_key config key unlimited limit)

  pub no-size : size_in config key ≡ None
  unfolding size_in
  no-size = ap (option_and_then (λ text. result_ok (size_of text))) (unset is_limit_key config key unlimited limit)
