-- Keys of limits on pools, and the values under them.
use Rattle.std.proofs.Common.{◌≡◌, ℕ, zero, suc, Bool, true, false, cond, ◌||◌, List, [], ◌∷◌, ◌++◌, length, take, drop, Option, Some, None, Bor, nat_eq, option_and_then, refl, sym, ap, ◌∙◌}
use Rattle.std.specs.Prelude.{codes, is_some}
use Rattle.std.specs.List.{cons_option, filter_map, list_any, slice_get, starts_with}
use Rattle.std.specs.Map.{keys_of, values_of}
use Rattle.std.specs.Option.{MatchOption, option_copied}
use Rattle.std.specs.Str.{bytes_eq}
use Rattle.std.specs.Str.Pattern.{FindsTextPrefix, StripsPrefix}
use Rattle.std.proofs.Math.Seq.{take-append_seam}
use Rattle.std.proofs.lemmas.List.{take-append-drop}
use Rattle.std.proofs.lemmas.Str.Pattern.{starts_text}
use Rattle.std.specs.declared.cmp.Ordering.TheVariants.{Less}
use Rattle.std.proofs.lemmas.Option.{same_Some}
use Rattle.config_lists.specs.Entries.{value_of, KeysRise}
use Rattle.config_lists.specs.Devices.{NamedDevices}
use Rattle.config_lists.specs.Settings.{Settings}
use Rattle.config_lists.proofs.Keys.{order, same, bytes_eq-itself, apart_below, IsBelow, KeysRise-head, KeysRise-tail}
use Rattle.std.specs.Result.{result_ok}
use Rattle.size_values.specs.Size.{size_of}
use Rattle.project_limits.specs.Limits.{size_in}
use Rattle.project_limits.specs.Instance.{disk_in}
use Rattle.project_limits.specs.Pools.{pool_key, pool_key_front, is_pool_key, pool_limit, pool_of_key, limited_pools, limits_pools, root_pool, if_limited, pool_without_size, volume_pool_without_size}

-- what stands behind a text that a text may begin with
pub stripped : (p s : List ℕ) (r : Option (Bor (List ℕ))) → MatchOption r (FindsTextPrefix p s None) (λ x. StripsPrefix (FindsTextPrefix p) s x.now)
    → option_copied r ≡ cond (starts_with nat_eq s p) (Some (drop (length p) s)) None
stripped p s None lacks = ap (λ b. cond b (Some (drop (length p) s)) None) (starts_text false p s lacks)
stripped p s (Some x) found =
    ap Some (found.2 ∙ ap (λ n. drop n s) found.1.0)
    ∙ ap (λ b. cond b (Some (drop (length p) s)) None) (sym begins) where
      begins : starts_with nat_eq s p ≡ true
      begins = ap (λ t. starts_with nat_eq t p) found.1.1 ∙ ap (bytes_eq p) (take-append_seam p (drop found.0 s)) ∙ bytes_eq-itself p

-- the key of a pool
pub key-is : (key pool : List ℕ) → pool_of_key key ≡ Some pool → key ≡ pool_key pool
key-is key pool e = at (is_pool_key key) refl e where
  at : (b : Bool) → is_pool_key key ≡ b → cond b (Some (drop (length pool_key_front) key)) None ≡ Some pool → key ≡ pool_key pool
  at true is found =
      sym (ap (λ t. t ++ drop (length pool_key_front) key) (same pool_key_front (take (length pool_key_front) key) is)
      ∙ take-append-drop (length pool_key_front) key)
      ∙ ap (λ t. pool_key_front ++ t) (same_Some _ _ found)
  at false is found = cc

-- ---- the value of a key

module _ {V : Type 0} where
  -- the value at the place of a key, where keys rise
  pub value_of-read : (es : List (List ℕ × V)) (i : ℕ) (key : List ℕ) (value : V) → KeysRise es → slice_get (keys_of es) i ≡ Some key → slice_get (values_of es) i ≡ Some value
      → value_of es key ≡ Some value
  unfolding value_of
  value_of-read [] i key value up k v = cc
  value_of-read (e ∷ es) zero key value up k v =
      let here : e.0 ≡ key = cc in
      let there : e.1 ≡ value = cc in
      ap (λ b. cond b (Some e.1) (value_of es key)) (ap (bytes_eq key) here ∙ bytes_eq-itself key) ∙ ap Some there
  value_of-read (e ∷ es) (suc i) key value up k v =
      ap (λ b. cond b (Some e.1) (value_of es key)) (apart_below e.0 key (below es i (KeysRise-head e es up) k))
      ∙ value_of-read es i key value (KeysRise-tail e es up) k v where
        below : (xs : List (List ℕ × V)) (j : ℕ) → IsBelow e.0 xs → slice_get (keys_of xs) j ≡ Some key → order e.0 key ≡ Less
        below [] j less found = cc
        below (x ∷ xs) zero less found = let here : x.0 ≡ key = cc in ap (order e.0) (sym here) ∙ less.0
        below (x ∷ xs) (suc j) less found = below xs j less.1 found

-- the limit on a pool is read where its key stands
pub pool_limit-read : (config : Settings) (i : ℕ) (pool value : List ℕ) → KeysRise config → slice_get (keys_of config) i ≡ Some (pool_key pool) → slice_get (values_of config) i ≡ Some value
    → pool_limit config pool ≡ result_ok (size_of value)
unfolding pool_limit size_in
pool_limit-read config i pool value up key is =
    ap (option_and_then (λ (text : List ℕ). result_ok (size_of text))) (value_of-read config i (pool_key pool) value up key is)

-- ---- without keys of pools

neither : (a b : Bool) → (a || b) ≡ false → (a ≡ false) × (b ≡ false)
neither true b e = cc
neither false b e = (refl, e)

-- no pool is limited
pub no-pools : (config : Settings) → limits_pools config ≡ false → limited_pools config ≡ []
unfolding limits_pools limited_pools
no-pools config none = of-keys (keys_of config) none where
  of-keys : (keys : List (List ℕ)) → list_any is_pool_key keys ≡ false → filter_map pool_of_key keys ≡ []
  of-keys [] e = refl
  of-keys (key ∷ keys) e =
      let both = neither (is_pool_key key) (list_any is_pool_key keys) e in
      ap (λ b. cons_option (cond b (Some (drop (length pool_key_front) key)) None) (filter_map pool_of_key keys)) both.0 ∙ of-keys keys both.1

-- and where none is, there is no such key
pub pools-no : (config : Settings) → limited_pools config ≡ [] → limits_pools config ≡ false
unfolding limits_pools limited_pools
pools-no config none = of-keys (keys_of config) none where
  of-keys : (keys : List (List ℕ)) → filter_map pool_of_key keys ≡ [] → list_any is_pool_key keys ≡ false
  of-keys [] e = refl
  of-keys (key ∷ keys) e = at (is_pool_key key) refl e (of-keys keys) where
    at : (b : Bool) → is_pool_key key ≡ b → cons_option (cond b (Some (drop (length pool_key_front) key)) None) (filter_map pool_of_key keys) ≡ []
        → (filter_map pool_of_key keys ≡ [] → list_any is_pool_key keys ≡ false) → (is_pool_key key || list_any is_pool_key keys) ≡ false
    at true is nothing more = cc
    at false is nothing more = ap (λ b. b || list_any is_pool_key keys) is ∙ more nothing

no-value : (entries : Settings) (pool : List ℕ) → list_any is_pool_key (keys_of entries) ≡ false → value_of entries (pool_key pool) ≡ None
unfolding value_of
no-value [] pool none = refl
no-value (e ∷ es) pool none =
    let both = neither (is_pool_key e.0) (list_any is_pool_key (keys_of es)) none in
    ap (λ b. cond b (Some e.1) (value_of es (pool_key pool))) (other both.0) ∙ no-value es pool both.1 where
      other : is_pool_key e.0 ≡ false → bytes_eq (pool_key pool) e.0 ≡ false
      other lacks = at (bytes_eq (pool_key pool) e.0) refl where
        at : (b : Bool) → bytes_eq (pool_key pool) e.0 ≡ b → b ≡ false
        at false is = refl
        at true is = let begins : is_pool_key e.0 ≡ true = ap is_pool_key (sym (same (pool_key pool) e.0 is)) in sym begins ∙ lacks

pub pool_limit-none : (config : Settings) (pool : List ℕ) → limits_pools config ≡ false → pool_limit config pool ≡ None
unfolding limits_pools pool_limit size_in
pool_limit-none config pool none = ap (option_and_then (λ (text : List ℕ). result_ok (size_of text))) (no-value config pool none)

-- nothing needs a size then
pub sized-root : (config : Settings) (devices : NamedDevices) → limits_pools config ≡ false → pool_without_size config devices ≡ None
unfolding pool_without_size
sized-root config devices none = at (is_some (disk_in devices)) (root_pool devices) where
  at : (b : Bool) (pool : Option (List ℕ)) → cond b None (option_and_then (if_limited config) pool) ≡ None
  at true pool = refl
  at false None = refl
  at false (Some pool) = ap (λ limit. cond (is_some limit) (Some pool) None) (pool_limit-none config pool none)

pub sized-volume : (config : Settings) (pool : List ℕ) (of_volume : Settings) → limits_pools config ≡ false → volume_pool_without_size config pool of_volume ≡ None
unfolding volume_pool_without_size
sized-volume config pool of_volume none = at (is_some (size_in of_volume (codes "size"))) where
  at : (b : Bool) → cond b None (if_limited config pool) ≡ None
  at true = refl
  at false = ap (λ limit. cond (is_some limit) (Some pool) None) (pool_limit-none config pool none)
