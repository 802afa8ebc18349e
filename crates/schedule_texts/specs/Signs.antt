-- Signs at which texts are cut.
use Rattle.std.specs.Prelude.{ℕ, Bool, ◌==◌}
use Rattle.std.specs.Str.{byte}

abbrev pub is_sign : ℕ → ℕ → Bool
is_sign sign code = code == sign

abbrev pub is_comma : ℕ → Bool
is_comma = is_sign (byte ",")

abbrev pub is_space : ℕ → Bool
is_space = is_sign (byte " ")

abbrev pub is_dash : ℕ → Bool
is_dash = is_sign (byte "-")

abbrev pub is_slash : ℕ → Bool
is_slash = is_sign (byte "/")
