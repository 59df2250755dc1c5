-- How a site's name is spelled.
use Rattle.std.specs.Prelude.{ℕ, List, [], ◌∷◌, length, Bool, false, ◌&&◌, ◌||◌, nat_lt, nat_eq}
use Rattle.std.specs.List.{list_all}
use Rattle.std.specs.Char.{is_ascii_alphabetic, is_ascii_alphanumeric}
use Rattle.lubase.specs.Limits.{longest_site_name}

-- a letter, a digit or an underscore
abbrev pub is_name_byte : ℕ → Bool
is_name_byte byte = is_ascii_alphanumeric byte || nat_eq byte 95

-- a letter or an underscore, then letters, digits and underscores, 32 bytes at most
abbrev pub is_site_name : List ℕ → Bool
is_site_name [] = false
is_site_name (first ∷ rest) = (is_ascii_alphabetic first || nat_eq first 95) && (list_all is_name_byte rest
    && nat_lt (length rest) longest_site_name)
