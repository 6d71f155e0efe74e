-- The classes of bytes. A byte is its number, as 97 for `a`.
use Rattle.std.specs.Prelude.{ℕ, ◌==◌, nat_le, Bool, not, ◌&&◌, ◌||◌}

-- space, tab, vertical tab, form feed and carriage return; a line feed ends a line
abbrev pub is_blank : ℕ → Bool
is_blank c = c == 32 || c == 9 || c == 11 || c == 12 || c == 13

abbrev pub is_feed : ℕ → Bool
is_feed c = c == 10

-- one of the ten digits
abbrev pub is_decimal : ℕ → Bool
is_decimal c = nat_le 48 c && nat_le c 57

-- a letter or `_`
abbrev pub begins_name : ℕ → Bool
begins_name c = (nat_le 97 c && nat_le c 122) || (nat_le 65 c && nat_le c 90) || c == 95

abbrev pub is_in_name : ℕ → Bool
is_in_name c = begins_name c || is_decimal c

-- a letter, a digit, `_` or `.`
abbrev pub is_in_number : ℕ → Bool
is_in_number c = is_in_name c || c == 46

-- any byte but a line feed
abbrev pub is_in_line : ℕ → Bool
is_in_line c = not (c == 10)
