-- public: numbers in plain decimal.
use Rattle.std.specs.Prelude.{ℕ, Bool, not, ◌&&◌, ◌||◌, ◌==◌, nat_le, if◌then◌else◌, List, length, get_or, Option, None, Some}
use Rattle.std.specs.Char.{is_ascii_digit}
use Rattle.std.specs.List.{list_all}
use Rattle.std.specs.Str.Parse.{digits_value}

-- plain decimal of at most so many digits: `0`, or digits of which the first isn't `0`
abbrev pub is_plain : ℕ → List ℕ → Bool
is_plain most text =
    list_all is_ascii_digit text && nat_le 1 (length text) && nat_le (length text) most
    && ((length text == 1) || not (get_or text 0 0 == 48))

-- the number that the text is, where it is one of at most so many digits
abbrev pub number_in : ℕ → List ℕ → Option ℕ
number_in most text = if is_plain most text then Some (digits_value 10 text) else None
