-- public: service signs.
use Rattle.std.specs.Prelude.{ℕ, List, slice_index, Bool, true, false, not, ◌&&◌, ◌==◌, nat_le, if◌then◌else◌, Option, None, Some}
use Rattle.std.specs.Char.{is_ascii_alphanumeric}
use Rattle.qc_edifact.specs.declared.signs.Signs.{Signs}

-- the signs of a text that tells none: `:`, `+`, `?` and `'`
abbrev pub usual : Signs
usual = record { component = 58; element = 43; release = Some 63; end = 39 }

-- a visible character that is no letter and no digit
abbrev pub is_sign : ℕ → Bool
is_sign b = nat_le 0x21 b && nat_le b 0x7E && not (is_ascii_alphanumeric b)

-- a release sign unlike the other three, or none
abbrev pub is_apart : Signs → Option ℕ → Bool
is_apart signs None = true
is_apart signs (Some b) =
    is_sign b && not (b == signs.component) && not (b == signs.element) && not (b == signs.end)

-- all are signs, and no two are the same
abbrev pub are_signs : Signs → Bool
are_signs signs =
    is_sign signs.component && is_sign signs.element && is_sign signs.end
    && not (signs.component == signs.element) && not (signs.component == signs.end)
    && not (signs.element == signs.end) && is_apart signs signs.release

-- the release sign that a byte tells: a blank tells that there is none
abbrev pub release_told : ℕ → Option ℕ
release_told b = if b == 0x20 then None else Some b

-- the signs that the six bytes behind `UNA` tell, of which the third and the fifth aren't read
abbrev pub six_signs : List ℕ → Signs
six_signs bytes = record {
  component = slice_index bytes 0;
  element = slice_index bytes 1;
  release = release_told (slice_index bytes 3);
  end = slice_index bytes 5;
}

-- the same where they can serve
abbrev pub signs_told : List ℕ → Option Signs
signs_told bytes = if are_signs (six_signs bytes) then Some (six_signs bytes) else None

-- a byte is this one, if there is one
abbrev pub is_this : Option ℕ → ℕ → Bool
is_this None b = false
is_this (Some sign) b = b == sign

-- a byte is the release sign
abbrev pub is_release : Signs → ℕ → Bool
is_release signs b = is_this signs.release b
