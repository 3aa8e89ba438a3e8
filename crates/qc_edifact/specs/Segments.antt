-- public: the segments of a text.
use Rattle.std.specs.Prelude.{ℕ, List, [], ◌∷◌, length, take, drop, false, nat_le, if◌then◌else◌, Result, Ok, Err, Option, None, Some, codes}
use Rattle.std.specs.Str.{bytes_eq}
use Rattle.qc_edifact.specs.Cuts.{Elements, cut, elements_of}
use Rattle.qc_edifact.specs.Signs.{signs_told, usual}
use Rattle.qc_edifact.specs.Texts.{skip_blanks}
use Rattle.qc_edifact.specs.declared.signs.Signs.{Signs}
use Rattle.qc_edifact.specs.declared.segments.NoSigns.{NoSigns}
use Rattle.qc_edifact.specs.declared.segments.SegmentFault.{SegmentFault}
use Rattle.qc_edifact.specs.declared.segments.SegmentFault.TheVariants.{TooLong, Cut}

-- a segment by its elements and their components, or what is wrong where it should come
abbrev pub Entry : Type 0
Entry = Result Elements SegmentFault

-- the most bytes of a segment
abbrev pub most_bytes : ℕ
most_bytes = 4096

-- what comes of the bytes behind the last end sign
abbrev pub left_over : List ℕ → List Entry
left_over [] = []
left_over (b ∷ bs) = (if nat_le (length (b ∷ bs)) most_bytes then Err Cut else Err TooLong) ∷ []

-- a segment, and what comes behind it; nothing comes behind a fault
abbrev pub whole : Signs → List ℕ → List Entry → List Entry
whole signs bytes behind =
    if nat_le (length bytes) most_bytes then Ok (elements_of signs bytes) ∷ behind
    else Err TooLong ∷ []

-- what comes of pieces, of which all but the last had an end sign
abbrev pub entries : Signs → List (List ℕ) → List Entry
entries signs [] = []
entries signs (piece ∷ []) = left_over (skip_blanks piece)
entries signs (piece ∷ next ∷ pieces) =
    whole signs (skip_blanks piece) (entries signs (next ∷ pieces))

-- the segments of a text by its signs
abbrev pub segments_of : Signs → List ℕ → List Entry
segments_of signs text = entries signs (cut signs signs.end false text)

-- those of a text by the signs that were told, if they can serve
abbrev pub by_signs : List ℕ → Option Signs → Result (List Entry) NoSigns
by_signs text None = Err (record {})
by_signs text (Some signs) = Ok (segments_of signs text)

-- those behind six bytes that tell the signs
abbrev pub told_in : List ℕ → Result (List Entry) NoSigns
told_in text = if nat_le 6 (length text) then by_signs (drop 6 text) (signs_told (take 6 text)) else Err (record {})

-- the segments of a text, which may tell its signs
abbrev pub segments_in : List ℕ → Result (List Entry) NoSigns
segments_in text = let begun : List ℕ = skip_blanks text in
    if bytes_eq (take 3 begun) (codes "UNA") then told_in (drop 3 begun)
    else Ok (segments_of usual begun)
