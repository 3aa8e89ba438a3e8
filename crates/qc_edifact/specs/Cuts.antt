-- public: a text cut at signs that no release sign takes along.
use Rattle.std.specs.Prelude.{◌≡◌, ℕ, List, [], ◌∷◌, map, get_or, Bool, true, false, not, ◌&&◌, ◌==◌, Option, MatchOption}
use Rattle.std.specs.Borrow.{Bor}
use Rattle.std.specs.List.{onto_first}
use Rattle.qc_edifact.specs.Signs.{is_release}
use Rattle.qc_edifact.specs.declared.signs.Signs.{Signs}

-- a byte cuts that is the sign and isn't taken along
abbrev pub ends_piece : ℕ → Bool → ℕ → Bool
ends_piece sign taken b = not taken && (b == sign)

-- a byte that ends a piece, or one ahead of the first of these pieces
abbrev pub ahead_of : Bool → ℕ → List (List ℕ) → List (List ℕ)
ahead_of true b pieces = [] ∷ pieces
ahead_of false b pieces = onto_first b pieces

-- the pieces of a text that is cut at a sign. Of its first byte is told whether a release sign takes
-- it along: then it stands for itself
abbrev pub cut : Signs → ℕ → Bool → List ℕ → List (List ℕ)
cut signs sign taken [] = [] ∷ []
cut signs sign taken (b ∷ bs) =
    let ends : Bool = ends_piece sign taken b in
    ahead_of ends b (cut signs sign (not taken && not ends && is_release signs b) bs)

-- a byte that drops out of these bytes, or stands ahead of them
abbrev pub unless : Bool → ℕ → List ℕ → List ℕ
unless true b bytes = bytes
unless false b bytes = b ∷ bytes

-- a text without the release signs that aren't taken along
abbrev pub unreleased : Signs → Bool → List ℕ → List ℕ
unreleased signs taken [] = []
unreleased signs taken (b ∷ bs) =
    let drops : Bool = not taken && is_release signs b in
    unless drops b (unreleased signs drops bs)

-- a segment by its elements, each by its components
abbrev pub Elements : Type 0
Elements = List (List (List ℕ))

-- those of a segment's bytes, without release signs
abbrev pub elements_of : Signs → List ℕ → Elements
elements_of signs segment =
    map (λ element. map (unreleased signs false) (cut signs signs.component false element))
    (cut signs signs.element false segment)

-- a component of an element, both counted from 0; empty where there is none
abbrev pub part_of : Elements → ℕ → ℕ → List ℕ
part_of segment element component = get_or (get_or segment element []) component []

-- what a text's first cut leaves ahead of it and behind it; or there is none
abbrev pub CutsOff : Signs → ℕ → List ℕ → Option (Bor (List ℕ) × Bor (List ℕ)) → Type 0
CutsOff signs sign text parts = MatchOption parts (cut signs sign false text ≡ text ∷ [])
    (λ p. cut signs sign false text ≡ p.0.now ∷ cut signs sign false p.1.now)

-- the piece of this number
abbrev pub piece_of : Signs → ℕ → List ℕ → ℕ → List ℕ
piece_of signs sign text number = get_or (cut signs sign false text) number []
