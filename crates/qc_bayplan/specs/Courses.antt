-- public: where a file stands between two segments, and where the next one leads.
use Rattle.std.specs.Prelude.{ℕ, ◌+◌, ◌-◌, List, length, codes, Bool, true, false, not, ◌&&◌, ◌||◌, ◌==◌, nat_le, if◌then◌else◌, Option, None, Some, Result, Ok, Err}
use Rattle.std.specs.Char.{is_ascii_digit, is_ascii_uppercase}
use Rattle.std.specs.List.{list_all}
use Rattle.std.specs.Str.{bytes_eq}
use Rattle.std.specs.Str.Parse.{digits_value}
use Rattle.qc_num.specs.Reading.{◌>>=◌, require}
use Rattle.qc_ship.specs.Cells.{CellView}
use Rattle.qc_edifact.specs.Cuts.{Elements, part_of}
use Rattle.qc_bayplan.specs.Places.{cell_at}
use Rattle.qc_bayplan.specs.declared.course.Course.{Course}
use Rattle.qc_bayplan.specs.declared.course.Held.{Held}
use Rattle.qc_bayplan.specs.declared.course.Held.TheVariants as held
use Rattle.qc_bayplan.specs.declared.course.Place.{Place}
use Rattle.qc_bayplan.specs.declared.stage.Stage.{Stage}
use Rattle.qc_bayplan.specs.declared.stage.Stage.TheVariants as stage
use Rattle.qc_bayplan.specs.declared.stage.Tag.{Tag}
use Rattle.qc_bayplan.specs.declared.stage.Tag.TheVariants as tag
use Rattle.qc_bayplan.specs.declared.fault.BayPlanKind.{BayPlanKind}
use Rattle.qc_bayplan.specs.declared.fault.BayPlanKind.TheVariants as kind

-- three capital letters
abbrev pub is_tag : List ℕ → Bool
is_tag text = (length text == 3) && list_all is_ascii_uppercase text

-- what may come nowhere: service signs once more, and groups
abbrev pub is_barred : List ℕ → Bool
is_barred text =
    bytes_eq text (codes "UNA") || bytes_eq text (codes "UNG") || bytes_eq text (codes "UNE")

-- what a tag tells
abbrev pub tag_named : List ℕ → Tag
tag_named text =
    if bytes_eq text (codes "UNB") then tag.Interchange
    else (if bytes_eq text (codes "UNH") then tag.Message
    else (if bytes_eq text (codes "BGM") then tag.Kind
    else (if bytes_eq text (codes "LOC") then tag.Location
    else (if bytes_eq text (codes "EQD") then tag.Equipment
    else (if bytes_eq text (codes "UNT") then tag.MessageEnd
    else (if bytes_eq text (codes "UNZ") then tag.InterchangeEnd
    else (if is_barred text then tag.Barred else tag.Other)))))))

-- what a text tells that must be a tag
abbrev pub tag_of : List ℕ → Result Tag BayPlanKind
tag_of text = do
  _ ← require (is_tag text) kind.Tag
  Ok (tag_named text)

-- the tag of a segment
abbrev pub tag_in : Elements → Result Tag BayPlanKind
tag_in segment = tag_of (part_of segment 0 0)

-- an interchange begins
abbrev pub is_interchange : Tag → Bool
is_interchange tag.Interchange = true
is_interchange _ = false

-- a message begins
abbrev pub is_message : Tag → Bool
is_message tag.Message = true
is_message _ = false

-- an interchange ends
abbrev pub is_interchange_end : Tag → Bool
is_interchange_end tag.InterchangeEnd = true
is_interchange_end _ = false

-- a container or other equipment
abbrev pub is_equipment : Tag → Bool
is_equipment tag.Equipment = true
is_equipment _ = false

-- what may stand in a message
abbrev pub is_inner : Tag → Bool
is_inner tag.Interchange = false
is_inner tag.Message = false
is_inner tag.InterchangeEnd = false
is_inner tag.Barred = false
is_inner _ = true

-- a tag may come at this stage
abbrev pub may_come : Stage → Tag → Bool
may_come stage.Begun t = is_interchange t || is_message t
may_come stage.Opened t = is_message t
may_come stage.Inside t = is_inner t
may_come stage.Closed t = is_interchange_end t
may_come stage.Over t = false

-- nothing may come any more
abbrev pub is_over : Stage → Bool
is_over stage.Over = true
is_over _ = false

-- a plan has just begun
abbrev pub beginning : Course
beginning = record {
  stage = stage.Begun;
  wrapped = false;
  first = 0;
  place = None;
  unnamed = 0;
  bundled = 0;
  other = 0;
}

-- a text of at most nine digits that has this value; it may begin with zeros
abbrev pub is_number : ℕ → List ℕ → Bool
is_number number text =
    list_all is_ascii_digit text && nat_le 1 (length text) && nat_le (length text) 9
    && (digits_value 10 text == number)

-- a component of an element is this text
abbrev pub has_text : Elements → ℕ → ℕ → List ℕ → Bool
has_text segment element component text = bytes_eq (part_of segment element component) text

-- a change of a plan, or the loads of a plan alone
abbrev pub is_partial : Elements → Bool
is_partial bgm =
    has_text bgm 3 0 (codes "1") || has_text bgm 3 0 (codes "2") || has_text bgm 3 0 (codes "3")
    || has_text bgm 3 0 (codes "4") || has_text bgm 1 3 (codes "LOADONLY")

-- a place with equipment and no container
abbrev pub is_other : Held → Bool
is_other held.Nothing = false
is_other held.Other = true
is_other held.Container = false

-- a place with a container
abbrev pub has_container : Held → Bool
has_container held.Nothing = false
has_container held.Other = false
has_container held.Container = true

-- one where a test holds, else none
abbrev pub one_if : Bool → ℕ
one_if true = 1
one_if false = 0

-- how many places with other equipment a place is
abbrev pub others_at : Option Place → ℕ
others_at None = 0
others_at (Some place) = one_if (is_other place.held)

-- no place is open any more
abbrev pub closed : Course → Course
closed course = record course { place = None; other = course.other + others_at course.place }

-- behind a UNB
abbrev pub opened : Course → Course
opened course = record course { stage = stage.Opened; wrapped = true }

-- behind a UNH of this number
abbrev pub begun : ℕ → Elements → Course → Result Course BayPlanKind
begun number unh course = do
  _ ← require (has_text unh 2 0 (codes "BAPLIE")) kind.NotBaplie
  Ok (record course { stage = stage.Inside; first = number })

-- behind a BGM
abbrev pub told : Elements → Course → Result Course BayPlanKind
told bgm course = do
  _ ← require (not (is_partial bgm)) kind.Partial
  Ok course

-- behind a LOC: one of a place closes the open one and opens another
abbrev pub located : Elements → Course → Course
located loc course = if has_text loc 1 0 (codes "147")
    then record (closed course) { place = Some (record { cell = cell_at loc; held = held.Nothing }) }
    else course

-- behind an EQD of a container: the place's own, or one that is bundled with it
abbrev pub with_container : Course → Option Place → Result Course BayPlanKind
with_container course None = Err kind.NoPlace
with_container course (Some place) = if has_container place.held
    then Ok (record course { bundled = course.bundled + 1 })
    else Ok (record course { place = Some (record { cell = place.cell; held = held.Container }) })

-- what an open place tells of its cell, where no container stands there yet
abbrev pub free_place : Option Place → Option (Result CellView BayPlanKind)
free_place None = None
free_place (Some place) = if has_container place.held then None else Some place.cell

-- what a place holds with other equipment
abbrev pub and_other : Held → Held
and_other held.Nothing = held.Other
and_other held.Other = held.Other
and_other held.Container = held.Container

-- the place that is open, with other equipment
abbrev pub with_other : Option Place → Option Place
with_other None = None
with_other (Some place) = Some (record { cell = place.cell; held = and_other place.held })

-- an EQD tells a container
abbrev pub is_container : Elements → Bool
is_container eqd = has_text eqd 1 0 (codes "CN")

-- behind an EQD
abbrev pub equipped : Elements → Course → Result Course BayPlanKind
equipped eqd course = if is_container eqd then with_container course course.place
    else Ok (record course { place = with_other course.place })

-- behind a message within an interchange a UNZ must come, else nothing
abbrev pub behind_message : Bool → Stage
behind_message true = stage.Closed
behind_message false = stage.Over

-- behind a UNT of this number, which counts the segments from its UNH on
abbrev pub finished : ℕ → Elements → Course → Result Course BayPlanKind
finished number unt course = do
  _ ← require (is_number (number + 1 - course.first) (part_of unt 1 0)) kind.Count
  Ok (record (closed course) { stage = behind_message course.wrapped })

-- behind a UNZ, which counts the messages
abbrev pub ended : Elements → Course → Result Course BayPlanKind
ended unz course = do
  _ ← require (is_number 1 (part_of unz 1 0)) kind.Count
  Ok (record course { stage = stage.Over })

-- behind the segment of this number
abbrev pub course_behind : ℕ → Tag → Elements → Course → Result Course BayPlanKind
course_behind number tag.Interchange segment course = Ok (opened course)
course_behind number tag.Message segment course = begun number segment course
course_behind number tag.Kind segment course = told segment course
course_behind number tag.Location segment course = Ok (located segment course)
course_behind number tag.Equipment segment course = equipped segment course
course_behind number tag.MessageEnd segment course = finished number segment course
course_behind number tag.InterchangeEnd segment course = ended segment course
course_behind number tag.Barred segment course = Ok course
course_behind number tag.Other segment course = Ok course
