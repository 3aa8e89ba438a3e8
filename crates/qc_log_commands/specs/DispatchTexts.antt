-- public: what is printed of the course of the work.
use Rattle.std.specs.Prelude.{ℕ, List, ◌++◌, codes, decimal}
use Rattle.std.specs.List.{flat_map}
use Rattle.qc_dispatch.specs.declared.event.Event.{Event}
use Rattle.qc_dispatch.specs.declared.event.Event.TheVariants.{Started, Finished}
use Rattle.qc_dispatch.specs.Course.{Course, left, running}
use Rattle.qc_dispatch.specs.Journal.{Journal}

-- the line of a start, with the crane, or of an end
abbrev pub event_line : Event → List ℕ
event_line (Started task crane at) = codes "start " ++ task ++ codes " " ++ crane ++ codes " " ++ decimal at ++ codes "\n"
event_line (Finished task at) = codes "end " ++ task ++ codes " " ++ decimal at ++ codes "\n"

-- the moment that it is, how many tasks have no start, and how many run
abbrev pub state_text : Course → List ℕ
state_text c =
    codes "now " ++ decimal c.clock ++ codes "\nleft " ++ decimal (left c) ++ codes "\nrunning " ++ decimal (running c)
    ++ codes "\n"

-- what happened, in the order in which it did, and how things stand
abbrev pub journal_text : Journal → List ℕ
journal_text journal = flat_map event_line journal.events ++ state_text journal.course
