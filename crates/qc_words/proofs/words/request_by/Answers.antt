use Rattle.std.proofs.Common.{◌∙◌, ap, IsTrue, List, Option, refl}
use Rattle.std.specs.Option.{option_map_or}
use Rattle.clap.specs.Words.{App, Row, app_of, found_of, rows_of, is_simple_and_free}
use Rattle.qc_words.specs.declared.commands.CommandName.{CommandName}
use Rattle.qc_words.specs.declared.commands.CommandName.TheVariants as name
use Rattle.qc_words.specs.Asked.{usage}
use Rattle.qc_words.specs.Commands.{command_of, read_by}
use Rattle.qc_words.specs.Words.{asked_in, texts}
use Rattle.qc_words.proofs.ReadLemmas.{asks_what_is_read}
use Rattle.qc_words.proofs.words.request_by.Goals as goal

each_is_simple : (n : CommandName) → IsTrue (is_simple_and_free (command_of n))
each_is_simple name.Plan = refl
each_is_simple name.Check = refl
each_is_simple name.Tasks = refl
each_is_simple name.Show = refl
each_is_simple name.Make = refl
each_is_simple name.Free = refl
each_is_simple name.FreeCheck = refl
each_is_simple name.Sheet = refl
each_is_simple name.Watch = refl
each_is_simple name.Dispatch = refl
each_is_simple name.Picture = refl
each_is_simple name.Report = refl
each_is_simple name.Moves = refl
each_is_simple name.Odds = refl
each_is_simple name.Rest = refl

pub read-requires : goal.read-requires
read-requires c = ap is_simple_and_free c.in_ok-command_of.ensures ∙ each_is_simple c.args.name

pub returns : goal.returns
returns c =
    asks_what_is_read (asked_in c.args.name) (app_of c.in_ok-command_of.field-0) (command_of c.args.name)
    (texts c.args.words.now) (rows_of (found_of c.in-Some.matches)) _ c.asked_in-request.ensures
    (rw c.in-Some.is at c.in_ok-matches.ensures) c.in_ok-command_of.ensures

pub returns-in_default : goal.returns-in_default
returns-in_default c =
    ap (λ (rows : Option (List Row)). option_map_or (asked_in c.args.name) rows usage)
    ((rw c.in_default.is at c.in_ok-matches.ensures) ∙ ap (λ (a : App). read_by a (texts c.args.words.now)) c.in_ok-command_of.ensures)
