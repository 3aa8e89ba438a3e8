use Rattle.qc_moves_command.proofs.WorkedLemmas.{sheet_leads}
use Rattle.qc_moves_command.proofs.laws.sheets_lead_there.Goals as goal

pub returns : goal.returns
returns c = sheet_leads
