use Rattle.std.proofs.Common.{length}
use Rattle.daytext.specs.Text.{parted}
use Rattle.dayfile.proofs.SheetRows.{asset_told}
use Rattle.dayfile.proofs.sheets.asset.Goals as goal

pub returns-clause-is : goal.returns-clause-is
returns-clause-is c = asset_told (length c.args.row.now) c.args.lines.now.number (parted 10 c.args.lines.now.rest.now) c.in_ok-text.text.now c.text.new.self c.asset_changes.new.row c.asset_changes.result c.in_ok-text.ensures.is c.asset_changes.ensures
