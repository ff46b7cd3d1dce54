-- `line::Text::put`: the part fits behind the line.
use Rattle.std.proofs.Common.{rules}
use Rattle.line.proofs.Texts.{put-more}
use Rattle.line.proofs.Text.put.Goals as goal

pub returns : goal.returns
returns c = put-more _ _ (search rules) c.put.ensures
