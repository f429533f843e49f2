use Rattle.pages.specs.Compose.{line_body}
use Rattle.compose.proofs.Records.{byte_of_tag}
use Rattle.compose.proofs.put_line.Goals as goal

pub returns : goal.returns
unfolding line_body
returns c = rw (← byte_of_tag c.args.tag, ← c.from.ensures) c.put_record.ensures
