use Rattle.std.proofs.Common.{append-nil}
use Rattle.pages.specs.Compose.{cap_body}
use Rattle.compose.proofs.Records.{byte_of_tag}
use Rattle.inscribe.proofs.put_cap.Goals as goal

pub returns : goal.returns
unfolding cap_body
returns c =
    let d = c.args.c in
    let t = byte_of_tag d.tag in
    let s = byte_of_tag d.sealed in
    let h = rw append-nil at c.put_record.ensures in
    cc
