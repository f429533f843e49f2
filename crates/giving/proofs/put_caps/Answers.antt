use Rattle.std.proofs.Common.{rules, arith, ◌≡◌, length, get_or}
use Rattle.manual.specs.Narrow.{null}
use Rattle.pages.specs.Compose.{record_of, cap_body}
use Rattle.pages.specs.Registers.{cap_records}
use Rattle.pages.proofs.Fields.{cap_bytes_lem}
use Rattle.giving.proofs.put_caps.Goals as goal

pub returns : goal.returns
unfolding cap_records
returns c =
    c.put_each.ensures
    (λ i end n o o' low high e.
    let f : n ≡ length (record_of (cap_body i (get_or c.args.caps.now i null))) = search rules in
    omega (arith, f, cap_bytes_lem i (get_or c.args.caps.now i null)))
    (omega arith)
    (λ i. record_of (cap_body i (get_or c.args.caps.now i null))) (λ i end n o o' low high e. (search rules, search rules))
