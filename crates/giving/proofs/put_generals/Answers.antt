use Rattle.std.proofs.Common.{rules, arith, ◌≡◌, length, get_or}
use Rattle.pages.specs.Compose.{record_of, general_body}
use Rattle.pages.specs.Registers.{general_records}
use Rattle.pages.proofs.Fields.{general_bytes}
use Rattle.giving.proofs.put_generals.Goals as goal

pub returns : goal.returns
unfolding general_records
returns c =
    c.put_each.ensures
    (λ i end n o o' low high e.
    let f : n ≡ length (record_of (general_body i (get_or c.args.general.now i 0))) = search rules in
    omega (arith, f, general_bytes i (get_or c.args.general.now i 0)))
    (omega arith)
    (λ i. record_of (general_body i (get_or c.args.general.now i 0))) (λ i end n o o' low high e. (search rules, search rules))
