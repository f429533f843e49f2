use Rattle.std.proofs.Common.{rules, ◌∙◌, sym, nat_eq}
use Rattle.std.proofs.lemmas.Iterator.{YieldsList-from_slice}
use Rattle.std.proofs.lemmas.Iterator.Search.{all_from_yields_List}
use Rattle.compose.proofs.Zeros.{every_element}
use Rattle.compose.proofs.all_zero.Goals as goal

pub returns : goal.returns
returns c =
    let xs = c.args.bytes.now in
    all_from_yields_List (λ x. nat_eq x 0) _ _ _ c.all.ensures.ran (YieldsList-from_slice xs (cc)) (λ x b q k. search rules)
    ∙ sym (every_element (λ x. nat_eq x 0) xs)
