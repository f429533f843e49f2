use mathlib.Core.Path.{sym, ◌∙◌}
use Rattle.pages.proofs.Books.{no_book, no_room, spelled}
use Rattle.spell.proofs.put_book.Goals as goal

pub returns-then-not-sizes_fit : goal.returns-then-not-sizes_fit
returns-then-not-sizes_fit c =
    let a = c.args in
    let e = no_book a.m a.ram.now a.tags.now a.out.now (sym c.sizes_fit.ensures ∙ c.if-not-sizes_fit.true) in
    record { value = e.0; out_after = e.1 }

pub returns-then-bytes-out : goal.returns-then-bytes-out
returns-then-bytes-out c =
    let a = c.args in
    let e = spelled a.m a.ram.now a.tags.now a.out.now (sym c.sizes_fit.ensures ∙ c.if-not-sizes_fit.false) _ _ c.spell_all-bytes.ensures _ _ c.if-bytes-out.true c.spell_all.ensures in
    record { value = e.0; out_after = e.1 }

pub returns-else-bytes-out : goal.returns-else-bytes-out
returns-else-bytes-out c =
    let a = c.args in
    let e = no_room a.m a.ram.now a.tags.now a.out.now (sym c.sizes_fit.ensures ∙ c.if-not-sizes_fit.false) _ _ c.spell_all-bytes.ensures c.if-bytes-out.false in
    record { value = e.0; out_after = e.1 }
