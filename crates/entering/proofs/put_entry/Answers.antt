use Rattle.pages.specs.Entering.{ram_with}
use Rattle.pages.proofs.Enters.{copied, is_line_lem}
use Rattle.entering.proofs.put_entry.Goals as goal

pub returns-in-Line-clause-ram_after : goal.returns-in-Line-clause-ram_after
unfolding ram_with
returns-in-Line-clause-ram_after c = let a = c.args in
    let f = (is_line_lem _ _ _ _ _ c.in-Line.is c.requires) in
    rw c.in-Line.is (copied a.book.now a.ram.now _ a.end _ f.0 f.1 f.3 c.copy_from_slice.ensures.after)
