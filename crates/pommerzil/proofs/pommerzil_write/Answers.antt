use Rattle.pommerzil.proofs.Laws.{told}
use Rattle.pommerzil.proofs.pommerzil_write.Goals as goal

pub returns : goal.returns
returns c = let w = c.write_from-answer.ensures in
    let t = told _ _ _ _ w.value c.code_of.ensures c.bytes_of.ensures in
    record { code = t.0; book = w.book_after; written = t.1 }
