use Rattle.std.specs.Prelude.{Ok, Err}
use mathlib.Core.Path.{refl, sym, ◌∙◌}
use borrow.Author.Tests.{lt-leb}
use Rattle.pages.specs.Registers.{REGISTERS}
use Rattle.pages.specs.Handing.{read_into}
use Rattle.handing.proofs.Laws.{started}
use Rattle.handing.proofs.read_into.Goals as goal

pub returns-then-registers-lt-REGISTERS : goal.returns-then-registers-lt-REGISTERS
unfolding read_into
returns-then-registers-lt-REGISTERS c = rw (lt-leb REGISTERS _ c.if-registers-lt-REGISTERS.true) record { code = c.refusal_number.ensures; ram = refl; tags = refl; registers = refl }

pub returns-in-Ok : goal.returns-in-Ok
returns-in-Ok c = let read = c.read_book.ensures in
    let told = c.in-Ok.ensures in
    let e = started _ _ _ _ _ c.if-registers-lt-REGISTERS.false (Ok tt) _ _ _ _ _ (sym told.verdict) told.machine read.ram read.tags c.put_registers.ensures refl in
    record { code = e.0; ram = e.1.0; tags = e.1.1.0; registers = e.1.1.1 }

pub returns-in-Err : goal.returns-in-Err
returns-in-Err c = let read = c.read_book.ensures in
    let told = c.in-Err.ensures in
    let e = started _ _ _ _ _ c.if-registers-lt-REGISTERS.false (Err c.in-Err.refusal) _ _ _ _ _ (sym told.verdict) (c.zero_machine.ensures ∙ sym told.machine) read.ram read.tags c.put_registers-in-Err.ensures c.refusal_number-in-Err.ensures in
    record { code = e.0; ram = e.1.0; tags = e.1.1.0; registers = e.1.1.1 }
