use Rattle.std.proofs.Common.{◌≡◌, arith, ◌&&◌, eqb, ◌∙◌}
use Rattle.manual.specs.declared.Field.{Field}
use Rattle.manual.specs.Cap.{register_open}
use Rattle.manual.specs.Word.{below}
use Rattle.manual.specs.Decode.{lookup, numbers, unused, capability_word}
use Rattle.reading.proofs.Laws.{get_leads}
use Rattle.reading.proofs.read.Goals as goal
use Rattle.reading.proofs.read.Goals.{in-0, in-1, in-2, in-3, in-4, in-5, in-6}

pub returns : goal.returns
unfolding lookup numbers unused capability_word
returns c = λ o count en ep ec eg.
    let passes : c.if-word-eq0.then_some ≡ (eqb (below 2 c.args.word) 0 && register_open c.args.pcc.perms c.args.cb.number) = grind arith in
    rw c.then_some.ensures
    (elim c.match-word-rem32.branch [
      | in-0 w ↦ rw w.in-0.is (get_leads o (below 2 c.args.word) Field.Base _ _ _ c.args.pcc c.args.cb passes w.value-is en ep ec)
      | in-1 w ↦ rw w.in-1.is (get_leads o (below 2 c.args.word) Field.Length _ _ _ c.args.pcc c.args.cb passes w.value-is en ep ec)
      | in-2 w ↦ rw w.in-2.is (get_leads o (below 2 c.args.word) Field.Offset _ _ _ c.args.pcc c.args.cb passes w.value-is en ep ec)
      | in-3 w ↦ rw w.in-3.is (get_leads o (below 2 c.args.word) Field.Perms _ _ _ c.args.pcc c.args.cb passes (w.value-is ∙ w.from-value.ensures) en ep ec)
      | in-4 w ↦ rw w.in-4.is (get_leads o (below 2 c.args.word) Field.Tag _ _ _ c.args.pcc c.args.cb passes (w.value-is ∙ w.from-value-in-4.ensures) en ep ec)
      | in-5 w ↦ rw w.in-5.is (get_leads o (below 2 c.args.word) Field.Sealed _ _ _ c.args.pcc c.args.cb passes (w.value-is ∙ w.from-value-in-5.ensures) en ep ec)
      | in-6 w ↦ rw w.in-6.is (get_leads o (below 2 c.args.word) Field.Otype _ _ _ c.args.pcc c.args.cb passes (w.value-is ∙ w.from-value-in-6.ensures) en ep ec)
    ])
