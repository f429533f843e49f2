use Rattle.manual.specs.declared.Instr.{Instr}
use Rattle.manual.specs.Word.{below}
use Rattle.manual.specs.Decode.{lookup, numbers, unused, capability_word}
use Rattle.manual.specs.Plan.{plan_of}
use Rattle.derivation.proofs.Laws.{leads, and_perm, clear_tag_lem, inc_base_lem, set_len, set_offset_lem, inc_offset_lem}
use Rattle.derivation.proofs.derived.Goals as goal

pub returns-in-10 : goal.returns-in-10
unfolding lookup numbers unused capability_word plan_of
returns-in-10 c = rw (c.in-10.is, c.then_some.ensures, c.tested-t.ensures, c.and_perms.ensures)
    (λ o count en ep ec eg. leads o (below 3 c.args.word) Instr.AndPerm _ _ _ (λ h. let x = and_perm c.args.word _ _ _ c.args.rt h in (x.0, rw (en, ep, ec, eg) x.1)))

pub returns-in-11 : goal.returns-in-11
unfolding lookup numbers unused capability_word plan_of
returns-in-11 c = rw (c.in-11.is, c.then_some-in-11.ensures, c.tested-t.ensures, c.clear_tag.ensures)
    (λ o count en ep ec eg. leads o (below 2 c.args.word) Instr.ClearTag _ _ _ (λ h. let x = clear_tag_lem c.args.word _ _ _ c.args.rt h in (x.0, rw (en, ep, ec) x.1)))

pub returns-in-12 : goal.returns-in-12
unfolding lookup numbers unused capability_word plan_of
returns-in-12 c = rw (c.in-12.is, c.then_some-in-12.ensures, c.tested-t.ensures, c.inc_base.ensures)
    (λ o count en ep ec eg. leads o (below 3 c.args.word) Instr.IncBase _ _ _ (λ h. let x = inc_base_lem c.args.word _ _ _ c.args.rt h in (x.0, rw (en, ep, ec, eg) x.1)))

pub returns-in-13 : goal.returns-in-13
unfolding lookup numbers unused capability_word plan_of
returns-in-13 c = rw (c.in-13.is, c.then_some-in-13.ensures, c.tested-t.ensures, c.set_length.ensures)
    (λ o count en ep ec eg. leads o (below 3 c.args.word) Instr.SetLength _ _ _ (λ h. let x = set_len c.args.word _ _ _ c.args.rt h in (x.0, rw (en, ep, ec, eg) x.1)))

pub returns-in-14 : goal.returns-in-14
unfolding lookup numbers unused capability_word plan_of
returns-in-14 c = rw (c.in-14.is, c.then_some-in-14.ensures, c.tested-t.ensures, c.set_offset.ensures)
    (λ o count en ep ec eg. leads o (below 3 c.args.word) Instr.SetOffset _ _ _ (λ h. let x = set_offset_lem c.args.word _ _ _ c.args.rt h in (x.0, rw (en, ep, ec, eg) x.1)))

pub returns-in-15 : goal.returns-in-15
unfolding lookup numbers unused capability_word plan_of
returns-in-15 c = rw (c.in-15.is, c.then_some-in-15.ensures, c.tested-t.ensures, c.inc_offset.ensures)
    (λ o count en ep ec eg. leads o (below 3 c.args.word) Instr.IncOffset _ _ _ (λ h. let x = inc_offset_lem c.args.word _ _ _ c.args.rt h in (x.0, rw (en, ep, ec, eg) x.1)))
