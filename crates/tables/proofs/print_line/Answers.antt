use Rattle.std.proofs.Common.{◌++◌, [], append-nil, append_assoc, refl, sym, ◌∙◌, ap, subst}
use Rattle.std.proofs.KnownBytes.{Appends-nil, Appends-trans}
use Rattle.std.specs.Io.KnownBytes.{Appends}
use Rattle.tables.proofs.Lines.{line_none, line_one, line_more, fewer, passed}
use Rattle.tables.proofs.print_line.Goals as goal

pub loop-rest-init : goal.loop-rest-init
loop-rest-init g c = ([], Appends-nil _, refl)

pub returns-in-empty : goal.returns-in-empty
returns-in-empty g c =
    let i = c.loop-rest.invariant in
    let none = line_none c.loop-rest.rest.now c.in-empty.len_below in
    subst (Appends _ _) (sym (i.2 ∙ ap (λ l. i.0 ++ l) none ∙ append-nil i.0)) i.1

pub returns-in-len1 : goal.returns-in-len1
returns-in-len1 g c =
    let i = c.loop-rest.invariant in
    let one = line_one c.loop-rest.rest.now c.in-len1.len_at_least c.in-len1.len_below in
    let all = i.2 ∙ ap (λ l. i.0 ++ l) one in
    passed c.print.result (λ p. subst (Appends _ _) (sym all) (Appends-trans _ _ _ _ _ i.1 p)) c.print.ensures

pub loop-rest-smaller : goal.loop-rest-smaller
loop-rest-smaller g c = fewer c.loop-rest.rest.now c.in-len1-up.len_at_least

pub loop-rest-preserved : goal.loop-rest-preserved
loop-rest-preserved g c =
    let i = c.loop-rest.invariant in
    let more = line_more c.loop-rest.rest.now c.in-len1-up.len_at_least in
    (_, Appends-trans _ _ _ _ _ i.1 c.in_ok-print-in-len1-up.ensures, i.2 ∙ ap (λ l. i.0 ++ l) more ∙ sym (append_assoc i.0 _ _))
