use Rattle.std.proofs.Common.{rules, refl, ◌∙◌, ◌+◌, length-append, ◌≡◌, ◌∷◌, [], ◌++◌, take, ap, subst, inl, inr, of_calls}
use Rattle.std.proofs.lemmas.Fn.{FoldsTo-push}
use Rattle.pieces.specs.Pieces.{ReadsBody}
use Rattle.pieces.proofs.each_case.Goals as goal

pub returns-then-n-eq0 : goal.returns-then-n-eq0
returns-then-n-eq0 g c =
    let so_far = c.loop.invariant.1 in
    let none : take c.next_body-n.result c.next_body-n.new.space ≡ [] = ap (λ k. take k c.next_body-n.new.space) c.if-n-eq0.true in
    (so_far.0, (_, c.loop.run), so_far.2, inl (subst (ReadsBody _ _) none c.next_body-n.ensures.bytes))

pub loop-preserved : goal.loop-preserved
loop-preserved g c =
    let so_far = c.loop.invariant.1 in
    let body = take c.next_body-n.result c.next_body-n.new.space in (
      search of_calls,
      (
        so_far.0 ++ (body ∷ []),
        length-append so_far.0 (body ∷ []) ∙ ap (λ n. n + 1) so_far.1,
        FoldsTo-push _ _ _ _ body _ so_far.2 (c.next_body-n.ensures.bytes, record { shown = _; shows = refl; called = c.in_ok-run.ensures }),
      ),
    )

pub returns : goal.returns
returns g c =
    let so_far = c.loop.invariant.1 in
    (so_far.0, (_, c.loop.run), so_far.2, inr (search rules, search rules))
