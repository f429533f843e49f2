use mathlib.Core.Path.{refl}
use mathlib.Core.Bool.{true, false}
use Rattle.manual.specs.Word.{field25}
use Rattle.manual.specs.Decode.{lookup, majors, decode_word}
use Rattle.manual.specs.Plan.{plan_of}
use Rattle.special.proofs.Laws.{immediate_means, lui_means}
use Rattle.plain.proofs.Laws.{branch_means}
use Rattle.plain.proofs.plainly.Goals as goal

pub returns-in-0 : goal.returns-in-0
unfolding lookup majors decode_word
returns-in-0 c = rw c.in-0.is (λ o s. c.special.ensures o _ _ _ s.is_n15 s.is_g25 s.is_g20)

pub returns-in-4 : goal.returns-in-4
unfolding lookup majors decode_word
returns-in-4 c = λ o s. branch_means o _ _ _ _ _ _ _ _ s c.args.word true _ _ (rw c.in-4.is refl) (rw c.signed_16-x.ensures at c.branches.ensures) c.is_wanted.ensures

pub returns-in-5 : goal.returns-in-5
unfolding lookup majors decode_word
returns-in-5 c = λ o s. branch_means o _ _ _ _ _ _ _ _ s c.args.word false _ _ (rw c.in-5.is refl) (rw c.signed_16-x.ensures at c.branches-in-5.ensures) c.is_wanted-in-5.ensures

pub returns-in-12 : goal.returns-in-12
unfolding lookup majors decode_word
returns-in-12 c = rw c.in-12.is (λ o s. immediate_means o _ _ _ _ _ _ _ _ (rw c.from-low.ensures at c.compute.ensures) s.is_n20 s.is_g25)

pub returns-in-13 : goal.returns-in-13
unfolding lookup majors decode_word
returns-in-13 c = rw c.in-13.is (λ o s. immediate_means o _ _ _ _ _ _ _ _ (rw c.from-low.ensures at c.compute-in-13.ensures) s.is_n20 s.is_g25)

pub returns-in-15 : goal.returns-in-15
unfolding lookup majors decode_word
returns-in-15 c = rw (c.in-15.is, c.then_some.ensures, c.upper.ensures) (λ o s. lui_means o _ _ _ (field25 c.args.word) _ _ _ refl s.is_n20)

pub returns-in-25 : goal.returns-in-25
unfolding lookup majors decode_word
returns-in-25 c = rw (c.in-25.is, ← c.signed_16-x.ensures) (λ o s. immediate_means o _ _ _ _ _ _ _ _ c.compute-in-25.ensures s.is_n20 s.is_g25)

pub returns-in-36 : goal.returns-in-36
unfolding lookup majors decode_word plan_of
returns-in-36 c = rw (c.in-36.is, ← c.signed_16-x.ensures) (λ o s. c.load.ensures o c.args.tags.now _ (rw (s.is_n20, s.is_c0, s.is_g25)))

pub returns-in-40 : goal.returns-in-40
unfolding lookup majors decode_word plan_of
returns-in-40 c = rw (c.in-40.is, ← c.signed_16-x.ensures) (λ o s. c.store.ensures o _ (rw (s.is_g20, s.is_c0, s.is_g25)))

pub returns-in-55 : goal.returns-in-55
unfolding lookup majors decode_word plan_of
returns-in-55 c = rw (c.in-55.is, ← c.signed_16-x.ensures) (λ o s. c.load-in-55.ensures o c.args.tags.now _ (rw (s.is_n20, s.is_c0, s.is_g25)))

pub returns-in-63 : goal.returns-in-63
unfolding lookup majors decode_word plan_of
returns-in-63 c = rw (c.in-63.is, ← c.signed_16-x.ensures) (λ o s. c.store-in-63.ensures o _ (rw (s.is_g20, s.is_c0, s.is_g25)))
