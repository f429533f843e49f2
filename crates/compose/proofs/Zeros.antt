-- A test of every index of a list is one of every element. Assumes nothing.
use Rattle.std.specs.Prelude.{ℕ, zero, suc, ◌≡◌, refl, Bool, true, false, cond, ◌&&◌, List, [], ◌∷◌, length, get_or}
use Rattle.std.specs.List.{list_all}
use Rattle.std.proofs.Common.{◌∙◌, ap}
use Rattle.manual.specs.Accept.{every}

-- the same tests at indices one higher
shifted : (n i : ℕ) (p : ℕ → Bool) → every n (suc i) p ≡ every n i (λ k. p (suc k))
unfolding every
shifted zero i p = refl
shifted (suc n) i p = ap (λ b. cond (p (suc i)) b false) (shifted n (suc i) p)

both_cond : (a b : Bool) → cond a b false ≡ (a && b)
both_cond true b = refl
both_cond false b = refl

pub every_element : (p : ℕ → Bool) (xs : List ℕ) → every (length xs) 0 (λ i. p (get_or xs i 0)) ≡ list_all p xs
unfolding every
every_element p [] = refl
every_element p (x ∷ xs) =
    ap (λ b. cond (p x) b false) (shifted (length xs) 0 (λ i. p (get_or (x ∷ xs) i 0)) ∙ every_element p xs)
    ∙ both_cond (p x) (list_all p xs)
