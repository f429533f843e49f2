-- The laws of the writer's answers after 24. Assumes nothing.
use Rattle.std.specs.Prelude.{Ok, Err}
use Prim.Native.Nat.{ℕ, ◌+◌, ◌≤◌, ◌<◌}
use mathlib.Core.Path.{◌≡◌, ◌∙◌, ap}
use mathlib.Core.Bool.{true, false}
use mathlib.Core.List.{List}
use native.Mathlib.Omega.{arith}
use lib.ListN.{length}
use borrow.Author.Tests.{lt-ltb, le-ltb}
use Rattle.manual.specs.Store.{put}
use Rattle.manual.proofs.Stores.{put-fits, put_out, length-put}
use Rattle.manual.specs.declared.Refusal.{Refusal}
use Rattle.manual.specs.Accept.{sizes_fit}
use Rattle.manual.specs.declared.Machine.{Machine}
use Rattle.pages.specs.Spell.{book_of, legal_book}
use Rattle.pages.specs.Write.{rests, refused, after_start}

module _ (m : Machine) (ram tags out : List ℕ) where
  pub waits : rests m ≡ false → refused Refusal.Waiting out ≡ after_start m ram tags out
  unfolding after_start
  waits h = rw h

  -- the sizes are legal, nothing is pending and the cause is 0
  module _ (fit : sizes_fit 0 (length ram) (length tags) ≡ true) (h : rests m ≡ true) (after : List ℕ) (n : ℕ)
      (p : (n ≡ length (legal_book m ram tags)) × (after ≡ put out 0 (legal_book m ram tags))) where
    legal : legal_book m ram tags ≡ book_of m ram tags
    unfolding legal_book
    legal = rw fit

    bytes : n ≡ length (book_of m ram tags)
    bytes = p.0 ∙ ap length legal

    puts : after ≡ put out 0 (book_of m ram tags)
    puts = p.1 ∙ ap (put out 0) legal

    kept : length after ≡ length out
    kept = ap length puts ∙ length-put out 0 (book_of m ram tags)

    pub no_room : length after < n → record { written = Err Refusal.Room; out = after } ≡ after_start m ram tags out
    unfolding after_start
    no_room k =
        let s : length out < length (book_of m ram tags) = omega (arith, bytes, kept, k) in
        let e : after ≡ out = puts ∙ put_out out 0 (book_of m ram tags) (omega (arith, s)) in
        rw (h, lt-ltb (length out) (length (book_of m ram tags)) s, e)

    pub written : n ≤ length after → record { written = Ok n; out = after } ≡ after_start m ram tags out
    unfolding after_start
    written k =
        let b = book_of m ram tags in
        let s : length b ≤ length out = omega (arith, bytes, kept, k) in
        let z : 0 + length b ≡ length b = omega arith in
        rw (h, le-ltb (length out) (length b) s, bytes, puts, put-fits out 0 b (omega (arith, s)), z)
