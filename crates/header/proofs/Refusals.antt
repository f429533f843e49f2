-- The refusals that a book can have, whatever its bytes. Assumes nothing.
use Rattle.std.specs.Prelude.{Result, Ok, Err, Some, None}
use Prim.Native.Nat.{ℕ, zero, suc, ◌+◌, ◌-◌}
use mathlib.Core.List.{List}
use lib.Dec.{eqb, leb, ltb}
use lib.ListN.{length, take, drop}
use Rattle.manual.specs.Accept.{sizes_fit}
use Rattle.manual.specs.declared.Refusal.{Refusal}
use Rattle.pages.specs.declared.Entry.{Entry}
use Rattle.pages.specs.Record.{Head, byte, number, body_at, head_at}
use Rattle.pages.specs.Entry.{entry_of}
use Rattle.pages.proofs.Entries.{when, by_kind}
use Rattle.pages.specs.Book.{Step, kind_of, key_of, in_order, after_entry, after_head, step_at, walk, check_book}
use Rattle.pages.specs.Enter.{judged}

-- a book is refused with 20, 22 and 30 to 34 alone
abbrev pub OfBook : Refusal → Type 0
OfBook Refusal.Sizes = Unit {0}
OfBook Refusal.TagByte = ⊥
OfBook Refusal.Top = Unit {0}
OfBook Refusal.Width = ⊥
OfBook Refusal.Version = Unit {0}
OfBook Refusal.Cut = Unit {0}
OfBook Refusal.Kind = Unit {0}
OfBook Refusal.Order = Unit {0}
OfBook Refusal.Field = Unit {0}
OfBook Refusal.Waiting = ⊥
OfBook Refusal.Room = ⊥

-- of whatever is read: where it is refused, then with one of these
abbrev pub Fair : {A : Type 0} → Result A Refusal → Type 0
Fair (Ok _) = Unit {0}
Fair (Err refusal) = OfBook refusal

entry_fair : (body : List ℕ) (ram : ℕ) → Fair (entry_of body ram)
entry_fair body ram = by_kind Fair body ram tt tt tt tt (λ _ _. tt) (λ _ _. tt) (λ _ _. tt)

after_entry_lem : (end : ℕ) (entry : Result Entry Refusal) (kind key : ℕ) → Fair entry → Fair (after_entry end entry kind key)
unfolding after_entry
after_entry_lem end (Ok entry) kind key f = when Fair (in_order kind key (kind_of entry) (key_of entry)) _ _ (λ _. tt) tt
after_entry_lem end (Err refusal) kind key f = f

module _ (book : List ℕ) (ram : ℕ) where
  after_head_lem : (head : Head) (kind key : ℕ) → Fair head → Fair (after_head book ram head kind key)
  unfolding after_head
  after_head_lem (Ok None) kind key f = tt
  after_head_lem (Err refusal) kind key f = f
  after_head_lem (Ok (Some b)) kind key f =
      let body = take b.bytes (drop b.start book) in
      after_entry_lem (b.start + b.bytes) (entry_of body ram) kind key (entry_fair body ram)

  head_fair : (at : ℕ) → Fair (head_at book at)
  unfolding head_at body_at
  head_fair at =
      when Fair (leb (length book) at) _ _ (λ _. tt)
      (when Fair (ltb (length book - at) 2) _ _ (λ _. tt)
      (when Fair (eqb (number book at 2) 0) _ _ (λ _. tt)
      (when Fair (ltb (length book - (at + 2)) (number book at 2)) _ _ (λ _. tt) tt)))

  step_fair : (at kind key : ℕ) → Fair (step_at book ram at kind key)
  unfolding step_at
  step_fair at kind key = after_head_lem (head_at book at) kind key (head_fair at)

  walk_fair : (n : ℕ) (step : Step) → Fair step → Fair (walk n book ram step)
  unfolding walk
  walk_fair zero step f = tt
  walk_fair (suc n) (Ok None) f = tt
  walk_fair (suc n) (Err refusal) f = f
  walk_fair (suc n) (Ok (Some r)) f = walk_fair n (step_at book ram r.end (kind_of r.entry) (key_of r.entry)) (step_fair r.end (kind_of r.entry) (key_of r.entry))

  check_fair : Fair (check_book book ram)
  unfolding check_book
  check_fair =
      when Fair (eqb (length book) 0) _ _ (λ _. tt)
      (when Fair (eqb (byte book 0) 1) _ _ (λ _. walk_fair (length book) (step_at book ram 1 0 0) (step_fair 1 0 0)) tt)

pub judged_fair : (book : List ℕ) (flash ram tags : ℕ) → Fair (judged book flash ram tags)
unfolding judged
judged_fair book flash ram tags = when Fair (sizes_fit flash ram tags) _ _ (λ _. check_fair book ram) tt

-- what holds of each of them holds of every refusal of a book
pub each : (P : Refusal → Type 0) → P Refusal.Sizes → P Refusal.Top → P Refusal.Version → P Refusal.Cut → P Refusal.Kind → P Refusal.Order → P Refusal.Field
    → (refusal : Refusal) → OfBook refusal → P refusal
each P sizes top version cut kind order field Refusal.Sizes f = sizes
each P sizes top version cut kind order field Refusal.TagByte f = absurd f
each P sizes top version cut kind order field Refusal.Top f = top
each P sizes top version cut kind order field Refusal.Width f = absurd f
each P sizes top version cut kind order field Refusal.Version f = version
each P sizes top version cut kind order field Refusal.Cut f = cut
each P sizes top version cut kind order field Refusal.Kind f = kind
each P sizes top version cut kind order field Refusal.Order f = order
each P sizes top version cut kind order field Refusal.Field f = field
each P sizes top version cut kind order field Refusal.Waiting f = absurd f
each P sizes top version cut kind order field Refusal.Room f = absurd f
