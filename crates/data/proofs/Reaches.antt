-- An access whose checks all pass is planned. Assumes nothing.
use Rattle.std.specs.Prelude.{Result, Option, Ok, Some, None}
use Rattle.std.specs.Bool.{then_some}
use Rattle.std.proofs.Common.{◌≡◌, ℕ, ◌+◌, ◌-◌, ◌%◌, ◌^◌, ◌<◌, ◌≤◌, Bool, true, false, not, ltb, sym, refl, ap, ◌∙◌, arith, ltb-false, ltb-true}
use Rattle.manual.specs.declared.Address.{Address}
use Rattle.manual.specs.declared.Size.{Size}
use Rattle.manual.specs.Number.{bytes_in}
use Rattle.manual.specs.declared.Cap.{Cap}
use Rattle.manual.specs.Cap.{permits}
use Rattle.manual.specs.Access.{sum_of, aligned, placed_at, placed_from, access_of, placed}
use Rattle.manual.proofs.Sums.{net_at, up_up, up_down, fitting, sum_in, answer}
use Rattle.manual.specs.declared.Named.{Named}
use Rattle.manual.specs.declared.Fault.{Fault}
use Rattle.manual.specs.declared.Effect.{Effect}
use Rattle.manual.specs.Checks.{settle, opened, tagged, unsealed, granted}
use Rattle.manual.specs.Transfer.{lies}
use Rattle.data.specs.Data.{Lands, Reaches, Reached}
use Rattle.manual.specs.declared.Unfit.{Unfit}

pub planned_at : (r : Result Address Unfit) (register : ℕ) (fault : Fault) (effect : Address → Effect) (a : Address) → r ≡ Ok a → settle (lies (placed r register fault) effect) ≡ Ok (effect a)
unfolding settle
planned_at r register fault effect a q = rw q

-- an access that its checks let pass, planned
pub planned_reached : (permission : ℕ) (pcc : Cap) (cb : Named) (rt x size : ℕ) (a : Address) (fault : Fault) (effect : Address → Effect) → Reaches permission pcc cb rt x size a
    → settle (opened pcc cb.number (tagged cb (unsealed cb (granted permission cb (lies (placed (access_of cb.cap rt x size) cb.number fault) effect))))) ≡ Ok (effect a)
planned_reached permission pcc cb rt x size a fault effect t = t.passes _ ∙ planned_at _ cb.number fault effect a t.lands

pub a_line_at_most : (s : Size) → bytes_in s ≤ 32
a_line_at_most Size.One = omega arith
a_line_at_most Size.Two = omega arith
a_line_at_most Size.Four = omega arith
a_line_at_most Size.Eight = omega arith
a_line_at_most Size.Line = omega arith

-- the exact sum, where nothing in it is large
sums_up : (b n s offset rt x o : ℕ) → offset < 2 ^ 62 → rt < 2 ^ 62 → x < 2 ^ 63 → o ≡ ((offset + rt) % 2 ^ 64 + x) % 2 ^ 64 → placed_at b n o s ≡ placed_from b n (sum_of offset rt x) s
sums_up b n s offset rt x o ho hr hx q = sum_in b n s o _ (net_at (offset + (rt + x)) 0 o (omega arith) (omega arith) (omega arith) ∙ up_up offset rt x (omega arith) hx)

sums_down : (b n s offset rt x o : ℕ) → offset < 2 ^ 62 → rt < 2 ^ 62 → 2 ^ 63 ≤ x → x < 2 ^ 64 → o ≡ ((offset + rt) % 2 ^ 64 + x) % 2 ^ 64 → o < 2 ^ 62 → placed_at b n o s ≡ placed_from b n (sum_of offset rt x) s
sums_down b n s offset rt x o ho hr hx fx q h = sum_in b n s o _ (net_at (offset + rt) (2 ^ 64 - 1 - x + 1) o (omega arith) (omega arith) (omega arith) ∙ up_down offset rt x (omega arith) hx fx)

sums : (b n s offset rt x o : ℕ) (t : Bool) → ltb x (2 ^ 63) ≡ t → offset < 2 ^ 62 → rt < 2 ^ 62 → x < 2 ^ 64 → o ≡ ((offset + rt) % 2 ^ 64 + x) % 2 ^ 64 → o < 2 ^ 62 → placed_at b n o s ≡ placed_from b n (sum_of offset rt x) s
sums b n s offset rt x o true e ho hr fx q h = sums_up b n s offset rt x o ho hr (ltb-true x (2 ^ 63) e) q
sums b n s offset rt x o false e ho hr fx q h = sums_down b n s offset rt x o ho hr (ltb-false x (2 ^ 63) e) fx q h

pub near_lands : (c : Cap) (rt x o : ℕ) (size : Size) (a : Address) (aligns : Bool) → c.base.0 < 2 ^ 62 → c.offset.0 < 2 ^ 62 → rt < 2 ^ 62 → x < 2 ^ 64 → o ≡ ((c.offset.0 + rt) % 2 ^ 64 + x) % 2 ^ 64 → o < 2 ^ 62
    → o + bytes_in size ≤ c.length → a ≡ record { 0 = c.base.0 + o } → aligns ≡ aligned a.0 (bytes_in size) → Lands (access_of c rt x (bytes_in size)) (then_some aligns a)
unfolding access_of
near_lands c rt x o size a true hb ho hr fx q h fits at aligns = sym (let k = a_line_at_most size in fitting _ _ o (bytes_in size) {x = Ok a} fits (omega arith) (answer a _ (bytes_in size) true (ap (λ (y : Address). y.0) at) aligns) ∙ sums _ _ _ _ rt x o _ refl ho hr fx q h)
near_lands c rt x o size a false hb ho hr fx q h fits at aligns = tt

-- every check before it passed
pub reaches : (permission : ℕ) (opens : Bool) (c : Cap) (rt x size : ℕ) (r : Option Address) → opens ≡ true → c.tag ≡ true → not c.sealed ≡ true → permits c permission ≡ true → Lands (access_of c rt x size) r → Reached permission opens c rt x size r
unfolding settle
reaches permission opens c rt x size (Some a) may tag sealed grant l = λ pcc number h. record { lands = l; passes = λ rest. rw (← h, may, tag, sealed, grant) }
reaches permission opens c rt x size None may tag sealed grant l = λ pcc number h. tt
