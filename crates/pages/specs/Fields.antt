-- A capability record of a start book (01, "Start book").
use Rattle.std.specs.Prelude.{ℕ, ◌%◌, ◌^◌, cond, ◌&&◌, List, length, eqb, leb, ltb, Result, Ok, Err}
use Rattle.manual.specs.declared.Cap.{Cap}
use Rattle.manual.specs.Accept.{top_fits}
use Rattle.manual.specs.declared.Refusal.{Refusal}
use Rattle.pages.specs.declared.Entry.{Entry}
use Rattle.pages.specs.Record.{byte, number}

-- kind 1, 36 bytes: kind, number (0..31, 32 for PCC), tag, sealed, spare, otype (3), permissions (4, top bit 0), base, length, offset
unfoldable pub cap_of : List ℕ → Cap
cap_of body =
    record {
      base = record { 0 = number body 12 8 };
      length = number body 20 8;
      offset = record { 0 = number body 28 8 };
      perms = number body 8 4 % 2 ^ 31;
      otype = number body 5 3 % 2 ^ 24;
      spare = byte body 4;
      tag = eqb (byte body 2) 1;
      sealed = eqb (byte body 3) 1;
    }

unfoldable pub capability_of : List ℕ → Result Entry Refusal
capability_of body =
    cond (eqb (length body) 36)
    (cond (leb (byte body 1) 32 && (leb (byte body 2) 1 && (leb (byte body 3) 1 && ltb (byte body 8) 128)))
    (cond (top_fits (cap_of body)) (Ok (Entry.Capability (byte body 1) (cap_of body))) (Err Refusal.Top))
    (Err Refusal.Field))
    (Err Refusal.Cut)
