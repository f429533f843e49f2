-- The bench examples, computed. Assumes nothing.
use Rattle.std.specs.Prelude.{Result, Ok, Err}
use Prim.Native.Nat.{ℕ, ◌/◌}
use mathlib.Core.Path.{◌≡◌, refl, ◌∙◌}
use mathlib.Core.Bool.{Bool, true, false, cond, ◌&&◌}
use mathlib.Core.List.{List, map}
use lib.Dec.{eqb, leb}
use lib.ListN.{length, replicate, length-replicate}
use borrow.Author.Tests.{eq-eqb}
use Rattle.manual.specs.Number.{LINE, be, extend_from, plus_mod, to_be}
use Rattle.manual.specs.Place.{bytes_of, number_of, place_of}
use Rattle.manual.specs.Store.{put, with_tag}
use Rattle.manual.specs.Cap.{access_bit, permitted, register_open}
use Rattle.manual.specs.Narrow.{inc_offset}
use Rattle.manual.specs.Access.{access_of, placed_at, placed_from, signed, sum_of}
use Rattle.manual.specs.Line.{cap_in, decode, from_words}
use Rattle.manual.specs.Decode.{coded_size, decode_word, if_zero, is_jump_word, load_word, lookup, majors, special_word}
use Rattle.manual.specs.Checks.{settle}
use Rattle.manual.specs.Transfer.{load}
use Rattle.manual.specs.Branch.{branch, branch_to}
use Rattle.manual.specs.Plan.{plan_of}
use Rattle.manual.specs.Perform.{ram_of, tags_of, turn_of}
use Rattle.manual.specs.Act.{planned_of}
use Rattle.manual.specs.Fetch.{fetch_of}
use Rattle.manual.specs.State.{commit, operands_of, stopped_at}
use Rattle.manual.specs.Steps.{ram_at, run_from, tags_at, turn_at}
use Rattle.manual.specs.declared.Refusal.{Refusal}
use Rattle.pages.specs.Record.{body_at, head_at}
use Rattle.pages.specs.Entry.{entry_of, general_of, is_line, line_of}
use Rattle.pages.specs.Fields.{cap_of, capability_of}
use Rattle.pages.specs.Book.{after_entry, after_head, check_book, in_order, step_at, walk}
use Rattle.pages.specs.Entering.{bare, enter_all, enter_book, machine_with, ram_with, tags_with}
use Rattle.pages.specs.Enter.{start_as, judged, read_book}
use Rattle.pages.specs.Compose.{cap_body, fields, general_body, line_body, record_of}
use Rattle.manual.specs.Run.{run_of}
use Rattle.manual.specs.declared.Answer.{Answer}
use Rattle.manual.specs.Told.{refusing}
use Rattle.pages.specs.Bench.{BENCH_RAM, BUDGET, FILE_MOST, bench_of}
use Rattle.pages.specs.Answer.{answer_of, started_by, book_run}
use Rattle.examples.specs.Table.{Row, table}
use Rattle.examples.specs.Claims.{BenchTable}
use Rattle.granted.proofs.Read.{read_is_accepted}

-- the answer to a verdict on a book, in RAM and tags of these sizes; a run of an accepted book is not judged again
unfoldable answering : ℕ → ℕ → List ℕ → List ℕ → Result (Unit {0}) Refusal → Answer
answering ram tags book flash (Ok _) =
    let s = enter_all (length book) book ram (step_at book ram 1 0 0) (bare (replicate ram 0) (replicate tags 0)) in
    answer_of (run_from BUDGET 0 flash s.machine s.ram s.tags).outcome
answering ram tags book flash (Err refusal) = refusing refusal

-- the bench's answer as it is computed here: the sizes are numbers, and no list is as long as its RAM until a byte of it is wanted
unfoldable answer_in : ℕ → ℕ → List ℕ → List ℕ → Answer
answer_in ram tags book flash =
    cond (leb (length book) FILE_MOST) (answering ram tags book flash (judged book (length flash) ram tags)) (refusing Refusal.Sizes)

module _ (book flash ram tags : List ℕ) where
  -- an accepted book sets all of RAM and all tags, and a run accepts it
  started : (v : Result (Unit {0}) Refusal) → judged book (length flash) (length ram) (length tags) ≡ v
      → (started_by BUDGET v flash (start_as v book ram tags)).answer ≡ answering (length ram) (length tags) book flash v
  unfolding answering run_of read_book enter_book
  started (Ok _) e =
      let h = rw e at (read_is_accepted book flash ram tags e) in
      rw (h, length-replicate)
  started (Err refusal) e = refl

  sized : length ram ≡ BENCH_RAM → (bench_of book flash ram tags).answer ≡ answer_in (length ram) (length tags) book flash
  unfolding bench_of book_run read_book answer_in
  sized e = go (leb (length book) FILE_MOST)
    where
      v : Result (Unit {0}) Refusal
      v = judged book (length flash) (length ram) (length tags)

      go : (fits : Bool)
          → (cond (fits && eqb (length ram) BENCH_RAM) (started_by BUDGET v flash (start_as v book ram tags))
          (record { answer = refusing Refusal.Sizes; ram = ram; tags = tags })).answer
          ≡ cond fits (answering (length ram) (length tags) book flash v) (refusing Refusal.Sizes)
      go true = rw (eq-eqb (length ram) BENCH_RAM e) (started v refl)
      go false = refl

computed : map (λ (r : Row). answer_in BENCH_RAM (BENCH_RAM / LINE) r.book r.flash) table ≡ map (λ (r : Row). r.answer) table
unfolding table answer_in answering judged enter_all check_book walk step_at after_head head_at body_at after_entry in_order entry_of capability_of cap_of general_of line_of is_line be to_be run_from turn_at fetch_of planned_of operands_of commit stopped_at record_of fields cap_body general_body line_body machine_with ram_with tags_with put with_tag permitted access_of placed_at placed_from signed sum_of place_of bytes_of number_of decode_word lookup majors special_word if_zero load_word coded_size is_jump_word settle load branch branch_to plan_of register_open access_bit turn_of ram_at tags_at ram_of tags_of inc_offset plus_mod extend_from cap_in decode from_words
computed = refl

pub bench_table : BenchTable
bench_table ram tags er et =
    (λ i. map (λ (r : Row). sized r.book r.flash ram tags er i) table)
    ∙ (λ i. map (λ (r : Row). answer_in (er i) (et i) r.book r.flash) table)
    ∙ computed
