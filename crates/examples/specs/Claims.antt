-- What the bench claims beside each answer.
use Rattle.std.specs.Prelude.{ℕ, ◌/◌, ◌≡◌, List, map, length}
use Rattle.manual.specs.Number.{LINE}
use Rattle.pages.specs.Bench.{BENCH_RAM, bench_of}
use Rattle.examples.specs.Table.{Row, table}

-- the bench prints of each row what the row says, whatever its RAM and tags held before
abbrev pub BenchTable : Type 0
BenchTable =
    (ram tags : List ℕ) → length ram ≡ BENCH_RAM → length tags ≡ BENCH_RAM / LINE
    → map (λ (r : Row). (bench_of r.book r.flash ram tags).answer) table ≡ map (λ (r : Row). r.answer) table
