use Rattle.examples.proofs.Table.{bench_table}
use Rattle.examples.proofs.claims.Goals as goal

pub returns : goal.returns
returns c = record { bench_table = bench_table }
