-- The curves of one step more are nearer: both distances compute.
use mathlib.Core.Path.{refl}
use native.Mathlib.Omega.{arith}
use Rattle.rule.specs.Bucket.{distance, larger, lesser, middle}
use Rattle.rule.specs.Table.{ahead, accept, cheaper, cheapest, choice, insert, limit_over, merge, merge_at, merge_of, runs, runs_after, settle, settle_in, worst, weight}
use Rattle.demands.specs.Curve.{value_from}
use Rattle.demands.specs.History.{table_after}
use Rattle.demands.specs.Tight.{Tight, farthest, in_order}

pub tight : Tight
unfolding distance larger lesser middle accept ahead weight cheaper cheapest choice insert limit_over merge merge_at merge_of runs runs_after settle settle_in worst value_from table_after farthest in_order
tight =
    record {
      first = record { odd = record { one_more = refl; nearer = omega arith }; even = record { one_more = refl; nearer = omega arith }; odd_again = record { one_more = refl; nearer = omega arith } };
      second = record { odd = record { one_more = refl; nearer = omega arith }; even = record { one_more = refl; nearer = omega arith }; odd_again = record { one_more = refl; nearer = omega arith } };
    }
