-- Defines totals over a list of comparisons of documents, as specified in docs/PROFILE.md, "Missing revisions" and
-- "Merging".
use Rattle.std.specs.Prelude.{List, length, is_some}
use Rattle.std.specs.List.{sum_by, count_by}
use Rattle.repl_inspect.specs.Comparing.{ComparisonValue}
use Rattle.repl_inspect.specs.Counting.{counted}
use Rattle.repl_inspect.specs.declared.total.Total.{Total}

-- The totals over a list of comparisons: the numbers of compared documents, of leaves at the source, of missing leaves,
-- of contradicting documents, and of differing leaves.
abbrev pub total_of : List ComparisonValue → Total
total_of cs = record {
  documents = counted (length cs);
  leaves = counted (sum_by (λ (c : ComparisonValue). c.leaves) cs);
  missing = counted (sum_by (λ (c : ComparisonValue). length c.missing) cs);
  contradicting = counted (count_by (λ (c : ComparisonValue). is_some c.contradiction) cs);
  differing = counted (sum_by (λ (c : ComparisonValue). length c.differing) cs);
}
