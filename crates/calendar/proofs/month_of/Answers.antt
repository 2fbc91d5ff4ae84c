-- The look-up gives how many months have begun by the time.
-- Assumes nothing.
use Rattle.std.proofs.Common.{ℕ, ◌∙◌, ap, min, leb, arith, rules}
use Rattle.std.proofs.lemmas.List.Sorted.{IsPartitionedBy-leb, IsPartitionPoint-from_clause}
use Rattle.calendar.specs.Calendar.{last_month}
use Rattle.calendar.proofs.Months.{six_on, rising, begun_before}
use Rattle.calendar.proofs.month_of.Goals as goal

pub returns : goal.returns
returns c =
    let t = c.args.time in
    let table = c.month_starts.result.now in
    let days = c.month_starts.ensures.days in
    let n = c.month_starts.ensures.entries in
    let point = IsPartitionPoint-from_clause (λ d. leb (six_on d) t) _ _ c.partition_point-begun.ensures.partitioned (IsPartitionedBy-leb six_on _ t (rising table days n)) (λ a r f' h. search rules) in
    c.min.ensures ∙ ap (λ (k : ℕ). min k last_month) c.saturating_sub.ensures ∙ begun_before table days n t _ (omega (arith, n, c.partition_point-begun.ensures.bound)) point
