use Rattle.std.proofs.Common.{leb, rules, ℕ}
use Rattle.std.proofs.lemmas.List.Sorted.{IsPartitionPoint-from_clause, IsPartitionedBy-leb}
use Rattle.al_tree.proofs.Bisected.{numbers-rise, rising-stays, parted}
use Rattle.al_tree.proofs.line.number_place.Goals as goal

pub returns-clause-value : goal.returns-clause-value
returns-clause-value c =
    let rises = rising-stays (λ (n : ℕ). n) c.args.numbers.now (numbers-rise c.args.numbers.now c.requires) in
    let cut = IsPartitionedBy-leb (λ (n : ℕ). n) c.args.numbers.now c.args.number rises in
    let point = IsPartitionPoint-from_clause (λ (n : ℕ). leb n c.args.number) c.args.numbers.now _ c.partition_point.ensures.partitioned cut (λ a r q k. search rules) in
    parted (λ (n : ℕ). n) c.args.numbers.now _ c.args.number 0 c.partition_point.ensures.bound point
