use Rattle.std.proofs.Common.{leb, rules, []}
use Rattle.std.proofs.lemmas.List.Sorted.{IsPartitionPoint-from_clause, IsPartitionedBy-leb}
use Rattle.al_tree.specs.declared.line.Line.{Line}
use Rattle.al_tree.proofs.Bisected.{lines-rise, rising-stays, parted}
use Rattle.al_tree.proofs.line.place_for.Goals as goal

pub returns-clause-value : goal.returns-clause-value
returns-clause-value c =
    let rises = rising-stays (λ (line : Line). line.table) c.args.lines.now (lines-rise c.args.lines.now c.requires) in
    let cut = IsPartitionedBy-leb (λ (line : Line). line.table) c.args.lines.now c.args.table rises in
    let point = IsPartitionPoint-from_clause (λ (line : Line). leb line.table c.args.table) c.args.lines.now _ c.partition_point.ensures.partitioned cut (λ a r q k. search rules) in
    parted (λ (line : Line). line.table) c.args.lines.now _ c.args.table (record { table = 0; children = [] }) c.partition_point.ensures.bound point
