-- `table::put` meets its contract. Assumes nothing.
use Rattle.std.proofs.Common.{◌<◌, length, arith, rules}
use Rattle.std.proofs.Math.ListN.{length-set}
use Rattle.std.proofs.lemmas.List.{get_or_default}
use Rattle.table.proofs.Laws.{look_put}
use Rattle.table.specs.Table.{blank}
use Rattle.table.proofs.put.Goals as goal

pub returns : goal.returns
returns c =
    let a = c.args in
    let inside : a.state < length a.rows.now = omega (arith, c.requires.1.long) in
    record {
      edges = look_put a.rows.now a.state a.label a.target c.with-row.result _ (get_or_default a.rows.now a.state _ blank inside) c.requires.0 inside
          (search rules) c.with-row.ensures;
      rows = simp length-set;
    }
