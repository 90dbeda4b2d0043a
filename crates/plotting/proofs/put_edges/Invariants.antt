-- `plotting::put_edges` meets its contract. The invariant: the statements of the edges before those that are left stand in the room. Assumes nothing.
use Rattle.std.proofs.Common.{◌≡◌, ◌+◌, length}
use Rattle.text.specs.Decimal.{wrote}
use Rattle.layout.specs.Along.{Along}
use Rattle.layout.specs.Contents.{edges_from}
use Rattle.drawing.specs.Profile.{edge_lines}
use Rattle.plotting.proofs.put_edges.Given as goal

abbrev pub invariant-loop-placed : goal.invariant-loop-placed
invariant-loop-placed l =
    let lines = edge_lines (edges_from l.fn.p l.file l.first l.placed-iterator.index) in
    record {
      along : Along l.fn.p l.file l.first l.e l.placed-iterator;
      room : l.room ≡ wrote l.initial.room l.begin lines;
      at : l.at ≡ l.begin + length lines;
    }
