-- `plotting::edges_extent` meets its contract. The invariant: length and labels are those of the edges before those that are left. Assumes nothing.
use Rattle.std.proofs.Common.{◌≡◌, ◌*◌, ◌≤◌, length}
use Rattle.layout.specs.Along.{Along}
use Rattle.layout.specs.Contents.{edges_from}
use Rattle.drawing.specs.Profile.{edge_lines, labels_of}
use Rattle.plotting.proofs.edges_extent.Given as goal

abbrev pub invariant-loop-placed : goal.invariant-loop-placed
invariant-loop-placed l =
    let i = l.placed-iterator.index in
    record {
      along : Along l.fn.p l.file l.begin l.e l.placed-iterator;
      long : l.length ≡ length (edge_lines (edges_from l.fn.p l.file l.begin i));
      labels : l.labels ≡ labels_of (edges_from l.fn.p l.file l.begin i);
      few : l.length ≤ 24 * i;
    }
