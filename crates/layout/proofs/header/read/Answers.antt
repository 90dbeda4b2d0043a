use Rattle.layout.specs.Contents.{states_in, labels_in, start_in, count_in}
use Rattle.layout.proofs.header.read.Goals as goal

pub returns : goal.returns
unfolding states_in labels_in start_in count_in
returns c = rw (c.get.ensures.0, c.get-2.ensures.0, c.get-3.ensures.0, c.get-4.ensures.0)
