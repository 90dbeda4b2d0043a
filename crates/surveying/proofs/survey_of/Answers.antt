-- `surveying::survey_of` meets its contract. Assumes nothing.
use lib.ListN.{drop}
use Rattle.spelling.specs.Words.{common_most}
use Rattle.spelling.proofs.Told.{missing}
use Rattle.drawing.specs.Profile.{opening}
use Rattle.drawing.specs.Reader.{read_of}
use Rattle.surveying.proofs.survey_of.Goals as goal

pub returns-then-not-stands : goal.returns-then-not-stands
unfolding read_of
returns-then-not-stands c =
    let text = c.args.text.now in
    rw (missing c.stands.ensures (common_most opening (drop 0 text)).0 c.if-not-stands.true, c.matched.ensures)
