-- What the reduce call promises of its answer and of every byte and entry that it is lent to write.
-- Assumes nothing.
use Rattle.std.specs.Prelude.{ℕ, List, [], ◌∷◌}
use Rattle.meaning.specs.Reduced.{reduced, class_list}
use Rattle.refusals.specs.Refusals.{Lent, lent, Promise}
use Rattle.layout.specs.declared.profile.Profile.{Profile}
use Rattle.layout.specs.Layout.{written}
use Rattle.layout.specs.Contents.{filter_in}
use Rattle.reduction.specs.Answers.{Reduced, reduced_outcome}
use Rattle.folding.specs.Folding.{Rooms, both}
use Rattle.reduction.specs.Reducing.{reduce_of}

-- What is written: the reduced filter's file, and the class list.
abbrev pub reduce_lent : Profile → List ℕ → Rooms → List Lent
reduce_lent P file found =
    lent (written P (reduced (filter_in P file))) found.answer ∷ lent (class_list (filter_in P file)) found.classes ∷ []

-- Accepted: the answer room begins with the reduced filter's file and the class list with the new number of each state, 65,535 for a
-- dropped one, the rest of both is as found. Refused: both are as found.
abbrev pub ReducePromise : Profile → List ℕ → Rooms → Reduced → Rooms → Type 0
ReducePromise P file found r left =
    Promise (reduced_outcome r) (reduce_of P file found) (reduce_lent P file found) (both left)
