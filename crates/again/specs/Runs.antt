-- A round of a run: it keeps names good, makes a class or more, and refines, so that the run refines. Assumes nothing.
use Rattle.std.specs.Prelude.{ℕ, ◌<◌, ◌≡◌, true, List}
use Rattle.std.proofs.Common.{sym, ap, ◌∙◌}
use Rattle.std.proofs.Math.Dec.{eqb}
use Rattle.meaning.specs.Search.{at}
use Rattle.meaning.specs.Classes.{Task, Classes, round, chosen, cut, run, classes}
use Rattle.meaning.specs.ClassesLaws.{name_own, split_class}
use Rattle.meaning.proofs.Reduction.{Fair, Good, round_good, round_grows, parted-chosen, run_keeps}

-- the record after the next round
abbrev pub onward : Task → Classes → Classes
onward T Q = cut T Q (chosen T Q.names)

module _ (T : Task) (Q : Classes) (h : chosen T Q.names < T.size) where
  abbrev P : List ℕ
  P = Q.names

  abbrev c : ℕ
  c = chosen T Q.names

  module _ (fair : Fair T) (good : Good T Q.names) where
    pub onward_good : Good T (onward T Q).names
    unfolding cut
    onward_good = round_good T fair P good c h (parted-chosen T fair P h)

    pub onward_grows : classes T.size Q.names < classes T.size (onward T Q).names
    unfolding cut
    onward_grows = round_grows T fair P good c h (parted-chosen T fair P h)

    -- a state's new name is in its old class
    onward_class : (s : ℕ) → s < T.size → T.live s ≡ true → at P (at (onward T Q).names s) ≡ at P s
    unfolding cut round
    onward_class s l v =
        let o = name_own T.size (T.conflict P) P good.right c h (parted-chosen T fair P h) in
        split_class T.size P good.right c h o (T.group (λ u. eqb (at P u) c) (T.conflict P)) s l (good.all s l v)

-- what the run leaves in one class was in one class
pub run_refines : (T : Task) → Fair T → (s t : ℕ) → s < T.size → t < T.size → T.live s ≡ true → T.live t ≡ true
    → (f : ℕ) (Q : Classes) → Good T Q.names
    → at (run f T Q).names s ≡ at (run f T Q).names t → at Q.names s ≡ at Q.names t
run_refines T fair s t hs ht vs vt f Q good =
    (run_keeps T fair (λ Q'. Good T Q'.names × (at Q'.names s ≡ at Q'.names t → at Q.names s ≡ at Q.names t))
    (λ Q' h i. (
      onward_good T Q' h fair i.0,
      λ e. i.1 (sym (onward_class T Q' h fair i.0 s hs vs) ∙ ap (at Q'.names) e ∙ onward_class T Q' h fair i.0 t ht vt),
    ))
    f Q (good, λ e. e)).1
