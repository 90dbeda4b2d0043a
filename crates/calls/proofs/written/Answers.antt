-- `calls::written` meets its contract. Assumes nothing.
use mathlib.Core.Path.{◌≡◌, refl, sym, ap, ◌∙◌}
use mathlib.Core.List.{List, [], ◌∷◌, ◌++◌}
use Prim.Native.Nat.{ℕ}
use native.Mathlib.Omega.{arith}
use lib.ListN.{length, drop}
use Rattle.calls.specs.Written.{counted}
use Rattle.calls.proofs.Laws.{counted_all, counted_zeros}
use Rattle.calls.proofs.written.Goals as goal

pub values-requires : goal.values-requires
values-requires g c = omega (arith, g.met.A.Values.few)

pub returns-in-Ok : goal.returns-in-Ok
returns-in-Ok g c =
    let vs = c.values.result in
    let zeros : List ℕ = 0 ∷ 0 ∷ 0 ∷ 0 ∷ [] in
    let long : length vs ≡ g.row.N = omega arith in
    let counts : c.copy_from_slice.new.self ++ drop g.row.N zeros ≡ counted 4 (g.A.Values.values c.in-Ok.accepted) =
    ap (λ (front : List ℕ). front ++ drop g.row.N zeros) c.copy_from_slice.ensures.after
    ∙ ap (λ (n : ℕ). vs ++ drop n zeros) (sym long)
    ∙ counted_all 4 vs (omega (arith, long, g.met.A.Values.few))
    ∙ ap (counted 4) c.values.ensures in
    rw c.in-Ok.is (record { number_is = refl; place_is = refl; counts_are = counts })

pub returns-in-Err : goal.returns-in-Err
returns-in-Err g c =
    rw c.in-Err.is (record { number_is = c.from.ensures; place_is = refl; counts_are = sym (counted_zeros 4 g.row.N) })
