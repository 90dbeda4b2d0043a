-- Laws of the bounded searches. Assumes nothing.
use Prim.Native.Nat.{ℕ, zero, suc, ◌+◌, ◌≤◌, ◌<◌}
use Rattle.std.specs.Prelude.{◌≡◌, Bool, true, false, ◌&&◌, ◌||◌, List, [], ◌∷◌, ◌++◌, eqb, ltb, length, take, set}
use Rattle.std.proofs.Math.Path.{refl, ap, ap₂}
use Rattle.std.proofs.Common.{◌∙◌, not-suc-le-zero, arith, take-suc-set, add-one}
use Rattle.std.proofs.Math.Bool.{not}
use borrow.Author.Tests.{eqb-true, eqb-false, ne_eqb, ltb-true, ltb-false}
use Rattle.meaning.specs.Cases.{cases_of, no_both, or_right}
use Rattle.meaning.specs.Search.{any, least, count, tab, at, bit}

-- any
pub any_intro : (p : ℕ → Bool) (n i : ℕ) → i < n → p i ≡ true → any p n ≡ true
unfolding any
any_intro p zero i h e = absurd (not-suc-le-zero h)
any_intro p (suc n) i h e = cases_of (eqb i n)
    (λ q. rw (← eqb-true i n q, e))
    (λ q. let w : i < n = omega (arith, eqb-false i n q) in or_right (p n) (any_intro p n i w e))

pub any_elim : (p : ℕ → Bool) (n : ℕ) → any p n ≡ true → (i : ℕ) × (i < n) × (p i ≡ true)
unfolding any
any_elim p zero e = no_both {b = false} e refl
any_elim p (suc n) e = cases_of (p n)
    (λ q. (n, omega arith, q))
    (λ q. let r = any_elim p n (rw q at e) in (r.0, omega (arith, r.1), r.2))

pub any_none : (p : ℕ → Bool) (n i : ℕ) → i < n → any p n ≡ false → p i ≡ false
any_none p n i h e = cases_of (p i) (λ q. no_both (any_intro p n i h q) e) (λ q. q)

-- least
pub least_le : (p : ℕ → Bool) (n i : ℕ) → p i ≡ true → least p n ≤ i
unfolding least
least_le p zero i e = omega arith
least_le p (suc n) zero e = rw (e, least) (omega arith)
least_le p (suc n) (suc i) e = cases_of (p zero)
    (λ q. rw (q, least) (omega arith))
    (λ q. rw (q, least) (let w : least (λ j. p (suc j)) n ≤ i = least_le (λ j. p (suc j)) n i e in omega arith))

pub least_max : (p : ℕ → Bool) (n : ℕ) → least p n ≤ n
unfolding least
least_max p zero = omega arith
least_max p (suc n) = cases_of (p zero)
    (λ q. rw (q, least) (omega arith))
    (λ q. rw (q, least) (let w = least_max (λ j. p (suc j)) n in omega arith))

pub least_ok : (p : ℕ → Bool) (n : ℕ) → least p n < n → p (least p n) ≡ true
unfolding least
least_ok p zero h = absurd (not-suc-le-zero h)
least_ok p (suc n) h = cases_of (p zero)
    (λ q. rw (q, least) q)
    (λ q. rw (q, least) (least_ok (λ j. p (suc j)) n (let w = rw (q, least) at h in omega arith)))

-- the least that passes, where one passes
pub least_of : (p : ℕ → Bool) (n i : ℕ) → i < n → p i ≡ true → (least p n ≤ i) × (p (least p n) ≡ true)
least_of p n i h e = let w = least_le p n i e in (w, least_ok p n (omega arith))

pub least_none : (p : ℕ → Bool) (n i : ℕ) → n ≤ least p n → i < n → p i ≡ false
least_none p n i g h = cases_of (p i) (λ q. absurd (let w = least_le p n i q in omega arith)) (λ q. q)

-- tab
pub at_tab : (n : ℕ) (f : ℕ → ℕ) (i : ℕ) → i < n → at (tab n f) i ≡ f i
unfolding tab
at_tab zero f i h = absurd (not-suc-le-zero h)
at_tab (suc n) f zero h = refl
at_tab (suc n) f (suc i) h = at_tab n (λ j. f (suc j)) i (omega arith)

pub length-tab : (n : ℕ) (f : ℕ → ℕ) → length (tab n f) ≡ n
unfolding tab
length-tab zero f = refl
length-tab (suc n) f = ap suc (length-tab n (λ j. f (suc j)))

-- count
pub count_max : (p : ℕ → Bool) (n : ℕ) → count p n ≤ n
unfolding count
count_max p zero = omega arith
count_max p (suc n) = cases_of (p n)
    (λ q. rw q (omega (arith, count_max p n)))
    (λ q. rw q (omega (arith, count_max p n)))

pub count_mono : (p q : ℕ → Bool) (n : ℕ) → ((i : ℕ) → i < n → p i ≡ true → q i ≡ true) → count p n ≤ count q n
unfolding count
count_mono p q zero h = omega arith
count_mono p q (suc n) h =
    let w = count_mono p q n (λ i l. h i (omega arith)) in
    cases_of (p n)
    (λ e. rw (e, h n (omega arith) e) (omega arith))
    (λ e. rw e (omega arith))

pub count_more : (p q : ℕ → Bool) (n : ℕ) → ((i : ℕ) → i < n → p i ≡ true → q i ≡ true) → (j : ℕ) → j < n → p j ≡ false → q j ≡ true → count p n < count q n
unfolding count
count_more p q zero h j l e f = absurd (not-suc-le-zero l)
count_more p q (suc n) h j l e f = cases_of (eqb j n)
    (λ g. let g' = eqb-true j n g in rw (← g', e, f) (let w = count_mono p q j (λ i k. h i (omega arith)) in omega arith))
    (λ g. let w = count_more p q n (λ i k. h i (omega arith)) j (omega (arith, eqb-false j n g)) e f in
    cases_of (p n)
    (λ a. rw (a, h n (omega arith) a) (omega arith))
    (λ a. rw a (omega arith)))

pub count_step : (p : ℕ → Bool) (a b : ℕ) → a < b → p a ≡ true → count p a < count p b
unfolding count
count_step p a zero h e = absurd (not-suc-le-zero h)
count_step p a (suc b) h e = cases_of (eqb a b)
    (λ g. rw (← eqb-true a b g, e) (omega arith))
    (λ g. omega (arith, count_step p a b (omega (arith, eqb-false a b g)) e))

-- ---- equal tests give equal answers

pub any_cong : (p q : ℕ → Bool) (n : ℕ) → ((i : ℕ) → i < n → p i ≡ q i) → any p n ≡ any q n
unfolding any
any_cong p q zero h = refl
any_cong p q (suc n) h = ap₂ ◌||◌ (h n (omega arith)) (any_cong p q n (λ i l. h i (omega arith)))

pub least_cong : (p q : ℕ → Bool) (n : ℕ) → ((i : ℕ) → i < n → p i ≡ q i) → least p n ≡ least q n
unfolding least
least_cong p q zero h = refl
least_cong p q (suc n) h = cases_of (q zero)
    (λ e. let e' : p zero ≡ true = h zero (omega arith) ∙ e in rw (e, e', least))
    (λ e. let e' : p zero ≡ false = h zero (omega arith) ∙ e in
    rw (e, e', least) (ap suc (least_cong (λ i. p (suc i)) (λ i. q (suc i)) n (λ i l. h (suc i) (omega arith)))))

pub tab_cong : (n : ℕ) (f g : ℕ → ℕ) → ((i : ℕ) → i < n → f i ≡ g i) → tab n f ≡ tab n g
unfolding tab
tab_cong zero f g h = refl
tab_cong (suc n) f g h = ap₂ {C = List ℕ} (λ x xs. x ∷ xs) (h zero (omega arith)) (tab_cong n (λ i. f (suc i)) (λ i. g (suc i)) (λ i l. h (suc i) (omega arith)))

pub least-below : (p : ℕ → Bool) (n i : ℕ) → i < least p n → p i ≡ false
least-below p n i h = cases_of (p i) (λ q. absurd (let w = least_le p n i q in omega arith)) (λ q. q)

pub least_is : (p : ℕ → Bool) (n c : ℕ) → c < n → p c ≡ true → ((i : ℕ) → i < c → p i ≡ false) → least p n ≡ c
least_is p n c h e f =
    let r = least_of p n c h e in
    cases_of (ltb (least p n) c)
    (λ q. no_both r.1 (f (least p n) (ltb-true _ _ q)))
    (λ q. omega (arith, r.0, ltb-false (least p n) c q))

pub least_empty : (p : ℕ → Bool) (n : ℕ) → ((i : ℕ) → i < n → p i ≡ false) → n ≤ least p n
least_empty p n f = cases_of (ltb (least p n) n)
    (λ q. let l = ltb-true _ _ q in no_both (least_ok p n l) (f (least p n) l))
    (λ q. ltb-false _ _ q)

-- for a loop that searches upward: its invariant is `i ≤ least p n`
pub least_next : (p : ℕ → Bool) (n i : ℕ) → i ≤ least p n → i < n → p i ≡ false → i + 1 ≤ least p n
least_next p n i h l e = cases_of (eqb i (least p n))
    (λ q. let q' = eqb-true i (least p n) q in no_both (rw (← q') at (least_ok p n (omega arith))) e)
    (λ q. omega (arith, eqb-false i (least p n) q))

pub least_here : (p : ℕ → Bool) (n i : ℕ) → i ≤ least p n → p i ≡ true → i ≡ least p n
least_here p n i h e = omega (arith, h, least_le p n i e)

pub least_gone : (p : ℕ → Bool) (n i : ℕ) → i ≤ least p n → n ≤ i → i ≡ least p n
least_gone p n i h l = omega (arith, h, l, least_max p n)

-- for a loop that fills upward: its invariant is `take i a ≡ tab i f`
pub tab-snoc : (n : ℕ) (f : ℕ → ℕ) → tab (suc n) f ≡ tab n f ++ (f n ∷ [])
unfolding tab
tab-snoc zero f = refl
tab-snoc (suc n) f = ap {B = List ℕ} (λ l. f zero ∷ l) (tab-snoc n (λ i. f (suc i)))

pub fill : (a : List ℕ) (i v : ℕ) (f : ℕ → ℕ) → i < length a → take i a ≡ tab i f → v ≡ f i → take (i + 1) (set a i v) ≡ tab (i + 1) f
fill a i v f h e q = rw (add-one, tab-snoc, take-suc-set a i v h, e, q)

pub count_none : (m : ℕ) → count (λ b. false) m ≡ 0
unfolding count
count_none zero = refl
count_none (suc m) = rw (count_none m)

pub count_cong : (p q : ℕ → Bool) (n : ℕ) → ((i : ℕ) → i < n → p i ≡ q i) → count p n ≡ count q n
unfolding count
count_cong p q zero h = refl
count_cong p q (suc n) h = ap₂ (λ i j. i + j) (count_cong p q n (λ i l. h i (omega arith))) (ap bit (h n (omega arith)))

-- for a loop that counts upward: its invariant is `k ≡ count p i`
pub count_hit : (p : ℕ → Bool) (i : ℕ) → p i ≡ true → count p (i + 1) ≡ count p i + 1
unfolding count
count_hit p i h = rw (add-one i, h)

pub count_miss : (p : ℕ → Bool) (i : ℕ) → p i ≡ false → count p (i + 1) ≡ count p i
unfolding count
count_miss p i h = rw (add-one i, h) (omega arith)

-- an entry of the front of a list is the list's
pub at_take : (xs : List ℕ) (n i : ℕ) → i < n → at (take n xs) i ≡ at xs i
at_take xs zero i h = absurd (omega arith)
at_take [] (suc n) i h = refl
at_take (x ∷ xs) (suc n) zero h = refl
at_take (x ∷ xs) (suc n) (suc i) h = at_take xs n i (omega arith)

-- where as many pass as there are, all do
pub count_full : (p : ℕ → Bool) (n : ℕ) → count p n ≡ n → (i : ℕ) → i < n → p i ≡ true
unfolding count
count_full p zero e i h = absurd (not-suc-le-zero h)
count_full p (suc n) e i h = cases_of (p n)
    (λ q. cases_of (eqb i n)
    (λ z. ap p (eqb-true i n z) ∙ q)
    (λ z. count_full p n (let w = rw q at e in omega arith) i (omega (arith, h, eqb-false i n z))))
    (λ q. absurd (let w = rw q at e in omega (arith, count_max p n)))

-- ---- one number more

bit_hit : (b a e : Bool) → e ≡ true → bit (b && e || a) ≡ bit a + bit (b && not a)
bit_hit true true e h = rw h
bit_hit true false e h = rw h
bit_hit false true e h = refl
bit_hit false false e h = refl

bit_miss : (b a e : Bool) → e ≡ false → bit (b && e || a) ≡ bit a
bit_miss true a e h = rw h
bit_miss false a e h = refl

-- x passes besides, where b says so
module _ (b : Bool) (x : ℕ) (q : ℕ → Bool) where
  off : (k : ℕ) → k ≤ x → count (λ c. b && eqb x c || q c) k ≡ count q k
  unfolding count
  off zero h = refl
  off (suc k) h = ap₂ (λ i j. i + j) (off k (omega arith)) (bit_miss b (q k) (eqb x k) (ne_eqb x k (λ z. omega arith)))

  pub count_or : (k : ℕ) → x < k → count (λ c. b && eqb x c || q c) k ≡ count q k + bit (b && not (q x))
  unfolding count
  count_or zero h = absurd (not-suc-le-zero h)
  count_or (suc k) h = cases_of (eqb x k)
      (λ e. let e' = eqb-true x k e in
      omega (arith, off k (omega arith), bit_hit b (q k) (eqb x k) e, ap (λ y. bit (b && not (q y))) e'))
      (λ e. omega (arith, count_or k (omega (arith, eqb-false x k e)), bit_miss b (q k) (eqb x k) e))
