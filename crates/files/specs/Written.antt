-- The file as a run of fields: what is written is read, and what is read is written.
-- Assumes nothing.
use Rattle.std.specs.Prelude.{◌≡◌, true, false, ◌&&◌, ltb, get_or, take, drop, replicate}
use Rattle.std.proofs.Math.Path.{refl, sym, ap}
use Rattle.std.proofs.Common.{◌∙◌, zero-add, mul-le-mul, lt_of_lt_of_le, lt_of_le_of_lt, le_trans, le_refl, drop_of_length-le, pow_pos, pow_mono, pow-add, take_at, drop_at, drop-cons, ltb-true, lt-ltb, le-ltb, add-one}
use mathlib.Core.List.{List, [], ◌∷◌, ◌++◌, map}
use Prim.Native.Nat.{ℕ, suc, ◌+◌, ◌*◌, ◌-◌, ◌^◌, ◌≤◌, ◌<◌}
use Rattle.std.proofs.Math.Nat.{mul_comm}
use native.Mathlib.Omega.{arith}
use Rattle.std.proofs.Math.ListN.{length, length-replicate}
use Rattle.std.proofs.Math.Pow.{pow-lt}
use Rattle.bits.specs.Bits.{field, put_field, Bytes}
use Rattle.pen.specs.Runs.{fields, put_fields, total, Fit}
use Rattle.bits.proofs.Reading.{field_lt}
use Rattle.pen.proofs.Runs.{fields-append, length_fields, total-append, total-replicate, read_written, write_read, fit_append, fit_run, run_at, length_puts, puts_append}
use Rattle.pen.proofs.Parts.{cover}
use Rattle.bits.proofs.Parts.{bytes-replicate}
use Rattle.meaning.specs.Filter.{Edge, Filter, states, inside, each}
use Rattle.layout.specs.declared.profile.Profile.{Profile}
use Rattle.layout.specs.Layout.{large, pocket, header_bits, edge_bits, edges_begin, file_bits, bytes_for, file_length, fill_bits, edge_widths, file_widths, flat, file_values, length_of, written, threes, from_lists}
use Rattle.layout.specs.Code.{Usable}
use Rattle.layout.specs.Contents.{states_in, labels_in, start_in, count_in, colours_in, placed_in, values, edges_from, edges_in, filter_in, length_in, filling_in}
use Rattle.files.specs.Files.{all_below}
use Rattle.refusals.specs.Refusals.{laid}
use Rattle.layout.proofs.Bounds.{states_low, labels_low, states_fit, labels_fit, states-pow, labels_pow}
use Rattle.layout.proofs.EdgeLists.{fields_edges, length_edges, length_widths, total_edges, length-flat, threes-flat}
use Rattle.meaning.specs.Cases.{and_left, and_right}
use Rattle.edges.proofs.Tests.{listed-values, clear_elsewhere}
use Rattle.files.specs.Tests.{Sound, below_at, Writable, writable_edges, FaultAbove, above_stays}

-- ---- the fields of a file

pub total_file : (P : Profile) (n e : ℕ) → total (file_widths P n e) ≡ file_length P n e * 8
unfolding file_widths total fill_bits file_length bytes_for file_bits edges_begin header_bits
total_file P n e =
    rw (
      total-append (replicate n P.colour) (edge_widths P e ++ (fill_bits P n e ∷ [])),
      total-append (edge_widths P e) (fill_bits P n e ∷ []),
      total-replicate n P.colour,
      mul_comm n P.colour,
      total_edges P e,
    )
    (omega arith)

-- the four numbers, the colours, the edges and the filling, at their positions
pub fields_file : (P : Profile) (s : List ℕ) (n e : ℕ) →
    fields s 0 (file_widths P n e)
    ≡ field s 0 P.states ∷ field s P.states P.labels ∷ field s (P.states + P.labels) P.start ∷ field s (P.states + P.labels + P.start) P.edges
    ∷ (fields s (header_bits P) (replicate n P.colour) ++ (flat (edges_from P s (edges_begin P n) e) ++ (field s (file_bits P n e) (fill_bits P n e) ∷ [])))
unfolding file_widths fields header_bits edges_begin file_bits
fields_file P s n e =
    let h = P.states + P.labels + P.start + P.edges in
    let b = h + P.colour * n in
    rw (
      zero-add P.states,
      fields-append s h (replicate n P.colour) (edge_widths P e ++ (fill_bits P n e ∷ [])),
      total-replicate n P.colour,
      mul_comm n P.colour,
      fields-append s b (edge_widths P e) (fill_bits P n e ∷ []),
      total_edges P e,
      fields_edges P s b e,
    )

-- ---- values that fit

pub at_below : (limit : ℕ) (xs : List ℕ) → ((i : ℕ) → i < length xs → get_or xs i 0 < limit) → all_below limit xs ≡ true
unfolding all_below
at_below limit [] h = refl
at_below limit (x ∷ xs) h = rw (lt-ltb x limit (h 0 (omega arith))) (at_below limit xs (λ i l. h (suc i) (omega arith)))

-- from index i on: the value there decides, or those behind it
pub above_here : (limit : ℕ) (xs : List ℕ) (i : ℕ) → i < length xs → limit ≤ get_or xs i 0 → all_below limit (drop i xs) ≡ false
unfolding all_below
above_here limit xs i l h = rw (drop-cons xs i 0 l, le-ltb _ _ h)

pub below_next : (limit : ℕ) (xs : List ℕ) (i : ℕ) → i < length xs → get_or xs i 0 < limit → all_below limit (drop i xs) ≡ all_below limit (drop (i + 1) xs)
unfolding all_below
below_next limit xs i l h = rw (drop-cons xs i 0 l, lt-ltb _ _ h, add-one i)

pub below_end : (limit : ℕ) (xs : List ℕ) (i : ℕ) → length xs ≤ i → all_below limit (drop i xs) ≡ true
unfolding all_below
below_end limit xs i l = rw (drop_of_length-le xs {i = i} l)

fit_edges : (P : Profile) (n m : ℕ) (es : List Edge) → n ≤ 2 ^ P.states → m ≤ 2 ^ P.labels → each (inside n m) es ≡ true → Fit (edge_widths P (length es)) (flat es)
unfolding Fit edge_widths flat each inside
fit_edges P n m [] hn hm h = tt
fit_edges P n m (e ∷ es) hn hm h =
    let a = and_left (ltb e.source n && (ltb e.label m && ltb e.target n)) (each (inside n m) es) h in
    let r = and_right (ltb e.source n && (ltb e.label m && ltb e.target n)) (each (inside n m) es) h in
    let b = and_right (ltb e.source n) (ltb e.label m && ltb e.target n) a in
    let x = ltb-true e.source n (and_left (ltb e.source n) (ltb e.label m && ltb e.target n) a) in
    let y = ltb-true e.label m (and_left (ltb e.label m) (ltb e.target n) b) in
    let z = ltb-true e.target n (and_right (ltb e.label m) (ltb e.target n) b) in
    (lt_of_lt_of_le x hn, (lt_of_lt_of_le y hm, (lt_of_lt_of_le z hn, fit_edges P n m es hn hm r)))

fit_zero : (w : ℕ) → Fit (w ∷ []) (0 ∷ [])
unfolding Fit
fit_zero w = (pow_pos w, tt)

front : (p q r t : List ℕ) → length p ≡ length r → p ++ q ≡ r ++ t → p ≡ r
front p q r t n e = sym (take_at p q (length p) refl) ∙ ap (take (length p)) e ∙ take_at r t (length p) (sym n)

back : (p q r t : List ℕ) → length p ≡ length r → p ++ q ≡ r ++ t → q ≡ t
back p q r t n e = sym (drop_at p q (length p) refl) ∙ ap (drop (length p)) e ∙ drop_at r t (length p) (sym n)

total_header : (P : Profile) → 0 + total (P.states ∷ P.labels ∷ P.start ∷ P.edges ∷ []) ≡ header_bits P
unfolding total header_bits
total_header P = omega arith

one_put : (s : List ℕ) (at w : ℕ) → put_fields s at (w ∷ []) (0 ∷ []) ≡ put_field s at w 0
unfolding put_fields
one_put s at w = refl

edges_placed : (P : Profile) (s : List ℕ) → map values (placed_in P s) ≡ edges_in P s
unfolding edges_in
edges_placed P s = refl

-- What a file holds is the filter F, with zero filling.
pub record Holds (P : Profile) (s : List ℕ) (F : Filter) : Type 0 where
  pub states_are : states_in P s ≡ states F
  pub labels_are : labels_in P s ≡ F.labels
  pub start_is : start_in P s ≡ F.start
  pub count_is : count_in P s ≡ length F.edges
  pub colours_are : colours_in P s ≡ F.colours
  pub edges_are : edges_in P s ≡ F.edges
  pub filled : filling_in P s ≡ 0

-- a file that holds F has F as the filter in it
pub holds-filter : (P : Profile) (s : List ℕ) (F : Filter) → Holds P s F → filter_in P s ≡ F
unfolding filter_in
holds-filter P s F h = λ i. record { colours = h.colours_are i; labels = h.labels_are i; start = h.start_is i; edges = h.edges_are i }

-- ---- what is written is read

module _ (P : Profile) (ok : Usable P) (F : Filter) (w : Writable P F) where
  count_fits : length F.edges < 2 ^ P.edges
  count_fits =
      let a : states F * F.labels ≤ 2 ^ P.states * 2 ^ P.labels = mul-le-mul w.states_high w.labels_high in
      lt_of_le_of_lt w.count_in_lem (lt_of_le_of_lt a (rw (← pow-add 2 P.states P.labels) (pow-lt ok.edges_fit)))

  pub header_fit : Fit (P.states ∷ P.labels ∷ P.start ∷ P.edges ∷ []) ((states F - 1) ∷ (F.labels - 1) ∷ F.start ∷ length F.edges ∷ [])
  unfolding Fit
  header_fit = (
    omega (arith, w.states_low, w.states_high),
    (
      omega (arith, w.labels_low, w.labels_high),
      (lt_of_lt_of_le (lt_of_lt_of_le w.start_in_lem w.states_high) (pow_mono ok.start_fits), (count_fits, tt)),
    ),
  )

  pub colours_fit : (i : ℕ) → get_or F.colours i 0 < 2 ^ P.colour
  colours_fit = below_at (2 ^ P.colour) F.colours (pow_pos P.colour) w.colours_below

  pub edges_fit : Fit (edge_widths P (length F.edges)) (flat F.edges)
  edges_fit =
      fit_edges P (states F) F.labels F.edges w.states_high w.labels_high
      (writable_edges P F w).all_inside

  file_fit : Fit (file_widths P (states F) (length F.edges)) (file_values F)
  unfolding file_widths file_values
  file_fit =
      let n = states F in
      let e = length F.edges in
      let fill : List ℕ = fill_bits P n e ∷ [] in
      let zero : List ℕ = 0 ∷ [] in
      fit_append (P.states ∷ P.labels ∷ P.start ∷ P.edges ∷ []) (replicate n P.colour ++ (edge_widths P e ++ fill))
      ((n - 1) ∷ (F.labels - 1) ∷ F.start ∷ e ∷ []) (F.colours ++ (flat F.edges ++ zero)) header_fit
      (fit_append (replicate n P.colour) (edge_widths P e ++ fill) F.colours (flat F.edges ++ zero)
      (fit_run n P.colour F.colours refl colours_fit)
      (fit_append (edge_widths P e) fill (flat F.edges) zero edges_fit (fit_zero (fill_bits P n e))))

  -- numbers small enough for the sums and products of the code
  pub states≤256 : states F ≤ 256
  states≤256 = le_trans w.states_high (states-pow P ok)

  pub count≤65536 : length F.edges ≤ 65536
  count≤65536 = le_trans w.count_in_lem (mul-le-mul states≤256 (le_trans w.labels_high (labels_pow P ok)))

  pub length-written : length (written P F) ≡ length_of P F
  unfolding written
  length-written =
      length_puts (replicate (length_of P F) 0) 0 (file_widths P (states F) (length F.edges)) (file_values F) ∙ length-replicate (length_of P F) 0

  written-fields : fields (written P F) 0 (file_widths P (states F) (length F.edges)) ≡ file_values F
  unfolding written length_of
  written-fields =
      read_written (replicate (length_of P F) 0) 0 (file_widths P (states F) (length F.edges)) (file_values F)
      (omega (arith, total_file P (states F) (length F.edges), length-replicate {A = ℕ} (length_of P F) 0)) file_fit

  -- field by field, as the code writes it
  steps : (s : List ℕ) → put_fields s 0 (file_widths P (states F) (length F.edges)) (file_values F)
      ≡ put_field (put_fields (put_fields (put_fields s 0 (P.states ∷ P.labels ∷ P.start ∷ P.edges ∷ []) ((states F - 1) ∷ (F.labels - 1) ∷ F.start ∷ length F.edges ∷ []))
      (header_bits P) (replicate (states F) P.colour) F.colours) (edges_begin P (states F)) (edge_widths P (length F.edges)) (flat F.edges))
      (file_bits P (states F) (length F.edges)) (fill_bits P (states F) (length F.edges)) 0
  unfolding file_widths file_values edges_begin file_bits
  steps s =
      let n = states F in
      let e = length F.edges in
      let h = header_bits P in
      let b = h + P.colour * n in
      let ws : List ℕ = P.states ∷ P.labels ∷ P.start ∷ P.edges ∷ [] in
      let vs : List ℕ = (n - 1) ∷ (F.labels - 1) ∷ F.start ∷ e ∷ [] in
      let fill : List ℕ = fill_bits P n e ∷ [] in
      let zero : List ℕ = 0 ∷ [] in
      let header = put_fields s 0 ws vs in
      let coloured = put_fields header h (replicate n P.colour) F.colours in
      puts_append s 0 ws (replicate n P.colour ++ (edge_widths P e ++ fill)) vs (F.colours ++ (flat F.edges ++ zero)) refl
      ∙ ap (λ (at : ℕ). put_fields header at (replicate n P.colour ++ (edge_widths P e ++ fill)) (F.colours ++ (flat F.edges ++ zero))) (total_header P)
      ∙ puts_append header h (replicate n P.colour) (edge_widths P e ++ fill) F.colours (flat F.edges ++ zero) (length-replicate n P.colour)
      ∙ ap (λ (k : ℕ). put_fields coloured (h + k) (edge_widths P e ++ fill) (flat F.edges ++ zero)) (total-replicate n P.colour ∙ mul_comm n P.colour)
      ∙ puts_append coloured b (edge_widths P e) fill (flat F.edges) zero (length_widths P e ∙ sym (length-flat F.edges))
      ∙ ap (λ (k : ℕ). put_fields (put_fields coloured b (edge_widths P e) (flat F.edges)) (b + k) fill zero) (total_edges P e)
      ∙ one_put (put_fields coloured b (edge_widths P e) (flat F.edges)) (b + edge_bits P * e) (fill_bits P n e)

  pub written-laid : (s : List ℕ) → Bytes s → length_of P F ≤ length s →
      put_field (put_fields (put_fields (put_fields s 0 (P.states ∷ P.labels ∷ P.start ∷ P.edges ∷ []) ((states F - 1) ∷ (F.labels - 1) ∷ F.start ∷ length F.edges ∷ []))
      (header_bits P) (replicate (states F) P.colour) F.colours) (edges_begin P (states F)) (edge_widths P (length F.edges)) (flat F.edges))
      (file_bits P (states F) (length F.edges)) (fill_bits P (states F) (length F.edges)) 0 ≡ laid (written P F) s
  unfolding written length_of
  written-laid s b l =
      sym (steps s)
      ∙ cover s (length_of P F) (file_widths P (states F) (length F.edges)) (file_values F) b l (total_file P (states F) (length F.edges)) file_fit
      ∙ rw length-written

  pub written-holds : Holds P (written P F) F
  unfolding states_in labels_in start_in count_in colours_in edges_in placed_in edges_from filling_in file_values
  written-holds =
      let s = written P F in
      let n = states F in
      let e = length F.edges in
      let cs = fields s (header_bits P) (replicate n P.colour) in
      let es = edges_from P s (edges_begin P n) e in
      let fill : List ℕ = field s (file_bits P n e) (fill_bits P n e) ∷ [] in
      let none : List ℕ = 0 ∷ [] in
      let all : field s 0 P.states ∷ field s P.states P.labels ∷ field s (P.states + P.labels) P.start ∷ field s (P.states + P.labels + P.start) P.edges ∷ (cs ++ (flat es ++ fill)) ≡ file_values F =
      sym (fields_file P s n e) ∙ written-fields in
      let a : field s 0 P.states ≡ n - 1 = cc in
      let b : field s P.states P.labels ≡ F.labels - 1 = cc in
      let c : field s (P.states + P.labels) P.start ≡ F.start = cc in
      let d : field s (P.states + P.labels + P.start) P.edges ≡ e = cc in
      let rest : cs ++ (flat es ++ fill) ≡ F.colours ++ (flat F.edges ++ none) = cc in
      let cn : length cs ≡ length F.colours = length_fields s (header_bits P) (replicate n P.colour) ∙ length-replicate n P.colour in
      let colours : cs ≡ F.colours = front cs (flat es ++ fill) F.colours (flat F.edges ++ none) cn rest in
      let behind : flat es ++ fill ≡ flat F.edges ++ none = back cs (flat es ++ fill) F.colours (flat F.edges ++ none) cn rest in
      let en : length (flat es) ≡ length (flat F.edges) = length-flat es ∙ ap (λ (k : ℕ). 3 * k) (length_edges P s (edges_begin P n) e) ∙ sym (length-flat F.edges) in
      let edges : flat es ≡ flat F.edges = front (flat es) fill (flat F.edges) none en behind in
      let last : fill ≡ none = back (flat es) fill (flat F.edges) none en behind in
      let n1 : field s 0 P.states + 1 ≡ n = omega (arith, a, w.states_low) in
      let m1 : field s P.states P.labels + 1 ≡ F.labels = omega (arith, b, w.labels_low) in
      record {
        states_are = n1;
        labels_are = m1;
        start_is = c;
        count_is = d;
        colours_are = rw n1 colours;
        edges_are = rw (n1, d) (sym (threes-flat es) ∙ ap threes edges ∙ threes-flat F.edges);
        filled = rw (n1, d) (cc last);
      }

  -- a written file is accepted
  pub written_sound : Sound P (written P F)
  unfolding length_in length_of file_length bytes_for file_bits edges_begin
  written_sound =
      let h = written-holds in
      record {
        begins = rw length-written (omega arith);
        start_in_lem = rw (h.start_is, h.states_are) w.start_in_lem;
        count_in_lem = rw (h.count_is, h.states_are, h.labels_are) w.count_in_lem;
        long = length-written ∙ rw (h.count_is, h.states_are);
        filled = h.filled;
        stays = rw (holds-filter P (written P F) F h) w.stays;
        clear = rw (h.states_are, h.labels_are) (clear_elsewhere _ _ _ (placed_in P (written P F)) (listed-values 0 F.edges ∙ sym (edges_placed P (written P F) ∙ h.edges_are)) w.clear);
      }

-- ---- what is read is written

pub length_colours : (P : Profile) (s : List ℕ) → length (colours_in P s) ≡ states_in P s
unfolding colours_in
length_colours P s = length_fields s (header_bits P) (replicate (states_in P s) P.colour) ∙ length-replicate (states_in P s) P.colour

pub length-edges_in : (P : Profile) (s : List ℕ) → length (edges_in P s) ≡ count_in P s
unfolding edges_in placed_in edges_from
length-edges_in P s = length_edges P s (edges_begin P (states_in P s)) (count_in P s)

pub length-filter : (P : Profile) (s : List ℕ) → states (filter_in P s) ≡ states_in P s
unfolding filter_in
length-filter P s = length_colours P s

pub length-filter_edges : (P : Profile) (s : List ℕ) → length (filter_in P s).edges ≡ count_in P s
unfolding filter_in
length-filter_edges P s = length-edges_in P s

pub length-flat_edges : (P : Profile) (s : List ℕ) → length (flat (edges_in P s)) ≡ 3 * count_in P s
length-flat_edges P s = length-flat (edges_in P s) ∙ ap (λ (k : ℕ). 3 * k) (length-edges_in P s)

-- an accepted file has the length of its filter's file
pub length_read : (P : Profile) (s : List ℕ) → Sound P s → length_of P (filter_in P s) ≡ length s
unfolding length_of length_in
length_read P s h = rw (length-filter P s, length-filter_edges P s) (sym h.long)

-- the lists of a file are the lists of the filter in it
pub lists_filter : (P : Profile) (s : List ℕ) → from_lists (colours_in P s) (flat (edges_in P s)) (labels_in P s) (start_in P s) ≡ filter_in P s
unfolding filter_in
lists_filter P s = rw (threes-flat (edges_in P s))

module _ (P : Profile) (ok : Usable P) (s : List ℕ) (h : Sound P s) where
  colour-fits : (i : ℕ) → i < length (colours_in P s) → get_or (colours_in P s) i 0 < 2 ^ P.colour
  unfolding colours_in
  colour-fits i l =
      rw (run_at s (header_bits P) P.colour (states_in P s) i (omega (arith, length_colours P s)))
      (field_lt s (header_bits P + i * P.colour) P.colour)

  pub read_writable : Writable P (filter_in P s)
  unfolding filter_in
  read_writable = record {
    states_low = rw (length_colours P s) (states_low P s);
    states_high = rw (length_colours P s) (states_fit P ok s);
    labels_low = labels_low P s;
    labels_high = labels_fit P ok s;
    colours_below = at_below (2 ^ P.colour) (colours_in P s) colour-fits;
    start_in_lem = rw (length_colours P s) h.start_in_lem;
    count_in_lem = rw (length_colours P s, length-edges_in P s) h.count_in_lem;
    stays = h.stays;
    clear = rw (length_colours P s) (clear_elsewhere _ _ (placed_in P s) _ (edges_placed P s ∙ sym (listed-values 0 (edges_in P s))) h.clear);
  }

  length_is : length s ≡ file_length P (states_in P s) (count_in P s)
  unfolding length_in
  length_is = h.long

  values_read : file_values (filter_in P s) ≡ fields s 0 (file_widths P (states_in P s) (count_in P s))
  unfolding file_values filter_in states_in labels_in start_in count_in colours_in edges_in placed_in edges_from filling_in
  values_read =
      let a : length (colours_in P s) - 1 ≡ field s 0 P.states = omega (arith, length_colours P s) in
      let b : field s P.states P.labels + 1 - 1 ≡ field s P.states P.labels = omega arith in
      rw (a, b, length-edges_in P s) (sym (rw h.filled at (fields_file P s (states_in P s) (count_in P s))))

  pub read_back : Bytes s → written P (filter_in P s) ≡ s
  unfolding written length_of
  read_back b =
      let n : states (filter_in P s) ≡ states_in P s = length-filter P s in
      let e : length (filter_in P s).edges ≡ count_in P s = length-filter_edges P s in
      let z = file_length P (states_in P s) (count_in P s) in
      rw (n, e, values_read)
      (write_read s (replicate z 0) (file_widths P (states_in P s) (count_in P s)) b (bytes-replicate z 0 (omega arith))
      (length_is ∙ sym (length-replicate z 0)) (total_file P (states_in P s) (count_in P s) ∙ ap (λ (k : ℕ). k * 8) (sym length_is)))

-- ---- wider files, and the longest

-- a file that is at least as wide, and has no fault colour among the narrower one's colours, holds the filter too
pub writable_wider : (P Q : Profile) (F : Filter) → P.states ≤ Q.states → P.labels ≤ Q.labels → P.colour ≤ Q.colour → FaultAbove P Q → Writable P F → Writable Q F
writable_wider P Q F ns ms cs above w = record {
  states_low = w.states_low;
  states_high = le_trans w.states_high (pow_mono ns);
  labels_low = w.labels_low;
  labels_high = le_trans w.labels_high (pow_mono ms);
  colours_below = at_below (2 ^ Q.colour) F.colours (λ i l. lt_of_lt_of_le (below_at (2 ^ P.colour) F.colours (pow_pos P.colour) w.colours_below i) (pow_mono cs));
  start_in_lem = w.start_in_lem;
  count_in_lem = w.count_in_lem;
  clear = w.clear;
  stays = above_stays P Q F above w.colours_below;
}

-- The length of a file that has all states and all labels, and an edge for each state and label.
abbrev pub longest : Profile → ℕ
longest P = file_length P (2 ^ P.states) (2 ^ P.states * 2 ^ P.labels)

-- no file that is written, and none that is accepted, is longer
pub largest-length : (P : Profile) (F : Filter) → Writable P F → length_of P F ≤ longest P
unfolding length_of file_length bytes_for file_bits edges_begin
largest-length P F w =
    let most : states F * F.labels ≤ 2 ^ P.states * 2 ^ P.labels = mul-le-mul w.states_high w.labels_high in
    let colours : P.colour * states F ≤ P.colour * 2 ^ P.states = mul-le-mul (le_refl P.colour) w.states_high in
    let edges : edge_bits P * length F.edges ≤ edge_bits P * (2 ^ P.states * 2 ^ P.labels) = mul-le-mul (le_refl (edge_bits P)) (le_trans w.count_in_lem most) in
    omega (arith, colours, edges)

-- 45,253 bytes for the large file, 187 for the pocket file
pub longest_files : (longest large ≡ 45253) × (longest pocket ≡ 187)
unfolding file_length bytes_for file_bits edges_begin header_bits edge_bits
longest_files = (refl, refl)
