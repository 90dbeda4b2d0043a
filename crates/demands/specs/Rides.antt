-- The marked rides, and P, which document 02 changes: one claim over a list of them, about the definitions that the calls' contracts cite.
-- Assumes nothing.
use Rattle.std.specs.Prelude.{ℕ, ◌+◌, ◌≡◌, refl, List, [], ◌∷◌, map, length}
use Rattle.std.proofs.Common.{sym, ap, ◌∙◌}
use Rattle.std.proofs.Math.Option.{none, some}
use Rattle.bits.specs.Bits.{bit_at, field, splice, put_bit, put_field}
use Rattle.pen.specs.Runs.{fields, put_fields}
use Rattle.meaning.specs.Cases.{impossible}
use Rattle.meaning.specs.Filter.{comes_before, same_place}
use Rattle.meaning.specs.Fault.{leaves}
use Rattle.meaning.specs.Search.{any, least, count, tab}
use Rattle.meaning.specs.Reach.{among, meet, visited, walked, reached}
use Rattle.meaning.specs.Classes.{initial, parted, first, free, groups, split, round, chosen, begin, cut, run, reduction, classes, number}
use Rattle.meaning.specs.Reduced.{apart, conflict, live, reduce, name_of, mapped, class_edge, edge', cell, row, listed, merged, reduced, class_list, distinct}
use Rattle.meaning.specs.Trace.{target, edge, colour, ridden, halted, shown, stops}
use Rattle.layout.specs.Layout.{large, header_bits, edge_bits, edges_begin, file_bits, bytes_for, file_length, fill_bits, edge_widths, file_widths, flat, file_values, length_of, written}
use Rattle.layout.specs.Contents.{states_in, labels_in, start_in, count_in, colours_in, placed_at, placed_from, placed_in, edge_at, edges_from, edges_in, filter_in, length_in, filling_in}
use Rattle.refusals.specs.Refusals.{Outcome, accepted, refused, room_after}
use Rattle.edges.specs.Faults.{edge_fault, first_fault, first_leaving}
use Rattle.files.specs.Files.{file_tests, check_of}
use Rattle.observed.specs.Observed.{first_outside}
use Rattle.tracing.specs.Tracing.{trace_of}
use Rattle.folding.specs.Folding.{rooms, counts_of}
use Rattle.reduction.specs.Reducing.{reduce_of}
use Rattle.demands.specs.Demand3.{reduced_file, Traces}

-- The bytes of a file; a refusal, or n, m, start and e; of an accepted file its colours, its edges as bytes, and the bytes that
-- packing these gives; what reducing it answers, the reduced file, and the new number of each state; and observations with what
-- tracing them answers and the colours that are shown.
pub record Ride : Type 0 where
  pub file : List ℕ
  pub answer : Outcome
  pub colours : List ℕ
  pub edges : List ℕ
  pub packed : List ℕ
  pub reducing : Outcome
  pub reduced_file : List ℕ
  pub new_numbers : List ℕ
  pub observations : List ℕ
  pub tracing : Outcome
  pub colours_shown : List ℕ

abbrev pub refused_ride : List ℕ → ℕ → Ride
refused_ride file number = record {
  file = file;
  answer = refused number 0;
  colours = [];
  edges = [];
  packed = [];
  reducing = refused number 0;
  reduced_file = [];
  new_numbers = [];
  observations = [];
  tracing = refused number 0;
  colours_shown = [];
}

abbrev pub accepted_ride : List ℕ → List ℕ → List ℕ → List ℕ → List ℕ → List ℕ → List ℕ → List ℕ → Outcome → List ℕ → Ride
accepted_ride file numbers colours edges reduced_file new_numbers counts observations tracing colours_shown = record {
  file = file;
  answer = accepted numbers;
  colours = colours;
  edges = edges;
  packed = file;
  reducing = accepted counts;
  reduced_file = reduced_file;
  new_numbers = new_numbers;
  observations = observations;
  tracing = tracing;
  colours_shown = colours_shown;
}

-- All observations are traced; or the ride stops at i.
abbrev pub traced : Outcome
traced = accepted (0 ∷ 0 ∷ [])

abbrev pub stopped_at : ℕ → Outcome
stopped_at i = accepted (1 ∷ i ∷ [])

abbrev pub A : Ride
A = refused_ride [] 1

abbrev pub B : Ride
B = refused_ride (0x00 ∷ 0x00 ∷ 0x00 ∷ 0x00 ∷ 0x00 ∷ []) 4

abbrev pub C : Ride
C = accepted_ride (0x00 ∷ 0x00 ∷ 0x00 ∷ 0x00 ∷ 0x00 ∷ 0x00 ∷ []) (1 ∷ 1 ∷ 0 ∷ 0 ∷ []) (0 ∷ []) [] (0x00 ∷ 0x00 ∷ 0x00 ∷ 0x00 ∷ 0x00 ∷ 0x00 ∷ []) (0 ∷ []) (1 ∷ 1 ∷ 0 ∷ 6 ∷ []) [] traced (0 ∷ [])

abbrev pub D : Ride
D = refused_ride (0x00 ∷ 0x00 ∷ 0x00 ∷ 0x00 ∷ 0x00 ∷ 0x00 ∷ 0x00 ∷ []) 5

abbrev pub E : Ride
E = refused_ride (0x00 ∷ 0x00 ∷ 0x04 ∷ 0x00 ∷ 0x00 ∷ 0x00 ∷ []) 2

abbrev pub F : Ride
F = refused_ride (0x00 ∷ 0x00 ∷ 0x00 ∷ 0x00 ∷ 0x10 ∷ 0x00 ∷ []) 3

abbrev pub G : Ride
G = refused_ride (0x00 ∷ 0x00 ∷ 0x00 ∷ 0x00 ∷ 0x08 ∷ 0x00 ∷ []) 4

abbrev pub H : Ride
H = refused_ride (0x00 ∷ 0x00 ∷ 0x00 ∷ 0x00 ∷ 0x00 ∷ 0x01 ∷ []) 6

-- the bytes of K reduced
abbrev pub bytes_k' : List ℕ
bytes_k' = 0x01 ∷ 0x04 ∷ 0x00 ∷ 0x00 ∷ 0x20 ∷ 0x00 ∷ 0x80 ∷ 0x00 ∷ 0x02 ∷ 0x00 ∷ 0x08 ∷ 0x08 ∷ 0x08 ∷ 0x00 ∷ 0x00 ∷ 0x20 ∷ 0x80 ∷ 0x00 ∷ []

abbrev pub K : Ride
K =
    accepted_ride
    (0x02 ∷ 0x04 ∷ 0x00 ∷ 0x00 ∷ 0x20 ∷ 0x00 ∷ 0x82 ∷ 0x00 ∷ 0x00 ∷ 0x08 ∷ 0x00 ∷ 0x20 ∷ 0x40 ∷ 0x20 ∷ 0x00 ∷ 0x01 ∷ 0x02 ∷ 0x00 ∷ [])
    (3 ∷ 2 ∷ 0 ∷ 4 ∷ [])
    (0 ∷ 1 ∷ 1 ∷ [])
    (0 ∷ 0 ∷ 1 ∷ 0 ∷ 1 ∷ 2 ∷ 1 ∷ 0 ∷ 0 ∷ 2 ∷ 1 ∷ 0 ∷ [])
    bytes_k'
    (0 ∷ 1 ∷ 1 ∷ [])
    (2 ∷ 2 ∷ 0 ∷ 18 ∷ [])
    (0 ∷ 1 ∷ [])
    (stopped_at 1)
    (0 ∷ 1 ∷ [])

-- K reduced
abbrev pub K' : Ride
K' =
    accepted_ride
    bytes_k'
    (2 ∷ 2 ∷ 0 ∷ 4 ∷ [])
    (0 ∷ 1 ∷ [])
    (0 ∷ 0 ∷ 1 ∷ 0 ∷ 1 ∷ 1 ∷ 1 ∷ 0 ∷ 0 ∷ 1 ∷ 1 ∷ 0 ∷ [])
    bytes_k'
    (0 ∷ 1 ∷ [])
    (2 ∷ 2 ∷ 0 ∷ 18 ∷ [])
    (0 ∷ 1 ∷ [])
    traced
    (0 ∷ 1 ∷ 0 ∷ [])

abbrev pub L : Ride
L =
    accepted_ride
    (0x01 ∷ 0x00 ∷ 0x00 ∷ 0x00 ∷ 0x08 ∷ 0x00 ∷ 0x00 ∷ 0x00 ∷ 0x02 ∷ [])
    (2 ∷ 1 ∷ 0 ∷ 1 ∷ [])
    (0 ∷ 0 ∷ [])
    (0 ∷ 0 ∷ 1 ∷ [])
    (0x00 ∷ 0x00 ∷ 0x00 ∷ 0x00 ∷ 0x08 ∷ 0x00 ∷ 0x00 ∷ 0x00 ∷ 0x00 ∷ [])
    (0 ∷ 0 ∷ [])
    (1 ∷ 1 ∷ 0 ∷ 9 ∷ [])
    (0 ∷ []) traced (0 ∷ 0 ∷ [])

-- N keeps its states: seven, as many as 2 rounds and 5 colours
abbrev pub bytes_n : List ℕ
bytes_n = 0x06 ∷ 0x04 ∷ 0x00 ∷ 0x00 ∷ 0x30 ∷ 0x00 ∷ 0x82 ∷ 0x10 ∷ 0x41 ∷ 0x88 ∷ 0x00 ∷ 0x00 ∷ 0x08 ∷ 0x00 ∷ 0x20 ∷ 0x40 ∷ 0x20 ∷ 0x01 ∷ 0x81 ∷ 0x00 ∷ 0x08 ∷ 0x06 ∷ 0x00 ∷ 0x28 ∷ 0x20 ∷ 0x00 ∷ 0xc0 ∷ []

abbrev pub N : Ride
N =
    accepted_ride
    bytes_n
    (7 ∷ 2 ∷ 0 ∷ 6 ∷ [])
    (0 ∷ 1 ∷ 1 ∷ 2 ∷ 2 ∷ 3 ∷ 4 ∷ [])
    (0 ∷ 0 ∷ 1 ∷ 0 ∷ 1 ∷ 2 ∷ 1 ∷ 0 ∷ 3 ∷ 2 ∷ 0 ∷ 4 ∷ 3 ∷ 0 ∷ 5 ∷ 4 ∷ 0 ∷ 6 ∷ [])
    bytes_n
    (0 ∷ 1 ∷ 2 ∷ 3 ∷ 4 ∷ 5 ∷ 6 ∷ [])
    (7 ∷ 5 ∷ 2 ∷ 27 ∷ [])
    (0 ∷ 0 ∷ 0 ∷ 0 ∷ [])
    (stopped_at 3)
    (0 ∷ 1 ∷ 2 ∷ 3 ∷ [])

-- P's start leads to itself alone: what is left of it, and 65,535 for the two states that are dropped
abbrev pub P : Ride
P =
    accepted_ride
    (0x02 ∷ 0x00 ∷ 0x00 ∷ 0x00 ∷ 0x10 ∷ 0x00 ∷ 0x02 ∷ 0x00 ∷ 0x00 ∷ 0x00 ∷ 0x08 ∷ 0x00 ∷ 0x40 ∷ [])
    (3 ∷ 1 ∷ 0 ∷ 2 ∷ [])
    (0 ∷ 0 ∷ 1 ∷ [])
    (0 ∷ 0 ∷ 0 ∷ 1 ∷ 0 ∷ 2 ∷ [])
    (0x00 ∷ 0x00 ∷ 0x00 ∷ 0x00 ∷ 0x08 ∷ 0x00 ∷ 0x00 ∷ 0x00 ∷ 0x00 ∷ [])
    (0 ∷ 65535 ∷ 65535 ∷ []) (1 ∷ 1 ∷ 0 ∷ 9 ∷ [])
    (0 ∷ 0 ∷ []) traced (0 ∷ 0 ∷ 0 ∷ [])

abbrev pub rides : List Ride
rides = A ∷ B ∷ C ∷ D ∷ E ∷ F ∷ G ∷ H ∷ K ∷ K' ∷ L ∷ N ∷ P ∷ []

-- A ride with what the definitions make of its file: what reducing and tracing answer in rooms that are just long enough, and of
-- each room what the call writes.
unfoldable pub done : Ride → Ride
done r =
    let s = r.file in
    let F = filter_in large s in
    let reducing = reduce_of large s (rooms s (colours_in large s)) in
    let tracing = trace_of large s r.observations (length r.observations + 1) in
    record {
      file = s;
      answer = check_of large s;
      colours = room_after (check_of large s) (colours_in large s) [];
      edges = room_after (check_of large s) (flat (edges_in large s)) [];
      packed = room_after (check_of large s) (written large F) [];
      reducing = reducing;
      reduced_file = room_after reducing (written large (reduced F)) [];
      new_numbers = room_after reducing (class_list F) [];
      observations = r.observations;
      tracing = tracing;
      colours_shown = room_after tracing (shown F r.observations) [];
    }

pub rides_hold : map done rides ≡ rides
unfolding done reduce_of counts_of class_list among meet visited walked reached any least count tab initial parted first free groups split round chosen begin cut run reduction classes number apart conflict live reduce name_of mapped class_edge edge' cell row listed merged reduced distinct bit_at field splice put_bit put_field fields put_fields comes_before same_place header_bits edge_bits edges_begin file_bits bytes_for file_length fill_bits edge_widths file_widths flat file_values length_of written states_in labels_in start_in count_in colours_in placed_at placed_from placed_in edge_at edges_from edges_in filter_in length_in filling_in edge_fault first_fault leaves first_leaving file_tests check_of target edge colour ridden halted shown stops first_outside trace_of
rides_hold = refl

-- ---- the two filters need not trace the same sequences

file_k' : reduced_file large K.file ≡ bytes_k'
unfolding among meet visited walked reached any least count tab initial parted first free groups split round chosen begin cut run reduction classes number apart conflict live reduce name_of mapped class_edge edge' cell row listed merged reduced target edge colour bit_at field splice put_bit put_field fields put_fields header_bits edge_bits edges_begin file_bits bytes_for file_length fill_bits edge_widths file_widths flat file_values length_of written states_in labels_in start_in count_in colours_in placed_at placed_from placed_in edge_at edges_from edges_in filter_in
file_k' = refl

stops_k : (stops (filter_in large bytes_k') (0 ∷ 1 ∷ []) ≡ none) × (stops (filter_in large K.file) (0 ∷ 1 ∷ []) ≡ some 1)
unfolding target edge halted stops bit_at field fields header_bits edge_bits edges_begin states_in labels_in start_in count_in colours_in placed_at placed_from placed_in edge_at edges_from edges_in filter_in
stops_k = (refl, refl)

-- K reduced traces 0, 1, and K does not.
pub reduced_traces_more : Traces large (reduced_file large K.file) (0 ∷ 1 ∷ []) × (Traces large K.file (0 ∷ 1 ∷ []) → ⊥)
reduced_traces_more =
    (ap (λ (s : List ℕ). stops (filter_in large s) (0 ∷ 1 ∷ [])) file_k' ∙ stops_k.0, λ h. let both = sym h ∙ stops_k.1 in impossible cc)
