-- What the two phases come to: every node's reported ends at its place, and the places from N on as they were.
use Prim.Native.Nat.{ℕ, suc, ◌≤◌, ◌<◌}
use mathlib.Core.Path.{◌≡◌, refl, sym, subst, ◌∙◌}
use mathlib.Core.Logic.{◌≢◌}
use mathlib.Core.List.{List}
use native.Mathlib.Decide.{dec_lt}
use native.Mathlib.Nat.{le_refl}
use lib.ListN.{get_or}
use Rattle.theory.specs.Rounding.{Direction, End, evaluated}
use Rattle.tree_file.specs.Format.{linked, links_from, node_count}
use Rattle.tree_file.specs.WellFormed.{WellFormed}
use Rattle.tree_file.specs.NodeTable.{fault_tree, kind_as, read_node}
use Rattle.tree_file.specs.declared.node.Node.{Node}
use Rattle.tree_file.specs.declared.node.Node.TheVariants as node
use Rattle.rounding.specs.Ends.{enclosure}
use Rattle.rounding.specs.declared.end.Enclosure.{Enclosure}
use Rattle.work_slices.specs.Slices.{Slices, ends, slice, stored_end, Long, after_turns, filled}
use Rattle.evaluation.specs.Phases.{event_put, event_turn, gate_enclosure, gate_turn}
use Rattle.evaluation.specs.Requirements.{EventsStored}
use Rattle.work_slices.proofs.Places.{At, SameAt, SameLength, same_long, same_slices, same_enclosure}
use Rattle.work_slices.proofs.Places.{content_value, stored_at, put_length, put_here, put_other}
use Rattle.work_slices.proofs.Turns.{Local, turns_length, turns_past, turns_at, filled_local, filled_at}
use Rattle.evaluation.proofs.NodeEnds.{event_end, gate_end_by_inputs}
use Rattle.evaluation.proofs.FoldBounds.{fold_at_most}
use Rattle.evaluation.proofs.GatesDone.{Done, Carried, all_done, done_holds, gates_local, order_inside}

module _ (cuts : ℕ → Enclosure) (tree : List ℕ) where
  -- an event's turn touches its own place alone
  pub events_local : Local (event_turn cuts tree) (λ i. i)
  events_local = record {
    same_length = λ i s. kept i (read_node tree i) s;
    others = λ i s m ne. left i (read_node tree i) s m ne;
  }
    where
      kept : (i : ℕ) (x : Node) (s : Slices) → SameLength (event_put cuts i x s) s
      kept i (node.Event e) s p = put_length i (cuts e) s p
      kept i (node.Gate g) s p = refl

      left : (i : ℕ) (x : Node) (s : Slices) (m : ℕ) → m ≢ i → SameAt (event_put cuts i x s) s m
      left i (node.Event e) s m ne p = put_other i (cuts e) s m ne p
      left i (node.Gate g) s m ne p = refl

  -- a basic event's place holds its cut
  pub events_at : (n : ℕ) (s : Slices) → Long n s → (i e : ℕ) → i < n → read_node tree i ≡ node.Event e
      → At (after_turns (event_turn cuts tree) n s) i (cuts e)
  events_at n s long i e l r =
      turns_at events_local i (cuts e)
      (λ s long. subst (λ (x : Node). At (event_put cuts i x s) i (cuts e)) (sym r)
      (put_here i (cuts e) s (le_refl (suc i)) long)) n s l long

-- what the second phase asks of a gate's inputs, at its turn
pub in_units_done : (U : ℕ) → 0 < U → (tree : List ℕ) (s : Slices) → EventsStored U tree s → (p : ℕ)
    → p ≤ node_count tree → (m : ℕ) → m < node_count tree → Done tree p m
    → (w : Direction) → get_or (slice (ends w) (after_turns (gate_turn U tree) p s)) m 0 ≤ U
in_units_done U positive tree s asked p l m inside done =
    done_holds U tree asked.well_formed s asked.long (λ m s. (w : Direction) → get_or (slice (ends w) s) m 0 ≤ U)
    (record {
      stays = λ m s t same h w. rw (same (ends w)) (h w);
      event = λ m e inside r w. asked.in_units w m e inside r;
      gate = λ i g s inside r long h w.
          rw (put_here i (gate_enclosure U tree g s) s inside long (ends w), content_value w)
          (fold_at_most U positive w (kind_as g.kind) _ g.inputs (stored_end w s) (λ j m. h j m w));
    })
    p l m inside done

module _ (U : ℕ) (tree : List ℕ) (well_formed : WellFormed tree) (leaf : Direction → ℕ → End) where
  -- the ends of node i, by the ends of the basic events
  abbrev node_end_of : ℕ → Direction → End
  node_end_of i w = evaluated U w (leaf w) (fault_tree tree i)

  -- both as an enclosure
  abbrev node_ends : ℕ → Enclosure
  node_ends i = enclosure (node_end_of i)

  -- both ends of a basic event
  abbrev leaves : ℕ → Enclosure
  leaves e = enclosure (λ w. leaf w e)

  -- once the events' places hold theirs, every done node's place holds its ends
  node_ends_carried : (s : Slices)
      → ((m e : ℕ) → m < node_count tree → read_node tree m ≡ node.Event e → At s m (leaves e))
      → Carried U tree s (λ m s. At s m (node_ends m))
  node_ends_carried s events = record {
    stays = λ m s t same h p. same p ∙ h p;
    event = λ m e inside r.
        rw (same_enclosure _ _ (λ w. event_end tree well_formed U w (leaf w) m inside e r)) (events m e inside r);
    gate = λ i g s inside r long h.
        rw (same_enclosure _ _ (λ w. gate_end_by_inputs tree well_formed U w (leaf w) i inside g r (stored_end w s)
        (λ j m. stored_at (node_end_of (linked (links_from tree g.first) j)) (h j m) w)))
        (put_here i (gate_enclosure U tree g s) s inside long);
  }

  -- the two phases put every node's ends to its place, and leave the places from N on
  pub phases_report : (s : Slices) → Long (node_count tree) s
      → after_turns (gate_turn U tree) (node_count tree) (after_turns (event_turn leaves tree) (node_count tree) s)
      ≡ filled node_ends (node_count tree) s
  phases_report s long =
      same_slices after (filled node_ends N s)
      (λ p. turns_length (gates_local U tree) N cut p ∙ turns_length (events_local leaves tree) N s p
      ∙ sym (turns_length (filled_local node_ends) N s p))
      (λ i. go i (dec_lt i N))
    where
      N : ℕ
      N = node_count tree

      cut : Slices
      cut = after_turns (event_turn leaves tree) N s

      after : Slices
      after = after_turns (gate_turn U tree) N cut

      cut_long : Long N cut
      cut_long = same_long (turns_length (events_local leaves tree) N s) (le_refl N) long

      go : (i : ℕ) → Dec (i < N) → SameAt after (filled node_ends N s) i
      go i (yes l) = λ p.
          done_holds U tree well_formed cut cut_long _
          (node_ends_carried cut (λ m e inside r. events_at leaves tree N s long m e inside r)) N (le_refl N) i l
          (all_done tree i l) p
          ∙ sym (filled_at node_ends s N i l long p)
      go i (no past) = λ p.
          turns_past (gates_local U tree) N cut i (λ q l e. past (rw e (order_inside tree q l))) p
          ∙ turns_past (events_local leaves tree) N s i (λ q l e. past (rw e l)) p
          ∙ sym (turns_past (filled_local node_ends) N s i (λ q l e. past (rw e l)) p)
