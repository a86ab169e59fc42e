-- A node's rounded end, input by input over stored ends, is the fold that a loop over a gate's links computes.
use Prim.Native.Nat.{ℕ, zero, suc, ◌+◌, ◌≤◌, ◌<◌}
use mathlib.Core.Path.{◌≡◌, refl, sym, ap, ap₂}
use mathlib.Core.List.{List, [], ◌∷◌, map}
use native.Mathlib.Nat.{add-zero, add-suc, zero-add}
use native.Mathlib.Omega.{arith}
use Rattle.theory.specs.FaultTree.{GateKind, all, any, Tree}
use Rattle.theory.specs.Rounding.{Direction, down, up, End, start, run, gate_end, evaluated, all_evaluated}
use Rattle.theory.specs.GateFold.{seen, turned, folded}
use Rattle.theory.specs.NodeTable.{Node, event, joint, Table, inputs, build, tree_of, HasLink, Owns, Ranked}
use Rattle.theory.proofs.TreeOf.{tree_unfolds}

-- a node's end: a basic event's own, a gate's by the stored ends of the nodes that its links name
abbrev pub end_by_inputs : ℕ → Direction → (ℕ → End) → (ℕ → End) → (ℕ → ℕ) → Node → End
end_by_inputs U w leaf store link (event e) = leaf e
end_by_inputs U w leaf store link (joint k a n) =
    seen k U (folded U (turned k w) (λ j. seen k U (store (link j))) a (suc n))

-- to map by what changes nothing changes nothing
map_same : (xs : List End) → map (λ x. x) xs ≡ xs
map_same [] = refl
map_same (x ∷ xs) = ap (λ l. x ∷ l) (map_same xs)

-- a gate's end, with one formula for both kinds
pub gate_end_seen : (U : ℕ) (w : Direction) (k : GateKind) (xs : List End) →
    gate_end U w k xs ≡ seen k U (run U (turned k w) (start U) (map (seen k U) xs))
gate_end_seen U w all xs = ap (run U w (start U)) (sym (map_same xs))
gate_end_seen U w any xs = refl

-- a direction turned twice is itself
pub turned_twice : (k : GateKind) (w : Direction) → turned k (turned k w) ≡ w
turned_twice all w = refl
turned_twice any down = refl
turned_twice any up = refl

-- the ends of link a and the n after it
abbrev listed : (ℕ → End) → ℕ → ℕ → List End
listed ends a zero = ends a ∷ []
listed ends a (suc n) = ends a ∷ listed ends (suc a) n

-- the ends of a gate's inputs, each passed through f
inputs_listed : (U : ℕ) (w : Direction) (leaf : ℕ → End) (f : End → End) (ends : ℕ → End) (tree : ℕ → Tree)
    (link : ℕ → ℕ) (a n : ℕ) → ((j : ℕ) → a ≤ j → j ≤ a + n → f (evaluated U w leaf (tree (link j))) ≡ ends j) →
    map f (all_evaluated U w leaf (inputs tree link a n)) ≡ listed ends a n
inputs_listed U w leaf f ends tree link a zero h = ap (λ x. x ∷ []) (h a (omega arith) (omega arith))
inputs_listed U w leaf f ends tree link a (suc n) h = ap₂ ◌∷◌ (h a (omega arith) (omega arith))
    (inputs_listed U w leaf f ends tree link (suc a) n (λ j l u. h j (omega arith) (omega arith)))

-- to run over the ends from link a + m on goes on where the first m links ended
run_goes_on : (U : ℕ) (w : Direction) (ends : ℕ → End) (a m n : ℕ) →
    run U w (folded U w ends a m) (listed ends (a + m) n) ≡ folded U w ends a (suc (m + n))
run_goes_on U w ends a m zero = rw (add-zero m)
run_goes_on U w ends a m (suc n) =
    let moved : m + suc n ≡ suc m + n = omega arith in
    rw (← add-suc a m, moved) (run_goes_on U w ends a (suc m) n)

-- to run over the ends of a gate's links is to fold them
run_is_fold : (U : ℕ) (w : Direction) (ends : ℕ → End) (a n : ℕ) →
    run U w (start U) (listed ends a n) ≡ folded U w ends a (suc n)
run_is_fold U w ends a n = rw (add-zero a, zero-add n) at (run_goes_on U w ends a 0 n)

-- the rounded end of a node that is built from trees, where their ends are stored
pub build_end : (U : ℕ) (w : Direction) (leaf : ℕ → End) (store : ℕ → End) (tree : ℕ → Tree) (link : ℕ → ℕ)
    (node : Node) → ((j : ℕ) → HasLink node j → store (link j) ≡ evaluated U w leaf (tree (link j))) →
    evaluated U w leaf (build tree link node) ≡ end_by_inputs U w leaf store link node
build_end U w leaf store tree link (event e) h = refl
build_end U w leaf store tree link (joint k a n) h =
    rw (
      gate_end_seen U w k (all_evaluated U w leaf (inputs tree link a n)),
      inputs_listed U w leaf (seen k U) ends tree link a n same,
    )
    (ap (seen k U) (run_is_fold U (turned k w) ends a n))
  where
    ends : ℕ → End
    ends j = seen k U (store (link j))

    same : (j : ℕ) → a ≤ j → j ≤ a + n → seen k U (evaluated U w leaf (tree (link j))) ≡ ends j
    same j l u = ap (seen k U) (sym (h j (l, u)))

module _ (table : Table) (rank : ℕ → ℕ) (ranked : Ranked table rank) (U : ℕ) (w : Direction) (leaf : ℕ → End)
    (store : ℕ → End) where
  -- a node's rounded end, by the stored ends of the nodes that its links name
  pub end_by_links : (i : ℕ) → i < table.size →
      ((j : ℕ) → Owns table i j → store (table.link j) ≡ evaluated U w leaf (tree_of table (table.link j))) →
      evaluated U w leaf (tree_of table i) ≡ end_by_inputs U w leaf store table.link (table.node i)
  end_by_links i l h =
      rw (tree_unfolds table rank ranked i l) (build_end U w leaf store (tree_of table) table.link (table.node i) h)
