-- The dual of a fault tree, its success tree: AND and OR exchanged, over events that work where they failed (02,
-- request 6). What is reported of the dual, with every cut turned over, is what is missing to U, turned over:
-- `dual_reported` of proofs/DeMorgan, and of every node of a table `node_dual_reported` of proofs/DualTable.
use Rattle.std.specs.Prelude.{ℕ, ◌-◌, ◌<◌, ◌≡◌}
use Rattle.theory.specs.Fraction.{complement}
use Rattle.theory.specs.FaultTree.{GateKind, all, any, Tree, Inputs, basic, gate, only, more}
use Rattle.theory.specs.Interval.{Interval}
use Rattle.theory.specs.Trapezoid.{Trapezoid}
use Rattle.theory.specs.NodeTable.{Node, event, joint, Table, Owns}

abbrev pub dual_kind : GateKind → GateKind
dual_kind all = any
dual_kind any = all

abbrev mutual
  pub dual : Tree → Tree
  dual (basic e) = basic e
  dual (gate k ts) = gate (dual_kind k) (duals ts)

  pub duals : Inputs → Inputs
  duals (only t) = only (dual t)
  duals (more t ts) = more (dual t) (duals ts)

-- the node of the other kind; a basic event stays
abbrev pub dual_node : Node → Node
dual_node (event e) = event e
dual_node (joint k a n) = joint (dual_kind k) a n

-- The other table has the same nodes and links, and every gate of the other kind.
pub record DualTable (table other : Table) : Type 0 where
  pub same_size : other.size ≡ table.size
  pub each_dual : (i : ℕ) → i < table.size → other.node i ≡ dual_node (table.node i)
  pub same_link : (i j : ℕ) → i < table.size → Owns table i j → other.link j ≡ table.link j

-- 1 − each fraction of an interval: the ends change places
abbrev pub interval_complement : Interval → Interval
interval_complement x = record { lower = complement x.upper; upper = complement x.lower }

-- 1 − each of four numbers, over their own denominator: the order is turned about. ℕ's − stops at 0, which is never met
-- where the numbers are at most 1 (`Rising`)
abbrev pub trapezoid_complement : Trapezoid → Trapezoid
trapezoid_complement z = record {
  den = z.den;
  a = z.den - z.d;
  b = z.den - z.c;
  c = z.den - z.b;
  d = z.den - z.a;
}
