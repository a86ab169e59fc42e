-- What the rules say of links that have no fault, and the gate that a link belongs to.
use Prim.Native.Nat.{ℕ, zero, suc, ◌+◌, ◌-◌, ◌<◌}
use mathlib.Core.Path.{◌≡◌, refl, subst}
use mathlib.Core.Bool.{Bool, true, false, ◌||◌, true≢false}
use mathlib.Core.List.{List}
use native.Mathlib.Nat.{not-suc-le-zero}
use native.Mathlib.Decide.{dec_lt, ℕ_discrete}
use native.Mathlib.Omega.{arith}
use lib.Dec.{eqb}
use borrow.Author.Tests.{lt-ltb, ltb-true, eqb-false, ne_eqb, not-true}
use Rattle.std.specs.Prelude.{Ok}
use Rattle.refusals.proofs.FirstFault.{first_of_absent, unless_holds}
use Rattle.tree_file.specs.Format.{field_a, link}
use Rattle.tree_file.specs.Tallies.{input_count, inputs_before}
use Rattle.tree_judging.specs.LinkRules.{link_fault, link_rules, named}
use Rattle.tree_file.specs.WellFormed.{WellFormedRecord}
use Rattle.tree_file.proofs.Tallies.{with_input}

or_false : (a b : Bool) → a || b ≡ false → (a ≡ false) × (b ≡ false)
or_false false false e = (refl, refl)
or_false false true e = (refl, e)
or_false true b e = absurd (true≢false e)

-- A node that none of the first j links names, and the test for it.
pub unnamed : (file : List ℕ) (n j : ℕ) → named file n j ≡ false → (i : ℕ) → i < j → link file i ≡ n → ⊥
unfolding named
unnamed file n zero e i lt q = not-suc-le-zero lt
unnamed file n (suc j) e i lt q =
    let both = or_false (named file n j) (eqb (link file j) n) e in
    go (unnamed file n j both.0) (eqb-false (link file j) n both.1) (ℕ_discrete i j)
  where
    go : ((i : ℕ) → i < j → link file i ≡ n → ⊥) → (link file j ≡ n → ⊥) → Dec (i ≡ j) → ⊥
    go before here (yes p) = here (subst (λ (k : ℕ). link file k ≡ n) p q)
    go before here (no p) = before i (omega arith) q

not_named : (file : List ℕ) (n j : ℕ) → ((i : ℕ) → i < j → link file i ≡ n → ⊥) → named file n j ≡ false
unfolding named
not_named file n zero h = refl
not_named file n (suc j) h =
    rw (not_named file n j (λ i lt. h i (omega arith)), ne_eqb (link file j) n (h j (omega arith)))

-- Link j of gate g names a node below g, and one that no earlier link names.
pub record WellFormedLink (file : List ℕ) (g j : ℕ) : Type 0 where
  pub below : link file j < g
  pub new : (i : ℕ) → i < j → link file i ≡ link file j → ⊥

pub link_well_formed : (file : List ℕ) (g j : ℕ) → link_fault file g j ≡ Ok tt → WellFormedLink file g j
unfolding link_fault
link_well_formed file g j e =
    let rules = first_of_absent (link_rules file g j) e in
    record {
      below = ltb-true (link file j) g (unless_holds _ _ _ rules.0);
      new = unnamed file (link file j) j (not-true (named file (link file j) j) (unless_holds _ _ _ rules.1.0));
    }

pub link_absent : (file : List ℕ) (g j : ℕ) → WellFormedLink file g j → link_fault file g j ≡ Ok tt
unfolding link_fault
link_absent file g j w = rw (lt-ltb (link file j) g w.below, not_named file (link file j) j w.new)

-- The gate that link j belongs to, among the first g nodes, and which of its inputs the link is.
pub record LinkOwner (file : List ℕ) (g j : ℕ) : Type 0 where
  pub gate : ℕ
  pub gate_below : gate < g
  pub input : ℕ
  pub input_below : input < input_count file gate
  pub position : field_a file gate + input ≡ j

pub owner : (file : List ℕ) (g j : ℕ) → ((i : ℕ) → i < g → WellFormedRecord file i) → j < inputs_before file g
    → LinkOwner file g j
unfolding inputs_before
owner file zero j w lt = absurd (not-suc-le-zero lt)
owner file (suc g) j w lt = go (owner file g j (λ i l. w i (omega arith))) (dec_lt j (inputs_before file g))
  where
    go : (j < inputs_before file g → LinkOwner file g j) → Dec (j < inputs_before file g) → LinkOwner file (suc g) j
    go before (yes h) =
        let o = before h in
        record {
          gate = o.gate;
          gate_below = omega (arith, o.gate_below);
          input = o.input;
          input_below = o.input_below;
          position = o.position;
        }
    go before (no h) =
        let k : ℕ = j - inputs_before file g in
        let inside : k < input_count file g = omega arith in
        let first = (w g (omega arith)).gate_first (with_input file g k inside) in
        record { gate = g; gate_below = omega arith; input = k; input_below = inside; position = omega (arith, first) }
