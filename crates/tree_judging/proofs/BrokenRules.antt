-- The test of each rule fails exactly where the rule is broken.
use Prim.Native.Nat.{ℕ, zero, suc, ◌≤◌, ◌<◌}
use mathlib.Core.Path.{◌≡◌, refl, sym, ◌∙◌}
use mathlib.Core.Logic.{◌⊎◌}
use mathlib.Core.Bool.{Bool, true, false, not, ◌&&◌, true≢false}
use mathlib.Core.List.{List}
use native.Mathlib.Decide.{ℕ_discrete}
use native.Mathlib.Omega.{arith}
use lib.Dec.{leb}
use borrow.Author.Tests.{ne_eqb, not-false, not-true}
use Rattle.std.proofs.lemmas.Bool.Decides.{nat_tests}
use Rattle.tree_file.specs.Format.{field_a, field_b, kind, link, link_count, max_nodes, node_count, or_kind}
use Rattle.tree_file.specs.Tallies.{events_before, inputs_before}
use Rattle.tree_judging.specs.RecordRules.{has_fields}
use Rattle.tree_judging.specs.LinkRules.{named}
use Rattle.tree_judging.specs.Broken.{WrongFields}
use Rattle.tree_judging.proofs.LinkLaws.{unnamed}

module _ (file : List ℕ) where
  abbrev pub counted : Bool
  counted = leb 1 (node_count file) && leb (node_count file) max_nodes

  pub count_says : counted ≡ false → (node_count file < 1) ⊎ (max_nodes < node_count file)
  count_says h = grind (arith, nat_tests)

  pub count_shows : (node_count file < 1) ⊎ (max_nodes < node_count file) → counted ≡ false
  count_shows h = grind (arith, nat_tests)

  -- The test of a record's fields.
  abbrev pub fields : ℕ → Bool
  fields i =
      has_fields (kind file i) (field_a file i) (field_b file i) (events_before file i) (inputs_before file i)
      (link_count file)

  pub fields_say : (i : ℕ) → kind file i ≤ or_kind → fields i ≡ false → WrongFields file i
  unfolding has_fields
  fields_say i known h = grind (arith, nat_tests)

  pub fields_show : (i : ℕ) → WrongFields file i → fields i ≡ false
  unfolding has_fields
  fields_show i h = grind (arith, nat_tests)

  -- A node that an earlier link names.
  name_found : (n j : ℕ) → named file n j ≡ true → (i : ℕ) × ((i < j) × (link file i ≡ n))
  unfolding named
  name_found n zero e = absurd (true≢false (sym e))
  name_found n (suc j) e = go (named file n j) refl (ℕ_discrete (link file j) n) (name_found n j)
    where
      go : (b : Bool) → named file n j ≡ b → Dec (link file j ≡ n)
          → (named file n j ≡ true → (i : ℕ) × ((i < j) × (link file i ≡ n)))
          → (i : ℕ) × ((i < suc j) × (link file i ≡ n))
      go true q d before = let o = before q in (o.0, (omega (arith, o.1.0), o.1.1))
      go false q (yes d) before = (j, (omega arith, d))
      go false q (no d) before = absurd (true≢false (sym e ∙ rw (q, ne_eqb (link file j) n d)))

  pub named_says : (j : ℕ) → not (named file (link file j) j) ≡ false
      → (i : ℕ) × ((i < j) × (link file i ≡ link file j))
  named_says j e = name_found (link file j) j (not-false (named file (link file j) j) e)

  pub named_shows : (j : ℕ) → (i : ℕ) × ((i < j) × (link file i ≡ link file j))
      → not (named file (link file j) j) ≡ false
  named_shows j o = go (not (named file (link file j) j)) refl
    where
      go : (b : Bool) → not (named file (link file j) j) ≡ b → not (named file (link file j) j) ≡ false
      go false q = q
      go true q =
          absurd (unnamed file (link file j) j (not-true (named file (link file j) j) q) o.0 o.1.0 o.1.1)
