-- The rules of the links, rising: each link by 8 and then by 9, before the next.
use Rattle.std.specs.Prelude.{ℕ, zero, suc, ◌+◌, Bool, false, not, ◌||◌, List, [], ◌∷◌, ltb, eqb}
use Rattle.refusals.specs.FirstFault.{first_among, first_of, unless, FirstFault}
use Rattle.refusals.specs.declared.rule.Rule.TheVariants.{WrongLink, LinkedBefore}
use Rattle.tree_file.specs.Format.{field_a, link, link_at, node_count}
use Rattle.tree_file.specs.Tallies.{input_count}

-- One of the first j links names the node.
unfoldable pub named : List ℕ → ℕ → ℕ → Bool
named file node zero = false
named file node (suc j) = named file node j || eqb (link file j) node

-- The rules of link j, an input of gate g.
abbrev pub link_rules : List ℕ → ℕ → ℕ → List FirstFault
link_rules file g j =
    unless (ltb (link file j) g) WrongLink (link_at file j)
    ∷ unless (not (named file (link file j) j)) LinkedBefore (link_at file j)
    ∷ []

-- The first fault of that link.
unfoldable pub link_fault : List ℕ → ℕ → ℕ → FirstFault
link_fault file g j = first_of (link_rules file g j)

-- The fault of input k of gate g: a gate's links stand together from link a on.
abbrev pub input_fault : List ℕ → ℕ → ℕ → FirstFault
input_fault file g k = link_fault file g (field_a file g + k)

-- The first fault of the links of gate g.
abbrev pub gate_fault : List ℕ → ℕ → FirstFault
gate_fault file g = first_among (input_fault file g) (input_count file g)

-- The first fault of the links.
abbrev pub links_fault : List ℕ → FirstFault
links_fault file = first_among (gate_fault file) (node_count file)
