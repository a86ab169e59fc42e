-- Cases computed by the prover: a pair with a gate of each kind and an entry of each kind, and its dual.
use Rattle.std.specs.Prelude.{ℕ, ◌≡◌, refl, List, [], ◌∷◌, ◌++◌, replicate}
use Rattle.fields.specs.Fields.{bytes24, bytes32, field16, field24, field32, joined}
use Rattle.event_cut.specs.Opinion.{opinions_among}
use Rattle.dual_files.specs.Tree.{dual_tree}
use Rattle.dual_files.specs.Sheet.{complement_sheet}

-- Tree 7: events 0, 1 and 2; a gate of the second kind given over the first two, and one of the first over it and the
-- third. AND is 1 and OR is 2.
abbrev tree_with : ℕ → ℕ → List ℕ
tree_with top lower =
    (70 ∷ 84 ∷ 70 ∷ 1 ∷ 0 ∷ 7 ∷ 0 ∷ 5 ∷ 0 ∷ [])
    ++ (0 ∷ 0 ∷ 0 ∷ 0 ∷ 0 ∷ [])
    ++ (0 ∷ 1 ∷ 0 ∷ 0 ∷ 0 ∷ [])
    ++ (0 ∷ 2 ∷ 0 ∷ 0 ∷ 0 ∷ [])
    ++ (lower ∷ 0 ∷ 0 ∷ 2 ∷ 0 ∷ [])
    ++ (top ∷ 2 ∷ 0 ∷ 2 ∷ 0 ∷ [])
    ++ (0 ∷ 0 ∷ 1 ∷ 0 ∷ 2 ∷ 0 ∷ 3 ∷ 0 ∷ [])

-- The header of its sheet: three events, two experts of score 2 and 1.
abbrev header : List ℕ
header = (70 ∷ 84 ∷ 83 ∷ 1 ∷ 0 ∷ 7 ∷ 0 ∷ 3 ∷ 0 ∷ 2 ∷ 2 ∷ 1 ∷ []) ++ replicate 14 0

abbrev numbers : ℕ → ℕ → ℕ → ℕ → List ℕ
numbers a b c d = 0 ∷ (bytes32 a ++ (bytes32 b ++ (bytes32 c ++ bytes32 d)))

abbrev fractions : ℕ → ℕ → ℕ → ℕ → ℕ → List ℕ
fractions den a b c d =
    2 ∷ (bytes24 den ++ (bytes24 a ++ (bytes24 b ++ (bytes24 c ++ (bytes24 d ++ (0 ∷ []))))))

-- The first expert says Low, the second nothing: (14, 26, 126, 138) of 300.
abbrev opinions : List ℕ
opinions = 1 ∷ 2 ∷ replicate 15 0

-- AND over OR becomes OR over AND, and the links stay.
pub dual_gates : dual_tree (tree_with 1 2) ≡ tree_with 2 1
unfolding dual_tree joined field16
dual_gates = refl

-- Numbers, opinions and fractions, each as what is missing to 1.
pub complement_entries : complement_sheet (header ++ (numbers 0 1 2 1000000000 ++ (opinions ++ fractions 1250 0 3 3 4)))
    ≡ header
    ++ (numbers 0 999999998 999999999 1000000000
    ++ (fractions 300 162 174 274 286 ++ fractions 1250 1246 1247 1247 1250))
unfolding complement_sheet joined field16 field24 field32 opinions_among
complement_entries = refl

-- Sixteen experts of score 100 who all say Very High: the largest denominator of a mean.
abbrev all_experts : List ℕ
all_experts = (70 ∷ 84 ∷ 83 ∷ 1 ∷ 0 ∷ 7 ∷ 0 ∷ 1 ∷ 0 ∷ 16 ∷ []) ++ replicate 16 100

pub complement_most : complement_sheet (all_experts ++ (1 ∷ replicate 16 7))
    ≡ all_experts ++ fractions 160000 0 6400 6400 12800
unfolding complement_sheet joined field16 field24 field32 opinions_among
complement_most = refl
