-- The places of a store whose length is set: its own, and then places that hold one value.
use Rattle.std.proofs.Common.{◌≡◌, ◌++◌, ℕ, ◌≤◌, List, length, min, replicate, take, ap, sym, ◌∙◌, arith}
use Rattle.std.proofs.lemmas.List.{take_min, take-take}

-- where its first places are these up to some place past its length, so are all up to its length
pub set_to : (own room : List ℕ) (n i most x : ℕ) → length room ≡ most → min n most ≤ i
    → take i room ≡ take (min i most) (own ++ replicate most x)
    → take n room ≡ take (min n most) (own ++ replicate most x)
set_to own room n i most x whole past same =
    let behind = own ++ replicate most x in
    sym (take_min n room)
    ∙ ap (λ (m : ℕ). take (min n m) room) whole
    ∙ sym (take-take (min n most) i room past)
    ∙ ap (take (min n most)) same
    ∙ take-take (min n most) (min i most) behind (omega arith)
