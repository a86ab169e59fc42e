-- A property of each member of a list. Of a list of events: of each event of its parts, of whatever it contains, and of
-- each event at or beneath a node.
use Prim.Native.Nat.{ℕ}
use mathlib.Core.Path.{◌≡◌, refl}
use mathlib.Core.Bool.{Bool, true, false, ◌||◌}
use mathlib.Core.List.{List, [], ◌∷◌, ◌++◌, map}
use lib.Dec.{T, eqb}
use borrow.Author.Tests.{eqb-true}
use Rattle.theory.specs.FaultTree.{Tree, events, contains, beneath, Each}
use Rattle.theory.proofs.Missing.{or_right, eqb_same}
use Rattle.theory.proofs.Distinct.{contains_each_once}

-- every member of a list has the property P: `Each` of specs/, for lists of anything
abbrev pub All : {A : Type 0} → (A → Type 0) → List A → Type 0
All P [] = Unit {0}
All P (x ∷ xs) = P x × All P xs

-- a property that follows from another holds of every member where that one does
pub all_imply : {A : Type 0} (P Q : A → Type 0) → ((x : A) → P x → Q x) → (xs : List A) → All P xs → All Q xs
all_imply P Q k [] h = tt
all_imply P Q k (x ∷ xs) h = (k x h.0, all_imply P Q k xs h.1)

-- a property that g gives holds of every member that g was applied to
pub all_map : {A B : Type 0} (P : A → Type 0) (Q : B → Type 0) (g : A → B) → ((x : A) → P x → Q (g x))
    → (xs : List A) → All P xs → All Q (map g xs)
all_map P Q g k [] h = tt
all_map P Q g k (x ∷ xs) h = (k x h.0, all_map P Q g k xs h.1)

-- a property of every member of two lists is one of every member of the joined list
pub all_append : {A : Type 0} (P : A → Type 0) (xs ys : List A) → All P xs → All P ys → All P (xs ++ ys)
all_append P [] ys h g = g
all_append P (x ∷ xs) ys h g = (h.0, all_append P xs ys h.1 g)

-- a property of every event is one of each event of a list
pub each_of_all : (P : ℕ → Type 0) → ((e : ℕ) → P e) → (es : List ℕ) → Each P es
each_of_all P h [] = tt
each_of_all P h (e ∷ es) = (h e, each_of_all P h es)

-- a property that follows from another holds of each event where that one does
pub each_map : (P Q : ℕ → Type 0) → ((e : ℕ) → P e → Q e) → (es : List ℕ) → Each P es → Each Q es
each_map P Q k [] h = tt
each_map P Q k (e ∷ es) h = (k e h.0, each_map P Q k es h.1)

-- so does one that follows from two others
pub each_both : (P Q R : ℕ → Type 0) → ((e : ℕ) → P e → Q e → R e) → (es : List ℕ) → Each P es → Each Q es → Each R es
each_both P Q R k [] h g = tt
each_both P Q R k (e ∷ es) h g = (k e h.0 g.0, each_both P Q R k es h.1 g.1)

-- what holds of each event of a joined list holds of each event of its first part
pub each_left : (P : ℕ → Type 0) (xs ys : List ℕ) → Each P (xs ++ ys) → Each P xs
each_left P [] ys h = tt
each_left P (x ∷ xs) ys h = (h.0, each_left P xs ys h.1)

-- and of its second part
pub each_right : (P : ℕ → Type 0) (xs ys : List ℕ) → Each P (xs ++ ys) → Each P ys
each_right P [] ys h = h
each_right P (x ∷ xs) ys h = each_right P xs ys h.1

-- a property of whatever a list contains is one of each event of it
pub each_of_contained : (P : ℕ → Type 0) (es : List ℕ) → ((e : ℕ) → T (contains e es) → P e) → Each P es
each_of_contained P [] h = tt
each_of_contained P (x ∷ xs) h =
    (h x (rw (eqb_same x) tt), each_of_contained P xs (λ e t. h e (or_right (eqb e x) (contains e xs) t)))

-- a property of each event of a list is one of whatever the list contains
pub contained_of_each : (P : ℕ → Type 0) (es : List ℕ) → Each P es → (e : ℕ) → T (contains e es) → P e
contained_of_each P [] h e t = absurd t
contained_of_each P (x ∷ xs) h e t = go (eqb e x) refl t (contained_of_each P xs h.1 e)
  where
    go : (b : Bool) → eqb e x ≡ b → T (b || contains e xs) → (T (contains e xs) → P e) → P e
    go true q s later = rw (eqb-true e x q) h.0
    go false q s later = later s

-- what holds of each event of a tree holds of each event at or beneath its node
pub each_beneath : (P : ℕ → Type 0) (t : Tree) → Each P (events t) → Each P (beneath t)
each_beneath P t h = each_of_contained P (beneath t)
    (λ e k. contained_of_each P (events t) h e (rw (contains_each_once e (events t)) at k))

-- each event of a tree stands at or beneath its node
pub events_beneath : (t : Tree) → Each (λ e. T (contains e (beneath t))) (events t)
events_beneath t = each_of_contained _ (events t) (λ e k. rw (contains_each_once e (events t)) k)
