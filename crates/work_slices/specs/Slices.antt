-- The three lent work slices: at place i the lower end, the upper end and the mark byte of node i.
use Rattle.std.specs.Prelude.{ℕ, zero, suc, ◌≤◌, ◌≡◌, List, length, get_or, set}
use Rattle.theory.specs.Rounding.{Direction, down, up, End}
use Rattle.rounding.specs.Marks.{mark_byte, exact_in}
use Rattle.rounding.specs.declared.end.Enclosure.{Enclosure}
use Rattle.work_slices.specs.declared.slices.WorkSlices.{WorkSlices}
use Rattle.work_slices.specs.declared.slices.StoredEnds.{StoredEnds}

pub record Slices : Type 0 where
  pub lower : List ℕ
  pub upper : List ℕ
  pub marks : List ℕ

-- The three of a call as one.
abbrev pub slices : List ℕ → List ℕ → List ℕ → Slices
slices lower upper marks = record { lower = lower; upper = upper; marks = marks }

-- What the struct's slices hold.
abbrev pub contents : WorkSlices → Slices
contents s = slices s.lower.now s.upper.now s.marks.now

-- What is read of them.
abbrev pub read : StoredEnds → Slices
read s = slices s.lower.now s.upper.now s.marks.now

-- The two lend the same slices, whatever these hold: what is put through one is then in its caller's slices.
pub record SameSlices (s t : WorkSlices) : Type 0 where
  pub same_lower : s.lower.ghost_name ≡ t.lower.ghost_name
  pub same_upper : s.upper.ghost_name ≡ t.upper.ghost_name
  pub same_marks : s.marks.ghost_name ≡ t.marks.ghost_name

-- Which of the three: the ends in a direction (lower ends are rounded down, upper ends up), or the marks.
pub data Part : Type 0 where
  ends : Direction → Part
  mark_bytes : Part

abbrev pub slice : Part → Slices → List ℕ
slice (ends down) s = s.lower
slice (ends up) s = s.upper
slice mark_bytes s = s.marks

-- What each holds of an enclosure.
abbrev pub content : Part → Enclosure → ℕ
content (ends down) x = x.lower.value
content (ends up) x = x.upper.value
content mark_bytes x = mark_byte x

-- The end at place i of a slice of ends and one of marks; the default 0 is never met: every node has a place (01's 25).
abbrev pub end_at : Direction → List ℕ → List ℕ → ℕ → End
end_at w values marks i = record { value = get_or values i 0; exact = exact_in w (get_or marks i 0) }

-- The stored end of node i.
abbrev pub stored_end : Direction → Slices → ℕ → End
stored_end w s i = end_at w (slice (ends w) s) s.marks i

-- Each slice has at least so many places.
pub record Long (n : ℕ) (s : Slices) : Type 0 where
  pub lower_long : n ≤ length s.lower
  pub upper_long : n ≤ length s.upper
  pub marks_long : n ≤ length s.marks

-- The slices with both ends and their marks at place i.
abbrev pub put : ℕ → Enclosure → Slices → Slices
put i x s = record {
  lower = set s.lower i x.lower.value;
  upper = set s.upper i x.upper.value;
  marks = set s.marks i (mark_byte x);
}

-- The slices after the first n turns of something that is done place by place.
unfoldable pub after_turns : (ℕ → Slices → Slices) → ℕ → Slices → Slices
after_turns turn zero s = s
after_turns turn (suc n) s = turn n (after_turns turn n s)

-- The slices with the enclosure of i at place i for the first n places, the others as before.
abbrev pub filled : (ℕ → Enclosure) → ℕ → Slices → Slices
filled f n s = after_turns (λ i. put i (f i)) n s
