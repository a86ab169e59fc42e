-- The order in which faults are found. Document 01: "1 to 5 (E before experts); scores; records or entries rising,
-- kind first; the sum; links rising, 8 before 9; then 20. In an opinion entry 11 precedes 12. A question: 13, 21, 22,
-- 23 tree, 23 sheet, 24, 25." It is one order: by stage, then by place, then by number. `stage_of` is its table, with
-- the words of the documents; `Cases` of proofs/ reads the sentences out.
use Rattle.std.specs.Prelude.{ℕ, ◌+◌, ◌<◌, ◌≡◌, ◌⊎◌}
use Rattle.refusals.specs.Number.{number_of}
use Rattle.refusals.specs.declared.rule.Rule.{Rule}
use Rattle.refusals.specs.declared.rule.Rule.TheVariants as rule
use Rattle.refusals.specs.declared.refusal.Refusal.{Refusal}
use Rattle.refusals.specs.FirstFault.{FirstFault}
use Rattle.std.specs.Prelude.{Ok, Err}

-- A rule broken at a place.
abbrev pub refusal : Rule → ℕ → Refusal
refusal rule place = record { rule = rule; place = place }

-- The stage at which each rule is judged, from the first to the last. Rules of one stage are told apart by their
-- places, and at one place by their numbers. Between rules that no call has both of, the order says nothing. Steps of
-- ten leave room for a rule between two others.
abbrev pub stage_of : Rule → ℕ
-- "1 to 5 (E before experts)": the two counts are one stage, in which E stands first
stage_of rule.TooShort = 10
stage_of rule.WrongLetters = 20
stage_of rule.WrongVersion = 30
stage_of rule.WrongCount = 40
stage_of rule.WrongLength = 50
-- "scores; records or entries rising, kind first; the sum; links rising, 8 before 9": all that stands behind the header
-- is one stage, read as it stands; "28, at the entry's place, where 10 would stand" (02, request 2)
stage_of rule.UnknownKind = 60
stage_of rule.WrongField = 60
stage_of rule.WrongLink = 60
stage_of rule.LinkedBefore = 60
stage_of rule.NumberOrder = 60
stage_of rule.WrongFractions = 60
stage_of rule.WrongTerm = 60
stage_of rule.NobodySpoke = 60
-- "then 20"
stage_of rule.ShortStore = 90
-- "A question: 13, 21, 22, 23 tree, 23 sheet, 24, 25", of which 25 is the last of all
stage_of rule.WrongLevel = 110
stage_of rule.NoTree = 120
stage_of rule.NoSheet = 130
stage_of rule.Changed = 140
stage_of rule.OtherTree = 160
-- the list of minimal cut sets (02, request 1): "21, 23 for the tree, then more than 64 events as 26, then a slice
-- shorter than the count as 27"
stage_of rule.ManyEvents = 170
stage_of rule.ShortList = 180
-- success trees (02, request 6): "21, 22, 23 and 24 come first, then either buffer too short as 31"
stage_of rule.ShortMirror = 190
-- work windows (02, request 4): "After 13 and 21 to 24", 29; "a buffer shorter than the held sheet is 30; then 25"
stage_of rule.WrongBook = 200
stage_of rule.ShortBuffer = 210
stage_of rule.ShortSlice = 220

-- The stage of a refusal is that of its rule.
abbrev pub stage : Refusal → ℕ
stage r = stage_of r.rule

-- The place that counts in the order: E stands before the experts, a score before the entries, a record before the
-- sum and the links, a tree (0) before a sheet (1). That nobody spoke, 12, is seen at the last of the entry's sixteen
-- terms.
abbrev pub place_of : Rule → ℕ → ℕ
place_of rule.NobodySpoke place = place + 16
place_of other place = place

abbrev pub order_place : Refusal → ℕ
order_place r = place_of r.rule r.place

-- A refusal comes before another.
pub data Earlier (r q : Refusal) : Type 0 where
  -- it is of an earlier stage
  by_stage : stage r < stage q → Earlier r q
  -- in one stage, it has an earlier place
  by_place : stage r ≡ stage q → order_place r < order_place q → Earlier r q
  -- at one place, it has a lower number: the kind before the fields, the sum before a link, 8 before 9, 11 before 12
  by_number : stage r ≡ stage q → order_place r ≡ order_place q → number_of r.rule < number_of q.rule
      → Earlier r q

-- Of all rules that are broken, this is the first.
pub record First (Broken : Refusal → Type 0) (r : Refusal) : Type 0 where
  pub broken : Broken r
  pub no_earlier : (q : Refusal) → Broken q → (q ≡ r) ⊎ Earlier r q

-- What judging must find where these rules are broken: the first of them, and nothing where none is.
abbrev pub Finds : (Refusal → Type 0) → FirstFault → Type 0
Finds Broken (Err r) = First Broken r
Finds Broken (Ok tt) = (q : Refusal) → Broken q → ⊥
