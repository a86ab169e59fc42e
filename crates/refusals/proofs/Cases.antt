-- Document 01's order read out: the turns of a tree file, of a sheet and of a question, each before the next; then
-- those of the list of minimal cut sets, of a question at an hour, and of the mirror.
use Rattle.std.specs.Prelude.{refl, List, [], ◌∷◌}
use Rattle.std.proofs.Common.{lit<}
use Rattle.refusals.specs.Order.{refusal, Earlier, by_stage, by_place, by_number}
use Rattle.refusals.specs.declared.rule.Rule.TheVariants as rule
use Rattle.refusals.specs.declared.refusal.Refusal.{Refusal}

infixr 5 ◌then◌
-- Refusals of which each comes before the next.
pub data Rising : List Refusal → Type 0 where
  last : {r : Refusal} → Rising (r ∷ [])
  ◌then◌ : {r q : Refusal} {rest : List Refusal} → Earlier r q → Rising (q ∷ rest) → Rising (r ∷ q ∷ rest)

-- A tree file of three nodes: the header; the records at 9, 14 and 19, each with its kind first; the sum at 24; the
-- links at 24 and 26; the store.
abbrev pub tree_turns : List Refusal
tree_turns =
    refusal rule.TooShort 8
    ∷ refusal rule.WrongLetters 0
    ∷ refusal rule.WrongVersion 3
    ∷ refusal rule.WrongCount 7
    ∷ refusal rule.WrongLength 27
    ∷ refusal rule.UnknownKind 9
    ∷ refusal rule.WrongField 9
    ∷ refusal rule.UnknownKind 14
    ∷ refusal rule.WrongField 19
    ∷ refusal rule.WrongField 24
    ∷ refusal rule.WrongLink 24
    ∷ refusal rule.LinkedBefore 24
    ∷ refusal rule.WrongLink 26
    ∷ refusal rule.LinkedBefore 26
    ∷ refusal rule.ShortStore 0
    ∷ []

pub tree_rises : Rising tree_turns
tree_rises =
    by_stage (lit< tt)
    then by_stage (lit< tt)
    then by_stage (lit< tt)
    then by_stage (lit< tt)
    then by_stage (lit< tt)
    then by_number refl refl (lit< tt)
    then by_place refl (lit< tt)
    then by_place refl (lit< tt)
    then by_place refl (lit< tt)
    then by_number refl refl (lit< tt)
    then by_number refl refl (lit< tt)
    then by_place refl (lit< tt)
    then by_number refl refl (lit< tt)
    then by_stage (lit< tt)
    then last

-- A sheet of two entries: the header, E before the experts; the scores from 10 to 25; the entries at 26 and 43, each
-- with its kind first, then 10, or 28, or 11 at its terms and then 12; the store.
abbrev pub sheet_turns : List Refusal
sheet_turns =
    refusal rule.TooShort 25
    ∷ refusal rule.WrongLetters 0
    ∷ refusal rule.WrongVersion 3
    ∷ refusal rule.WrongCount 7
    ∷ refusal rule.WrongCount 9
    ∷ refusal rule.WrongLength 61
    ∷ refusal rule.WrongField 10
    ∷ refusal rule.WrongField 25
    ∷ refusal rule.UnknownKind 26
    ∷ refusal rule.NumberOrder 26
    ∷ refusal rule.WrongFractions 26
    ∷ refusal rule.WrongTerm 27
    ∷ refusal rule.WrongTerm 42
    ∷ refusal rule.NobodySpoke 26
    ∷ refusal rule.UnknownKind 43
    ∷ refusal rule.WrongFractions 43
    ∷ refusal rule.NobodySpoke 43
    ∷ refusal rule.ShortStore 0
    ∷ []

pub sheet_rises : Rising sheet_turns
sheet_rises =
    by_stage (lit< tt)
    then by_stage (lit< tt)
    then by_stage (lit< tt)
    then by_place refl (lit< tt)
    then by_stage (lit< tt)
    then by_stage (lit< tt)
    then by_place refl (lit< tt)
    then by_place refl (lit< tt)
    then by_number refl refl (lit< tt)
    then by_number refl refl (lit< tt)
    then by_place refl (lit< tt)
    then by_place refl (lit< tt)
    then by_number refl refl (lit< tt)
    then by_place refl (lit< tt)
    then by_number refl refl (lit< tt)
    then by_place refl (lit< tt)
    then by_stage (lit< tt)
    then last

-- A question: 13, 21, 22, 23 of the tree, 23 of the sheet, 24, 25.
abbrev pub question_turns : List Refusal
question_turns =
    refusal rule.WrongLevel 0
    ∷ refusal rule.NoTree 0
    ∷ refusal rule.NoSheet 0
    ∷ refusal rule.Changed 0
    ∷ refusal rule.Changed 1
    ∷ refusal rule.OtherTree 0
    ∷ refusal rule.ShortSlice 0
    ∷ []

pub question_rises : Rising question_turns
question_rises =
    by_stage (lit< tt)
    then by_stage (lit< tt)
    then by_stage (lit< tt)
    then by_place refl (lit< tt)
    then by_stage (lit< tt)
    then by_stage (lit< tt)
    then last

-- The list of minimal cut sets: 21, 23 of the tree, 26, 27 (02, request 1).
abbrev pub listing_turns : List Refusal
listing_turns =
    refusal rule.NoTree 0
    ∷ refusal rule.Changed 0
    ∷ refusal rule.ManyEvents 0
    ∷ refusal rule.ShortList 0
    ∷ []

pub listing_rises : Rising listing_turns
listing_rises =
    by_stage (lit< tt)
    then by_stage (lit< tt)
    then by_stage (lit< tt)
    then last

-- A question at an hour, of a book of two windows: 13, 21 to 24, 29 of a window's event and of its end, 30, 25 (02,
-- request 4). A book of a wrong length has no windows, and is 29 at that length alone.
abbrev pub hour_turns : List Refusal
hour_turns =
    refusal rule.WrongLevel 0
    ∷ refusal rule.NoTree 0
    ∷ refusal rule.NoSheet 0
    ∷ refusal rule.Changed 0
    ∷ refusal rule.Changed 1
    ∷ refusal rule.OtherTree 0
    ∷ refusal rule.WrongBook 0
    ∷ refusal rule.WrongBook 6
    ∷ refusal rule.WrongBook 10
    ∷ refusal rule.WrongBook 16
    ∷ refusal rule.ShortBuffer 0
    ∷ refusal rule.ShortSlice 0
    ∷ []

pub hour_rises : Rising hour_turns
hour_rises =
    by_stage (lit< tt)
    then by_stage (lit< tt)
    then by_stage (lit< tt)
    then by_place refl (lit< tt)
    then by_stage (lit< tt)
    then by_stage (lit< tt)
    then by_place refl (lit< tt)
    then by_place refl (lit< tt)
    then by_place refl (lit< tt)
    then by_stage (lit< tt)
    then by_stage (lit< tt)
    then last

-- The mirror: 21, 22, 23 of the tree, 23 of the sheet, 24, 31 (02, request 6).
abbrev pub mirror_turns : List Refusal
mirror_turns =
    refusal rule.NoTree 0
    ∷ refusal rule.NoSheet 0
    ∷ refusal rule.Changed 0
    ∷ refusal rule.Changed 1
    ∷ refusal rule.OtherTree 0
    ∷ refusal rule.ShortMirror 0
    ∷ []

pub mirror_rises : Rising mirror_turns
mirror_rises =
    by_stage (lit< tt)
    then by_stage (lit< tt)
    then by_place refl (lit< tt)
    then by_stage (lit< tt)
    then by_stage (lit< tt)
    then last
