-- The rules of the header, in document 01's order: refusals 1 to 5.
use Rattle.std.specs.Prelude.{ℕ, ◌&&◌, List, [], ◌∷◌, length, leb, eqb}
use Rattle.refusals.specs.FirstFault.{first_of, unless, FirstFault}
use Rattle.refusals.specs.declared.rule.Rule.TheVariants.{TooShort, WrongLetters, WrongVersion, WrongCount, WrongLength}
use Rattle.tree_file.specs.Format.{has_letters, header_length, letters_place, max_nodes, node_count, nodes_place}
use Rattle.tree_file.specs.Format.{required_length, version, version_place, version_read}

abbrev pub header_rules : List ℕ → List FirstFault
header_rules file =
    unless (leb header_length (length file)) TooShort (length file)
    ∷ unless (has_letters file) WrongLetters letters_place
    ∷ unless (eqb (version file) version_read) WrongVersion version_place
    ∷ unless (leb 1 (node_count file) && leb (node_count file) max_nodes) WrongCount nodes_place
    ∷ unless (eqb (length file) (required_length file)) WrongLength (length file)
    ∷ []

-- The first fault of the header.
unfoldable pub header_fault : List ℕ → FirstFault
header_fault file = first_of (header_rules file)
