-- The tree file's format: where each field stands, how wide it is, and what its limits are. A byte behind the end
-- reads as 0; rules 1 and 5 refuse a file before such a byte counts.
use Rattle.std.specs.Prelude.{ℕ, ◌+◌, ◌-◌, ◌*◌, Bool, ◌&&◌, List, drop, eqb}
use Rattle.fields.specs.Fields.{byte, field16}

-- The lengths in bytes of the header (three letters, three 16-bit fields), of a record (a kind byte, two 16-bit fields)
-- and of a link (one 16-bit field).
abbrev pub header_length : ℕ
header_length = 9

abbrev pub record_length : ℕ
record_length = 5

abbrev pub link_length : ℕ
link_length = 2

-- Where the header's fields stand.
abbrev pub letters_place : ℕ
letters_place = 0

abbrev pub version_place : ℕ
version_place = 3

abbrev pub number_place : ℕ
number_place = 5

abbrev pub nodes_place : ℕ
nodes_place = 7

-- Where the fields of a record stand in it, after its kind byte.
abbrev pub a_offset : ℕ
a_offset = 1

abbrev pub b_offset : ℕ
b_offset = 3

-- The version that is read, and the most nodes of a file and inputs of a gate.
abbrev pub version_read : ℕ
version_read = 1

abbrev pub max_nodes : ℕ
max_nodes = 1024

abbrev pub max_inputs : ℕ
max_inputs = 16

-- The kinds of a record: a basic event, AND, OR.
abbrev pub event_kind : ℕ
event_kind = 0

abbrev pub and_kind : ℕ
and_kind = 1

abbrev pub or_kind : ℕ
or_kind = 2

-- The file begins with the letters `FTF`.
abbrev pub has_letters : List ℕ → Bool
has_letters file = eqb (byte file 0) 70 && eqb (byte file 1) 84 && eqb (byte file 2) 70

abbrev pub version : List ℕ → ℕ
version file = field16 file version_place

abbrev pub tree_number : List ℕ → ℕ
tree_number file = field16 file number_place

-- N, the number of nodes.
abbrev pub node_count : List ℕ → ℕ
node_count file = field16 file nodes_place

-- The number of links, N − 1: the root alone has none to it. Where N is 0, and the subtraction stops, rule 4 refuses
-- the file before this counts.
abbrev pub link_count : List ℕ → ℕ
link_count file = node_count file - 1

-- Where the records begin, after the header, and where that of node i does.
abbrev pub records_at : List ℕ → ℕ
records_at file = header_length

abbrev pub record_at : List ℕ → ℕ → ℕ
record_at file i = records_at file + record_length * i

-- Where the links begin, after the records of all nodes, and where link j does.
abbrev pub links_at : List ℕ → ℕ
links_at file = record_at file (node_count file)

abbrev pub link_at : List ℕ → ℕ → ℕ
link_at file j = links_at file + link_length * j

-- The length that the counts require: the links are the last.
abbrev pub required_length : List ℕ → ℕ
required_length file = link_at file (link_count file)

-- The kind of node i.
abbrev pub kind : List ℕ → ℕ → ℕ
kind file i = byte file (record_at file i)

-- Field a of node i: a basic event's number, or a gate's first link.
abbrev pub field_a : List ℕ → ℕ → ℕ
field_a file i = field16 file (record_at file i + a_offset)

-- Field b of node i: a gate's number of inputs.
abbrev pub field_b : List ℕ → ℕ → ℕ
field_b file i = field16 file (record_at file i + b_offset)

-- The node that link j names.
abbrev pub link : List ℕ → ℕ → ℕ
link file j = field16 file (link_at file j)

-- The part of the file that starts at a link, and the node that link j of such a part names.
abbrev pub links_from : List ℕ → ℕ → List ℕ
links_from file first = drop (link_at file first) file

abbrev pub linked : List ℕ → ℕ → ℕ
linked links j = field16 links (link_length * j)
