-- What a well-formed entry holds, and the sheets that cases are computed for.
pub mod EntriesRead
pub mod SampleSheets
