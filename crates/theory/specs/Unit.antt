-- The unit in which ends are reported: a billionth (01). The definitions before this one leave U open.
use Rattle.std.specs.Prelude.{ℕ}

-- U for billionths
abbrev pub billion : ℕ
billion = 1_000_000_000
