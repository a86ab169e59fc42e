-- No window passed has a fault.
use Rattle.refusals.proofs.FirstFault.{Passed}
use Rattle.work_book.specs.Book.{window_count}
use Rattle.work_book.specs.BookRules.{window_fault}
use Rattle.work_book.proofs.book.judge_windows.Given as goal

abbrev pub invariant-loop-i : goal.invariant-loop-i
invariant-loop-i l = Passed (window_fault l.events l.book) (window_count l.book) l.i
