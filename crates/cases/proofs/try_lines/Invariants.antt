-- Each line leaves less of the text.
use Rattle.std.proofs.Common.{length}
use Rattle.cases.proofs.try_lines.Given as goal

abbrev pub decreases-loop-end : goal.decreases-loop-end
decreases-loop-end g l = length l.rest
