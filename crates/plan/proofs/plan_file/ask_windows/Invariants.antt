use Rattle.std.proofs.Common.{◌≡◌, ◌-◌}
use Rattle.refusals.specs.Question.{asked_of, each}
use Rattle.plan.specs.Validation.{asked_with, offset_before}
use Rattle.plan.proofs.plan_file.ask_windows.Given as goal

-- What is left to ask decides the answer.
abbrev pub invariant-loop-position : goal.invariant-loop-position
invariant-loop-position l =
    (l.before ≡ offset_before l.file l.position)
    × (asked_of (each (asked_with l.minimum l.file) 0 l.len) ≡ asked_of (each (asked_with l.minimum l.file) l.position (l.len - l.position)))
