use Rattle.std.proofs.Common.{◌≡◌, ◌-◌}
use Rattle.refusals.specs.Question.{asked_of, each}
use Rattle.plan.specs.File.{window_count}
use Rattle.plan.specs.Plan.{bytes_of}
use Rattle.plan.specs.Even.{end_before, even_questions}
use Rattle.plan.proofs.Even.{ends_asked}
use Rattle.minutes.proofs.evens.ask_even.Given as goal

-- What is left to ask decides the answer.
abbrev pub invariant-loop-position : goal.invariant-loop-position
invariant-loop-position l =
    (l.before ≡ end_before (bytes_of l.plan) l.position)
    × (asked_of (even_questions (bytes_of l.plan))
    ≡ asked_of (each (ends_asked (bytes_of l.plan)) l.position (window_count (bytes_of l.plan) - l.position)))
