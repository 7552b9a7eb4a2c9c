-- When two plans are the same: "when they have equal n and the same pairs of positions overlap".
-- Vocabulary: same_pairs, same_overlap, same_questions, same_answer_of.
use Rattle.std.specs.Prelude.{ℕ, Bool, ◌&&◌, List, ◌++◌, eqb, Result, Ok, Err}
use Rattle.std.specs.Bool.{beq}
use Rattle.sequences.specs.Search.{every}
use Rattle.refusals.specs.declared.refusal.Refusal.{Refusal}
use Rattle.refusals.specs.Question.{Question, from, first_no}
use Rattle.plan.specs.File.{window_count}
use Rattle.overlap.specs.Overlap.{overlaps}
use Rattle.plan.specs.Validation.{plan_questions}

-- Two overlap tests agree on all pairs of positions below n.
unfoldable pub same_pairs : ℕ → (first second : ℕ → ℕ → Bool) → Bool
same_pairs n first second = every (λ u. every (λ v. beq (first u v) (second u v)) n) n

unfoldable pub same_overlap : (first second : List ℕ) → Bool
same_overlap first second =
    eqb (window_count first) (window_count second) && same_pairs (window_count first) (overlaps first) (overlaps second)

-- "With two files or tags, 1 to 6 … are gone through for the first and then for the second", and "The input is 1 where
-- the second file … is at fault".
unfoldable pub same_questions : (first second : List ℕ) → List Question
same_questions first second = plan_questions first ++ from 1 (plan_questions second)

unfoldable pub same_answer_of : (first second : List ℕ) → Result Bool Refusal
same_answer_of first second = first_no (same_questions first second) Err (Ok (same_overlap first second))
