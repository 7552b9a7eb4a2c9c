-- Paper 01, "Calls on a plan": "Chain writes from the later window to the earlier. It writes nothing where there is no
-- chain." The chain itself is `chain_of` of `interval_graph`, a shortest one with the earliest window at each step.
-- Vocabulary: chain_between, chain_in_questions, chain_questions, chain_found, chain_in_of, chain_answer_of, after_chain.
use Rattle.std.specs.Prelude.{ℕ, List, [], ◌∷◌, ◌++◌, length, Option, Some, None, Result, Ok, Err}
use Rattle.sequences.specs.Table.{overwritten}
use Rattle.interval_graph.specs.Walk.{chain_of}
use Rattle.refusals.specs.declared.refusal.Refusal.{Refusal}
use Rattle.refusals.specs.Question.{Question, position_questions, room_question, first_no}
use Rattle.plan.specs.File.{window_count}
use Rattle.overlap.specs.Overlap.{overlaps}
use Rattle.plan.specs.Validation.{plan_questions}

-- The chain between the windows at two positions of a plan file, from the later window to the earlier; empty where no
-- chain joins them.
unfoldable pub chain_between : List ℕ → ℕ → ℕ → List ℕ
chain_between file first second = chain_of (window_count file) (overlaps file) first second

-- 7 of the first position and of the second, and 8, of "the chain". Of no chain nothing is to be written, so any table holds it.
abbrev pub chain_in_questions : List ℕ → (first second room : ℕ) → List Question
chain_in_questions file first second room =
    position_questions first second (window_count file) ++ (room_question (length (chain_between file first second)) room ∷ [])

-- Questions 1 to 6, and these.
unfoldable pub chain_questions : List ℕ → (first second room : ℕ) → List Question
chain_questions file first second room = plan_questions file ++ chain_in_questions file first second room

-- The number of entries of a chain, or that there is none.
unfoldable pub chain_found : List ℕ → Result (Option ℕ) Refusal
chain_found [] = Ok None
chain_found (x ∷ l) = Ok (Some (length (x ∷ l)))

-- The answer from an accepted plan, for any two positions and any table,
unfoldable pub chain_in_of : List ℕ → (first second room : ℕ) → Result (Option ℕ) Refusal
chain_in_of file first second room = first_no (chain_in_questions file first second room) Err (chain_found (chain_between file first second))

-- and from every file.
unfoldable pub chain_answer_of : List ℕ → (first second room : ℕ) → Result (Option ℕ) Refusal
chain_answer_of file first second room = first_no (chain_questions file first second room) Err (chain_found (chain_between file first second))

-- The table afterwards: the chain written to its front, or all of it as it was.
unfoldable pub after_chain : Result (Option ℕ) Refusal → (chain before : List ℕ) → List ℕ
after_chain (Ok (Some entries)) chain before = overwritten before chain
after_chain (Ok None) chain before = before
after_chain (Err refusal) chain before = before
