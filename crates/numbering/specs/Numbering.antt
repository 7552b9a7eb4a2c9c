-- The five tables that build writes, for whoever makes more of them: questions 1 to 6, and 8 for all of them.
-- Vocabulary: least_room, built_as, numbers_answer_of, after_build.
use Rattle.std.specs.Prelude.{ℕ, min, List, Result, Ok, Err}
use Rattle.sequences.specs.Table.{table, overwritten}
use Rattle.refusals.specs.declared.refusal.Refusal.{Refusal}
use Rattle.refusals.specs.Question.{first_no}
use Rattle.plan.specs.File.{plan_number, window_count}
use Rattle.minutes.specs.SingleTable.{table_questions}
use Rattle.numbering.specs.declared.filling.Built.{Built}
use Rattle.numbering.specs.Tables.{component_count}

-- The least room of all, in entries: that of each of the five tables, and of what the caller has elsewhere.
abbrev pub least_room : (room parents components depths ranks last_ranks : ℕ) → ℕ
least_room room parents components depths ranks last_ranks =
    min (min (min (min (min room components) depths) ranks) parents) last_ranks

-- What is said of tables that were filled.
abbrev pub built_as : (plan windows components : ℕ) → Result Built Refusal
built_as plan windows components = Ok (record { plan = plan; windows = windows; components = components })

unfoldable pub numbers_answer_of : List ℕ → (room : ℕ) → Result Built Refusal
numbers_answer_of file room = first_no (table_questions file room) Err (built_as (plan_number file) (window_count file) (component_count file))

-- A table afterwards: "what lies past the written entries stays", and a refusal alters nothing.
unfoldable pub after_build : Result Built Refusal → (ℕ → ℕ) → List ℕ → List ℕ
after_build (Ok whole) f before = overwritten before (table f whole.windows)
after_build (Err refusal) f before = before
