-- What clauses see of an accepted plan: the bytes of its file, and its windows, each where there is one.
-- Vocabulary: bytes_of, window_in.
use Rattle.std.specs.Prelude.{ℕ, List, Option, Some, None, cond, ltb}
use Rattle.plan.specs.declared.plan_file.Plan.{Plan}
use Rattle.plan.specs.declared.windows.Window.{Window}
use Rattle.plan.specs.File.{window_count, window_at}

abbrev pub bytes_of : Plan → List ℕ
bytes_of plan = plan.file.now

abbrev pub window_in : List ℕ → ℕ → Option Window
window_in file v = cond (ltb v (window_count file)) (Some (window_at file v)) None
