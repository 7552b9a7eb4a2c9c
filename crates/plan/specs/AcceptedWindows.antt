-- A file that is that of an accepted plan, and how many windows it has, as one fact that passes are handed.
-- Vocabulary: AcceptedWindows.
use Rattle.std.specs.Prelude.{ℕ, ◌≡◌, List}
use Rattle.plan.specs.File.{window_count}
use Rattle.plan.specs.Validation.{AcceptedPlan}

pub record AcceptedWindows (file : List ℕ) (windows : ℕ) : Type 0 where
  pub accepted : AcceptedPlan file
  pub counted : windows ≡ window_count file
