-- Paper 01, "Agreement on promises": "The cases marked P form one table, proved together from the definitions".
-- Vocabulary: plan12, touching, overlapping, Case, cases, Says, CaseHolds, CasesHold.
use Rattle.std.specs.Prelude.{ℕ, ◌<◌}
use mathlib.Core.{Path.◌≡◌, Logic.◌⊎◌, List.List, List.[], List.◌∷◌, List.Memᴰ}
use Rattle.interval_graph.specs.{Chain.Joined, Chain.LeastHandovers, Numbers.Outcome, Numbers.apart, Numbers.no_chain}
use Rattle.plan.specs.{declared.windows.Window.Window, File.window_count, File.file_of, Validation.AcceptedPlan}
use Rattle.overlap.specs.Overlap.{overlaps}
use Rattle.numbering.specs.Tables.{component_count}
use Rattle.path.specs.Chain.{chain_between}

abbrev span : ℕ → ℕ → Window
span offset length = record { offset = offset; length = length }

-- "Plan 12: (0, 10) (2, 3) (4, 12) (9, 2) (12, 6) (17, 1) (18, 4)."
unfoldable pub plan12 : List ℕ
plan12 = file_of 12 1 (span 0 10 ∷ span 2 3 ∷ span 4 12 ∷ span 9 2 ∷ span 12 6 ∷ span 17 1 ∷ span 18 4 ∷ [])

-- "P (0, 10) (10, 5) are two components. P (0, 11) (10, 5) are one."
unfoldable pub touching : List ℕ
touching = file_of 0 1 (span 0 10 ∷ span 10 5 ∷ [])

unfoldable pub overlapping : List ℕ
overlapping = file_of 0 1 (span 0 11 ∷ span 10 5 ∷ [])

-- A row: a file, how many components it has, two of its windows, what is said of them, and the chain where the paper gives it (empty
-- where it does not).
abbrev pub Case : Type 0
Case = List ℕ × ℕ × ℕ × ℕ × Outcome × List ℕ

unfoldable pub cases : List Case
cases =
    (plan12, 2, 0, 5, apart 3, 5 ∷ 4 ∷ 2 ∷ 0 ∷ [])
    ∷ (plan12, 2, 1, 5, apart 3, [])
    ∷ (plan12, 2, 3, 5, apart 3, 5 ∷ 4 ∷ 2 ∷ 3 ∷ [])
    ∷ (plan12, 2, 2, 3, apart 1, [])
    ∷ (plan12, 2, 1, 3, apart 2, 3 ∷ 0 ∷ 1 ∷ [])
    ∷ (plan12, 2, 3, 4, apart 2, [])
    ∷ (plan12, 2, 4, 5, apart 1, [])
    ∷ (plan12, 2, 5, 6, no_chain, [])
    ∷ (plan12, 2, 6, 6, apart 0, [])
    ∷ (touching, 2, 0, 1, no_chain, [])
    ∷ (overlapping, 1, 0, 1, apart 1, [])
    ∷ []

-- What is said of two windows: the least number, or that no chain joins them.
abbrev pub Says : List ℕ → ℕ → ℕ → Outcome → Type 0
Says file u v (apart k) = LeastHandovers (window_count file) (overlaps file) u v k
Says file u v no_chain = Joined (window_count file) (overlaps file) u v → ⊥

pub record CaseHolds (file : List ℕ) (components u v : ℕ) (expected : Outcome) (chain : List ℕ) : Type 0 where
  pub accepted : AcceptedPlan file
  pub counted : component_count file ≡ components
  pub first_window : u < window_count file
  pub second_window : v < window_count file
  pub count : Says file u v expected
  pub given : (chain ≡ []) ⊎ (chain_between file u v ≡ chain)

abbrev pub CasesHold : Type 0
CasesHold = (c : Case) → Memᴰ c cases → CaseHolds c.0 c.1 c.2 c.3 c.4 c.5
